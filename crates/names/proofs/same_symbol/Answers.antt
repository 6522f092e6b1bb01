use native.Mathlib.Omega.{arith}
use borrow.Author.Tests.{le-ltb}
use Rattle.names.proofs.Marks.{both_in, one_in, none_in}
use Rattle.names.proofs.same_symbol.Goals as goal

pub returns-then-d-m : goal.returns-then-d-m
returns-then-d-m c = let a = c.args in both_in a.text1.now a.x a.n a.text2.now a.y a.m a.d (omega arith) (omega arith) c.if-d-n.true c.if-d-m.true

pub returns-else-d-m : goal.returns-else-d-m
returns-else-d-m c = let a = c.args in rw (le-ltb a.d a.m c.if-d-m.false) (one_in a.text1.now a.x a.n a.text2.now a.y a.m a.d (omega arith) (omega arith) c.if-d-n.true (omega (arith, c.if-d-m.false)))

pub returns-else-d-n : goal.returns-else-d-n
returns-else-d-n c = let a = c.args in none_in a.text1.now a.x a.n a.text2.now a.y a.m a.d (omega arith) (omega arith) (omega (arith, c.if-d-n.false))
