use Rattle.names.proofs.Marks.{shorter_apart, longer_apart, bytes_apart, bytes_same}
use native.Mathlib.Omega.{arith}
use Rattle.names.proofs.tell_apart.Goals as goal

pub returns-then-n-m : goal.returns-then-n-m
returns-then-n-m c = let a = c.args in (omega arith, shorter_apart a.text.now a.x a.n a.y a.m (omega arith) (omega arith) c.if-n-m.true)

pub returns-then-m-n : goal.returns-then-m-n
returns-then-m-n c = let a = c.args in (omega arith, longer_apart a.text.now a.x a.n a.y a.m (omega arith) (omega arith) c.if-m-n.true)

pub returns-then-d-n : goal.returns-then-d-n
returns-then-d-n c = let a = c.args in (omega arith, bytes_apart a.text.now a.x a.n a.y a.m _ (omega arith) (omega arith) (omega (arith, c.if-m-n.false, c.if-n-m.false)) c.first_unlike-d.ensures c.if-d-n.true)

pub returns-else-d-n : goal.returns-else-d-n
returns-else-d-n c = let a = c.args in bytes_same a.text.now a.x a.n a.y a.m _ (omega arith) (omega arith) (omega (arith, c.if-m-n.false, c.if-n-m.false)) c.first_unlike-d.ensures (omega (arith, c.if-d-n.false))
