use borrow.Author.Count.{below_none, below_more}
use borrow.Author.Tests.{eqb-true}
use native.Mathlib.Omega.{arith}
use Rattle.rows.proofs.same_block.Goals as goal

pub loop-i-init : goal.loop-i-init
loop-i-init c = (omega arith, λ _. below_none _)

pub loop-i-preserved : goal.loop-i-preserved
loop-i-preserved c = (omega arith, λ z. below_more _ _ (c.loop-i.invariant.1 (omega (arith, c.max-m.ensures))) (c.unlike.ensures (omega (arith, c.max-m.ensures))))

pub returns : goal.returns
returns c = λ h k l. c.loop-i.invariant.1 (eqb-true _ _ h) k (omega (arith, c.loop-i-test.false))
