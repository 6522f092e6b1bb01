use native.Mathlib.Omega.{arith}
use Rattle.refusals.proofs.Fours.{any_found, any_passed, any_done}
use Rattle.refusals.proofs.any_four.Goals as goal

pub returns-then-test : goal.returns-then-test
returns-then-test g c = let l = c.loop-i in λ p f. any_found p _ l.i (l.invariant p f) c.test.result (omega arith) (f _ _ _ _ c.test.ensures) c.if-test.true

pub loop-i-preserved : goal.loop-i-preserved
loop-i-preserved g c = let l = c.loop-i in λ p f. any_passed p _ l.i (l.invariant p f) c.test.result (omega arith) (f _ _ _ _ c.test.ensures) c.if-test.false

pub returns : goal.returns
returns g c = let l = c.loop-i in λ p f. any_done p _ l.i (l.invariant p f) (omega arith)
