use native.Mathlib.Omega.{arith}
use borrow.Author.Count.{below_more}
use Rattle.rows.proofs.first_unlike.Goals as goal

pub loop-i-init : goal.loop-i-init
loop-i-init c = c.same_blocks-i.ensures

pub returns-then-text1-x : goal.returns-then-text1-x
returns-then-text1-x c = let l = c.loop-i in record { most = omega (arith, l.invariant.0); same = l.invariant.1; unlike = λ _. c.if-text1-x.true }

pub loop-i-preserved : goal.loop-i-preserved
loop-i-preserved c = (omega arith, below_more _ _ c.loop-i.invariant.1 c.if-text1-x.false)

pub returns : goal.returns
returns c = let l = c.loop-i in record { most = omega arith; same = λ k h. l.invariant.1 k (omega (arith, c.loop-i-test.false)); unlike = λ h. absurd (omega arith) }
