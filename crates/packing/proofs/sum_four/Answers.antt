use native.Mathlib.Omega.{arith}
use Rattle.packing.proofs.Sums.{sum_more, sum_done}
use Rattle.packing.proofs.sum_four.Goals as goal

pub loop-i-preserved : goal.loop-i-preserved
loop-i-preserved g c = let l = c.loop-i in (omega (arith, c.requires.small _ _ _ _ c.size-sum.ensures), λ f e. sum_more f _ l.i l.sum (l.invariant.1 f e) c.size-sum.result (omega arith) (e _ _ _ _ c.size-sum.ensures))

pub returns-clause-sum : goal.returns-clause-sum
returns-clause-sum g c = let l = c.loop-i in λ f e. sum_done f _ l.i l.sum (l.invariant.1 f e) (omega arith)
