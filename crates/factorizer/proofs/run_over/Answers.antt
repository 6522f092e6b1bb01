-- `run_over` meets its contract: a Choice of two has no run. Assumes nothing.
use Rattle.factorizer.proofs.Plans.{pair_run}
use Rattle.factorizer.proofs.run_over.Goals as goal

pub returns-in-Some : goal.returns-in-Some
returns-in-Some c = λ e a. rw (pair_run (a.pair _ c.in-Some.is)) (λ f o t t₁ k. k)
