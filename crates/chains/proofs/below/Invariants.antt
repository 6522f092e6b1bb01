-- `below` meets its contract: in each turn the run goes on below `base`, whose tree is the run's so far. Assumes nothing.
use Rattle.chains.proofs.Runs.{Downs}
use Rattle.chains.proofs.below.Given as goal

abbrev pub invariant-loop-base : goal.invariant-loop-base
invariant-loop-base l = Downs l.rows l.root l.base

abbrev pub decreases-loop-base : goal.decreases-loop-base
decreases-loop-base l = l.base
