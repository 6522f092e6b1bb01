-- `fall` meets its contract: in each turn the tree at `base` is what is left below the run. Assumes nothing.
use Rattle.skipper.proofs.Falls.{Falls}
use Rattle.skipper.proofs.fall.Given as goal

abbrev pub invariant-loop-base : goal.invariant-loop-base
invariant-loop-base l = Falls l.given.rules.now l.given.text.now l.marks l.table.rows.now l.table.text.now l.root l.base

abbrev pub decreases-loop-base : goal.decreases-loop-base
decreases-loop-base l = l.base
