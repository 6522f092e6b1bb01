-- `at` meets its contract; the measure is the tree's rows. Assumes nothing.
use Rattle.factorizer.proofs.Plans.{tree_size}
use Rattle.factorizer.proofs.+at.Given as goal

abbrev pub decreases-at : goal.decreases-at
decreases-at l = tree_size l.table.now.rows.now l.l l.r
