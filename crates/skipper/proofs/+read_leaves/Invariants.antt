-- `read_leaves` meets its contract. Assumes nothing.
use Rattle.rows.specs.Rows.{size_at}
use Rattle.skipper.proofs.+read_leaves.Given as goal

abbrev pub decreases-read_leaves : goal.decreases-read_leaves
decreases-read_leaves l = size_at l.table.now.rows.now l.root
