-- `list` meets its contract, by the row below the root's run; the measure is the root's size word. Assumes nothing.
use Rattle.rows.specs.Rows.{size_at}
use Rattle.lister.proofs.+list.Given as goal

abbrev pub decreases-list : goal.decreases-list
decreases-list l = size_at l.table.now.rows.now l.root
