-- `bottom_up` meets its contract, by the row below the root's run; the measure is the root's size word. Assumes nothing.
use Rattle.rows.specs.Rows.{size_at}
use Rattle.concatenator.proofs.+bottom_up.Given as goal

abbrev pub decreases-bottom_up : goal.decreases-bottom_up
decreases-bottom_up l = size_at l.table.now.rows.now l.root
