-- `walk` meets its contract, by the row below the root's run; the measure is the root's size word. Assumes nothing.
use Rattle.rows.specs.Rows.{size_at}
use Rattle.rotator.proofs.+walk.Given as goal

abbrev pub decreases-walk : goal.decreases-walk
decreases-walk l = size_at l.table.now.rows.now l.root
