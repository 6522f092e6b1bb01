-- A subtree is written from the row below its run up: that row over its children, and then the run. The measure: the size of the subtree, two for each row. Assumes nothing.
use Prim.Native.Nat.{◌+◌, ◌*◌}
use Rattle.rows.specs.Rows.{size_at}
use Rattle.unroller.proofs.+bottom_unroll.Given as goal

abbrev pub decreases-bottom : goal.decreases-bottom
decreases-bottom l = size_at l.table.now.rows.now l.root * 2

abbrev pub decreases-unroll : goal.decreases-unroll
decreases-unroll l = size_at l.table.now.rows.now l.root * 2 + 1
