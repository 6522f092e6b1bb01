-- A subtree is written from the row below its run up: that row over its children, guarded where they must be, and then the run. The measure: the size of the subtree, three for each row. Assumes nothing.
use Prim.Native.Nat.{◌+◌, ◌*◌}
use Rattle.rows.specs.Rows.{size_at}
use Rattle.restorer.proofs.+bottom_put_two.Given as goal

abbrev pub decreases-bottom : goal.decreases-bottom
decreases-bottom l = size_at l.table.now.rows.now l.root * 3 + 2

abbrev pub decreases-put : goal.decreases-put
decreases-put l = size_at l.table.now.rows.now l.root * 3 + 3

abbrev pub decreases-two : goal.decreases-two
decreases-two l = size_at l.table.now.rows.now l.root * 3 + 1
