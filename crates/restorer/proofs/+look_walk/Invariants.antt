-- The search for a change of the stack. The measure: two for each rule that was not seen. The invariant of the walk over rows: what is known of the tree while some of its subtrees are left. Assumes nothing.
use Prim.Native.Nat.{◌+◌, ◌*◌, ◌/◌}
use lib.ListN.{length}
use Rattle.grammar.specs.Numbers.{row_width}
use Rattle.restorer.specs.Stacks.{unseen}
use Rattle.restorer.proofs.Runs.{Walking}
use Rattle.restorer.proofs.+look_walk.Given as goal

abbrev pub decreases-look : goal.decreases-look
decreases-look l = unseen (length l.table.now.rules.now / row_width) l.marks.now * 2

abbrev pub decreases-walk : goal.decreases-walk
decreases-walk l = unseen (length l.table.now.rules.now / row_width) l.marks.now * 2 + 1

abbrev pub invariant-walk-loop-i : goal.invariant-walk-loop-i
invariant-walk-loop-i l = Walking l.table.rules.now l.table.rows.now l.table.text.now l.initial.marks l.marks l.initial.stack l.stack l.from l.end l.top l.i l.low l.high

abbrev pub decreases-walk-loop-i : goal.decreases-walk-loop-i
decreases-walk-loop-i l = l.i
