use Rattle.skipper.proofs.Settles.{RowsRead}
use Rattle.skipper.proofs.read_loops.Given as goal

abbrev pub invariant-loop-i : goal.invariant-loop-i
invariant-loop-i l = RowsRead l.table.rules.now l.table.rows.now l.table.text.now l.initial.marks l.marks l.from l.end l.i
