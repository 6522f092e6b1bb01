-- The invariant: the rules passed are settled, and none is left on the stack. Assumes nothing.
use Rattle.restorer.proofs.Ends.{Settling}
use Rattle.restorer.proofs.settle.Given as goal

abbrev pub invariant-loop-i : goal.invariant-loop-i
invariant-loop-i l = Settling l.table.rules.now l.table.rows.now l.table.text.now l.initial.marks l.marks l.initial.stack l.stack l.i
