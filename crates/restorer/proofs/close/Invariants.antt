-- The invariant: the rules from position p on are settled. Assumes nothing.
use Rattle.restorer.proofs.Marks.{Closing}
use Rattle.restorer.proofs.close.Given as goal

abbrev pub invariant-loop-p : goal.invariant-loop-p
invariant-loop-p l = Closing l.initial.marks l.marks l.stack l.from l.top l.to l.p
