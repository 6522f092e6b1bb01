use Rattle.skipper.proofs.Ways.{Passing}
use Rattle.skipper.proofs.pass_all.Given as goal

abbrev pub invariant-loop-i : goal.invariant-loop-i
invariant-loop-i l = Passing l.count l.initial.marks l.marks l.i
