-- `climb` meets its contract: in each turn the rows after `base` up to row i stand, unrolled. Assumes nothing.
use Rattle.unroller.proofs.Climbs.{Up}
use Rattle.unroller.proofs.climb.Given as goal

abbrev pub invariant-loop-i : goal.invariant-loop-i
invariant-loop-i l = Up l.rows l.initial.out l.initial.lits l.base l.root l.p l.initial.s l.out l.lits l.s l.i
