-- `climb` meets its contract: in each turn the rows after `base` up to row i stand. Assumes nothing.
use Rattle.restorer.proofs.Climbs.{Up}
use Rattle.restorer.proofs.climb.Given as goal

abbrev pub invariant-loop-i : goal.invariant-loop-i
invariant-loop-i l = Up l.rows l.initial.out l.base l.root l.p l.initial.s l.initial.shown l.out l.s l.shown l.i
