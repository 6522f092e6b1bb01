-- `rise` meets its contract: in each turn the rows after `base` up to row i stand over the tree. Assumes nothing.
use Rattle.skipper.proofs.Falls.{Up}
use Rattle.skipper.proofs.rise.Given as goal

abbrev pub invariant-loop-i : goal.invariant-loop-i
invariant-loop-i l = Up l.rows l.initial.out l.base l.root l.p l.initial.s l.out l.s l.i
