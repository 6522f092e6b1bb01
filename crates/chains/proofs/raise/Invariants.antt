-- `raise` meets its contract: in each turn the rows after `base` up to row i stand over the tree. Assumes nothing.
use Rattle.chains.proofs.Runs.{Up}
use Rattle.chains.proofs.raise.Given as goal

abbrev pub invariant-loop-i : goal.invariant-loop-i
invariant-loop-i l = Up l.rows l.initial.out l.base l.root l.first l.q l.out l.at l.i
