use Rattle.comparer.specs.Lists.{Added, unmet_from}
use Rattle.comparer.proofs.list_right.Given as goal

abbrev pub invariant-loop-j : goal.invariant-loop-j
invariant-loop-j l = Added l.m l.n (unmet_from l.right_marks 0 l.j) l.initial.list l.list
