use Rattle.names.specs.Names.{AllIndexed}
use Rattle.comparer.specs.Pairs.{Paired, Kept}
use Rattle.comparer.proofs.pair.Given as goal

abbrev pub invariant-loop-i : goal.invariant-loop-i
invariant-loop-i l = Paired l.i l.left.rules.now l.left.text.now l.right.rules.now l.right.text.now l.left_marks l.right_marks × Kept l.initial.left_marks l.left_marks × Kept l.initial.right_marks l.right_marks × AllIndexed l.right.rules.now l.right.text.now l.right_marks
