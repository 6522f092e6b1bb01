use mathlib.Core.Path.{ap}
use mathlib.Core.List.{[], ◌∷◌}
use Prim.Native.Nat.{◌+◌}
use native.Mathlib.Omega.{arith}
use lib.ListN.{length, length-append}
use Rattle.comparison.specs.Compare.{only_right}
use Rattle.comparer.specs.Lists.{unmet_from}
use Rattle.comparer.proofs.Adding.{added_none, added_one, added_then, added_length, unmet_next, unmet_skip, unmet_most}
use Rattle.comparer.proofs.list_right.Goals as goal
use Rattle.comparer.proofs.list_right.Goals.{then-right_marks-j-eq0, else-right_marks-j-eq0}

pub loop-j-init : goal.loop-j-init
loop-j-init c = added_none _ _

pub put-m-requires : goal.put-m-requires
put-m-requires c = let l = c.loop-j in
    let m = c.args.right_marks.now in
    omega (arith, l.invariant.count, added_length l.invariant, c.requires.count_in_bounds, unmet_most m (l.j + 1) c.args.count (omega (arith, c.loop-j-test.true)), ap length (unmet_next m l.j c.if-right_marks-j-eq0.true), length-append (unmet_from m 0 l.j) (only_right l.j ∷ []))

pub loop-j-preserved : goal.loop-j-preserved
loop-j-preserved c = let l = c.loop-j in
    let m = c.args.right_marks.now in
    elim c.if-right_marks-j-eq0.branch [
      | then-right_marks-j-eq0 w ↦ rw (w.m-is, w.list-is, unmet_next m l.j w.if-right_marks-j-eq0.true) (added_then l.invariant (added_one (only_right l.j) w.put-m.ensures.0 w.put-m.ensures.1))
      | else-right_marks-j-eq0 w ↦ rw (w.m-is, w.list-is, unmet_skip m l.j w.if-right_marks-j-eq0.false) l.invariant
    ]
