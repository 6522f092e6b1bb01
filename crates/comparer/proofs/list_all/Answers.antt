use native.Mathlib.Omega.{arith}
use Rattle.comparer.proofs.Adding.{added_length}
use Rattle.comparer.proofs.Sides.{passed_stands, passed_side, rights_fit, whole_added}
use Rattle.comparer.proofs.list_all.Goals as goal

pub list_left-n-requires-clause-side : goal.list_left-n-requires-clause-side
list_left-n-requires-clause-side c = passed_side c.requires.passed c.pair.ensures.kept.0 c.requires.full_marks_in_bounds.0

pub list_left-n-requires-clause-side_2 : goal.list_left-n-requires-clause-side_2
list_left-n-requires-clause-side_2 c = passed_side c.requires.passed_2 c.pair.ensures.kept.1 c.requires.full_marks_in_bounds.1

pub list_right-requires-clause-count_in_bounds : goal.list_right-requires-clause-count_in_bounds
list_right-requires-clause-count_in_bounds c = let p = c.requires.passed in
    let q = c.requires.passed_2 in
    let a = c.list_left-n.ensures p.table q.table (passed_stands p) (passed_stands q) in
    omega (arith, rights_fit p q c.pair.ensures.paired a, added_length a, c.requires.full_marks_in_bounds.2)

pub returns : goal.returns
returns c = let p = c.requires.passed in
    let q = c.requires.passed_2 in
    whole_added p q c.pair.ensures.paired (c.list_left-n.ensures p.table q.table (passed_stands p) (passed_stands q)) c.list_right.ensures
