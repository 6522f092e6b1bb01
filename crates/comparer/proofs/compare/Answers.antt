use mathlib.Core.Path.{sym, ◌∙◌}
use native.Mathlib.Omega.{arith}
use Rattle.std.proofs.lemmas.Result.{err_from_is_err_and}
use Rattle.comparer.proofs.Sides.{short_is, left_is, right_is, listed_is, whole_most}
use Rattle.comparer.proofs.compare.Goals as goal

pub returns-then-is_short : goal.returns-then-is_short
returns-then-is_short c = short_is _ _ _ _ _ (sym c.is_short.ensures ∙ c.if-is_short.true)

pub returns-in_err-check_side : goal.returns-in_err-check_side
returns-in_err-check_side c = let p = err_from_is_err_and c.from_residual.result c.from_residual.ensures.1 in
    rw (p.1, p.2) (left_is _ _ _ _ _ (sym c.is_short.ensures ∙ c.if-is_short.false) _ c.in_err-check_side.ensures)

pub returns-in_err-check_side-2 : goal.returns-in_err-check_side-2
returns-in_err-check_side-2 c = let p = err_from_is_err_and c.from_residual-in_err-check_side-2.result c.from_residual-in_err-check_side-2.ensures.1 in
    rw (p.1, p.2) (right_is _ _ _ _ _ (sym c.is_short.ensures ∙ c.if-is_short.false) c.in_ok-check_side.ensures.0 _ c.in_err-check_side-2.ensures)

pub overflow_cast-result : goal.overflow_cast-result
overflow_cast-result c = omega (arith, c.list_all-count.ensures.count, whole_most c.in_ok-check_side.ensures.1 c.in_ok-check_side-2.ensures.1)

pub returns : goal.returns
returns c = let left = c.in_ok-check_side.ensures in
    let right = c.in_ok-check_side-2.ensures in
    listed_is _ _ _ _ _ (sym c.is_short.ensures ∙ c.if-is_short.false) left.0 right.0 c.list_all-count.ensures (whole_most left.1 right.1)
