use mathlib.Core.Path.{sym, ◌∙◌}
use native.Mathlib.Omega.{arith}
use Rattle.rows.proofs.Laws.{root_there, row_found}
use Rattle.rows.proofs.Cells.{in_text}
use Rattle.rows.proofs.Views.{as_lit, as_num, as_skip}
use Rattle.chains.proofs.Runs.{low_most}
use Rattle.unroller.proofs.Walks.{unrolled_lit, unrolled_num, unrolled_skip, one_kind, half_kind, forked, left_counted, right_counted, left_less, right_less, two_full₁, two_full₂, two_room, two_over, two_node}
use Rattle.unroller.proofs.Climbs.{low_kind, low_counted, low_full, low_standing, run_answer}
use Rattle.unroller.proofs.+bottom_unroll.Goals as goal

pub bottom-returns-in_err-row : goal.bottom-returns-in_err-row
bottom-returns-in_err-row t c = absurd (root_there c.requires.counted.at (sym c.row_at.ensures ∙ c.in_err-row.was))

pub bottom-put_lit-requires-clause-n_in_bounds : goal.bottom-put_lit-requires-clause-n_in_bounds
bottom-put_lit-requires-clause-n_in_bounds t c = in_text _ c.requires.inside (row_found (sym c.row_at.ensures ∙ c.in_ok-row.was)) (sym c.shape_of.ensures ∙ c.in-Lit.is)

pub bottom-left_of-left-requires-clause-i_value : goal.bottom-left_of-left-requires-clause-i_value
bottom-left_of-left-requires-clause-i_value t c = half_kind c.row_at.ensures c.in_ok-row.was c.shape_of.ensures c.in-Two.is c.requires.counted.at

pub bottom-unroll-requires : goal.bottom-unroll-requires
bottom-unroll-requires t c = let f = forked c.row_at.ensures c.in_ok-row.was c.shape_of.ensures c.in-Two.is c.left_of-left.ensures in
    (omega (arith, c.decreases, left_less f c.requires.counted.at), (c.requires.inside, (left_counted f c.requires.counted, c.requires.room)))

pub bottom-returns-in_err-q-in-Two : goal.bottom-returns-in_err-q-in-Two
bottom-returns-in_err-q-in-Two t c = let f = forked c.row_at.ensures c.in_ok-row.was c.shape_of.ensures c.in-Two.is c.left_of-left.ensures in
    rw c.from_residual-in_err-q-in-Two.ensures (λ r a. two_full₁ f _ _ _ _ _ _ _ c.unroll.ensures c.in_err-q-in-Two.was a)

pub bottom-overflow_sub-root : goal.bottom-overflow_sub-root
bottom-overflow_sub-root t c = let f = forked c.row_at.ensures c.in_ok-row.was c.shape_of.ensures c.in-Two.is c.left_of-left.ensures in (right_less f c.requires.counted.at).1

pub bottom-unroll-requires-in-Two : goal.bottom-unroll-requires-in-Two
bottom-unroll-requires-in-Two t c = let f = forked c.row_at.ensures c.in_ok-row.was c.shape_of.ensures c.in-Two.is c.left_of-left.ensures in
    (omega (arith, c.decreases, (right_less f c.requires.counted.at).0), (c.requires.inside, (right_counted f c.requires.counted, two_room f _ _ _ _ _ _ _ c.unroll.ensures c.in_ok-q-in-Two.was c.requires.counted.at c.requires.room.areas)))

pub bottom-returns-in_err-s-in-Two : goal.bottom-returns-in_err-s-in-Two
bottom-returns-in_err-s-in-Two t c = let f = forked c.row_at.ensures c.in_ok-row.was c.shape_of.ensures c.in-Two.is c.left_of-left.ensures in
    rw c.from_residual-in_err-s-in-Two.ensures (λ r a. two_full₂ f _ _ _ _ _ _ _ c.unroll.ensures c.in_ok-q-in-Two.was _ _ _ c.unroll-in-Two.ensures c.in_err-s-in-Two.was a)

pub bottom-put_over-requires : goal.bottom-put_over-requires
bottom-put_over-requires t c = let f = forked c.row_at.ensures c.in_ok-row.was c.shape_of.ensures c.in-Two.is c.left_of-left.ensures in
    two_over f _ _ _ _ _ _ _ c.unroll.ensures c.in_ok-q-in-Two.was _ _ _ c.unroll-in-Two.ensures c.in_ok-s-in-Two.was c.requires.counted.at c.requires.room.areas

pub bottom-returns-in-Lit : goal.bottom-returns-in-Lit
bottom-returns-in-Lit t c = λ r a. unrolled_lit _ c.put_lit.result _ _ _ _ _ (as_lit (row_found (sym c.row_at.ensures ∙ c.in_ok-row.was)) a (sym c.shape_of.ensures ∙ c.in-Lit.is)) c.put_lit.ensures

pub bottom-returns-in-Num : goal.bottom-returns-in-Num
bottom-returns-in-Num t c = λ r a. unrolled_num _ c.put_row.result _ _ _ _ (as_num (row_found (sym c.row_at.ensures ∙ c.in_ok-row.was)) a (sym c.shape_of.ensures ∙ c.in-Num.is)) c.requires.room.text c.put_row.ensures

pub bottom-returns-in-Skips : goal.bottom-returns-in-Skips
bottom-returns-in-Skips t c = λ r a. unrolled_skip _ c.copy.result _ _ _ _ _ (as_skip (row_found (sym c.row_at.ensures ∙ c.in_ok-row.was)) a (sym c.shape_of.ensures ∙ c.in-Skips.is)) (c.copy.ensures r a)

pub bottom-returns-in-One : goal.bottom-returns-in-One
bottom-returns-in-One t c = absurd (c.requires.fact (one_kind _ _ c.row_at.ensures c.in_ok-row.was c.shape_of.ensures c.in-One.is))

pub bottom-returns-in_ok-s-in-Two : goal.bottom-returns-in_ok-s-in-Two
bottom-returns-in_ok-s-in-Two t c = let f = forked c.row_at.ensures c.in_ok-row.was c.shape_of.ensures c.in-Two.is c.left_of-left.ensures in
    λ r a. two_node f _ _ _ _ _ _ _ c.unroll.ensures c.in_ok-q-in-Two.was _ _ _ c.unroll-in-Two.ensures c.put_over.result _ c.in_ok-s-in-Two.was c.put_over.ensures a

pub unroll-bottom-requires : goal.unroll-bottom-requires
unroll-bottom-requires t c = let e = c.below-base.ensures in
    let n = c.requires.counted in
    (omega (arith, c.decreases, low_most n.tree n.at _ (e n.tree n.at)), (c.requires.inside, (low_counted n e, (c.requires.room, low_kind n.tree n.at _ (e n.tree n.at)))))

pub unroll-returns-in_err-q : goal.unroll-returns-in_err-q
unroll-returns-in_err-q t c = rw c.from_residual.ensures (low_full c.requires.counted c.below-base.ensures _ _ _ _ _ _ _ c.bottom.ensures c.in_err-q.was)

pub unroll-climb-requires-clause-standing : goal.unroll-climb-requires-clause-standing
unroll-climb-requires-clause-standing t c = low_standing c.requires.counted c.below-base.ensures _ _ _ _ _ _ _ c.bottom.ensures c.in_ok-q.was c.requires.room.areas

pub unroll-returns : goal.unroll-returns
unroll-returns t c = λ r a. run_answer c.requires.counted c.below-base.ensures _ _ _ _ _ _ _ c.bottom.ensures c.in_ok-q.was c.climb.result _ _ r a (c.climb.ensures r a)
