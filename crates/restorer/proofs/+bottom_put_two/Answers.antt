use mathlib.Core.Bool.{◌||◌}
use mathlib.Core.Path.{◌≡◌, sym, ap, ◌∙◌}
use native.Mathlib.Omega.{arith}
use Rattle.rows.specs.Rows.{shape_of}
use Rattle.rows.proofs.Laws.{row_found, root, root_there}
use Rattle.rows.proofs.Cells.{in_text}
use Rattle.writing.proofs.Trees.{written_room}
use Rattle.chains.specs.Runs.{low}
use Rattle.chains.proofs.Runs.{low_at, low_most}
use Rattle.restorer.proofs.Restores.{over_of_lem, two_row, two_view, two_half, two_left, two_over, left_full, right_full, two_done, lit_restored, plain_row}
use Rattle.restorer.proofs.Climbs.{low_full, low_kind, climb_restored}
use Rattle.restorer.proofs.+bottom_put_two.Goals as goal
use Rattle.restorer.proofs.+bottom_put_two.Goals.{two-then-b, two-else-b}

pub bottom-returns-in_err-row : goal.bottom-returns-in_err-row
bottom-returns-in_err-row t c = absurd (root_there c.requires.stands.at (sym c.row_at.ensures ∙ c.in_err-row.was))

pub bottom-two-requires : goal.bottom-two-requires
bottom-two-requires t c = let h = sym c.shape_of.ensures ∙ c.in-Two.is in
    (omega (arith, c.decreases), (c.requires.known, (c.requires.stands, (c.requires.room, (two_row (row_found (sym c.row_at.ensures ∙ c.in_ok-row.was)) c.requires.stands.at h, h)))))

pub bottom-literal-requires-clause-y_in_bounds : goal.bottom-literal-requires-clause-y_in_bounds
bottom-literal-requires-clause-y_in_bounds t c = in_text _ c.requires.known.inside (row_found (sym c.row_at.ensures ∙ c.in_ok-row.was)) (sym c.shape_of.ensures ∙ c.in-Lit.is)

pub bottom-returns-in-Lit : goal.bottom-returns-in-Lit
bottom-returns-in-Lit t c = λ u r su a. lit_restored (row_found (sym c.row_at.ensures ∙ c.in_ok-row.was)) a c.args.table.now.text.now u c.literal.result c.args.p c.args.out.now c.literal.new.out c.args.lits.now c.literal.new.lits (sym c.shape_of.ensures ∙ c.in-Lit.is) (λ j h. c.literal.ensures u j su h)

pub bottom-returns-in_default : goal.bottom-returns-in_default
bottom-returns-in_default t c = let f = (row_found (sym c.row_at.ensures ∙ c.in_ok-row.was)) in
    let e = c.shape_of.ensures in
    λ u r su a. plain_row f a c.args.table.now.text.now u c.plain.result c.args.p c.args.out.now c.plain.new.out c.args.lits.now c.plain.new.lits (λ z. c.in_default.not-Two (e ∙ z)) (λ z. c.in_default.not-Lit (e ∙ z)) (λ z. c.requires.fact (ap shape_of f.kind ∙ z)) (c.plain.ensures u r a)

pub put-bottom-requires : goal.put-bottom-requires
put-bottom-requires t c = let s = c.requires.stands in
    let e = c.below-base.ensures s.tree s.at in
    (omega (arith, c.decreases, low_most s.tree s.at _ e), (c.requires.known, (record { tree = low s.tree; at = low_at s.tree s.at _ e }, (c.requires.room, low_kind s.tree s.at _ e))))

pub put-returns-in_err-q : goal.put-returns-in_err-q
put-returns-in_err-q t c = rw c.from_residual.ensures (λ u r su a. low_full u c.args.guard c.args.table.now.text.now r (c.in_err-q.ensures u (low r) su (low_at r a _ (c.below-base.ensures r a))))

pub put-climb-requires-clause-over : goal.put-climb-requires-clause-over
put-climb-requires-clause-over t c = let s = c.requires.stands in
    over_of_lem (c.in_ok-q.ensures c.requires.known.table (low s.tree) c.requires.known.sure (low_at s.tree s.at _ (c.below-base.ensures s.tree s.at))) c.requires.room.areas

pub put-returns : goal.put-returns
put-returns t c = λ u r su a.
    climb_restored c.climb.result c.args.guard c.args.table.now.text.now r c.climb.new.out (c.in_ok-q.ensures u (low r) su (low_at r a _ (c.below-base.ensures r a))) (c.climb.ensures r a)

pub two-left_of-left-requires-clause-i_value : goal.two-left_of-left-requires-clause-i_value
two-left_of-left-requires-clause-i_value t c = two_half c.requires.row_is.0 c.requires.row_is.1 c.requires.stands.at

pub two-overflow_sub-right : goal.two-overflow_sub-right
two-overflow_sub-right t c = let v = two_view c.requires.row_is.0 c.requires.row_is.1 c.requires.stands.at in omega (arith, v.most, v.least_left)

pub two-put-requires : goal.two-put-requires
two-put-requires t c = let v = two_view c.requires.row_is.0 c.requires.row_is.1 c.requires.stands.at in
    let x = two_left c.requires.row_is.0 c.requires.row_is.1 c.requires.stands.at c.left_of-left.ensures in
    (omega (arith, c.decreases, (root x).rows, v.rows, v.least_right, (root c.requires.stands.at).rows), (c.requires.known, (record { tree = v.left; at = x }, c.requires.room)))

pub two-returns-in_err-q : goal.two-returns-in_err-q
two-returns-in_err-q t c = rw c.from_residual.ensures (λ u r su a.
    left_full c.requires.row_is.0 c.requires.row_is.1 a _ u _ c.guards-guard.ensures (c.in_err-q.ensures u (two_view c.requires.row_is.0 c.requires.row_is.1 a).left su (two_left c.requires.row_is.0 c.requires.row_is.1 a c.left_of-left.ensures)))

pub two-put-requires-2 : goal.two-put-requires-2
two-put-requires-2 t c = let v = two_view c.requires.row_is.0 c.requires.row_is.1 c.requires.stands.at in
    let w = c.in_ok-q.ensures c.requires.known.table v.left c.requires.known.sure (two_left c.requires.row_is.0 c.requires.row_is.1 c.requires.stands.at c.left_of-left.ensures) in
    (omega (arith, c.decreases, (root v.at_right).rows, v.rows, v.least_left, (root c.requires.stands.at).rows), (c.requires.known, (record { tree = v.right; at = v.at_right }, written_room w.written c.requires.room.areas)))

pub two-returns-in_err-s : goal.two-returns-in_err-s
two-returns-in_err-s t c = rw c.from_residual-in_err-s.ensures (λ u r su a.
    let v = two_view c.requires.row_is.0 c.requires.row_is.1 a in
    right_full c.requires.row_is.0 c.requires.row_is.1 a _ u _ c.guards-guard.ensures (c.in_ok-q.ensures u v.left su (two_left c.requires.row_is.0 c.requires.row_is.1 a c.left_of-left.ensures)) (c.in_err-s.ensures u v.right su v.at_right))

pub two-node-requires : goal.two-node-requires
two-node-requires t c = let k = c.requires.known in
    let v = two_view c.requires.row_is.0 c.requires.row_is.1 c.requires.stands.at in
    two_over (c.in_ok-q.ensures k.table v.left k.sure (two_left c.requires.row_is.0 c.requires.row_is.1 c.requires.stands.at c.left_of-left.ensures)) (c.in_ok-s.ensures k.table v.right k.sure v.at_right) c.requires.room.areas

pub two-returns : goal.two-returns
two-returns t c = λ u r su a.
    let v = two_view c.requires.row_is.0 c.requires.row_is.1 a in
    let e : c.if-b.node ≡ (c.in_ok-q.b || c.in_ok-s.c) = elim c.if-b.branch [ two-then-b w ↦ rw (w.node-is, w.if-b.true) | two-else-b w ↦ rw (w.node-is, w.if-b.false) ] in
    two_done c.requires.row_is.0 c.requires.row_is.1 a _ u _ c.guards-guard.ensures (c.in_ok-q.ensures u v.left su (two_left c.requires.row_is.0 c.requires.row_is.1 a c.left_of-left.ensures)) c.node.result c.node.new.out (c.in_ok-s.ensures u v.right su v.at_right) e c.node.ensures
