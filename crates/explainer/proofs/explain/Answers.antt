-- `explain` meets its contract: a short area, a refusal, or the answer of a table that passed. Assumes nothing.
use Rattle.std.proofs.lemmas.Result.{err_from_is_err_and}
use Rattle.explainer.proofs.Wholes.{passed_fresh, passed_told, full_areas, short_is, refused_is, answered_is}
use Rattle.explainer.proofs.explain.Goals as goal

pub returns-then-is_short : goal.returns-then-is_short
returns-then-is_short c = short_is _ _ c.is_short.ensures _ _ c.if-is_short.true

pub returns-in_err-check : goal.returns-in_err-check
returns-in_err-check c =
    let p = err_from_is_err_and c.from_residual.result c.from_residual.ensures.1 in
    rw (p.1, p.2) (refused_is _ _ c.is_short.ensures _ _ c.if-is_short.false c.check.ensures c.in_err-check.was)

pub explain_row-requires : goal.explain_row-requires
explain_row-requires c = passed_fresh (c.check.ensures.fine c.in_ok-check.was) c.forget.ensures (full_areas _ _ c.is_short.ensures c.if-is_short.false).0

pub returns : goal.returns
returns c = answered_is _ _ c.is_short.ensures _ _ c.if-is_short.false c.check.ensures _ c.in_ok-check.was (passed_told (c.check.ensures.fine c.in_ok-check.was) _ _ _ c.explain_row.ensures)
