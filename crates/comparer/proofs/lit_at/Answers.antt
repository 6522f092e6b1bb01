use mathlib.Core.Path.{sym, ◌∙◌}
use Rattle.rows.proofs.Laws.{row_found}
use Rattle.comparer.proofs.Showing.{lit_none, lit_other, lit_outside, lit_there}
use Rattle.comparer.proofs.lit_at.Goals as goal
use Rattle.comparer.proofs.lit_at.Goals.{else-is_lit-via-then-is_lit+else-row-table, else-is_lit-via-else-is_lit}

pub returns-in_err-row : goal.returns-in_err-row
returns-in_err-row c = rw c.from_residual.ensures (sym (lit_none _ _ _ (sym c.row_at.ensures ∙ c.in_err-row.was)))

pub returns-then-row-table : goal.returns-then-row-table
returns-then-row-table c = sym (lit_there _ (row_found (sym c.row_at.ensures ∙ c.in_ok-row.was)) (sym c.is_lit.ensures ∙ c.if-is_lit.true) c.if-row-table.true)

pub returns-else-is_lit : goal.returns-else-is_lit
returns-else-is_lit c = let f = row_found (sym c.row_at.ensures ∙ c.in_ok-row.was) in
    elim c.else-is_lit.branch [
      | else-is_lit-via-then-is_lit+else-row-table w ↦ sym (lit_outside _ f w.if-row-table.false)
      | else-is_lit-via-else-is_lit w ↦ sym (lit_other _ f (sym c.is_lit.ensures ∙ w.if-is_lit.false))
    ]
