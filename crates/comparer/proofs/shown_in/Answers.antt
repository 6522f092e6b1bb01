use mathlib.Core.Path.{◌∙◌}
use Rattle.comparer.proofs.Showing.{row_of}
use Rattle.comparer.proofs.shown_in.Goals as goal

pub returns : goal.returns
returns c = c.lit_at.ensures ∙ row_of _ _ _ c.if-rule-table.false c.if-row-table.false c.first_row.ensures
