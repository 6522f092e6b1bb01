use mathlib.Core.Path.{refl, sym, subst, ◌∙◌}
use mathlib.Core.Logic.{inr}
use Rattle.rows.proofs.Cells.{tells_yes}
use Rattle.names.specs.Names.{AllIndexed, Ended}
use Rattle.names.proofs.Marks.{ended}
use Rattle.names.proofs.Index.{index_ends}
use Rattle.refusals.proofs.Apart.{indexed_fine}
use Rattle.refusals.proofs.check_names.Goals as goal

pub returns-then-zero_counts : goal.returns-then-zero_counts
returns-then-zero_counts c = inr (refl, indexed_fine (c.index_names.ensures.yes c.if-not-index_names.false) (tells_yes c.if-not-none_reserved.false c.none_reserved.ensures), sym c.zero_counts.ensures ∙ c.if-zero_counts.true)

pub returns : goal.returns
returns c = let h = c.index_names.ensures.yes c.if-not-index_names.false in (indexed_fine h (tells_yes c.if-not-none_reserved.false c.none_reserved.ensures), sym c.zero_counts.ensures ∙ c.if-zero_counts.false, subst (AllIndexed _ _) (sym c.mark_ends.ensures) (index_ends _ _ _ h), subst (Ended _) (sym c.mark_ends.ensures) (ended _ _ h.long))
