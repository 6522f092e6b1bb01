-- `split` meets its contract, by the kind of the row. Assumes nothing.
use mathlib.Core.Path.{sym, ◌∙◌}
use Rattle.grammar.specs.Tree.{Seq}
use Rattle.rows.proofs.Laws.{root, found_row}
use Rattle.rows.proofs.Views.{bin_half, sides_at, two_none}
use Rattle.factorizer.proofs.Splits.{seq_at}
use Rattle.factorizer.proofs.split.Goals as goal

pub kind_at-requires : goal.kind_at-requires
kind_at-requires c = (root c.requires.at).inside

pub returns-then-kind_at-ne-SEQ : goal.returns-then-kind_at-ne-SEQ
returns-then-kind_at-ne-SEQ c = λ t x a. two_none t 8 (found_row _ _ (root a).inside) a (λ k. c.if-kind_at-ne-SEQ.true (c.kind_at.ensures ∙ k))

pub left_of-requires-clause-i_value : goal.left_of-requires-clause-i_value
left_of-requires-clause-i_value c = bin_half Seq (sym c.kind_at.ensures ∙ c.if-kind_at-ne-SEQ.false)

pub overflow_sub-result : goal.overflow_sub-result
overflow_sub-result c = let v = sides_at Seq c.requires.at (sym c.kind_at.ensures ∙ c.if-kind_at-ne-SEQ.false) c.left_of.ensures in v.some

pub returns : goal.returns
returns c = λ t x a. seq_at (sides_at Seq a (sym c.kind_at.ensures ∙ c.if-kind_at-ne-SEQ.false) c.left_of.ensures)
