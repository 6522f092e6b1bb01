-- `fires` meets its contract: neither side is a Seq, or the case is none of the three. Assumes nothing.
use mathlib.Core.Path.{sym, ap, ◌∙◌}
use mathlib.Core.Bool.{not, false≢true}
use Rattle.grammar.specs.Tree.{Choice}
use Rattle.rows.proofs.Laws.{root, found_row}
use Rattle.rows.proofs.Views.{sides_at, two_none}
use Rattle.factorizer.proofs.Splits.{plain_other}
use Rattle.factorizer.proofs.Walks.{told_plain}
use Rattle.factorizer.proofs.Quiets.{choice_idle}
use Rattle.factorizer.proofs.fires.Goals as goal
use Rattle.factorizer.proofs.fires.Goals.{in-Plain, in_default}

pub overflow_sub-right : goal.overflow_sub-right
overflow_sub-right c = let v = sides_at Choice c.requires.stands.at c.requires.i_value c.left_of-left.ensures in v.some

pub kind_at-requires : goal.kind_at-requires
kind_at-requires c = let v = sides_at Choice c.requires.stands.at c.requires.i_value c.left_of-left.ensures in (root v.at_left).inside

pub kind_at-requires-then-kind_at-ne-SEQ : goal.kind_at-requires-then-kind_at-ne-SEQ
kind_at-requires-then-kind_at-ne-SEQ c = let v = sides_at Choice c.requires.stands.at c.requires.i_value c.left_of-left.ensures in (root v.at_right).inside

pub returns-then-kind_at-ne-SEQ-2 : goal.returns-then-kind_at-ne-SEQ-2
returns-then-kind_at-ne-SEQ-2 c = λ e x a.
    let v = sides_at Choice a c.requires.i_value c.left_of-left.ensures in
    choice_idle _ _ v.is
    (plain_other c.args.tight c.args.table.now.rows.now c.args.table.now.text.now v.left v.right (two_none _ 8 (found_row _ _ (root v.at_left).inside) v.at_left (λ k. c.if-kind_at-ne-SEQ.true (c.kind_at.ensures ∙ k)))
    (two_none _ 8 (found_row _ _ (root v.at_right).inside) v.at_right (λ k. c.if-kind_at-ne-SEQ-2.true (c.kind_at-then-kind_at-ne-SEQ.ensures ∙ k))))

pub case_of-requires-clause-stands : goal.case_of-requires-clause-stands
case_of-requires-clause-stands c = let v = sides_at Choice c.requires.stands.at c.requires.i_value c.left_of-left.ensures in record { tree = v.left; at = v.at_left }

pub case_of-requires-clause-stands_2 : goal.case_of-requires-clause-stands_2
case_of-requires-clause-stands_2 c = let v = sides_at Choice c.requires.stands.at c.requires.i_value c.left_of-left.ensures in record { tree = v.right; at = v.at_right }

pub returns : goal.returns
returns c = λ e x a.
    let v = sides_at Choice a c.requires.i_value c.left_of-left.ensures in
    elim c.match-matches.branch [
      | in-Plain w ↦ choice_idle _ _ v.is (told_plain _ _ _ v.left v.right (c.case_of.ensures v.left v.right v.at_left v.at_right) w.in-Plain.is)
      | in_default w ↦ absurd (false≢true (sym e ∙ ap not w.matches-is))
    ]
