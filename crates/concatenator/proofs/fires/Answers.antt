-- `fires` meets its contract, by the kinds of its sides' rows. Assumes nothing.
use mathlib.Core.Path.{sym, ◌∙◌}
use Rattle.grammar.specs.Tree.{Seq}
use Rattle.rows.proofs.Laws.{root}
use Rattle.rows.proofs.Views.{sides_at}
use Rattle.concatenator.proofs.Quiets.{seq_quiet}
use Rattle.concatenator.proofs.fires.Goals as goal

pub kind_at-requires : goal.kind_at-requires
kind_at-requires c = let v = sides_at Seq c.requires.stands.at c.requires.i_value c.left_of-left.ensures in (root v.at_left).inside

pub overflow_sub-i : goal.overflow_sub-i
overflow_sub-i c = let v = sides_at Seq c.requires.stands.at c.requires.i_value c.left_of-left.ensures in v.some

pub kind_at-requires-2 : goal.kind_at-requires-2
kind_at-requires-2 c = let v = sides_at Seq c.requires.stands.at c.requires.i_value c.left_of-left.ensures in (root v.at_right).inside

pub returns : goal.returns
returns c = λ e t x a.
    let v = sides_at Seq a c.requires.i_value c.left_of-left.ensures in
    seq_quiet t v.is v.at_left v.at_right (rw (c.kind_at.ensures, c.kind_at-2.ensures) at (sym c.joins.ensures ∙ e))
