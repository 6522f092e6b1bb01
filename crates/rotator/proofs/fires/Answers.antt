-- `fires` meets its contract, by the kinds of the two rows. Assumes nothing.
use mathlib.Core.Path.{sym, ◌∙◌}
use borrow.Author.Tests.{eqb-false}
use Rattle.rows.proofs.Laws.{root}
use Rattle.rows.proofs.Views.{as_pair, pair_left}
use Rattle.rotator.proofs.Quiets.{pair_quiet}
use Rattle.rotator.proofs.fires.Goals as goal

pub kind_at-requires : goal.kind_at-requires
kind_at-requires c = (root (pair_left (as_pair c.requires.stands.at c.requires.i_value) c.left_of.ensures)).inside

pub kind_at-requires-2 : goal.kind_at-requires-2
kind_at-requires-2 c = (root c.requires.stands.at).inside

pub returns : goal.returns
returns c = λ e t x a. let v = as_pair a c.requires.i_value in pair_quiet t v (pair_left v c.left_of.ensures) (λ h. eqb-false _ _ e (c.kind_at.ensures ∙ h ∙ sym c.kind_at-2.ensures))
