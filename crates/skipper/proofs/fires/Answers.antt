-- `fires` meets its contract: a Rep whose child's row is of another kind is no loop. Assumes nothing.
use mathlib.Core.Path.{◌∙◌}
use native.Mathlib.Omega.{arith}
use borrow.Author.Tests.{eqb-false}
use Rattle.rows.proofs.Laws.{root}
use Rattle.skipper.proofs.Quiets.{row_quiet, rep_below}
use Rattle.skipper.proofs.fires.Goals as goal

pub overflow_sub-i : goal.overflow_sub-i
overflow_sub-i c = omega (arith, rep_below c.requires.stands.at c.requires.i_value)

pub kind_at-requires : goal.kind_at-requires
kind_at-requires c = omega (arith, (root c.requires.stands.at).inside)

pub returns : goal.returns
returns c = λ e t s x a. row_quiet t s x a (λ _ h. eqb-false _ _ e (c.kind_at.ensures ∙ h))
