use native.Mathlib.Omega.{arith}
use Rattle.rows.proofs.Laws.{root}
use Rattle.rows.proofs.Views.{one_none}
use Rattle.skipper.proofs.Leaf.{read_found_lem}
use Rattle.skipper.proofs.Looping.{not_view, not_over}
use Rattle.skipper.proofs.after_not.Goals as goal

pub kind_at-requires : goal.kind_at-requires
kind_at-requires c = (root c.requires.at).inside

pub returns-then-kind_at-ne-NEG_PRED : goal.returns-then-kind_at-ne-NEG_PRED
returns-then-kind_at-ne-NEG_PRED c = λ s r a. one_none s 7 (read_found_lem a c.kind_at.ensures) a c.if-kind_at-ne-NEG_PRED.true

pub overflow_sub-result : goal.overflow_sub-result
overflow_sub-result c = let a = c.requires.at in let v = not_view (read_found_lem a c.kind_at.ensures) a c.if-kind_at-ne-NEG_PRED.false in omega (arith, v.most, v.least)

pub returns : goal.returns
returns c = λ s r a. not_over (read_found_lem a c.kind_at.ensures) a c.if-kind_at-ne-NEG_PRED.false s
