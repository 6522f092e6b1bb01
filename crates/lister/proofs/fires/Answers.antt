-- `fires` meets its contract: the left side is no Rep, or the two sides are no loop. Assumes nothing.
use mathlib.Core.Path.{◌∙◌}
use Rattle.grammar.specs.Tree.{Seq}
use Rattle.rows.proofs.Laws.{root}
use Rattle.rows.proofs.Cells.{tells_no}
use Rattle.rows.proofs.Insides.{stands_in}
use Rattle.rows.proofs.Views.{sides_at}
use Rattle.lister.proofs.Looks.{no_rep}
use Rattle.lister.proofs.Quiets.{seq_idle}
use Rattle.lister.proofs.fires.Goals as goal

pub kind_at-requires : goal.kind_at-requires
kind_at-requires c = let v = sides_at Seq c.requires.stands.at c.requires.i_value c.left_of-left.ensures in (root v.at_left).inside

pub loops-requires-clause-stands_in : goal.loops-requires-clause-stands_in
loops-requires-clause-stands_in c = let v = sides_at Seq c.requires.stands.at c.requires.i_value c.left_of-left.ensures in stands_in _ c.requires.inside (record { tree = v.left; at = v.at_left })

pub loops-requires-clause-stands_in_2 : goal.loops-requires-clause-stands_in_2
loops-requires-clause-stands_in_2 c = let v = sides_at Seq c.requires.stands.at c.requires.i_value c.left_of-left.ensures in stands_in _ c.requires.inside (record { tree = v.right; at = v.at_right })

pub returns-then-kind_at-eq-REP : goal.returns-then-kind_at-eq-REP
returns-then-kind_at-eq-REP c = λ e x a. let v = sides_at Seq a c.requires.i_value c.left_of-left.ensures in seq_idle _ v.is (tells_no e (c.loops.ensures v.left v.right v.at_left v.at_right))

pub returns-else-kind_at-eq-REP : goal.returns-else-kind_at-eq-REP
returns-else-kind_at-eq-REP c = λ e x a. let v = sides_at Seq a c.requires.i_value c.left_of-left.ensures in seq_idle _ v.is (no_rep v.at_left _ (λ k. c.if-kind_at-eq-REP.false (c.kind_at.ensures ∙ k)))
