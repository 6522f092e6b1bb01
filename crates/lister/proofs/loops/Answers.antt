-- `loops` meets its contract: the two rows that were read, and the loop's head. Assumes nothing.
use mathlib.Core.Path.{sym, ◌∙◌}
use native.Mathlib.Omega.{arith}
use Rattle.grammar.specs.Tree.{Seq}
use Rattle.rows.proofs.Laws.{root}
use Rattle.rows.proofs.Views.{bin_half, sides_at}
use Rattle.lister.proofs.Looks.{as_rep_lem, no_rep, no_seq, loops_tell}
use Rattle.lister.proofs.loops.Goals as goal

pub kind_at-requires : goal.kind_at-requires
kind_at-requires c = (root c.requires.stands_in.at).inside

pub returns-then-kind_at-ne-REP : goal.returns-then-kind_at-ne-REP
returns-then-kind_at-ne-REP c = λ l r a b. no_rep a _ (λ k. c.if-kind_at-ne-REP.true (c.kind_at.ensures ∙ k))

pub overflow_sub-body : goal.overflow_sub-body
overflow_sub-body c = let v = as_rep_lem c.requires.stands_in.at (sym c.kind_at.ensures ∙ c.if-kind_at-ne-REP.false) in omega (arith, v.least, v.most)

pub kind_at-requires-2 : goal.kind_at-requires-2
kind_at-requires-2 c = let v = as_rep_lem c.requires.stands_in.at (sym c.kind_at.ensures ∙ c.if-kind_at-ne-REP.false) in (root v.at).inside

pub returns-then-kind_at-ne-SEQ : goal.returns-then-kind_at-ne-SEQ
returns-then-kind_at-ne-SEQ c = λ l r a b. no_seq _ (as_rep_lem a (sym c.kind_at.ensures ∙ c.if-kind_at-ne-REP.false)) (λ k. c.if-kind_at-ne-SEQ.true (c.kind_at-2.ensures ∙ k))

pub left_of-requires-clause-stands : goal.left_of-requires-clause-stands
left_of-requires-clause-stands c = let v = as_rep_lem c.requires.stands_in.at (sym c.kind_at.ensures ∙ c.if-kind_at-ne-REP.false) in record { tree = _; at = v.at }

pub left_of-requires-clause-i_value : goal.left_of-requires-clause-i_value
left_of-requires-clause-i_value c = bin_half Seq (sym c.kind_at-2.ensures ∙ c.if-kind_at-ne-SEQ.false)

pub same_tree-requires-clause-stands_in : goal.same_tree-requires-clause-stands_in
same_tree-requires-clause-stands_in c =
    let v = as_rep_lem c.requires.stands_in.at (sym c.kind_at.ensures ∙ c.if-kind_at-ne-REP.false) in
    let h = sides_at Seq v.at (sym c.kind_at-2.ensures ∙ c.if-kind_at-ne-SEQ.false) c.left_of.ensures in
    record { tree = h.left; at = h.at_left; within = (rw h.is at (rw v.is at c.requires.stands_in.within)).0 }

pub returns : goal.returns
returns c = λ l r a b.
    let v = as_rep_lem a (sym c.kind_at.ensures ∙ c.if-kind_at-ne-REP.false) in
    let h = sides_at Seq v.at (sym c.kind_at-2.ensures ∙ c.if-kind_at-ne-SEQ.false) c.left_of.ensures in
    loops_tell c.args.table.now.text.now v h.is c.same_tree.result r (c.same_tree.ensures h.left r h.at_left b)
