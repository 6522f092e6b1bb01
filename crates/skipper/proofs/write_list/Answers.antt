use mathlib.Core.Path.{sym, ◌∙◌}
use native.Mathlib.Omega.{arith}
use Rattle.rows.proofs.Laws.{root}
use Rattle.skipper.proofs.Onward.{fork, fork_less, ahead, go_spelled, go_left, go_full, go_last, go_end}
use Rattle.skipper.proofs.write_list.Goals as goal

pub kind_at-requires : goal.kind_at-requires
kind_at-requires c = (root (ahead c.loop-leaf.invariant).at).inside

pub left_of-leaf-requires-clause-stands : goal.left_of-leaf-requires-clause-stands
left_of-leaf-requires-clause-stands c = let inv = c.loop-leaf.invariant in
    record { tree = (ahead inv).tree; at = (ahead inv).at }

pub write_leaf-requires-clause-spelled : goal.write_leaf-requires-clause-spelled
write_leaf-requires-clause-spelled c = let inv = c.loop-leaf.invariant in
    go_spelled inv (sym c.kind_at.ensures ∙ c.loop-leaf-test.true) c.left_of-leaf.ensures

pub returns-in_err-q : goal.returns-in_err-q
returns-in_err-q c = rw c.from_residual.ensures (go_full c.loop-leaf.invariant (sym c.kind_at.ensures ∙ c.loop-leaf-test.true) c.left_of-leaf.ensures _ _ c.in_err-q.was c.write_leaf.ensures)

pub overflow_sub-at : goal.overflow_sub-at
overflow_sub-at c = let inv = c.loop-leaf.invariant in let v = fork (ahead inv).at (sym c.kind_at.ensures ∙ c.loop-leaf-test.true) in omega (arith, v.most, v.least_left)

pub loop-leaf-smaller : goal.loop-leaf-smaller
loop-leaf-smaller c = let inv = c.loop-leaf.invariant in omega (arith, fork_less (ahead inv).at (sym c.kind_at.ensures ∙ c.loop-leaf-test.true))

pub loop-leaf-preserved : goal.loop-leaf-preserved
loop-leaf-preserved c = go_left c.loop-leaf.invariant (sym c.kind_at.ensures ∙ c.loop-leaf-test.true) c.left_of-leaf.ensures _ _ c.in_ok-q.was c.write_leaf.ensures c.write_leaf.auto.out c.write_leaf.auto.lits

pub write_leaf-requires-2-clause-spelled : goal.write_leaf-requires-2-clause-spelled
write_leaf-requires-2-clause-spelled c = let inv = c.loop-leaf.invariant in
    go_last inv (λ e. c.loop-leaf-test.false (c.kind_at.ensures ∙ e))

pub returns : goal.returns
returns c = go_end c.loop-leaf.invariant (λ e. c.loop-leaf-test.false (c.kind_at.ensures ∙ e)) c.write_leaf-2.result _ _ c.write_leaf-2.ensures
