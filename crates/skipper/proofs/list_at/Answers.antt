use mathlib.Core.Path.{sym}
use native.Mathlib.Omega.{arith}
use Rattle.rows.proofs.Laws.{root}
use Rattle.skipper.proofs.Leaf.{read_found_lem}
use Rattle.skipper.proofs.Settles.{rep_view, loop_over_lem}
use Rattle.skipper.proofs.Spelling.{list_no_rep, list_no_loop, list_if}
use Rattle.skipper.proofs.list_at.Goals as goal

pub kind_at-requires : goal.kind_at-requires
kind_at-requires c = (root c.requires.stands.at).inside

pub returns-then-kind_at-ne-REP : goal.returns-then-kind_at-ne-REP
returns-then-kind_at-ne-REP c = λ u r l a. list_no_rep _ _ (read_found_lem a c.kind_at.ensures) a c.if-kind_at-ne-REP.true

pub overflow_sub-root : goal.overflow_sub-root
overflow_sub-root c = let a = c.requires.stands.at in let v = rep_view c.args.table.now.text.now (read_found_lem a c.kind_at.ensures) a c.if-kind_at-ne-REP.false in omega (arith, v.most, v.least)

pub in_loop-requires-clause-stands : goal.in_loop-requires-clause-stands
in_loop-requires-clause-stands c = let a = c.requires.stands.at in
    let v = rep_view c.args.table.now.text.now (read_found_lem a c.kind_at.ensures) a c.if-kind_at-ne-REP.false in
    record { tree = v.child; at = v.at }

pub returns-in_err-e : goal.returns-in_err-e
returns-in_err-e c = rw c.from_residual.ensures (λ u r l a. let y = c.args.table.now.text.now in list_no_loop y _ (read_found_lem a c.kind_at.ensures) a c.if-kind_at-ne-REP.false (c.in_loop.ensures _ (rep_view y (read_found_lem a c.kind_at.ensures) a c.if-kind_at-ne-REP.false).at) c.in_err-e.was)

pub listed-requires-clause-stands : goal.listed-requires-clause-stands
listed-requires-clause-stands c = let y = c.args.table.now.text.now in
    let a = c.requires.stands.at in
    let o = loop_over_lem y (read_found_lem a c.kind_at.ensures) a c.if-kind_at-ne-REP.false (c.in_loop.ensures _ (rep_view y (read_found_lem a c.kind_at.ensures) a c.if-kind_at-ne-REP.false).at) c.in_ok-e.was in
    record { tree = o.tree; at = o.at }

pub returns : goal.returns
returns c = rw c.then_some.ensures (λ u r l a. let y = c.args.table.now.text.now in list_if y _ (read_found_lem a c.kind_at.ensures) a c.if-kind_at-ne-REP.false (c.in_loop.ensures _ (rep_view y (read_found_lem a c.kind_at.ensures) a c.if-kind_at-ne-REP.false).at) c.in_ok-e.was (λ q b. sym (c.listed.ensures u q l b)))
