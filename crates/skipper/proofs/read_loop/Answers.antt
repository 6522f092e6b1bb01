use native.Mathlib.Omega.{arith}
use Rattle.rows.proofs.Laws.{root}
use Rattle.skipper.proofs.Leaf.{read_found_lem}
use Rattle.skipper.proofs.Settles.{loop_no, rep_view, loop_nothing, loop_over_lem, loop_list}
use Rattle.skipper.proofs.read_loop.Goals as goal

pub kind_at-requires : goal.kind_at-requires
kind_at-requires c = (root c.requires.stands.at).inside

pub returns-then-kind_at-ne-REP-clause-loops_of : goal.returns-then-kind_at-ne-REP-clause-loops_of
returns-then-kind_at-ne-REP-clause-loops_of c = λ u r l a. loop_no _ (read_found_lem a c.kind_at.ensures) a c.if-kind_at-ne-REP.true

pub overflow_sub-i : goal.overflow_sub-i
overflow_sub-i c = let a = c.requires.stands.at in let v = rep_view c.args.table.now.text.now (read_found_lem a c.kind_at.ensures) a c.if-kind_at-ne-REP.false in omega (arith, v.most, v.least)

pub in_loop-requires-clause-stands : goal.in_loop-requires-clause-stands
in_loop-requires-clause-stands c = let a = c.requires.stands.at in
    let v = rep_view c.args.table.now.text.now (read_found_lem a c.kind_at.ensures) a c.if-kind_at-ne-REP.false in
    record { tree = v.child; at = v.at }

pub returns-in_default-clause-loops_of : goal.returns-in_default-clause-loops_of
returns-in_default-clause-loops_of c = λ u r l a. let y = c.args.table.now.text.now in loop_nothing y (read_found_lem a c.kind_at.ensures) a c.if-kind_at-ne-REP.false (c.in_loop.ensures _ (rep_view y (read_found_lem a c.kind_at.ensures) a c.if-kind_at-ne-REP.false).at) c.in_default.is

pub read_leaves-requires-clause-stands : goal.read_leaves-requires-clause-stands
read_leaves-requires-clause-stands c = let y = c.args.table.now.text.now in
    let a = c.requires.stands.at in
    let o = loop_over_lem y (read_found_lem a c.kind_at.ensures) a c.if-kind_at-ne-REP.false (c.in_loop.ensures _ (rep_view y (read_found_lem a c.kind_at.ensures) a c.if-kind_at-ne-REP.false).at) c.in-Some.is in
    record { tree = o.tree; at = o.at }

pub returns-in-Err-Again-clause-loops_of : goal.returns-in-Err-Again-clause-loops_of
returns-in-Err-Again-clause-loops_of c = λ u r l a. let y = c.args.table.now.text.now in rw (c.in-Err-Again.is, c.in-Err-Again.field-0-is) at (loop_list y (read_found_lem a c.kind_at.ensures) a c.if-kind_at-ne-REP.false (c.in_loop.ensures _ (rep_view y (read_found_lem a c.kind_at.ensures) a c.if-kind_at-ne-REP.false).at) c.read_leaves.result c.in-Some.is (λ q b. c.read_leaves.ensures.reads_of u q l b))

pub returns-in-Err-Absent-clause-loops_of : goal.returns-in-Err-Absent-clause-loops_of
returns-in-Err-Absent-clause-loops_of c = λ u r l a. let y = c.args.table.now.text.now in rw (c.in-Err-Absent.is, c.in-Err-Absent.field-0-is) at (loop_list y (read_found_lem a c.kind_at.ensures) a c.if-kind_at-ne-REP.false (c.in_loop.ensures _ (rep_view y (read_found_lem a c.kind_at.ensures) a c.if-kind_at-ne-REP.false).at) c.read_leaves.result c.in-Some.is (λ q b. c.read_leaves.ensures.reads_of u q l b))

pub returns-in-Ok-clause-loops_of : goal.returns-in-Ok-clause-loops_of
returns-in-Ok-clause-loops_of c = λ u r l a. let y = c.args.table.now.text.now in rw c.in-Ok.is at (loop_list y (read_found_lem a c.kind_at.ensures) a c.if-kind_at-ne-REP.false (c.in_loop.ensures _ (rep_view y (read_found_lem a c.kind_at.ensures) a c.if-kind_at-ne-REP.false).at) c.read_leaves.result c.in-Some.is (λ q b. c.read_leaves.ensures.reads_of u q l b))
