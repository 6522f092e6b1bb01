-- the Seq, and what it has on its (right_here c.requires.stands.at c.kind_at.ensures c.if-kind_at-ne-SEQ.false c.kind_at-2.ensures)
use mathlib.Core.Path.{sym, ◌∙◌}
use native.Mathlib.Omega.{arith}
use Rattle.grammar.specs.Tree.{Ident}
use Rattle.rows.proofs.Laws.{root}
use Rattle.rows.proofs.Cells.{in_text, lit_shape}
use Rattle.skipper.proofs.Leaf.{read_found_lem}
use Rattle.skipper.proofs.Looping.{loop_not_seq, seq_here, right_here, loop_not_ident, loop_not_any, loop_with_any, left_at, before_any}
use Rattle.skipper.proofs.in_loop.Goals as goal

pub kind_at-requires : goal.kind_at-requires
kind_at-requires c = (root c.requires.stands.at).inside

pub returns-then-kind_at-ne-SEQ : goal.returns-then-kind_at-ne-SEQ
returns-then-kind_at-ne-SEQ c = λ r a. loop_not_seq _ (read_found_lem a c.kind_at.ensures) a c.if-kind_at-ne-SEQ.true

pub overflow_sub-right : goal.overflow_sub-right
overflow_sub-right c = let v = seq_here c.requires.stands.at c.kind_at.ensures c.if-kind_at-ne-SEQ.false in omega (arith, v.most, v.least_left)

pub kind_at-requires-2 : goal.kind_at-requires-2
kind_at-requires-2 c = (root (seq_here c.requires.stands.at c.kind_at.ensures c.if-kind_at-ne-SEQ.false).at_right).inside

pub returns-then-kind_at-ne-IDENT : goal.returns-then-kind_at-ne-IDENT
returns-then-kind_at-ne-IDENT c = λ r a. loop_not_ident _ (read_found_lem a c.kind_at.ensures) a c.if-kind_at-ne-SEQ.false (right_here c.requires.stands.at c.kind_at.ensures c.if-kind_at-ne-SEQ.false c.kind_at-2.ensures) c.if-kind_at-ne-IDENT.true

pub x_at-requires : goal.x_at-requires
x_at-requires c = (right_here c.requires.stands.at c.kind_at.ensures c.if-kind_at-ne-SEQ.false c.kind_at-2.ensures).within

pub y_at-requires : goal.y_at-requires
y_at-requires c = (right_here c.requires.stands.at c.kind_at.ensures c.if-kind_at-ne-SEQ.false c.kind_at-2.ensures).within

pub is_any-requires : goal.is_any-requires
is_any-requires c = rw (c.x_at.ensures, c.y_at.ensures) (in_text _ c.requires.inside (right_here c.requires.stands.at c.kind_at.ensures c.if-kind_at-ne-SEQ.false c.kind_at-2.ensures) (rw c.if-kind_at-ne-IDENT.false (lit_shape Ident)))

pub overflow_sub-right-then-is_any : goal.overflow_sub-right-then-is_any
overflow_sub-right-then-is_any c = let v = seq_here c.requires.stands.at c.kind_at.ensures c.if-kind_at-ne-SEQ.false in omega (arith, v.most, v.least_left, v.least_right)

pub after_not-requires : goal.after_not-requires
after_not-requires c = let a = c.requires.stands.at in before_any c.args.table.now.text.now (read_found_lem a c.kind_at.ensures) a c.if-kind_at-ne-SEQ.false (right_here a c.kind_at.ensures c.if-kind_at-ne-SEQ.false c.kind_at-2.ensures) c.if-kind_at-ne-IDENT.false

pub returns-then-is_any : goal.returns-then-is_any
returns-then-is_any c = λ r a. let y = c.args.table.now.text.now in loop_with_any y (read_found_lem a c.kind_at.ensures) a c.if-kind_at-ne-SEQ.false (right_here c.requires.stands.at c.kind_at.ensures c.if-kind_at-ne-SEQ.false c.kind_at-2.ensures) c.if-kind_at-ne-IDENT.false c.after_not.result (rw (← c.x_at.ensures, ← c.y_at.ensures) (sym c.is_any.ensures ∙ c.if-is_any.true)) (c.after_not.ensures y _ (left_at y (read_found_lem a c.kind_at.ensures) a c.if-kind_at-ne-SEQ.false (right_here c.requires.stands.at c.kind_at.ensures c.if-kind_at-ne-SEQ.false c.kind_at-2.ensures) c.if-kind_at-ne-IDENT.false))

pub returns-else-is_any : goal.returns-else-is_any
returns-else-is_any c = λ r a. loop_not_any _ (read_found_lem a c.kind_at.ensures) a c.if-kind_at-ne-SEQ.false (right_here c.requires.stands.at c.kind_at.ensures c.if-kind_at-ne-SEQ.false c.kind_at-2.ensures) c.if-kind_at-ne-IDENT.false (rw (← c.x_at.ensures, ← c.y_at.ensures) (sym c.is_any.ensures ∙ c.if-is_any.false))
