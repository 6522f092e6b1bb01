-- `read_loop` meets its contract. Assumes nothing.
use mathlib.Core.Path.{◌≡◌, refl, ◌∙◌}
use mathlib.Core.List.{[]}
use Prim.Native.Nat.{◌-◌}
use native.Mathlib.Omega.{arith}
use Rattle.grammar.specs.Text.{resolve}
use Rattle.grammar.specs.Table.{resolve_table}
use Rattle.rows.proofs.Laws.{root}
use Rattle.explainer.proofs.Parts.{plain_told, read_told, within_none, rep, no_seq, seq, left_at, no_not, neg, with_not, no_any, is_any}
use Rattle.explainer.proofs.read_loop.Goals as goal

pub overflow_sub-seq : goal.overflow_sub-seq
overflow_sub-seq c = let v = rep c.args.table.now.text.now c.requires.stands.0.at c.requires.stands.1 in omega (arith, v.least, v.most)

pub kind_at-requires : goal.kind_at-requires
kind_at-requires c = (root (rep c.args.table.now.text.now c.requires.stands.0.at c.requires.stands.1).at).inside

pub left_of-left-requires-clause-stands : goal.left_of-left-requires-clause-stands
left_of-left-requires-clause-stands c = let v = rep c.args.table.now.text.now c.requires.stands.0.at c.requires.stands.1 in record { tree = v.child; at = v.at }

pub kind_at-requires-2 : goal.kind_at-requires-2
kind_at-requires-2 c = (root (left_at c.args.table.now.text.now c.requires.stands.0.at c.requires.stands.1 (rw c.kind_at.ensures at c.if-kind_at-ne-SEQ.false) c.left_of-left.ensures)).inside

pub is_any-requires : goal.is_any-requires
is_any-requires c =
    let v = seq c.args.table.now.text.now c.requires.stands.0.at c.requires.stands.1 (rw c.kind_at.ensures at c.if-kind_at-ne-SEQ.false) in
    (c.requires.fresh.ready.given.inside, record { tree = v.right; at = v.at_right })

pub overflow_sub-left : goal.overflow_sub-left
overflow_sub-left c =
    let v = neg c.args.table.now.text.now c.requires.stands.0.at c.requires.stands.1 (rw c.kind_at.ensures at c.if-kind_at-ne-SEQ.false) c.left_of-left.ensures (rw c.kind_at-2.ensures at c.if-kind_at-ne-NEG_PRED.false) in
    omega (arith, v.least, v.most)

pub read_in-requires-clause-stands : goal.read_in-requires-clause-stands
read_in-requires-clause-stands c =
    let v = neg c.args.table.now.text.now c.requires.stands.0.at c.requires.stands.1 (rw c.kind_at.ensures at c.if-kind_at-ne-SEQ.false) c.left_of-left.ensures (rw c.kind_at-2.ensures at c.if-kind_at-ne-NEG_PRED.false) in
    (record { tree = v.child; at = v.at }, c.requires.stands.2)

pub returns-then-kind_at-ne-SEQ : goal.returns-then-kind_at-ne-SEQ
returns-then-kind_at-ne-SEQ c = λ t q e l a h. plain_told _ c.plain.ensures (no_seq c.args.table.now.text.now a c.requires.stands.1 _ e h (rw c.kind_at.ensures at c.if-kind_at-ne-SEQ.true)) refl

pub returns-then-kind_at-ne-NEG_PRED : goal.returns-then-kind_at-ne-NEG_PRED
returns-then-kind_at-ne-NEG_PRED c = λ t q e l a h. plain_told _ c.plain-then-kind_at-ne-NEG_PRED.ensures (no_not c.args.table.now.text.now a c.requires.stands.1 (rw c.kind_at.ensures at c.if-kind_at-ne-SEQ.false) c.left_of-left.ensures _ e h (rw c.kind_at-2.ensures at c.if-kind_at-ne-NEG_PRED.true)) refl

pub returns-then-not-is_any : goal.returns-then-not-is_any
returns-then-not-is_any c = λ t q e l a h.
    let y = rw c.kind_at.ensures at c.if-kind_at-ne-SEQ.false in
    let n = rw c.kind_at-2.ensures at c.if-kind_at-ne-NEG_PRED.false in
    let v = seq c.args.table.now.text.now a c.requires.stands.1 y in
    plain_told _ c.plain-then-not-is_any.ensures (with_not c.args.table.now.text.now a c.requires.stands.1 y c.left_of-left.ensures n _ e h ∙ c.is_any.ensures.a_value v.right v.at_right _ ∙ no_any _ c.if-not-is_any.true) refl

pub returns : goal.returns
returns c = λ t q e l a h.
    let y = rw c.kind_at.ensures at c.if-kind_at-ne-SEQ.false in
    let n = rw c.kind_at-2.ensures at c.if-kind_at-ne-NEG_PRED.false in
    let so = c.if-not-is_any.false in
    let v = seq c.args.table.now.text.now a c.requires.stands.1 y in
    let x = neg c.args.table.now.text.now a c.requires.stands.1 y c.left_of-left.ensures n in
    let place : c.left_of-left.result - 1 ≡ c.args.row - 4 = omega (arith, c.left_of-left.ensures, c.is_any.ensures.i_value so) in
    read_told (resolve_table c.args.table.now.text.now t) c.args.i (resolve c.args.table.now.text.now x.child) ((c.read_in.ensures t x.child l x.at).says [] [] (c.requires.fresh.known t l) (within_none (c.requires.fresh.idle t l)))
    place
    (with_not c.args.table.now.text.now a c.requires.stands.1 y c.left_of-left.ensures n _ e h ∙ c.is_any.ensures.a_value v.right v.at_right _ ∙ is_any _ so)
