use mathlib.Core.Path.{refl}
use Prim.Native.Nat.{◌/◌}
use native.Mathlib.Omega.{arith}
use lib.Dec.{eqb}
use lib.ListN.{length}
use Rattle.grammar.specs.Numbers.{row_width}
use Rattle.rows.proofs.Cells.{tells_yes, tells_no, tells_iff}
use Rattle.refusals.specs.Local.{up_to}
use Rattle.refusals.proofs.Tables.{type_no, room_no, tree_no, next, back, between, end_tells}
use Rattle.refusals.proofs.trees.Goals as goal

pub returns-then-table-at-gt-NON_ATOMIC : goal.returns-then-table-at-gt-NON_ATOMIC
returns-then-table-at-gt-NON_ATOMIC c = let l = c.loop-i in λ t. type_no _ _ _ l.i l.from _ (omega arith) refl c.if-table-at-gt-NON_ATOMIC.true (l.invariant.2 t)

pub returns-then-total-from : goal.returns-then-total-from
returns-then-total-from c = let l = c.loop-i in λ t. room_no _ _ _ l.i l.from _ (omega arith) refl (omega arith) (omega (arith, c.if-total-from.true)) (l.invariant.2 t)

pub returns-then-not-rule_tree : goal.returns-then-not-rule_tree
returns-then-not-rule_tree c = let tree = between _ c.args.table.now.rows.now c.loop-i.from _ c.rule_tree.result c.rule_tree.ensures in
    let l = c.loop-i in λ t. tree_no _ _ _ l.i l.from _ (omega arith) refl (tells_no c.if-not-rule_tree.true tree) (l.invariant.2 t)

pub loop-i-preserved : goal.loop-i-preserved
loop-i-preserved c = let tree = between _ c.args.table.now.rows.now c.loop-i.from _ c.rule_tree.result c.rule_tree.ensures in
    let l = c.loop-i in
    let t = tells_yes c.if-not-rule_tree.false tree in (
      omega arith,
      omega arith,
      λ q. next _ _ _ l.i l.from _ (omega arith) refl (l.invariant.2 q),
      λ q. l.invariant.3 (back _ _ _ l.i l.from _ (omega arith) refl c.if-table-at-gt-NON_ATOMIC.false (omega arith) t q),
    )

pub returns : goal.returns
returns c = let l = c.loop-i in let s = c.args in tells_iff (eqb l.from (length s.table.now.rows.now / row_width)) l.invariant.3 l.invariant.2 (end_tells (up_to s.most) s.table.now.rules.now s.table.now.rows.now l.i l.from (length s.table.now.rows.now / row_width) (omega arith) (omega arith) (omega arith))
