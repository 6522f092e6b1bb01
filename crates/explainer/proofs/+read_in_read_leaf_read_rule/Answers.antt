use borrow.Author.Rules.{rules}
use mathlib.Core.Path.{sym, ◌∙◌}
use Prim.Native.Nat.{◌+◌, ◌*◌, ◌<◌}
use native.Mathlib.Omega.{arith}
use lib.ListN.{length, length-set}
use Rattle.grammar.specs.Numbers.{mark_width}
use Rattle.rows.proofs.Laws.{root}
use Rattle.names.specs.Names.{memory_word}
use Rattle.skipper.proofs.Leaf.{read_found_lem, finds_at, finds_nothing, rule_stands, rule_end}
use Rattle.explainer.proofs.Marks.{mark_inside, place_fits, rule_root, opens_less, ready_opens}
use Rattle.explainer.proofs.Arms.{arm_str, arm_other, arm_ident, arm_leaf, arm_stop}
use Rattle.explainer.proofs.Named.{arm_unknown, arm_met, arm_done, arm_rule}
use Rattle.explainer.proofs.Walks.{walk_left, walk_past, walk_on}
use Rattle.explainer.proofs.+read_in_read_leaf_read_rule.Goals as goal

pub read_in-kind_at-requires : goal.read_in-kind_at-requires
read_in-kind_at-requires t c = (root c.loop-left.invariant.stands.at).inside

pub read_in-read_leaf-a-requires : goal.read_in-read_leaf-a-requires
read_in-read_leaf-a-requires t c = let v = c.loop-left.invariant in
    (omega (arith, c.decreases, v.fewer), (v.ready, (walk_left v c.kind_at.ensures c.loop-left-test.true c.left_of-left.ensures, c.requires.stands.1)))

pub read_in-returns-then-ne : goal.read_in-returns-then-ne
read_in-returns-then-ne t c = λ u r l a. c.loop-left.invariant.whole u r l a _ _ _ (λ q b. arm_stop _ _ _ _ (read_found_lem b c.kind_at.ensures) _ b c.loop-left-test.true c.left_of-left.ensures (search rules) (λ p d. c.read_leaf-a.ensures u p l d))

pub read_in-overflow_sub-at : goal.read_in-overflow_sub-at
read_in-overflow_sub-at t c = omega (arith, walk_past c.loop-left.invariant c.kind_at.ensures c.loop-left-test.true)

pub read_in-loop-left-smaller : goal.read_in-loop-left-smaller
read_in-loop-left-smaller t c = omega (arith, walk_past c.loop-left.invariant c.kind_at.ensures c.loop-left-test.true)

pub read_in-loop-left-preserved : goal.read_in-loop-left-preserved
read_in-loop-left-preserved t c = walk_on c.loop-left.invariant c.kind_at.ensures c.loop-left-test.true c.left_of-left.ensures (search rules) c.read_leaf-a.auto.marks c.read_leaf-a.auto.list (λ u q l b. c.read_leaf-a.ensures u q l b)

pub read_in-returns : goal.read_in-returns
read_in-returns t c = λ u r l a. c.loop-left.invariant.whole u r l a _ _ _ (λ q b. arm_leaf _ _ _ _ (read_found_lem b c.kind_at.ensures) _ b c.loop-left-test.false (c.read_leaf.ensures u q l b))

pub read_leaf-kind_at-kind-requires : goal.read_leaf-kind_at-kind-requires
read_leaf-kind_at-kind-requires t c = (root c.requires.stands.0.at).inside

pub read_leaf-returns-then-kind-eq-STR : goal.read_leaf-returns-then-kind-eq-STR
read_leaf-returns-then-kind-eq-STR t c = λ u r l a. arm_str _ _ _ _ (read_found_lem a c.kind_at-kind.ensures) _ a c.requires.ready.clean c.if-kind-eq-STR.true c.plain.ensures

pub read_leaf-told-requires : goal.read_leaf-told-requires
read_leaf-told-requires t c = let p = place_fits c.requires.ready c.requires.stands.1 c.requires.stands.0 in (p.0, p.1, omega arith, omega arith)

pub read_leaf-returns-then-kind-ne-IDENT : goal.read_leaf-returns-then-kind-ne-IDENT
read_leaf-returns-then-kind-ne-IDENT t c = λ u r l a. arm_other _ _ _ _ (read_found_lem a c.kind_at-kind.ensures) _ a c.if-kind-eq-STR.false c.if-kind-ne-IDENT.true c.told.ensures

pub read_leaf-rule_at-requires-clause-i_in_bounds : goal.read_leaf-rule_at-requires-clause-i_in_bounds
read_leaf-rule_at-requires-clause-i_in_bounds t c = ((root c.requires.stands.0.at).inside, sym c.kind_at-kind.ensures ∙ c.if-kind-ne-IDENT.false)

pub read_leaf-told-requires-in_default : goal.read_leaf-told-requires-in_default
read_leaf-told-requires-in_default t c = let p = place_fits c.requires.ready c.requires.stands.1 c.requires.stands.0 in (p.0, p.1, omega arith, omega arith)

pub read_leaf-returns-in_default : goal.read_leaf-returns-in_default
read_leaf-returns-in_default t c = λ u r l a. arm_ident _ _ _ _ (read_found_lem a c.kind_at-kind.ensures) _ a c.if-kind-ne-IDENT.false (arm_unknown u l.heads _ _ _ _ _ _ (finds_nothing _ _ _ _ c.rule_at.ensures c.in_default.is) c.told-in_default.ensures)

pub read_leaf-returns-then-memory-eq0 : goal.read_leaf-returns-then-memory-eq0
read_leaf-returns-then-memory-eq0 t c = let first = finds_at _ _ _ _ c.rule_at.ensures c.in-Some.is in
    λ u r l a. arm_ident _ _ _ _ (read_found_lem a c.kind_at-kind.ensures) _ a c.if-kind-ne-IDENT.false (c.read_rule.ensures u _ _ _ l first)

pub read_leaf-told-requires-then-memory-eq-OPEN : goal.read_leaf-told-requires-then-memory-eq-OPEN
read_leaf-told-requires-then-memory-eq-OPEN t c = let first = finds_at _ _ _ _ c.rule_at.ensures c.in-Some.is in
    let p = place_fits c.requires.ready c.requires.stands.1 c.requires.stands.0 in
    (p.0, p.1, omega (arith, first.below, c.requires.ready.few), omega (arith, c.requires.ready.deep, c.requires.ready.few))

pub read_leaf-returns-then-memory-eq-OPEN : goal.read_leaf-returns-then-memory-eq-OPEN
read_leaf-returns-then-memory-eq-OPEN t c = let first = finds_at _ _ _ _ c.rule_at.ensures c.in-Some.is in
    λ u r l a. arm_ident _ _ _ _ (read_found_lem a c.kind_at-kind.ensures) _ a c.if-kind-ne-IDENT.false (arm_met u l.heads _ _ _ _ _ _ first (omega (arith, c.requires.ready.deep, c.requires.ready.room)) c.if-memory-eq-OPEN.true c.told-then-memory-eq-OPEN.ensures)

pub read_leaf-returns : goal.read_leaf-returns
read_leaf-returns t c = let first = finds_at _ _ _ _ c.rule_at.ensures c.in-Some.is in
    λ u r l a. arm_ident _ _ _ _ (read_found_lem a c.kind_at-kind.ensures) _ a c.if-kind-ne-IDENT.false (arm_done u l.heads _ _ _ _ _ _ first c.requires.ready.clean (c.requires.ready.clean _ first.below c.if-memory-eq0.false c.if-memory-eq-OPEN.false) c.plain-2.ensures)

pub read_rule-overflow_sub-end : goal.read_rule-overflow_sub-end
read_rule-overflow_sub-end t c = let g = c.requires.ready.given in omega (arith, rule_end g.lent c.args.i c.requires.i_in_bounds.0 g.ended)

pub read_rule-read_in-a-requires : goal.read_rule-read_in-a-requires
read_rule-read_in-a-requires t c =
    let y = c.requires.ready in
    let b = c.requires.i_in_bounds in
    (omega (arith, c.decreases, opens_less y b.0 b.1), (ready_opens y b.0 b.1, (rule_root y b.0, b.0)))

pub read_rule-note-requires : goal.read_rule-note-requires
read_rule-note-requires t c =
    let b = c.requires.i_in_bounds in
    (omega (arith, c.requires.ready.deep, c.requires.ready.room, c.read_in-a.auto.list, opens_less c.requires.ready b.0 b.1), omega (arith, b.0, c.requires.ready.few))

pub read_rule-returns : goal.read_rule-returns
read_rule-returns t c = λ u x rule at l f.
    let y = c.requires.ready in
    let i = c.args.i in
    let b = c.requires.i_in_bounds in
    let inside : i * mark_width + memory_word < length c.read_in-a.new.marks = omega (arith, mark_inside y b.0, c.read_in-a.auto.marks, length-set c.args.marks.now (i * mark_width + memory_word) 1) in
    arm_rule u l.heads _ x _ _ rule at f b.0 (mark_inside y b.0) inside b.1 (λ r. rw (y.given.ended.end i b.0) at (c.read_in-a.ensures u r.rule.body l (rule_stands l i r b.0 y.given.ended))) c.close.ensures c.note.ensures
