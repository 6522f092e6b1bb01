use mathlib.Core.Path.{refl, sym, ◌∙◌}
use native.Mathlib.Omega.{arith}
use Rattle.rows.proofs.Laws.{root}
use Rattle.skipper.proofs.Spelling.{spell_str, spell_ident, spell_name, name_fuel, str_wrote}
use Rattle.skipper.proofs.Ways.{spells_known}
use Rattle.skipper.proofs.Onward.{here, fork, fork_small, fork_less, ahead, go_spelled, go_left, go_full, is_name, name_is, name_has, body_less, go_body, last_str}
use Rattle.skipper.proofs.+write_leaf_write_rule.Goals as goal

pub write_leaf-kind_at-requires : goal.write_leaf-kind_at-requires
write_leaf-kind_at-requires t c = (root c.requires.spelled.at).inside

pub write_leaf-put_str-requires-clause-root_in_bounds : goal.write_leaf-put_str-requires-clause-root_in_bounds
write_leaf-put_str-requires-clause-root_in_bounds t c = (root c.requires.spelled.at).inside

pub write_leaf-returns-then-kind_at-eq-STR : goal.write_leaf-returns-then-kind_at-eq-STR
write_leaf-returns-then-kind_at-eq-STR t c = λ u r ss l a sp. str_wrote c.put_str.result _ _ _ _ _ refl (spell_str c.args.table.now.text.now (here a) a (sym c.kind_at.ensures ∙ c.if-kind_at-eq-STR.true) sp) c.put_str.ensures

pub write_leaf-body_of-body-requires-clause-named : goal.write_leaf-body_of-body-requires-clause-named
write_leaf-body_of-body-requires-clause-named t c = record { rows = _; led = c.requires.led }

pub write_leaf-body_of-body-requires-clause-root_in_bounds : goal.write_leaf-body_of-body-requires-clause-root_in_bounds
write_leaf-body_of-body-requires-clause-root_in_bounds t c = (root c.requires.spelled.at).inside

pub write_leaf-body_of-body-requires-clause-root_value : goal.write_leaf-body_of-body-requires-clause-root_value
write_leaf-body_of-body-requires-clause-root_value t c = spell_ident c.args.table.now.text.now (here c.requires.spelled.at) c.requires.spelled.at (λ e. c.if-kind_at-eq-STR.false (c.kind_at.ensures ∙ e)) c.requires.spelled.spells

pub write_leaf-body_of-body-requires-clause-name : goal.write_leaf-body_of-body-requires-clause-name
write_leaf-body_of-body-requires-clause-name t c = spells_known _ _ _ c.requires.spelled.lent (spell_name c.args.table.now.text.now (here c.requires.spelled.at) c.requires.spelled.at (spell_ident c.args.table.now.text.now (here c.requires.spelled.at) c.requires.spelled.at (λ e. c.if-kind_at-eq-STR.false (c.kind_at.ensures ∙ e)) c.requires.spelled.spells) c.requires.spelled.spells)

pub write_leaf-overflow_sub-fuel : goal.write_leaf-overflow_sub-fuel
write_leaf-overflow_sub-fuel t c = name_fuel _ _ (spell_name c.args.table.now.text.now (here c.requires.spelled.at) c.requires.spelled.at (spell_ident c.args.table.now.text.now (here c.requires.spelled.at) c.requires.spelled.at (λ e. c.if-kind_at-eq-STR.false (c.kind_at.ensures ∙ e)) c.requires.spelled.spells) c.requires.spelled.spells)

pub write_leaf-write_rule-requires : goal.write_leaf-write_rule-requires
write_leaf-write_rule-requires t c = let x = spell_name c.args.table.now.text.now (here c.requires.spelled.at) c.requires.spelled.at (spell_ident c.args.table.now.text.now (here c.requires.spelled.at) c.requires.spelled.at (λ e. c.if-kind_at-eq-STR.false (c.kind_at.ensures ∙ e)) c.requires.spelled.spells) c.requires.spelled.spells in
    let b = c.body_of-body.ensures _ c.requires.spelled.table c.requires.spelled.lent (c.requires.led.targets c.requires.spelled.table c.requires.spelled.lent) in
    let h = root b.at in
    (omega (arith, c.decreases, name_fuel _ _ x, h.rows, h.most, h.inside), (c.requires.led, (record { table = c.requires.spelled.table; lent = c.requires.spelled.lent; tree = b.tree; at = b.at; list = c.requires.spelled.list; spells = b.gives _ c.requires.spelled.list x }, c.requires.room)))

pub write_leaf-returns : goal.write_leaf-returns
write_leaf-returns t c = λ u r ss l a sp. let x = spell_name c.args.table.now.text.now (here a) a (spell_ident c.args.table.now.text.now (here a) a (λ e. c.if-kind_at-eq-STR.false (c.kind_at.ensures ∙ e)) sp) sp in let b = c.body_of-body.ensures _ u l (c.requires.led.targets u l) in c.write_rule.ensures u b.tree ss l b.at (b.gives _ ss x)

pub write_rule-kind_at-requires : goal.write_rule-kind_at-requires
write_rule-kind_at-requires t c = let inv = c.loop-leaf.invariant in (root (ahead inv).at).inside

pub write_rule-kind_at-requires-in-loop-leaf : goal.write_rule-kind_at-requires-in-loop-leaf
write_rule-kind_at-requires-in-loop-leaf t c = let inv = c.loop-leaf.invariant in (root (ahead inv).at).inside

pub write_rule-left_of-leaf-requires-clause-stands : goal.write_rule-left_of-leaf-requires-clause-stands
write_rule-left_of-leaf-requires-clause-stands t c = let inv = c.loop-leaf.invariant in
    record { tree = (ahead inv).tree; at = (ahead inv).at }

pub write_rule-write_leaf-requires : goal.write_rule-write_leaf-requires
write_rule-write_leaf-requires t c = let inv = c.loop-leaf.invariant in
    let z = (sym c.kind_at-in-loop-leaf.ensures ∙ c.if-kind_at-eq-CHOICE.true) in
    let e = c.left_of-leaf.ensures in
    (omega (arith, c.decreases, inv.less, fork_small (ahead inv).at z _ e), (c.requires.led, (c.requires.led.given.inside, (go_spelled inv z e, inv.room))))

pub write_rule-returns-in_err-q : goal.write_rule-returns-in_err-q
write_rule-returns-in_err-q t c = let inv = c.loop-leaf.invariant in rw c.from_residual.ensures (go_full inv (sym c.kind_at-in-loop-leaf.ensures ∙ c.if-kind_at-eq-CHOICE.true) c.left_of-leaf.ensures _ _ c.in_err-q.was c.write_leaf.ensures)

pub write_rule-overflow_sub-at : goal.write_rule-overflow_sub-at
write_rule-overflow_sub-at t c = let inv = c.loop-leaf.invariant in let v = fork (ahead inv).at (sym c.kind_at-in-loop-leaf.ensures ∙ c.if-kind_at-eq-CHOICE.true) in omega (arith, v.most, v.least_left)

pub write_rule-loop-leaf-smaller-then-kind_at-eq-CHOICE : goal.write_rule-loop-leaf-smaller-then-kind_at-eq-CHOICE
write_rule-loop-leaf-smaller-then-kind_at-eq-CHOICE t c = let inv = c.loop-leaf.invariant in omega (arith, fork_less (ahead inv).at (sym c.kind_at-in-loop-leaf.ensures ∙ c.if-kind_at-eq-CHOICE.true))

pub write_rule-loop-leaf-preserved-then-kind_at-eq-CHOICE : goal.write_rule-loop-leaf-preserved-then-kind_at-eq-CHOICE
write_rule-loop-leaf-preserved-then-kind_at-eq-CHOICE t c = let inv = c.loop-leaf.invariant in go_left inv (sym c.kind_at-in-loop-leaf.ensures ∙ c.if-kind_at-eq-CHOICE.true) c.left_of-leaf.ensures _ _ c.in_ok-q.was c.write_leaf.ensures c.write_leaf.auto.out c.write_leaf.auto.lits

pub write_rule-body_of-at-requires-clause-named : goal.write_rule-body_of-at-requires-clause-named
write_rule-body_of-at-requires-clause-named t c =
    record { rows = _; led = c.requires.led }

pub write_rule-body_of-at-requires-clause-root_in_bounds : goal.write_rule-body_of-at-requires-clause-root_in_bounds
write_rule-body_of-at-requires-clause-root_in_bounds t c = let inv = c.loop-leaf.invariant in
    (root (ahead inv).at).inside

pub write_rule-body_of-at-requires-clause-root_value : goal.write_rule-body_of-at-requires-clause-root_value
write_rule-body_of-at-requires-clause-root_value t c = let inv = c.loop-leaf.invariant in
    is_name (ahead inv) (λ e. c.if-kind_at-eq-CHOICE.false (c.kind_at-in-loop-leaf.ensures ∙ e)) (λ e. c.loop-leaf-test.true (c.kind_at.ensures ∙ e))

pub write_rule-body_of-at-requires-clause-name : goal.write_rule-body_of-at-requires-clause-name
write_rule-body_of-at-requires-clause-name t c = let inv = c.loop-leaf.invariant in
    name_is (ahead inv) (λ e. c.if-kind_at-eq-CHOICE.false (c.kind_at-in-loop-leaf.ensures ∙ e)) (λ e. c.loop-leaf-test.true (c.kind_at.ensures ∙ e)) inv.first.lent

pub write_rule-overflow_sub-fuel_left : goal.write_rule-overflow_sub-fuel_left
write_rule-overflow_sub-fuel_left t c = let inv = c.loop-leaf.invariant in name_has (ahead inv) (λ e. c.if-kind_at-eq-CHOICE.false (c.kind_at-in-loop-leaf.ensures ∙ e)) (λ e. c.loop-leaf-test.true (c.kind_at.ensures ∙ e))

pub write_rule-loop-leaf-smaller : goal.write_rule-loop-leaf-smaller
write_rule-loop-leaf-smaller t c = let inv = c.loop-leaf.invariant in body_less inv (λ e. c.if-kind_at-eq-CHOICE.false (c.kind_at-in-loop-leaf.ensures ∙ e)) (λ e. c.loop-leaf-test.true (c.kind_at.ensures ∙ e)) (λ u l. c.body_of-at.ensures _ u l (c.requires.led.targets u l)) (omega arith)

pub write_rule-loop-leaf-preserved : goal.write_rule-loop-leaf-preserved
write_rule-loop-leaf-preserved t c = let inv = c.loop-leaf.invariant in go_body inv (λ e. c.if-kind_at-eq-CHOICE.false (c.kind_at-in-loop-leaf.ensures ∙ e)) (λ e. c.loop-leaf-test.true (c.kind_at.ensures ∙ e)) (λ u l. c.body_of-at.ensures _ u l (c.requires.led.targets u l)) (omega arith)

pub write_rule-put_str-requires-clause-root_in_bounds : goal.write_rule-put_str-requires-clause-root_in_bounds
write_rule-put_str-requires-clause-root_in_bounds t c = let inv = c.loop-leaf.invariant in
    (root (ahead inv).at).inside

pub write_rule-returns : goal.write_rule-returns
write_rule-returns t c = let inv = c.loop-leaf.invariant in λ u r ss l a sp. let z = sym c.kind_at.ensures ∙ c.loop-leaf-test.false in last_str (inv.goes u r ss l a sp) (λ e. omega (arith, e, z)) z c.put_str.result _ _ c.put_str.ensures
