use mathlib.Core.Path.{◌≡◌, refl, subst}
use Prim.Native.Nat.{ℕ, ◌+◌, ◌-◌, ◌*◌}
use lib.ListN.{get_or}
use native.Mathlib.Omega.{arith}
use borrow.Author.Count.{below_more}
use Rattle.grammar.specs.Numbers.{rule_width, type_word, rows_word}
use Rattle.grammar.proofs.TopDown.{size_pos}
use Rattle.rows.proofs.Laws.{root}
use Rattle.names.specs.Names.{rows_before}
use Rattle.names.proofs.Marks.{before_step}
use Rattle.passes.specs.Passes.{Leaves}
use Rattle.passes.proofs.Calms.{rule_at, rooted}
use Rattle.passes.proofs.first_fired.Goals as goal

pub returns-then-step-eq-RESTORE_STEP : goal.returns-then-step-eq-RESTORE_STEP
returns-then-step-eq-RESTORE_STEP c = (omega arith, c.requires.from_in_bounds.0, λ j b a. absurd (omega (arith, a, b)))

pub loop-i-init : goal.loop-i-init
loop-i-init c = (refl, omega arith, c.requires.from_in_bounds.0, c.requires.from_in_bounds.1, λ j b a. absurd (omega (arith, a, b)))

pub overflow_add-end-in-loop-i : goal.overflow_add-end-in-loop-i
overflow_add-end-in-loop-i c = let n = rule_at c.requires.held.holds c.loop-i.invariant.0 c.loop-i.invariant.3 c.loop-i-test.true in omega (arith, n.bound, n.rows)

pub overflow_sub-end : goal.overflow_sub-end
overflow_sub-end c = let n = rule_at c.requires.held.holds c.loop-i.invariant.0 c.loop-i.invariant.3 c.loop-i-test.true in omega (arith, n.rows, size_pos n.rule.body)

pub still-requires-clause-inside : goal.still-requires-clause-inside
still-requires-clause-inside c = c.requires.held.holds.inside

pub still-requires-clause-stands : goal.still-requires-clause-stands
still-requires-clause-stands c = let n = rule_at c.requires.held.holds c.loop-i.invariant.0 c.loop-i.invariant.3 c.loop-i-test.true in record { tree = n.rule.body; at = rooted n }

pub still-requires-clause-root_value : goal.still-requires-clause-root_value
still-requires-clause-root_value c = let n = rule_at c.requires.held.holds c.loop-i.invariant.0 c.loop-i.invariant.3 c.loop-i-test.true in omega (arith, (root (rooted n)).rows, n.rows, size_pos n.rule.body)

pub returns-then-not-still : goal.returns-then-not-still
returns-then-not-still c = (c.loop-i.invariant.1, omega (arith, c.loop-i.invariant.0, c.loop-i.invariant.2), c.loop-i.invariant.4)

pub loop-i-preserved : goal.loop-i-preserved
loop-i-preserved c = let l = c.loop-i in
    let v = l.invariant in
    let f : l.begin + get_or c.args.table.now.rules.now (c.loop-i.i * rule_width + rows_word) 0 ≡ rows_before c.args.table.now.rules.now (l.i + 1) = before_step c.args.table.now.rules.now l.i l.begin v.3 in
    let h : (k : ℕ) → k + 1 ≡ rows_before c.args.table.now.rules.now (l.i + 1) → Leaves c.args.step (get_or c.args.table.now.rules.now (l.i * rule_width + type_word) 0) c.args.table.now.rows.now c.args.table.now.text.now k = λ k q.
    let z : l.begin + get_or c.args.table.now.rules.now (c.loop-i.i * rule_width + rows_word) 0 - 1 ≡ k = omega (arith, q, f) in
    subst (λ (x : ℕ). Leaves c.args.step (get_or c.args.table.now.rules.now (l.i * rule_width + type_word) 0) c.args.table.now.rows.now c.args.table.now.text.now x) z (c.still.ensures c.if-not-still.false) in
    (v.0, omega (arith, v.1), omega (arith, c.loop-i-test.true), f, below_more _ _ v.4 (λ _. h))

pub returns : goal.returns
returns c = (omega (arith, c.loop-i.invariant.1, c.loop-i.invariant.2), omega (arith, c.loop-i.invariant.0), λ j b. c.loop-i.invariant.4 j (omega (arith, b, c.loop-i-test.false)))
