use borrow.Author.Tests.{ltb-true}
use mathlib.Core.Path.{refl, ◌∙◌}
use native.Mathlib.Omega.{arith}
use Rattle.names.proofs.Marks.{before_step}
use Rattle.passes.proofs.Loops.{loop_start, here, ready, rule_prepared, loop_next, loop_full, loop_done}
use Rattle.passes.proofs.pass.Goals as goal
use Rattle.passes.proofs.pass.Goals.{then-i-next, else-i-next}

pub loop-i-init : goal.loop-i-init
loop-i-init c = (refl, loop_start _ _ _ _ _ _ _ _ _ _ _ refl refl c.requires.areas, refl, c.requires.leaves_from)

pub overflow_add-end-in-loop-i : goal.overflow_add-end-in-loop-i
overflow_add-end-in-loop-i c = let h = here c.loop-i.invariant.0 c.loop-i.invariant.1 c.loop-i-test.true c.requires.passing in omega (arith, h.bound, h.next.count)

pub overflow_sub-end : goal.overflow_sub-end
overflow_sub-end c = let h = here c.loop-i.invariant.0 c.loop-i.invariant.1 c.loop-i-test.true c.requires.passing in omega (arith, h.last)

pub returns-in_err-p : goal.returns-in_err-p
returns-in_err-p c = rw c.from_residual.ensures (loop_full c.loop-i.invariant.0 c.loop-i.invariant.1 c.loop-i-test.true c.requires.passing _ _ _ c.in_err-p.was c.one_rule.ensures)

pub returns : goal.returns
returns c = loop_done c.loop-i.invariant.0 c.loop-i.invariant.1 c.loop-i-test.false

pub one_rule-requires-clause-inside : goal.one_rule-requires-clause-inside
one_rule-requires-clause-inside c = c.requires.passing.holds.inside

pub one_rule-requires-clause-stands : goal.one_rule-requires-clause-stands
one_rule-requires-clause-stands c = let h = here c.loop-i.invariant.0 c.loop-i.invariant.1 c.loop-i-test.true c.requires.passing in record { tree = h.rule.body; at = h.at }

pub one_rule-requires-clause-room : goal.one_rule-requires-clause-room
one_rule-requires-clause-room c = c.loop-i.invariant.1.room

pub one_rule-requires-clause-rule_ready : goal.one_rule-requires-clause-rule_ready
one_rule-requires-clause-rule_ready c = ready c.loop-i.invariant.0 c.loop-i.invariant.1 c.loop-i-test.true c.requires.passing c.requires.rules_in_bounds

pub one_rule-requires-clause-rule_prepared : goal.one_rule-requires-clause-rule_prepared
one_rule-requires-clause-rule_prepared c = rule_prepared c.loop-i.invariant.0 c.loop-i.invariant.1 c.loop-i-test.true c.requires.passing

pub one_rule-requires-clause-leaves : goal.one_rule-requires-clause-leaves
one_rule-requires-clause-leaves c = λ e. c.loop-i.invariant.3 _ (ltb-true _ _ e) (omega arith) _ ((here c.loop-i.invariant.0 c.loop-i.invariant.1 c.loop-i-test.true c.requires.passing).last ∙ before_step _ _ _ c.loop-i.invariant.2)

pub first_fired-next-requires-clause-held : goal.first_fired-next-requires-clause-held
first_fired-next-requires-clause-held c = record { table = c.requires.passing.table; holds = c.requires.passing.holds }

pub first_fired-next-requires-clause-from_in_bounds : goal.first_fired-next-requires-clause-from_in_bounds
first_fired-next-requires-clause-from_in_bounds c = (omega (arith, c.loop-i.invariant.0, c.loop-i-test.true), before_step _ _ _ c.loop-i.invariant.2)

pub loop-i-preserved : goal.loop-i-preserved
loop-i-preserved c = (
  c.loop-i.invariant.0,
  loop_next c.loop-i.invariant.0 c.loop-i.invariant.1 c.loop-i-test.true c.requires.passing _ _ _ c.in_ok-p.was c.requires.rules_in_bounds c.one_rule.auto.heads c.one_rule.auto.out c.one_rule.auto.lits c.one_rule.ensures,
  before_step _ _ _ c.loop-i.invariant.2,
  elim c.if-i-next.branch [ then-i-next w ↦ rw w.next-is w.first_fired-next.ensures.2 | else-i-next w ↦ rw w.next-is (λ j b a. c.loop-i.invariant.3 j b (omega (arith, a))) ],
)
