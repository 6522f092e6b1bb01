-- `spares` meets its contract. Assumes nothing.
use mathlib.Core.Path.{ap, ◌∙◌}
use mathlib.Core.Bool.{false≢true}
use Prim.Native.Nat.{ℕ}
use borrow.Author.Tests.{eq-eqb, eqb-true, eqb-false}
use Rattle.skipper.proofs.Skipping.{skip_other}
use Rattle.passes.specs.Passes.{step_of}
use Rattle.passes.proofs.Growth.{step_two, step_four}
use Rattle.passes.proofs.Stills.{concat_other}
use Rattle.passes.proofs.spares.Goals as goal

pub returns-else-kind-ne-ATOMIC : goal.returns-else-kind-ne-ATOMIC
returns-else-kind-ne-ATOMIC c = ((λ h. absurd (false≢true (rw (eq-eqb _ _ c.if-kind-ne-ATOMIC.false) at h))), λ _. ((λ _. c.if-kind-ne-ATOMIC.false), λ _. c.if-kind-ne-ATOMIC.false))

pub returns-then-step-eq-SKIP_STEP : goal.returns-then-step-eq-SKIP_STEP
returns-then-step-eq-SKIP_STEP c = ((λ h look e. ap (λ (n : ℕ). step_of n look c.args.kind e) c.if-step-eq-SKIP_STEP.true ∙ step_two look _ e ∙ skip_other look _ _ c.if-kind-ne-ATOMIC.true), λ h. absurd (eqb-false _ _ h c.if-step-eq-SKIP_STEP.true))

pub returns-else-step-eq-SKIP_STEP : goal.returns-else-step-eq-SKIP_STEP
returns-else-step-eq-SKIP_STEP c = ((λ h look e. ap (λ (n : ℕ). step_of n look c.args.kind e) (eqb-true _ _ h) ∙ step_four look _ e ∙ concat_other _ e c.if-kind-ne-ATOMIC.true), λ h. ((λ e. absurd (c.if-step-eq-SKIP_STEP.false e)), λ e. absurd (eqb-false _ _ h e)))
