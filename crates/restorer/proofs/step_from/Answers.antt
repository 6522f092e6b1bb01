-- By the tests that led there. Assumes nothing.
use borrow.Author.Tests.{ne_eqb}
use Rattle.restorer.specs.Walks.{step_from}
use mathlib.Core.Path.{◌≡◌, refl}
use mathlib.Core.Logic.{◌⊎◌, inl, inr}
use Prim.Native.Nat.{ℕ, ◌+◌, ◌-◌}
use Rattle.restorer.specs.Search.{nowhere}
use Rattle.restorer.specs.declared.Step.TheVariants.{Next}
use Rattle.std.proofs.Common.{◌≢◌}
use native.Mathlib.Omega.{arith}
use Rattle.restorer.proofs.step_from.Goals as goal

passed : {k : ℕ} (i n : ℕ) → (k ≡ 17) ⊎ (k ≡ 19) → Next (i + 1 - n) nowhere ≡ step_from k i n
unfolding step_from
passed i n (inl e) = rw e
passed i n (inr e) = rw e

pub returns-in-18 : goal.returns-in-18
unfolding step_from
returns-in-18 c = rw c.in-18.is refl

pub returns-in-17 : goal.returns-in-17
returns-in-17 c = passed _ _ c.in-17.is

pub returns-in_default : goal.returns-in_default
unfolding step_from
returns-in_default c = let k = c.args.kind in
    let a : k ≢ 18 = grind arith in
    let b : k ≢ 17 = grind arith in
    let d : k ≢ 19 = grind arith in
    simp (ne_eqb _ _ a, ne_eqb _ _ b, ne_eqb _ _ d)
