-- The shapes by ranges of kinds: what an arm of several kinds leaves is a range.
use mathlib.Core.Path.{◌≡◌, refl}
use Prim.Native.Nat.{ℕ, ◌≤◌, ◌<◌}
use native.Mathlib.Decide.{dec_lt}
use native.Mathlib.Omega.{arith}
use borrow.Author.Tests.{lt-ltb, le-ltb, ne_eqb}
use Rattle.rows.specs.declared.Shape.TheVariants.{Lit, Num, One, Two}
use Rattle.rows.specs.Rows.{shape_of}
use Rattle.rows.proofs.shape_of.Goals as goal

literal : (k : ℕ) → k < 2 → Lit ≡ shape_of k
unfolding shape_of
literal k h = simp (lt-ltb k 2 h)

module _ (k : ℕ) (a : 2 ≤ k) (b : k ≡ 3 → ⊥) where
  numbers : k < 6 → Num ≡ shape_of k
  unfolding shape_of
  numbers h = simp (le-ltb k 2 a, ne_eqb k 3 b, lt-ltb k 6 h)

  module _ (d : 6 ≤ k) where
    one : (k ≡ 8 → ⊥) → (k ≡ 9 → ⊥) → (k ≡ 17 → ⊥) → One ≡ shape_of k
    unfolding shape_of
    one f g h = simp (le-ltb k 2 a, ne_eqb k 3 b, le-ltb k 6 d, ne_eqb k 8 f, ne_eqb k 9 g, ne_eqb k 17 h)

two : (k : ℕ) → 8 ≤ k → k < 10 → Two ≡ shape_of k
unfolding shape_of
two k h l = go (dec_lt k 9)
  where
    go : Dec (k < 9) → Two ≡ shape_of k
    go (yes b) = let e : k ≡ 8 = omega arith in rw e refl
    go (no b) = let e : k ≡ 9 = omega arith in rw e refl

pub returns-in-0 : goal.returns-in-0
unfolding shape_of
returns-in-0 c = rw c.in-0.is refl

pub returns-in-0-2 : goal.returns-in-0-2
returns-in-0-2 c = literal c.args.kind (omega arith)

pub returns-in-2 : goal.returns-in-2
unfolding shape_of
returns-in-2 c = rw c.in-2.is refl

pub returns-in-2-2 : goal.returns-in-2-2
returns-in-2-2 c = numbers c.args.kind (omega arith) (λ e. omega arith) (omega arith)

pub returns-in-8 : goal.returns-in-8
returns-in-8 c = two c.args.kind (omega arith) (omega arith)

pub returns-in-17 : goal.returns-in-17
unfolding shape_of
returns-in-17 c = rw c.in-17.is refl

pub returns-in_default : goal.returns-in_default
returns-in_default c = one c.args.kind (omega arith) (λ e. omega arith) (omega arith) (λ e. omega arith) (λ e. omega arith) (λ e. omega arith)

pub returns-in_default-2 : goal.returns-in_default-2
returns-in_default-2 c = one c.args.kind (omega arith) (λ e. omega arith) (omega arith) (λ e. omega arith) (λ e. omega arith) (λ e. omega arith)
