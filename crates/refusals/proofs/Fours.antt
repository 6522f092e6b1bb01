-- Words in fours: rules and rows. Assumes nothing.
use mathlib.Core.Path.{◌≡◌, refl, sym, ap, ◌∙◌}
use mathlib.Core.Bool.{false≢true, Bool, true, false, ◌||◌}
use mathlib.Core.List.{List, [], ◌∷◌}
use Prim.Native.Nat.{ℕ, zero, suc, ◌+◌, ◌*◌, ◌≤◌, ◌<◌}
use native.Mathlib.Omega.{arith}
use lib.ListN.{length, get_or, drop, length-drop}
use Rattle.grammar.specs.Numbers.{row_width}
use Rattle.rows.proofs.Fours.{four}
use Rattle.refusals.specs.Bytes.{any_four}

-- neither of two tests passes
pub neither_left : (a b : Bool) → (a || b) ≡ false → a ≡ false
neither_left true b h = h
neither_left false b h = refl

pub neither_right : (a b : Bool) → (a || b) ≡ false → b ≡ false
neither_right true b h = absurd (false≢true (sym h))
neither_right false b h = h

-- ---- a test asked of each four words

module _ (p : ℕ → ℕ → ℕ → Bool) where
  -- the words from row i on: row i, or the words after it
  pub any_step : (w : List ℕ) (i : ℕ) → i * row_width + row_width ≤ length w → any_four p (drop (i * row_width) w) ≡ (p (get_or w (i * row_width) 0) (get_or w (i * row_width + 1) 0) (get_or w (i * row_width + 2) 0) || any_four p (drop ((i + 1) * row_width) w))
  any_step w i h = let e : i * row_width + row_width ≡ (i + 1) * row_width = omega arith in ap (any_four p) (four w (i * row_width) h) ∙ ap (λ (n : ℕ). p (get_or w (i * row_width) 0) (get_or w (i * row_width + 1) 0) (get_or w (i * row_width + 2) 0) || any_four p (drop n w)) e

  pub any_end : (w : List ℕ) (i : ℕ) → length w ≤ i * row_width + 3 → any_four p (drop (i * row_width) w) ≡ false
  any_end w i h = short (drop (i * row_width) w) (omega (arith, length-drop (i * row_width) w))
    where
      short : (v : List ℕ) → length v ≤ 3 → any_four p v ≡ false
      short [] l = refl
      short (a ∷ []) l = refl
      short (a ∷ b ∷ []) l = refl
      short (a ∷ b ∷ c ∷ []) l = refl
      short (a ∷ b ∷ c ∷ d ∷ v) l = absurd (omega arith)

  -- where none passes, row i does not
  pub none_pass : (n : ℕ) (w : List ℕ) → length w ≡ n * row_width → any_four p w ≡ false → (i : ℕ) → i < n → p (get_or w (i * row_width) 0) (get_or w (i * row_width + 1) 0) (get_or w (i * row_width + 2) 0) ≡ false
  none_pass zero w l h i k = absurd (omega arith)
  none_pass (suc n) [] l h i k = absurd (omega arith)
  none_pass (suc n) (a ∷ []) l h i k = absurd (omega arith)
  none_pass (suc n) (a ∷ b ∷ []) l h i k = absurd (omega arith)
  none_pass (suc n) (a ∷ b ∷ c ∷ []) l h i k = absurd (omega arith)
  none_pass (suc n) (a ∷ b ∷ c ∷ d ∷ w) l h zero k = neither_left (p a b c) (any_four p w) h
  none_pass (suc n) (a ∷ b ∷ c ∷ d ∷ w) l h (suc i) k =
      let e : suc i * row_width ≡ suc (suc (suc (suc (i * row_width)))) = omega arith in
      let e₁ : suc i * row_width + 1 ≡ suc (suc (suc (suc (i * row_width + 1)))) = omega arith in
      let e₂ : suc i * row_width + 2 ≡ suc (suc (suc (suc (i * row_width + 2)))) = omega arith in
      rw (e₁, e₂, e) (none_pass n w (omega arith) (neither_right (p a b c) (any_four p w) h) i (omega arith))

  -- a walk over the rows: row i passes; it does not; there are no more
  module _ (w : List ℕ) (i : ℕ) (so_far : any_four p w ≡ any_four p (drop (i * row_width) w)) where
    pub any_found : (r : Bool) → i * row_width + row_width ≤ length w → r ≡ p (get_or w (i * row_width) 0) (get_or w (i * row_width + 1) 0) (get_or w (i * row_width + 2) 0) → r ≡ true → true ≡ any_four p w
    any_found r h e t = sym (so_far ∙ any_step w i h ∙ ap (λ (b : Bool). b || any_four p (drop ((i + 1) * row_width) w)) (sym e ∙ t))

    pub any_passed : (r : Bool) → i * row_width + row_width ≤ length w → r ≡ p (get_or w (i * row_width) 0) (get_or w (i * row_width + 1) 0) (get_or w (i * row_width + 2) 0) → r ≡ false → any_four p w ≡ any_four p (drop ((i + 1) * row_width) w)
    any_passed r h e t = so_far ∙ any_step w i h ∙ ap (λ (b : Bool). b || any_four p (drop ((i + 1) * row_width) w)) (sym e ∙ t)

    pub any_done : length w ≤ i * row_width + 3 → false ≡ any_four p w
    any_done h = sym (so_far ∙ any_end w i h)
