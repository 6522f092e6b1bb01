-- Words in fours: rules and rows. Assumes nothing.
use mathlib.Core.Path.{◌≡◌, ◌∙◌}
use mathlib.Core.List.{List, ◌∷◌}
use Prim.Native.Nat.{ℕ, ◌+◌, ◌≤◌, ◌<◌}
use native.Mathlib.Numerals.{add-one}
use native.Mathlib.Omega.{arith}
use lib.ListN.{length, get_or, drop}
use lib.Seq.{drop-cons}

drop_next : (w : List ℕ) (j : ℕ) → j < length w → drop j w ≡ get_or w j 0 ∷ drop (j + 1) w
drop_next w j h = rw add-one (drop-cons w j 0 h)

-- the four words from j on, and the words after them
pub four : (w : List ℕ) (j : ℕ) → j + 4 ≤ length w → drop j w ≡ get_or w j 0 ∷ get_or w (j + 1) 0 ∷ get_or w (j + 2) 0 ∷ get_or w (j + 3) 0 ∷ drop (j + 4) w
four w j h =
    let e₂ : j + 1 + 1 ≡ j + 2 = omega arith in
    let e₃ : j + 2 + 1 ≡ j + 3 = omega arith in
    let e₄ : j + 3 + 1 ≡ j + 4 = omega arith in
    drop_next w j (omega arith) ∙ rw (drop_next w (j + 1) (omega arith), e₂, drop_next w (j + 2) (omega arith), e₃, drop_next w (j + 3) (omega arith), e₄)
