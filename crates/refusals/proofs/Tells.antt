-- What the tests of one row tell. Assumes nothing.
use mathlib.Core.Path.{◌≡◌}
use mathlib.Core.List.{List}
use Prim.Native.Nat.{ℕ, ◌+◌, ◌-◌, ◌*◌, ◌≤◌, ◌<◌}
use native.Mathlib.Omega.{arith}
use lib.Dec.{eqb}
use lib.ListN.{get_or}
use Rattle.grammar.specs.Numbers.{row_width}
use Rattle.rows.specs.Rows.{size_at, Tells}
use Rattle.rows.proofs.Cells.{tells_iff, tells_eqb}
use Rattle.refusals.specs.Local.{OneFits, TwoFits}

pub one_tells : (w : List ℕ) (i n : ℕ) → (i ≡ 0 → ⊥) → Tells (eqb n (get_or w ((i - 1) * row_width + 3) 0 + 1)) (OneFits w i n)
unfolding size_at
one_tells w i n h = tells_iff (eqb n (get_or w ((i - 1) * row_width + 3) 0 + 1)) (λ q. record { there = omega arith; sum = q }) (λ f. f.sum) (tells_eqb n _)

pub two_no : (w : List ℕ) (i n : ℕ) → i ≤ get_or w ((i - 1) * row_width + 3) 0 → TwoFits w i n → ⊥
unfolding size_at
two_no w i n h f = let t : get_or w ((i - 1) * row_width + 3) 0 < i = f.there in omega arith

pub two_tells : (w : List ℕ) (i n : ℕ) → let s = get_or w ((i - 1) * row_width + 3) 0 in s < i → Tells (eqb n (get_or w ((i - 1 - s) * row_width + 3) 0 + s + 1)) (TwoFits w i n)
unfolding size_at
two_tells w i n h =
    let s : ℕ = get_or w ((i - 1) * row_width + 3) 0 in
    tells_iff (eqb n (get_or w ((i - 1 - s) * row_width + 3) 0 + s + 1)) (λ p. record { there = h; sum = p }) (λ f. f.sum) (tells_eqb n _)
