-- The reason is the first in reading order: every side of a Choice that is read before it reads to a list. Assumes nothing.
use mathlib.Core.Path.{◌≡◌, refl, ◌∙◌}
use mathlib.Core.List.{List, [], ◌∷◌}
use Prim.Native.Nat.{ℕ, ◌-◌}
use Rattle.grammar.specs.Tree.{E, Seq, Choice, lit, fixed, skip, un, bin, size}
use Rattle.explanation.specs.Ends.{Ends, reads, unknown, other, again, first, Look, ends_left, ends_in}

-- the sides of a Choice as they are read, each with its row; an expression that is no Choice is the only one
abbrev pub sides : (at : ℕ) → E → List (ℕ × E)
sides at (lit k s) = (at, lit k s) ∷ []
sides at (fixed f) = (at, fixed f) ∷ []
sides at (skip ss) = (at, skip ss) ∷ []
sides at (un u e) = (at, un u e) ∷ []
sides at (bin Seq l r) = (at, bin Seq l r) ∷ []
sides at (bin Choice l r) = (at - 1 - size r, l) ∷ sides (at - 1) r

-- one of them ends the reading with w, and those before it read to lists
pub data Stops (look : Look) (i : ℕ) (w : Ends) : List (ℕ × E) → Type 0 where
  here : (at : ℕ) (e : E) {rest : List (ℕ × E)} → ends_left look i at e ≡ w → Stops look i w ((at, e) ∷ rest)
  later : (at : ℕ) (e : E) {rest : List (ℕ × E)} → ends_left look i at e ≡ reads → Stops look i w rest → Stops look i w ((at, e) ∷ rest)

pub first_reason : (look : Look) (i at : ℕ) (e : E) (w : Ends) → ends_in look i at e ≡ w → (w ≡ reads → ⊥) → Stops look i w (sides at e)
first_reason look i at (lit k s) w h n = here at (lit k s) h
first_reason look i at (fixed f) w h n = here at (fixed f) h
first_reason look i at (skip ss) w h n = here at (skip ss) h
first_reason look i at (un u e) w h n = here at (un u e) h
first_reason look i at (bin Seq l r) w h n = here at (bin Seq l r) h
first_reason look i at (bin Choice l r) w h n = go (ends_left look i (at - 1 - size r) l) refl h (first_reason look i (at - 1) r w)
  where
    go : (v : Ends) → ends_left look i (at - 1 - size r) l ≡ v → first v (ends_in look i (at - 1) r) ≡ w → (ends_in look i (at - 1) r ≡ w → (w ≡ reads → ⊥) → Stops look i w (sides (at - 1) r)) → Stops look i w ((at - 1 - size r, l) ∷ sides (at - 1) r)
    go reads e f ih = later (at - 1 - size r) l e (ih f n)
    go (unknown j b) e f ih = here (at - 1 - size r) l (e ∙ f)
    go (other j b) e f ih = here (at - 1 - size r) l (e ∙ f)
    go (again j b m o) e f ih = here (at - 1 - size r) l (e ∙ f)
