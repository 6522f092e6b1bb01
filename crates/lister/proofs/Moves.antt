-- A run of words moved down over itself. Assumes nothing.
use Rattle.std.specs.Prelude.{None, Option, Some}
use mathlib.Core.Path.{◌≡◌, refl, ap, ◌∙◌}
use mathlib.Core.List.{List, [], ◌∷◌, ◌++◌, append_assoc}
use Prim.Native.Nat.{ℕ, suc, ◌+◌, ◌-◌, ◌*◌, ◌≤◌, ◌<◌}
use native.Mathlib.Omega.{arith}
use lib.ListN.{length, get_or, take, drop, set, length-take, length-drop}
use lib.Seq.{sets, get_or-set_other}
use Rattle.grammar.specs.Numbers.{row_width}
use Rattle.grammar.specs.Rows.{row}
use Rattle.writing.specs.declared.Place.{Place}
use Rattle.writing.specs.Writes.{stored, RowAnswer}
use Rattle.writing.proofs.Runs.{copy_more, length_stored, take_stored}
use Rattle.lister.specs.Mends.{Movable, MendedAnswer}

-- a run of stores leaves what is past it
sets_past : (vs l : List ℕ) (i k : ℕ) → i + length vs ≤ k → get_or (sets l i vs) k 0 ≡ get_or l k 0
sets_past [] l i k h = refl
sets_past (v ∷ vs) l i k h = sets_past vs (set l i v) (suc i) k (omega arith) ∙ get_or-set_other l i k v 0 (λ e. omega arith)

past : (o : List ℕ) (to i k : ℕ) (s : List ℕ) → to + i ≤ k → get_or (stored o to (take i s)) k 0 ≡ get_or o k 0
unfolding stored
past o to i k s h = sets_past (take i s) o to k (simp length-take (omega arith))

-- one more word: it is read past all that was stored
pub move_more : (o : List ℕ) (to from i : ℕ) → to ≤ from → from + i < length o
    → set (stored o to (take i (drop from o))) (to + i) (get_or (stored o to (take i (drop from o))) (from + i) 0) ≡ stored o to (take (i + 1) (drop from o))
move_more o to from i h l = rw (past o to i (from + i) (drop from o) (omega arith)) (copy_more o o from to i l)

-- the rows moved, and three rows after them
pub mended : (a : Option Place) (s : Place) (from n m : ℕ) (o o₁ o₂ o₃ o₄ : List ℕ) → Movable from s.rows o
    → o₁ ≡ stored o ((from - 2) * row_width) (take ((s.rows - from) * row_width) (drop (from * row_width) o))
    → o₂ ≡ stored o₁ ((s.rows - 2) * row_width) (row (8, 0, 0) n)
    → o₃ ≡ stored o₂ ((s.rows - 1) * row_width) (row (11, 0, 0) (n + 1))
    → RowAnswer a s (8, 0, 0) m o₃ o₄ → MendedAnswer a s from n m o o₄
mended None s from n m o o₁ o₂ o₃ o₄ h e₁ e₂ e₃ r = r (omega (arith, h.room, ap length e₁, ap length e₂, ap length e₃, length_stored o ((from - 2) * row_width) (take ((s.rows - from) * row_width) (drop (from * row_width) o)), length_stored o₁ ((s.rows - 2) * row_width) (row (8, 0, 0) n), length_stored o₂ ((s.rows - 1) * row_width) (row (11, 0, 0) (n + 1))))
mended (Some a) s from n m o o₁ o₂ o₃ o₄ h e₁ e₂ e₃ r =
    record { rows = r.rows; text = r.text; words = f₄ ∙ rw (f₃, f₂, f₁) (simp append_assoc) }
  where
    c : List ℕ
    c = take ((s.rows - from) * row_width) (drop (from * row_width) o)

    lc : length c ≡ (s.rows - from) * row_width
    lc = simp (length-take, length-drop) (omega (arith, h.room, h.some))

    l₁ : length o₁ ≡ length o
    l₁ = rw e₁ (length_stored o ((from - 2) * row_width) c)

    l₂ : length o₂ ≡ length o
    l₂ = rw e₂ (length_stored o₁ ((s.rows - 2) * row_width) (row (8, 0, 0) n)) ∙ l₁

    l₃ : length o₃ ≡ length o
    l₃ = rw e₃ (length_stored o₂ ((s.rows - 1) * row_width) (row (11, 0, 0) (n + 1))) ∙ l₂

    f₁ : take ((s.rows - 2) * row_width) o₁ ≡ take ((from - 2) * row_width) o ++ c
    f₁ = rw e₁ (take_stored o c ((from - 2) * row_width) ((s.rows - 2) * row_width) (omega (arith, lc, h.before, h.some)) (omega (arith, h.room)))

    f₂ : take ((s.rows - 1) * row_width) o₂ ≡ take ((s.rows - 2) * row_width) o₁ ++ row (8, 0, 0) n
    f₂ = rw e₂ (take_stored o₁ (row (8, 0, 0) n) ((s.rows - 2) * row_width) ((s.rows - 1) * row_width) (omega (arith, h.before, h.some)) (omega (arith, h.room, l₁)))

    f₃ : take (s.rows * row_width) o₃ ≡ take ((s.rows - 1) * row_width) o₂ ++ row (11, 0, 0) (n + 1)
    f₃ = rw e₃ (take_stored o₂ (row (11, 0, 0) (n + 1)) ((s.rows - 1) * row_width) (s.rows * row_width) (omega (arith, h.before, h.some)) (omega (arith, h.room, l₂)))

    f₄ : take (a.rows * row_width) o₄ ≡ take (s.rows * row_width) o₃ ++ row (8, 0, 0) m
    f₄ = rw r.words (take_stored o₃ (row (8, 0, 0) m) (s.rows * row_width) (a.rows * row_width) (omega (arith, r.rows)) (omega (arith, r.rows, h.room, l₃)))
