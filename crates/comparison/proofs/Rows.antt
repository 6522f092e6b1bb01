-- The first row in which two lists of rows differ. Assumes nothing.
use mathlib.Core.Path.{◌≡◌, refl, sym, ap}
use mathlib.Core.Bool.{Bool, true, false, cond}
use mathlib.Core.List.{List, [], ◌∷◌}
use mathlib.Core.Option.{Option, none, some}
use Prim.Native.Nat.{ℕ, zero, suc, ◌≤◌, ◌<◌}
use native.Mathlib.Omega.{arith}
use lib.ListN.{length, get_or}
use Rattle.grammar.specs.Tree.{E}
use Rattle.grammar.proofs.Logic.{none_some, some_eq, holds_yes, holds_of}
use Rattle.rows.specs.Rows.{Cell, cells}
use Rattle.rows.proofs.Cells.{cells_inj}
use Rattle.comparison.specs.Compare.{cell_discrete, same_cell, later, first_unlike}

pub same_cell_lem : (c d : Cell) → c ≡ d → same_cell c d ≡ true
unfolding same_cell
same_cell_lem c d e = holds_of (cell_discrete c d) e

pub cell_same : (c d : Cell) → same_cell c d ≡ true → c ≡ d
unfolding same_cell
cell_same c d e = holds_yes (cell_discrete c d) e

pub other_cell : (c d : Cell) → (c ≡ d → ⊥) → same_cell c d ≡ false
other_cell c d h = go (same_cell c d) refl
  where
    go : (b : Bool) → same_cell c d ≡ b → b ≡ false
    go true e = absurd (h (cell_same c d e))
    go false e = refl

-- the lists agree before place k, and differ or end there; not both end
pub record Parts (cs ds : List Cell) (k : ℕ) : Type 0 where
  pub left : k ≤ length cs
  pub right : k ≤ length ds
  pub same : (j : ℕ) → j < k → (d : Cell) → get_or cs j d ≡ get_or ds j d
  pub apart : k < length cs → k < length ds → (d : Cell) → get_or cs k d ≡ get_or ds k d → ⊥
  pub ends : k ≡ length cs → k ≡ length ds → ⊥

pub parts_first : (cs ds : List Cell) (k : ℕ) → Parts cs ds k → first_unlike cs ds ≡ some k
unfolding first_unlike
parts_first [] [] zero p = absurd (p.ends refl refl)
parts_first [] (d ∷ ds) zero p = refl
parts_first (c ∷ cs) [] zero p = refl
parts_first (c ∷ cs) (d ∷ ds) zero p = rw (other_cell c d (λ e. p.apart (omega arith) (omega arith) c e))
parts_first [] ds (suc k) p = absurd (omega (arith, p.left))
parts_first (c ∷ cs) [] (suc k) p = absurd (omega (arith, p.right))
parts_first (c ∷ cs) (d ∷ ds) (suc k) p =
    let q : Parts cs ds k = record { left = omega (arith, p.left); right = omega (arith, p.right); same = λ j l x. p.same (suc j) (omega arith) x; apart = λ a b x. p.apart (omega arith) (omega arith) x; ends = λ a b. p.ends (omega arith) (omega arith) } in
    rw (same_cell_lem c d (p.same 0 (omega arith) c), parts_first cs ds k q)

pub same_none : (cs ds : List Cell) → cs ≡ ds → first_unlike cs ds ≡ none
unfolding first_unlike
same_none cs ds e = rw e (self ds)
  where
    self : (l : List Cell) → first_unlike l l ≡ none
    self [] = refl
    self (c ∷ l) = rw (same_cell_lem c c refl, self l)

pub none_same : (cs ds : List Cell) → first_unlike cs ds ≡ none → cs ≡ ds
unfolding first_unlike
none_same [] [] h = refl
none_same [] (d ∷ ds) h = none_some (sym h)
none_same (c ∷ cs) [] h = none_some (sym h)
none_same (c ∷ cs) (d ∷ ds) h = go (same_cell c d) refl (first_unlike cs ds) refl (none_same cs ds) h
  where
    go : (b : Bool) → same_cell c d ≡ b → (o : Option ℕ) → first_unlike cs ds ≡ o → (first_unlike cs ds ≡ none → cs ≡ ds) → cond b (later o) (some 0) ≡ none → (c ∷ cs) ≡ (d ∷ ds)
    go true e none f ih h = let p : c ≡ d = cell_same c d e in let q : cs ≡ ds = ih f in cc
    go true e (some k) f ih h = none_some (sym h)
    go false e o f ih h = none_some (sym h)

-- it lies in the first, or just after it
pub first_most : (cs ds : List Cell) (k : ℕ) → first_unlike cs ds ≡ some k → k ≤ length cs
unfolding first_unlike
first_most [] [] k h = none_some h
first_most [] (d ∷ ds) k h = omega (arith, some_eq 0 k h)
first_most (c ∷ cs) [] k h = omega (arith, some_eq 0 k h)
first_most (c ∷ cs) (d ∷ ds) k h = go (same_cell c d) (first_unlike cs ds) (first_most cs ds) h
  where
    go : (b : Bool) (o : Option ℕ) → ((m : ℕ) → o ≡ some m → m ≤ length cs) → cond b (later o) (some 0) ≡ some k → k ≤ suc (length cs)
    go true none ih h = none_some h
    go true (some m) ih h = omega (arith, some_eq (suc m) k h, ih m refl)
    go false o ih h = omega (arith, some_eq 0 k h)

-- of trees
pub trees_none : (a b : E) → a ≡ b → first_unlike (cells a) (cells b) ≡ none
trees_none a b e = same_none (cells a) (cells b) (ap cells e)

pub none_trees : (a b : E) → first_unlike (cells a) (cells b) ≡ none → a ≡ b
none_trees a b h = cells_inj a b (none_same (cells a) (cells b) h)
