-- A tree's literals lie in the text. Assumes nothing.
use mathlib.Core.Path.{◌≡◌, refl, sym, ap, subst, ◌∙◌}
use mathlib.Core.Bool.{Bool, true, false}
use mathlib.Core.List.{List, [], ◌∷◌}
use Prim.Native.Nat.{ℕ, ◌+◌, ◌-◌, ◌≤◌, ◌<◌}
use native.Mathlib.Omega.{arith}
use borrow.Author.Tests.{ltb-true, ltb-false}
use lib.Dec.{ltb}
use lib.ListN.{length}
use Rattle.grammar.specs.Tree as tree
use Rattle.grammar.specs.Tree.{Str, Expr, lit, fixed, skip, un, bin, size}
use Rattle.grammar.specs.Rows.{Span}
use Rattle.rows.specs.declared.Shape.TheVariants.{Lit, Num, One, Two, Skips}
use Rattle.rows.specs.Rows.{At, AtStrs, Stands, StandsIn, shape_of, LitInside, Inside, AllWithin, Within}
use Rattle.rows.proofs.Laws.{root, root_found, at_un, at_left_lem, at_right_lem, at_strs, at_first, at_others, size_pos}
use Rattle.rows.proofs.Cells.{in_text, lit_shape}
use Rattle.rows.proofs.Views.{shape_in, shape_in_lem}

-- of a table whose literals all do
strs_within : (n : ℕ) {w : List ℕ} {j : ℕ} (ss : List Span) → Inside w n → AtStrs w j ss → AllWithin n ss
strs_within n [] ins a = tt
strs_within n {j = j} (s ∷ ss) ins a = (in_text n ins (root_found (at_first a)) (lit_shape Str), strs_within n {j = j + 1} ss ins (at_others a))

pub inside_within : (n : ℕ) {w : List ℕ} {i : ℕ} (r : Expr Span) → Inside w n → At w i r → Within n r
inside_within n (lit k s) ins a = in_text n ins (root_found a) (lit_shape k)
inside_within n (fixed f) ins a = tt
inside_within n (skip ss) ins a = strs_within n ss ins (at_strs a)
inside_within n {i = i} (un u e) ins a = inside_within n {i = i - 1} e ins (at_un a)
inside_within n (bin b l r) ins a = (inside_within n l ins (at_left_lem a), inside_within n r ins (at_right_lem a))

pub stands_in : (n : ℕ) {w : List ℕ} {i : ℕ} → Inside w n → Stands w i → StandsIn w i n
stands_in n ins s = record { tree = s.tree; at = s.at; within = inside_within n s.tree ins s.at }

-- and so do those of its rows
lit_there : (n : ℕ) {w : List ℕ} {i : ℕ} (k : tree.Lit) (s : Span) → At w i (lit k s) → s.0 + s.1 ≤ n → LitInside w n i
lit_there n k s a v = λ _. rw ((root a).x, (root a).y) v

other_there : (n : ℕ) {w : List ℕ} {i : ℕ} (r : Expr Span) → At w i r → (shape_in r ≡ Lit → ⊥) → LitInside w n i
other_there n r a h = λ s. absurd (h (sym (shape_in_lem r) ∙ ap shape_of (sym (root a).kind) ∙ s))

num_lit : Num ≡ Lit → ⊥
num_lit e = let z : ◌≡◌ {A = ℕ} 0 1 = cc in omega arith

one_lit : One ≡ Lit → ⊥
one_lit e = let z : ◌≡◌ {A = ℕ} 0 1 = cc in omega arith

two_lit : Two ≡ Lit → ⊥
two_lit e = let z : ◌≡◌ {A = ℕ} 0 1 = cc in omega arith

skips_lit : Skips ≡ Lit → ⊥
skips_lit e = let z : ◌≡◌ {A = ℕ} 0 1 = cc in omega arith

-- a row below m, or not
below_or : {A : Type 0} (k m : ℕ) → (k < m → A) → (m ≤ k → A) → A
below_or {A} k m f g = go (ltb k m) refl
  where
    go : (b : Bool) → ltb k m ≡ b → A
    go true e = f (ltb-true k m e)
    go false e = g (ltb-false k m e)

strs_rows : (n : ℕ) {w : List ℕ} {j : ℕ} (ss : List Span) → AtStrs w j ss → AllWithin n ss → (k : ℕ) → j ≤ k → k < j + length ss → LitInside w n k
strs_rows n [] a v k lo hi = absurd (omega arith)
strs_rows n {w} {j} (s ∷ ss) a v k lo hi =
    below_or k (j + 1)
    (λ l. let e : j ≡ k = omega arith in subst (λ (m : ℕ). LitInside w n m) e (lit_there n Str s (at_first a) v.0))
    (λ l. strs_rows n {j = j + 1} ss (at_others a) v.1 k l (omega arith))

pub within_rows : (n : ℕ) {w : List ℕ} {i : ℕ} (r : Expr Span) → At w i r → Within n r → (j k : ℕ) → i + 1 ≡ j + size r → j ≤ k → k ≤ i → LitInside w n k
within_rows n {w} {i} (lit c s) a v j k h lo hi = let e : i ≡ k = omega arith in subst (λ (m : ℕ). LitInside w n m) e (lit_there n c s a v)
within_rows n {w} {i} (fixed f) a v j k h lo hi = let e : i ≡ k = omega arith in subst (λ (m : ℕ). LitInside w n m) e (other_there n (fixed f) a num_lit)
within_rows n {w} {i} (skip ss) a v j k h lo hi =
    below_or k i
    (λ l. strs_rows n ss (at_strs a) v k (omega arith) (omega arith))
    (λ l. let e : i ≡ k = omega arith in subst (λ (m : ℕ). LitInside w n m) e (other_there n (skip ss) a skips_lit))
within_rows n {w} {i} (un u c) a v j k h lo hi =
    below_or k i
    (λ l. within_rows n {i = i - 1} c (at_un a) v j k (omega (arith, size_pos c)) lo (omega arith))
    (λ l. let e : i ≡ k = omega arith in subst (λ (m : ℕ). LitInside w n m) e (other_there n (un u c) a one_lit))
within_rows n {w} {i} (bin b l r) a v j k h lo hi =
    below_or k (j + size l)
    (λ d. within_rows n l (at_left_lem a) v.0 j k (omega (arith, size_pos l)) lo (omega arith))
    (λ d. below_or k i
    (λ f. within_rows n r (at_right_lem a) v.1 (j + size l) k (omega (arith, size_pos r)) d (omega arith))
    (λ f. let e : i ≡ k = omega arith in subst (λ (m : ℕ). LitInside w n m) e (other_there n (bin b l r) a two_lit)))

pub within_run : (m n : ℕ) {w : List ℕ} {i : ℕ} {r : Expr Span} → At w i r → Within m r → n ≡ size r → (k : ℕ) → k < n → LitInside w m (i + 1 - n + k)
within_run m n {w} {i} {r} a v e k l =
    let t = root a in
    within_rows m r a v (i + 1 - n) (i + 1 - n + k) (omega arith) (omega arith) (omega arith)
