-- Every row of a tree ends a subtree, so that a scan of the rows comes by every node: a rewrite that finds nothing at any row leaves the
-- tree as it is. Assumes nothing.
use mathlib.Core.Path.{◌≡◌, refl, ap, ap₂, ◌∙◌}
use mathlib.Core.Bool.{Bool, true, false}
use mathlib.Core.List.{List, [], ◌∷◌}
use Prim.Native.Nat.{ℕ, zero, suc, ◌+◌, ◌-◌, ◌≤◌, ◌<◌}
use native.Mathlib.Omega.{arith}
use borrow.Author.Tests.{ltb-true, ltb-false}
use lib.Dec.{ltb}
use lib.ListN.{length}
use Rattle.grammar.specs.Basic.{Bytes}
use Rattle.grammar.specs.Tree.{Str, Un, Bin, Expr, E, lit, fixed, skip, un, bin, size}
use Rattle.grammar.specs.Rows.{Span}
use Rattle.grammar.specs.Text.{resolve}
use Rattle.grammar.specs.Steps.{bottom_up, children, top_down_in, top_down}
use Rattle.rows.specs.Rows.{At, AtStrs, Stands}
use Rattle.rows.proofs.Laws.{root, at_un, at_left_lem, at_right_lem, at_strs, at_first, at_others, size_pos}

stands : {w : List ℕ} {i : ℕ} (r : Expr Span) → At w i r → (j : ℕ) → j ≡ i → Stands w j
stands r a j e = rw e (record { tree = r; at = a })

strs_stand : {w : List ℕ} {k : ℕ} (ss : List Span) → AtStrs w k ss → (j : ℕ) → k ≤ j → j < k + length ss → Stands w j
strs_stand [] a j p q = absurd (omega arith)
strs_stand {w} {k} (s ∷ ss) a j p q = go (ltb k j) refl (strs_stand {k = k + 1} ss (at_others a) j)
  where
    go : (b : Bool) → ltb k j ≡ b → (k + 1 ≤ j → j < k + 1 + length ss → Stands w j) → Stands w j
    go true e h = let l : k < j = ltb-true k j e in h (omega arith) (omega arith)
    go false e h = let l : j ≤ k = ltb-false k j e in stands (lit Str s) (at_first a) j (omega arith)

pub rows_stand : {w : List ℕ} {i : ℕ} (r : Expr Span) → At w i r → (j : ℕ) → i < j + size r → j ≤ i → Stands w j
rows_stand (lit k s) a j p q = stands (lit k s) a j (omega arith)
rows_stand (fixed f) a j p q = stands (fixed f) a j (omega arith)
rows_stand {w} {i} (skip ss) a j p q = go (ltb j i) refl
  where
    go : (b : Bool) → ltb j i ≡ b → Stands w j
    go true e = let l : j < i = ltb-true j i e in strs_stand ss (at_strs a) j (omega (arith, (root a).most)) (omega (arith, (root a).most))
    go false e = let l : i ≤ j = ltb-false j i e in stands (skip ss) a j (omega arith)
rows_stand {w} {i} (un u c) a j p q = go (ltb j i) refl (rows_stand {i = i - 1} c (at_un a) j)
  where
    go : (b : Bool) → ltb j i ≡ b → (i - 1 < j + size c → j ≤ i - 1 → Stands w j) → Stands w j
    go true e h = let l : j < i = ltb-true j i e in h (omega arith) (omega arith)
    go false e h = let l : i ≤ j = ltb-false j i e in stands (un u c) a j (omega arith)
rows_stand {w} {i} (bin b x y) a j p q = go (ltb j i) (ltb (i - 1) (j + size y)) refl refl (rows_stand x (at_left_lem a) j) (rows_stand y (at_right_lem a) j)
  where
    go : (c d : Bool) → ltb j i ≡ c → ltb (i - 1) (j + size y) ≡ d → (i - 1 - size y < j + size x → j ≤ i - 1 - size y → Stands w j) → (i - 1 < j + size y → j ≤ i - 1 → Stands w j) → Stands w j
    go false d e f g h = let l : i ≤ j = ltb-false j i e in stands (bin b x y) a j (omega arith)
    go true true e f g h = let l : j < i = ltb-true j i e in h (ltb-true (i - 1) (j + size y) f) (omega arith)
    go true false e f g h = let l : j + size y ≤ i - 1 = ltb-false (i - 1) (j + size y) f in g (omega (arith, size_pos x)) (omega arith)

-- ---- a rewrite of nodes that finds nothing

-- it leaves what stands at n rows up to row i as it is
abbrev pub Idle : (E → E) → Bytes → List ℕ → ℕ → ℕ → Type 0
Idle f t w i n = (j : ℕ) → i < j + n → j ≤ i → (x : Expr Span) → At w j x → f (resolve t x) ≡ resolve t x

module _ (f : E → E) (t : Bytes) {w : List ℕ} where
  here : {i : ℕ} (r : Expr Span) → At w i r → Idle f t w i (size r) → f (resolve t r) ≡ resolve t r
  here {i} r a h = h i (omega (arith, size_pos r)) (omega arith) r a

  under : {i : ℕ} (u : Un) (e : Expr Span) → At w i (un u e) → Idle f t w i (size (un u e)) → Idle f t w (i - 1) (size e)
  under u e a h j p q = let c = root a in let m : 1 ≤ size e = size_pos e in h j (omega (arith, c.most)) (omega (arith, c.most))

  on_left : {i : ℕ} (b : Bin) (l r : Expr Span) → At w i (bin b l r) → Idle f t w i (size (bin b l r)) → Idle f t w (i - 1 - size r) (size l)
  on_left b l r a h j p q = let c = root a in let m : 1 ≤ size l = size_pos l in h j (omega (arith, c.most)) (omega (arith, c.most))

  on_right : {i : ℕ} (b : Bin) (l r : Expr Span) → At w i (bin b l r) → Idle f t w i (size (bin b l r)) → Idle f t w (i - 1) (size r)
  on_right b l r a h j p q = let c = root a in let m : 1 ≤ size l = size_pos l in h j (omega (arith, c.most)) (omega (arith, c.most))

  pub bottom_up_idle : {i : ℕ} (r : Expr Span) → At w i r → Idle f t w i (size r) → bottom_up f (resolve t r) ≡ resolve t r
  bottom_up_idle (lit k s) a h = here (lit k s) a h
  bottom_up_idle (fixed g) a h = here (fixed g) a h
  bottom_up_idle (skip ss) a h = here (skip ss) a h
  bottom_up_idle {i = i} (un u e) a h = ap (λ (x : E). f (un u x)) (bottom_up_idle {i = i - 1} e (at_un a) (under u e a h)) ∙ here (un u e) a h
  bottom_up_idle (bin b l r) a h = ap₂ (λ (x y : E). f (bin b x y)) (bottom_up_idle l (at_left_lem a) (on_left b l r a h)) (bottom_up_idle r (at_right_lem a) (on_right b l r a h)) ∙ here (bin b l r) a h

  in_depth : (n : ℕ) {i : ℕ} (r : Expr Span) → At w i r → Idle f t w i (size r) → top_down_in n f (resolve t r) ≡ resolve t r
  in_depth zero r a h = refl
  in_depth (suc n) (lit k s) a h = ap (children (top_down_in n f)) (here (lit k s) a h)
  in_depth (suc n) (fixed g) a h = ap (children (top_down_in n f)) (here (fixed g) a h)
  in_depth (suc n) (skip ss) a h = ap (children (top_down_in n f)) (here (skip ss) a h)
  in_depth (suc n) (un u e) a h = ap (children (top_down_in n f)) (here (un u e) a h) ∙ ap (un u) (in_depth n e (at_un a) (under u e a h))
  in_depth (suc n) (bin b l r) a h = ap (children (top_down_in n f)) (here (bin b l r) a h) ∙ ap₂ (bin b) (in_depth n l (at_left_lem a) (on_left b l r a h)) (in_depth n r (at_right_lem a) (on_right b l r a h))

  pub top_down_idle : {i : ℕ} (r : Expr Span) → At w i r → Idle f t w i (size r) → top_down f (resolve t r) ≡ resolve t r
  top_down_idle r a h = in_depth (size (resolve t r)) r a h
