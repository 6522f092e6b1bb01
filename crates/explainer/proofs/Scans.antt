-- A scan of a tree's rows for a Seq with a Seq on its left, or a Choice with a Choice: a row has one exactly where a node does. Assumes nothing.
use mathlib.Core.Path.{◌≡◌, refl, sym, ap, ap₂, ◌∙◌}
use mathlib.Core.Bool.{false≢true, Bool, true, false, ◌||◌}
use mathlib.Core.List.{List, [], ◌∷◌}
use Prim.Native.Nat.{ℕ, ◌+◌, ◌-◌, ◌/◌, ◌≤◌, ◌<◌}
use native.Mathlib.Decide.{dec_le}
use native.Mathlib.Omega.{arith}
use borrow.Author.Tests.{ne_eqb}
use lib.Dec.{eqb}
use lib.ListN.{length}
use Rattle.grammar.specs.Numbers.{k_pair}
use Rattle.grammar.specs.Basic.{Bytes}
use Rattle.grammar.specs.Tree.{Str, Bin, Seq, Choice, Expr, lit, fixed, skip, un, bin, bin_kind, size, any_node}
use Rattle.grammar.specs.Rows.{Span}
use Rattle.grammar.specs.Text.{resolve}
use Rattle.grammar.proofs.Logic.{or_left, or_right}
use Rattle.rows.specs.declared.Shape.TheVariants.{Two}
use Rattle.rows.specs.Rows.{kind_at, size_at, At, AtStrs, Stands, shape_of}
use Rattle.rows.proofs.Laws.{head_of, root, at_un, at_left_lem, at_right_lem, at_strs, at_first, at_others}
use Rattle.rows.proofs.Cells.{bin_shape}
use Rattle.rows.proofs.Views.{TwoView, shape_in, shape_in_lem, not_pair, at_unique}
use Rattle.scans.proofs.Laws.{rows_stand}
use Rattle.explanation.proofs.Nests.{is_bin, nests_at}

-- ---- one row

-- a row of another shape has not the kind of a pair
not_kind : (b : Bin) (l : Expr Span) → (shape_in l ≡ Two → ⊥) → eqb (head_of l).0 (bin_kind b) ≡ false
not_kind b l h = ne_eqb _ _ (λ e. h (sym (shape_in_lem l) ∙ ap shape_of e ∙ bin_shape b))

-- a tree's kind tells whether it is a node b
pub kind_tells : (t : Bytes) (b : Bin) (l : Expr Span) → eqb (head_of l).0 (bin_kind b) ≡ is_bin b (resolve t l)
kind_tells t b (lit k s) = not_kind b (lit k s) (λ e. let z : ◌≡◌ {A = ℕ} 0 1 = cc in omega arith)
kind_tells t b (fixed f) = not_kind b (fixed f) (λ e. let z : ◌≡◌ {A = ℕ} 0 1 = cc in omega arith)
kind_tells t b (skip ss) = not_kind b (skip ss) (λ e. let z : ◌≡◌ {A = ℕ} 0 1 = cc in omega arith)
kind_tells t b (un u e) = not_kind b (un u e) (λ h. let z : ◌≡◌ {A = ℕ} 0 1 = cc in omega arith)
kind_tells t Seq (bin Seq l r) = refl
kind_tells t Seq (bin Choice l r) = refl
kind_tells t Choice (bin Seq l r) = refl
kind_tells t Choice (bin Choice l r) = refl

module _ (t : Bytes) {w : List ℕ} {i : ℕ} where
  -- a row without two sides does not nest
  pub lone_flat : (r : Expr Span) → At w i r → (kind_at w i / 2 ≡ k_pair → ⊥) → nests_at (resolve t r) ≡ false
  lone_flat (lit k s) a h = refl
  lone_flat (fixed f) a h = refl
  lone_flat (skip ss) a h = refl
  lone_flat (un u e) a h = refl
  lone_flat (bin b l r) a h = absurd (not_pair a h refl)

  -- one with two sides nests where the left one has its kind
  pub pair_nests : {l k x y n : ℕ} {r : Expr Span} (v : TwoView w i k x y n r) → At w l v.left → eqb (kind_at w l) k ≡ nests_at (resolve t r)
  pair_nests v a = rw (v.is, (root a).kind, v.kind) (kind_tells t v.op v.left)

-- ---- the rows of a tree

abbrev any_nests : Bytes → Expr Span → Bool
any_nests t e = any_node nests_at (resolve t e)

module _ (t : Bytes) {w : List ℕ} where
  -- no row nests, so no node does
  pub rows_flat : {i : ℕ} (r : Expr Span) → At w i r → ((j : ℕ) (q : Expr Span) → i < j + size r → j ≤ i → At w j q → nests_at (resolve t q) ≡ false) → any_node nests_at (resolve t r) ≡ false
  rows_flat {i} (lit k s) a h = h i (lit k s) (omega arith) (omega arith) a
  rows_flat {i} (fixed f) a h = h i (fixed f) (omega arith) (omega arith) a
  rows_flat {i} (skip ss) a h = h i (skip ss) (omega arith) (omega arith) a
  rows_flat {i} (un u e) a h =
      let b = (root (at_un a)).least in
      let c = (root a).most in
      ap₂ ◌||◌ (h i (un u e) (omega arith) (omega arith) a) (rows_flat {i = i - 1} e (at_un a) (λ j q l n z. h j q (omega arith) (omega arith) z))
  rows_flat {i} (bin b l r) a h =
      let x = (root (at_left_lem a)).least in
      let y = (root (at_right_lem a)).least in
      let c = (root a).most in
      ap₂ ◌||◌ (h i (bin b l r) (omega arith) (omega arith) a)
      (ap₂ ◌||◌ (rows_flat l (at_left_lem a) (λ j q k n z. h j q (omega arith) (omega arith) z)) (rows_flat r (at_right_lem a) (λ j q k n z. h j q (omega arith) (omega arith) z)))

  -- the root's row: one tree stands there
  root_nests : {i : ℕ} (r q : Expr Span) → At w i r → (j : ℕ) → j ≡ i → At w j q → nests_at (resolve t q) ≡ true → nests_at (resolve t r) ≡ true
  root_nests r q a j e b n = let z : q ≡ r = at_unique q r (rw e at b) a in rw (← z) n

  -- the row of a string does not nest
  strs_flat : {k : ℕ} (ss : List Span) → AtStrs w k ss → (j : ℕ) → k ≤ j → j < k + length ss → (q : Expr Span) → At w j q → nests_at (resolve t q) ≡ true → ⊥
  strs_flat [] a j l h q b n = omega arith
  strs_flat {k} (s ∷ ss) a j l h q b n = go (dec_le j k) (λ z. strs_flat {k = k + 1} ss (at_others a) j z (omega arith) q b n)
    where
      go : Dec (j ≤ k) → (k + 1 ≤ j → ⊥) → ⊥
      go (yes e) f = false≢true (root_nests (lit Str s) q (at_first a) j (omega arith) b n)
      go (no e) f = f (omega arith)

  -- a row that nests is a node that does
  row_nests : {i : ℕ} (r : Expr Span) → At w i r → (j : ℕ) → i < j + size r → j ≤ i → (q : Expr Span) → At w j q → nests_at (resolve t q) ≡ true → any_node nests_at (resolve t r) ≡ true
  row_nests (lit k s) a j h l q b n = root_nests (lit k s) q a j (omega arith) b n
  row_nests (fixed f) a j h l q b n = root_nests (fixed f) q a j (omega arith) b n
  row_nests {i} (skip ss) a j h l q b n = go (dec_le i j)
    where
      go : Dec (i ≤ j) → false ≡ true
      go (yes e) = root_nests (skip ss) q a j (omega arith) b n
      go (no e) = absurd (strs_flat ss (at_strs a) j (omega (arith, (root a).most)) (omega (arith, (root a).most)) q b n)
  row_nests {i} (un u e) a j h l q b n =
      go (dec_le i j) (λ z. row_nests {i = i - 1} e (at_un a) j (omega (arith, (root a).most)) (omega arith) q b n)
    where
      go : Dec (i ≤ j) → (j < i → any_node nests_at (resolve t e) ≡ true) → any_node nests_at (resolve t (un u e)) ≡ true
      go (yes z) f = or_left _ _ (root_nests (un u e) q a j (omega arith) b n)
      go (no z) f = or_right false _ (f (omega arith))
  row_nests {i} (bin b x y) a j h l q c n =
      go (dec_le i j) (dec_le i (j + size y))
      (λ z k. row_nests y (at_right_lem a) j (omega (arith, (root (at_left_lem a)).least)) (omega arith) q c n)
      (λ z. row_nests x (at_left_lem a) j (omega (arith, (root (at_left_lem a)).least)) (omega arith) q c n)
    where
      go : Dec (i ≤ j) → Dec (i ≤ j + size y) → (j < i → i ≤ j + size y → any_nests t y ≡ true) → (j + size y < i → any_nests t x ≡ true) → any_nests t (bin b x y) ≡ true
      go (yes z) d f g = or_left (nests_at (resolve t (bin b x y))) (any_nests t x || any_nests t y) (root_nests (bin b x y) q a j (omega arith) c n)
      go (no z) (yes d) f g = or_right (nests_at (resolve t (bin b x y))) (any_nests t x || any_nests t y) (or_right (any_nests t x) (any_nests t y) (f (omega arith) d))
      go (no z) (no d) f g = or_right (nests_at (resolve t (bin b x y))) (any_nests t x || any_nests t y) (or_left (any_nests t x) (any_nests t y) (g (omega arith)))

-- ---- the scan

-- of the rows from `from` to i none nests
abbrev pub FlatRows : List ℕ → (from i : ℕ) → Type 0
FlatRows w from i = (t : Bytes) (j : ℕ) (q : Expr Span) → from ≤ j → j < i → At w j q → nests_at (resolve t q) ≡ false

pub flat_none : {w : List ℕ} (from : ℕ) → FlatRows w from from
flat_none from t j q l h = absurd (omega arith)

pub flat_more : {w : List ℕ} {from i : ℕ} → FlatRows w from i → ((t : Bytes) (q : Expr Span) → At w i q → nests_at (resolve t q) ≡ false) → FlatRows w from (i + 1)
flat_more {w} {from} {i} f g t j q l h a = go (dec_le i j)
  where
    go : Dec (i ≤ j) → nests_at (resolve t q) ≡ false
    go (yes e) = let z : j ≡ i = omega arith in g t q (rw z at a)
    go (no e) = f t j q l (omega arith) a

-- the first row of a tree, by the size that stands at its root
pub first_row : {w : List ℕ} {i : ℕ} {r : Expr Span} (n : ℕ) → n ≡ size_at w i → At w i r → i + 1 - n + size r ≡ i + 1
first_row n e a = omega (arith, (root a).rows, (root a).most)

-- row j of a tree of n rows, whose root is row i
module _ {w : List ℕ} {i n j : ℕ} (e : n ≡ size_at w i) (l : i + 1 - n ≤ j) (h : j < i + 1) where
  pub row_there : Stands w i → Stands w j
  row_there s = rows_stand s.tree s.at j (omega (arith, l, first_row n e s.at)) (omega (arith, h))

  pub row_tells : (s : Stands w i) (t : Bytes) (r : Expr Span) → At w i r → ((z : Stands w j) → nests_at (resolve t z.tree) ≡ true) → true ≡ any_node nests_at (resolve t r)
  row_tells s t r a q = sym (row_nests t r a j (omega (arith, l, first_row n e a)) (omega (arith, h)) (row_there s).tree (row_there s).at (q (row_there s)))

pub flat_all : {w : List ℕ} {from i end : ℕ} (t : Bytes) (r : Expr Span) → At w i r → from + size r ≡ i + 1 → i + 1 ≤ end → FlatRows w from end → any_node nests_at (resolve t r) ≡ false
flat_all t r a e l f = rows_flat t r a (λ j q h n b. f t j q (omega arith) (omega arith) b)
