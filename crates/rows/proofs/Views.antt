-- What a row that was read at a tree's root says of the tree: by the shape of its kind, by its kind, and by the views of trees. Assumes nothing.
use mathlib.Core.Path.{◌≡◌, refl, sym, ap, ◌∙◌}
use mathlib.Core.Bool.{Bool, true, false}
use mathlib.Core.List.{List, [], ◌∷◌}
use mathlib.Core.Option.{none, some}
use Prim.Native.Nat.{ℕ, ◌+◌, ◌-◌, ◌/◌, ◌≤◌}
use native.Mathlib.Omega.{arith}
use borrow.Author.Tests.{eq-eqb, ne_eqb, eqb-true, eqb-false}
use lib.Dec.{eqb}
use lib.ListN.{length}
use Rattle.grammar.specs.Numbers.{k_pair}
use Rattle.grammar.specs.Basic.{Bytes}
use Rattle.grammar.specs.Tree as tree
use Rattle.grammar.specs.Tree.{Fixed, Un, Bin, Seq, Choice, Expr, lit, fixed, skip, un, bin, lit_kind, fixed_head, un_head, bin_kind, size, lit_at, un_at, bin_at}
use Rattle.grammar.specs.Rows.{Span}
use Rattle.grammar.specs.Text.{bytes_at, resolve}
use Rattle.rows.specs.declared.Shape.{Shape}
use Rattle.rows.specs.declared.Shape.TheVariants.{Lit, Num, One, Two, Skips}
use Rattle.rows.specs.Rows.{kind_at, x_at, y_at, size_at, At, AtStrs, shape_of}
use Rattle.rows.proofs.Laws.{head_of, root, Found, found_row, root_found, found_size, at_un, at_left_lem, at_right_lem, at_strs, at_first, at_others, size_pos}
use Rattle.rows.proofs.Cells.{lit_shape, fixed_shape, un_shape, bin_shape, skip_shape, lit_same, fixed_same, un_same, bin_same}

-- ---- by shape: the row k, x, y, n was read at the root of r, at row i of w

pub record LitView (k x y n : ℕ) (r : Expr Span) : Type 0 where
  pub op : tree.Lit
  pub is : r ≡ lit op (x, y)
  pub kind : k ≡ lit_kind op
  pub rows : n ≡ 1

pub record NumView (k x y n : ℕ) (r : Expr Span) : Type 0 where
  pub op : Fixed
  pub is : r ≡ fixed op
  pub head : (k, x, y) ≡ fixed_head op
  pub rows : n ≡ 1

pub record OneView (w : List ℕ) (i k x y n : ℕ) (r : Expr Span) : Type 0 where
  pub op : Un
  pub child : Expr Span
  pub is : r ≡ un op child
  pub head : (k, x, y) ≡ un_head op
  pub rows : n ≡ size child + 1
  pub least : 1 ≤ size child
  pub most : size child ≤ i
  pub at : At w (i - 1) child

pub record TwoView (w : List ℕ) (i k x y n : ℕ) (r : Expr Span) : Type 0 where
  pub op : Bin
  pub left : Expr Span
  pub right : Expr Span
  pub is : r ≡ bin op left right
  pub head : ◌≡◌ {A = tree.Head} (k, x, y) (bin_kind op, 0, 0)
  pub kind : k ≡ bin_kind op
  pub rows : n ≡ size left + size right + 1
  pub least_left : 1 ≤ size left
  pub least_right : 1 ≤ size right
  pub most : size left + size right ≤ i
  pub at_left : At w (i - 1 - size right) left
  pub at_right : At w (i - 1) right

pub record SkipView (w : List ℕ) (i k x y n : ℕ) (r : Expr Span) : Type 0 where
  pub strings : List Span
  pub is : r ≡ skip strings
  pub head : ◌≡◌ {A = tree.Head} (k, x, y) (17, length strings, 0)
  pub kind : k ≡ 17
  pub count : x ≡ length strings
  pub rows : n ≡ length strings + 1
  pub most : length strings ≤ i
  pub at : AtStrs w (i - length strings) strings

-- the shape of a tree, and that the row that was read has it
abbrev pub shape_in : Expr Span → Shape
shape_in (lit k s) = Lit
shape_in (fixed f) = Num
shape_in (skip ss) = Skips
shape_in (un u e) = One
shape_in (bin b l r) = Two

pub shape_in_lem : (r : Expr Span) → shape_of (head_of r).0 ≡ shape_in r
shape_in_lem (lit k s) = lit_shape k
shape_in_lem (fixed f) = fixed_shape f
shape_in_lem (skip ss) = skip_shape
shape_in_lem (un u e) = un_shape u
shape_in_lem (bin b l r) = bin_shape b

module _ {w : List ℕ} {i k x y n : ℕ} where
  pub found_head : {r : Expr Span} → Found w i k x y n → At w i r → (k, x, y) ≡ head_of r
  found_head {r} f a = let t = root a in let p : k ≡ (head_of r).0 = sym f.kind ∙ t.kind in let q : x ≡ (head_of r).1 = sym f.x ∙ t.x in let s : y ≡ (head_of r).2 = sym f.y ∙ t.y in rw (p, q, s)

  pub found_shape : {r : Expr Span} {s : Shape} → Found w i k x y n → At w i r → shape_of k ≡ s → shape_in r ≡ s
  found_shape {r} f a h = sym (shape_in_lem r) ∙ ap shape_of (sym (root a).kind ∙ f.kind) ∙ h

  pub as_lit : {r : Expr Span} → Found w i k x y n → At w i r → shape_of k ≡ Lit → LitView k x y n r
  as_lit {r = lit op s} f a h = let t = root a in let p : s.0 ≡ x = sym t.x ∙ f.x in let q : s.1 ≡ y = sym t.y ∙ f.y in record { op = op; is = rw (← p, ← q); kind = sym f.kind ∙ t.kind; rows = found_size f a }
  as_lit {r = fixed op} f a h = let e : Num ≡ Lit = found_shape f a h in let z : ◌≡◌ {A = ℕ} 0 1 = cc in absurd (omega arith)
  as_lit {r = skip ss} f a h = let e : Skips ≡ Lit = found_shape f a h in let z : ◌≡◌ {A = ℕ} 0 1 = cc in absurd (omega arith)
  as_lit {r = un op c} f a h = let e : One ≡ Lit = found_shape f a h in let z : ◌≡◌ {A = ℕ} 0 1 = cc in absurd (omega arith)
  as_lit {r = bin op l c} f a h = let e : Two ≡ Lit = found_shape f a h in let z : ◌≡◌ {A = ℕ} 0 1 = cc in absurd (omega arith)

  pub as_num : {r : Expr Span} → Found w i k x y n → At w i r → shape_of k ≡ Num → NumView k x y n r
  as_num {r = lit op s} f a h = let e : Lit ≡ Num = found_shape f a h in let z : ◌≡◌ {A = ℕ} 0 1 = cc in absurd (omega arith)
  as_num {r = fixed op} f a h = record { op = op; is = refl; head = found_head f a; rows = found_size f a }
  as_num {r = skip ss} f a h = let e : Skips ≡ Num = found_shape f a h in let z : ◌≡◌ {A = ℕ} 0 1 = cc in absurd (omega arith)
  as_num {r = un op c} f a h = let e : One ≡ Num = found_shape f a h in let z : ◌≡◌ {A = ℕ} 0 1 = cc in absurd (omega arith)
  as_num {r = bin op l c} f a h = let e : Two ≡ Num = found_shape f a h in let z : ◌≡◌ {A = ℕ} 0 1 = cc in absurd (omega arith)

  pub as_one : {r : Expr Span} → Found w i k x y n → At w i r → shape_of k ≡ One → OneView w i k x y n r
  as_one {r = lit op s} f a h = let e : Lit ≡ One = found_shape f a h in let z : ◌≡◌ {A = ℕ} 0 1 = cc in absurd (omega arith)
  as_one {r = fixed op} f a h = let e : Num ≡ One = found_shape f a h in let z : ◌≡◌ {A = ℕ} 0 1 = cc in absurd (omega arith)
  as_one {r = skip ss} f a h = let e : Skips ≡ One = found_shape f a h in let z : ◌≡◌ {A = ℕ} 0 1 = cc in absurd (omega arith)
  as_one {r = un op c} f a h = record { op = op; child = c; is = refl; head = found_head f a; rows = found_size f a; least = size_pos c; most = omega (arith, (root a).most); at = at_un a }
  as_one {r = bin op l c} f a h = let e : Two ≡ One = found_shape f a h in let z : ◌≡◌ {A = ℕ} 0 1 = cc in absurd (omega arith)

  pub as_two : {r : Expr Span} → Found w i k x y n → At w i r → shape_of k ≡ Two → TwoView w i k x y n r
  as_two {r = lit op s} f a h = let e : Lit ≡ Two = found_shape f a h in let z : ◌≡◌ {A = ℕ} 0 1 = cc in absurd (omega arith)
  as_two {r = fixed op} f a h = let e : Num ≡ Two = found_shape f a h in let z : ◌≡◌ {A = ℕ} 0 1 = cc in absurd (omega arith)
  as_two {r = skip ss} f a h = let e : Skips ≡ Two = found_shape f a h in let z : ◌≡◌ {A = ℕ} 0 1 = cc in absurd (omega arith)
  as_two {r = un op c} f a h = let e : One ≡ Two = found_shape f a h in let z : ◌≡◌ {A = ℕ} 0 1 = cc in absurd (omega arith)
  as_two {r = bin op l c} f a h =
      let t = root a in
      record {
        op = op;
        left = l;
        right = c;
        is = refl;
        head = found_head f a;
        kind = sym f.kind ∙ t.kind;
        rows = found_size f a;
        least_left = size_pos l;
        least_right = size_pos c;
        most = omega (arith, t.most);
        at_left = at_left_lem a;
        at_right = at_right_lem a;
      }

  pub as_skip : {r : Expr Span} → Found w i k x y n → At w i r → shape_of k ≡ Skips → SkipView w i k x y n r
  as_skip {r = lit op s} f a h = let e : Lit ≡ Skips = found_shape f a h in let z : ◌≡◌ {A = ℕ} 0 1 = cc in absurd (omega arith)
  as_skip {r = fixed op} f a h = let e : Num ≡ Skips = found_shape f a h in let z : ◌≡◌ {A = ℕ} 0 1 = cc in absurd (omega arith)
  as_skip {r = skip ss} f a h =
      let t = root a in
      record {
        strings = ss;
        is = refl;
        head = found_head f a;
        kind = sym f.kind ∙ t.kind;
        count = sym f.x ∙ t.x;
        rows = found_size f a;
        most = omega (arith, t.most);
        at = at_strs a;
      }
  as_skip {r = un op c} f a h = let e : One ≡ Skips = found_shape f a h in let z : ◌≡◌ {A = ℕ} 0 1 = cc in absurd (omega arith)
  as_skip {r = bin op l c} f a h = let e : Two ≡ Skips = found_shape f a h in let z : ◌≡◌ {A = ℕ} 0 1 = cc in absurd (omega arith)

-- the left child's root by the size word of the right one, and a Skip's strings by its count
pub left_at : {w : List ℕ} {i k x y n : ℕ} {r : Expr Span} (v : TwoView w i k x y n r) (m : ℕ) → m ≡ size v.right → At w (i - 1 - m) v.left
left_at v m e = rw e v.at_left

pub strs_at : {w : List ℕ} {i k x y n : ℕ} {r : Expr Span} (v : SkipView w i k x y n r) → AtStrs w (i - x) v.strings
strs_at v = rw v.count v.at

-- ---- by half a kind: the rows of kind 8 and 9 are those with two children

pub bin_half : (b : Bin) {k : ℕ} → k ≡ bin_kind b → k / 2 ≡ k_pair
bin_half Seq e = rw e
bin_half Choice e = rw e

half_shape : (k : ℕ) → k / 2 ≡ k_pair → shape_of k ≡ Two
half_shape k h = go (eqb k 8) refl
  where
    go : (b : Bool) → eqb k 8 ≡ b → shape_of k ≡ Two
    go true e = ap shape_of (eqb-true k 8 e) ∙ bin_shape Seq
    go false e = let z : k ≡ 9 = omega (arith, eqb-false k 8 e) in ap shape_of z ∙ bin_shape Choice

module _ {w : List ℕ} {i : ℕ} {r : Expr Span} where
  -- the two sides of such a row, where they stand (the left one as `left_of` says it), and their sizes
  pub as_pair : At w i r → kind_at w i / 2 ≡ k_pair → TwoView w i (kind_at w i) (x_at w i) (y_at w i) (size_at w i) r
  as_pair a h = as_two (found_row w i (root a).inside) a (half_shape (kind_at w i) h)

  pub pair_left : {k x y n l : ℕ} (v : TwoView w i k x y n r) → l ≡ i - 1 - size_at w (i - 1) → At w l v.left
  pair_left v e = rw e (left_at v _ (root v.at_right).rows)

  pub not_pair : At w i r → (kind_at w i / 2 ≡ k_pair → ⊥) → shape_in r ≡ Two → ⊥
  not_pair a h e = let v = as_two (root_found a) a (shape_in_lem r ∙ e) in h (bin_half v.op ((root a).kind ∙ v.kind))

-- the same at a row of the kind of b
pub record SidesAt (b : Bin) (w : List ℕ) (i l : ℕ) (r : Expr Span) : Type 0 where
  pub left : Expr Span
  pub right : Expr Span
  pub is : r ≡ bin b left right
  pub some : 1 ≤ i
  pub at_left : At w l left
  pub at_right : At w (i - 1) right

pub sides_at : (b : Bin) {w : List ℕ} {i l : ℕ} {r : Expr Span} → At w i r → kind_at w i ≡ bin_kind b → l ≡ i - 1 - size_at w (i - 1) → SidesAt b w i l r
sides_at b a h e =
    let v = as_pair a (bin_half b h) in
    record { left = v.left; right = v.right; is = v.is ∙ rw (bin_same v.op b (sym v.kind ∙ h)); some = omega (arith, v.least_left, v.most); at_left = pair_left v e; at_right = v.at_right }

-- ---- by kind: the tag of the tree is the one that has the row's words

module _ {k x y n : ℕ} {r : Expr Span} where
  pub lit_is : (j : tree.Lit) → LitView k x y n r → k ≡ lit_kind j → r ≡ lit j (x, y)
  lit_is j v h = v.is ∙ rw (lit_same v.op j (sym v.kind ∙ h))

  pub num_is : (g : Fixed) → NumView k x y n r → (k, x, y) ≡ fixed_head g → r ≡ fixed g
  num_is g v h = v.is ∙ rw (fixed_same v.op g (sym v.head ∙ h))

  pub one_is : {w : List ℕ} {i : ℕ} (u : Un) (v : OneView w i k x y n r) → (k, x, y) ≡ un_head u → r ≡ un u v.child
  one_is u v h = v.is ∙ rw (un_same v.op u (sym v.head ∙ h))

  pub two_is : {w : List ℕ} {i : ℕ} (b : Bin) (v : TwoView w i k x y n r) → k ≡ bin_kind b → r ≡ bin b v.left v.right
  two_is b v h = v.is ∙ rw (bin_same v.op b (sym v.kind ∙ h))

-- ---- by the views of trees, with the literals' bytes: what lit_at, un_at and bin_at find

module _ (t : Bytes) (j : ℕ) {k x y n : ℕ} {r : Expr Span} where
  pub lit_some : k ≡ j → LitView k x y n r → lit_at j (resolve t r) ≡ some (bytes_at t (x, y))
  lit_some h v = rw v.is (rw (eq-eqb _ _ (sym v.kind ∙ h)))

  pub one_some : {w : List ℕ} {i : ℕ} → k ≡ j → (v : OneView w i k x y n r) → un_at j (resolve t r) ≡ some (resolve t v.child)
  one_some h v = rw v.is (rw (eq-eqb _ _ (sym (ap (λ (h : tree.Head). h.0) v.head) ∙ h)))

  pub two_some : {w : List ℕ} {i : ℕ} → k ≡ j → (v : TwoView w i k x y n r) → bin_at j (resolve t r) ≡ some (resolve t v.left, resolve t v.right)
  two_some h v = rw v.is (rw (eq-eqb _ _ (sym v.kind ∙ h)))

-- none of them finds anything at a root of another kind
module _ (t : Bytes) (j : ℕ) {w : List ℕ} {i k x y n : ℕ} where
  pub lit_none : {r : Expr Span} → Found w i k x y n → At w i r → (k ≡ j → ⊥) → lit_at j (resolve t r) ≡ none
  lit_none {r = lit op s} f a h = let e : lit_kind op ≡ k = sym (root a).kind ∙ f.kind in rw (ne_eqb (lit_kind op) j (λ q. h (sym e ∙ q)))
  lit_none {r = fixed op} f a h = refl
  lit_none {r = skip ss} f a h = refl
  lit_none {r = un op c} f a h = refl
  lit_none {r = bin op l c} f a h = refl

  pub one_none : {r : Expr Span} → Found w i k x y n → At w i r → (k ≡ j → ⊥) → un_at j (resolve t r) ≡ none
  one_none {r = lit op s} f a h = refl
  one_none {r = fixed op} f a h = refl
  one_none {r = skip ss} f a h = refl
  one_none {r = un op c} f a h = let e : (un_head op).0 ≡ k = sym (root a).kind ∙ f.kind in rw (ne_eqb (un_head op).0 j (λ q. h (sym e ∙ q)))
  one_none {r = bin op l c} f a h = refl

  pub two_none : {r : Expr Span} → Found w i k x y n → At w i r → (k ≡ j → ⊥) → bin_at j (resolve t r) ≡ none
  two_none {r = lit op s} f a h = refl
  two_none {r = fixed op} f a h = refl
  two_none {r = skip ss} f a h = refl
  two_none {r = un op c} f a h = refl
  two_none {r = bin op l c} f a h = let e : bin_kind op ≡ k = sym (root a).kind ∙ f.kind in rw (ne_eqb (bin_kind op) j (λ q. h (sym e ∙ q)))

-- ---- at most one tree stands at a row

strs_unique : {w : List ℕ} {j : ℕ} (ss ts : List Span) → length ss ≡ length ts → AtStrs w j ss → AtStrs w j ts → ss ≡ ts
strs_unique [] [] e a b = refl
strs_unique [] (p ∷ ts) e a b = absurd (omega arith)
strs_unique (s ∷ ss) [] e a b = absurd (omega arith)
strs_unique {j = j} (s ∷ ss) (p ∷ ts) e a b =
    let t = root (at_first a) in
    let u = root (at_first b) in
    let o : s.0 ≡ p.0 = sym t.x ∙ u.x in
    let l : s.1 ≡ p.1 = sym t.y ∙ u.y in
    let q : ss ≡ ts = strs_unique {j = j + 1} ss ts (omega arith) (at_others a) (at_others b) in
    rw (o, l, q)

pub at_unique : {w : List ℕ} {i : ℕ} (r s : Expr Span) → At w i r → At w i s → r ≡ s
at_unique (lit op p) s a b = sym (lit_is op (as_lit (root_found a) b (lit_shape op)) refl)
at_unique (fixed op) s a b = sym (num_is op (as_num (root_found a) b (fixed_shape op)) refl)
at_unique (skip ss) s a b =
    let v = as_skip (root_found a) b skip_shape in
    let q : ss ≡ v.strings = strs_unique ss v.strings v.count (at_strs a) (rw (← v.count) at v.at) in
    let e : s ≡ skip v.strings = v.is in
    cc
at_unique {i = i} (un op c) s a b =
    let v = as_one (root_found a) b (un_shape op) in
    let q : c ≡ v.child = at_unique {i = i - 1} c v.child (at_un a) v.at in
    let e : s ≡ un op v.child = one_is op v refl in
    cc
at_unique (bin op l c) s a b =
    let v = as_two (root_found a) b (bin_shape op) in
    let q : c ≡ v.right = at_unique c v.right (at_right_lem a) v.at_right in
    let z : l ≡ v.left = at_unique l v.left (rw q at (at_left_lem a)) v.at_left in
    let e : s ≡ bin op v.left v.right = two_is op v refl in
    cc
