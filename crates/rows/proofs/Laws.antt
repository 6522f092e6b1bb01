-- A tree in rows: its words, what stands at its root, where its children stand, what a lookup found. Assumes nothing.
use mathlib.Core.Path.{◌≡◌, refl, sym, ap, subst, ◌∙◌}
use mathlib.Core.Bool.{Bool, true, false}
use mathlib.Core.List.{List, [], ◌∷◌, ◌++◌, append_assoc}
use Prim.Native.Nat.{ℕ, ◌+◌, ◌-◌, ◌*◌, ◌/◌, ◌≤◌, ◌<◌}
use native.Mathlib.Nat.{add-zero}
use native.Mathlib.Decide.{dec_lt}
use native.Mathlib.Omega.{arith}
use borrow.Author.Tests.{lt-ltb, ltb-true, eqb-true, eqb-false}
use lib.Dec.{ltb, eqb}
use lib.ListN.{length, get_or, length-append, length-take, length-drop, get_or-append}
use lib.Seq.{get_or-append-add, get_or-take, get_or-drop, ext_get_or}
use Rattle.grammar.specs.Numbers.{row_width}
use Rattle.grammar.specs.Tree.{Head, Str, Un, Bin, lit_kind, fixed_head, un_head, bin_kind, Expr, lit, fixed, skip, un, bin, size}
use Rattle.grammar.specs.Rows.{Span, row, str_rows, flat}
use Rattle.grammar.specs.Text.{bytes_at}
use Rattle.std.specs.Prelude.{Some, None}
use Rattle.rows.specs.declared.Row.{Row}
use Rattle.rows.specs.Rows.{kind_at, x_at, y_at, size_at, row_of, row_at, At, AtStrs, Tells, Unlike}

-- ---- a tree's words

-- kind, x and y of a tree's root row
abbrev pub head_of : Expr Span → Head
head_of (lit k s) = (lit_kind k, s.0, s.1)
head_of (fixed f) = fixed_head f
head_of (skip ss) = (17, length ss, 0)
head_of (un u e) = un_head u
head_of (bin b l r) = (bin_kind b, 0, 0)

-- the words of what is below a tree's root row
abbrev pub below : Expr Span → List ℕ
below (lit k s) = []
below (fixed f) = []
below (skip ss) = str_rows ss
below (un u e) = flat e
below (bin b l r) = flat l ++ flat r

pub flat_root : (r : Expr Span) → flat r ≡ below r ++ row (head_of r) (size r)
flat_root (lit k s) = refl
flat_root (fixed f) = refl
flat_root (skip ss) = refl
flat_root (un u e) = refl
flat_root (bin b l r) = sym (append_assoc (flat l) (flat r) _)

pub length_str_rows : (ss : List Span) → length (str_rows ss) ≡ length ss * row_width
length_str_rows [] = refl
length_str_rows (s ∷ ss) = omega (arith, length_str_rows ss)

pub length_flat : (r : Expr Span) → length (flat r) ≡ size r * row_width
length_flat (lit k s) = refl
length_flat (fixed f) = refl
length_flat (skip ss) = simp length-append (omega (arith, length_str_rows ss))
length_flat (un u e) = simp length-append (omega (arith, length_flat e))
length_flat (bin b l r) = simp length-append (omega (arith, length_flat l, length_flat r))

pub size_pos : {L : Type 0} (r : Expr L) → 1 ≤ size r
size_pos (lit k s) = omega arith
size_pos (fixed f) = omega arith
size_pos (skip ss) = omega arith
size_pos (un u e) = omega arith
size_pos (bin b l r) = omega arith

-- ---- at a tree's root

pub record Root (w : List ℕ) (i : ℕ) (r : Expr Span) : Type 0 where
  pub kind : kind_at w i ≡ (head_of r).0
  pub x : x_at w i ≡ (head_of r).1
  pub y : y_at w i ≡ (head_of r).2
  pub rows : size_at w i ≡ size r
  pub inside : i < length w / row_width
  pub least : 1 ≤ size r
  pub most : size r ≤ i + 1

module _ {w : List ℕ} {i : ℕ} {r : Expr Span} (a : At w i r) where
  abbrev front : List ℕ
  front = a.before ++ below r

  abbrev root_row : List ℕ
  root_row = row (head_of r) (size r)

  split : w ≡ front ++ (root_row ++ a.after)
  split = a.whole ∙ rw (flat_root r) (simp append_assoc)

  length_front : length front ≡ i * row_width
  length_front =
      let e : length (below r) + row_width ≡ size r * row_width = sym (length-append (below r) root_row) ∙ ap length (sym (flat_root r)) ∙ length_flat r in
      omega (arith, length-append a.before (below r), a.place)

  word : (n : ℕ) → get_or w (i * row_width + n) 0 ≡ get_or (root_row ++ a.after) n 0
  word n = subst (λ (v : List ℕ). get_or v (i * row_width + n) 0 ≡ get_or (root_row ++ a.after) n 0) (sym split)
      (subst (λ (m : ℕ). get_or (front ++ (root_row ++ a.after)) (m + n) 0 ≡ get_or (root_row ++ a.after) n 0) length_front
      (get_or-append-add front (root_row ++ a.after) n 0))

  -- the words at a tree's root are its head and its size
  pub root : Root w i r
  unfolding kind_at x_at y_at size_at
  root = record {
    kind = subst (λ (m : ℕ). get_or w m 0 ≡ (head_of r).0) (add-zero (i * row_width)) (word 0);
    x = word 1;
    y = word 2;
    rows = word 3;
    inside = omega (arith, ap length split, length-append front (root_row ++ a.after), length_front);
    least = size_pos r;
    most = omega (arith, a.place);
  }

-- ---- the children's places

pub at_un : {w : List ℕ} {i : ℕ} {u : Un} {e : Expr Span} → At w i (un u e) → At w (i - 1) e
at_un {w} {i} {u} {e} a = record {
  before = a.before;
  after = row (un_head u) (size e + 1) ++ a.after;
  whole = a.whole ∙ simp append_assoc;
  place = omega (arith, a.place, size_pos e);
}

pub at_right_lem : {w : List ℕ} {i : ℕ} {b : Bin} {l r : Expr Span} → At w i (bin b l r) → At w (i - 1) r
at_right_lem {w} {i} {b} {l} {r} a = record {
  before = a.before ++ flat l;
  after = row (bin_kind b, 0, 0) (size l + size r + 1) ++ a.after;
  whole = a.whole ∙ simp append_assoc;
  place = omega (arith, a.place, size_pos r, length-append a.before (flat l), length_flat l);
}

pub at_left_lem : {w : List ℕ} {i : ℕ} {b : Bin} {l r : Expr Span} → At w i (bin b l r) → At w (i - 1 - size r) l
at_left_lem {w} {i} {b} {l} {r} a = record {
  before = a.before;
  after = flat r ++ (row (bin_kind b, 0, 0) (size l + size r + 1) ++ a.after);
  whole = a.whole ∙ simp append_assoc;
  place = omega (arith, a.place, size_pos l);
}

pub at_strs : {w : List ℕ} {i : ℕ} {ss : List Span} → At w i (skip ss) → AtStrs w (i - length ss) ss
at_strs {w} {i} {ss} a = record {
  before = a.before;
  after = row (17, length ss, 0) (length ss + 1) ++ a.after;
  whole = a.whole ∙ simp append_assoc;
  place = omega (arith, a.place);
}

-- the first of some strings, and the others
pub at_first : {w : List ℕ} {j : ℕ} {s : Span} {ss : List Span} → AtStrs w j (s ∷ ss) → At w j (lit Str s)
at_first {w} {j} {s} {ss} a = record { before = a.before; after = str_rows ss ++ a.after; whole = a.whole ∙ simp append_assoc; place = omega (arith, a.place) }

pub at_others : {w : List ℕ} {j : ℕ} {s : Span} {ss : List Span} → AtStrs w j (s ∷ ss) → AtStrs w (j + 1) ss
at_others {w} {j} {s} {ss} a = record {
  before = a.before ++ row (0, s.0, s.1) 1;
  after = a.after;
  whole = a.whole ∙ simp append_assoc;
  place = simp length-append (omega (arith, a.place));
}

-- some strings lie in the table
pub strs_inside : {w : List ℕ} {j : ℕ} {ss : List Span} → AtStrs w j ss → j + length ss ≤ length w / row_width
strs_inside {w} {j} {ss} a =
    let n : length w ≡ length a.before + (length (str_rows ss) + length a.after) = ap length a.whole ∙ simp length-append in
    omega (arith, a.place, length_str_rows ss)

-- a tree's words, found in the table
pub flat_at : {w : List ℕ} {i : ℕ} {r : Expr Span} → At w i r → (n : ℕ) → n < size r * row_width → get_or w ((i + 1 - size r) * row_width + n) 0 ≡ get_or (flat r) n 0
flat_at {w} {i} {r} a n h =
    let e : (i + 1 - size r) * row_width ≡ length a.before = omega (arith, a.place) in
    let l : n < length (flat r) = omega (arith, length_flat r) in
    rw (e, a.whole, get_or-append-add) (get_or-append (flat r) a.after 0 n l)

-- ---- what a lookup found

pub record Found (w : List ℕ) (i k a b n : ℕ) : Type 0 where
  pub within : i < length w / row_width
  pub kind : kind_at w i ≡ k
  pub x : x_at w i ≡ a
  pub y : y_at w i ≡ b
  pub rows : size_at w i ≡ n

-- a row that is there
pub found_row : (w : List ℕ) (i : ℕ) → i < length w / row_width → Found w i (kind_at w i) (x_at w i) (y_at w i) (size_at w i)
found_row w i h = record { within = h; kind = refl; x = refl; y = refl; rows = refl }

-- a row that was read
pub row_found : {w : List ℕ} {i : ℕ} {r : Row} → row_at w i ≡ Some r → Found w i r.kind r.x r.y r.size
unfolding row_at
row_found {w} {i} {r} e = go (ltb i (length w / row_width)) refl
  where
    go : (b : Bool) → ltb i (length w / row_width) ≡ b → Found w i r.kind r.x r.y r.size
    go true t =
        let q : Some (row_of w i) ≡ Some r = rw t at e in
        let p : row_of w i ≡ r = cc in
        record { within = ltb-true _ _ t; kind = ap (λ (s : Row). s.kind) p; x = ap (λ (s : Row). s.x) p; y = ap (λ (s : Row). s.y) p; rows = ap (λ (s : Row). s.size) p }
    go false t =
        let q : None ≡ Some r = rw t at e in
        let z : ◌≡◌ {A = ℕ} 0 1 = cc in
        absurd (omega arith)

-- a row of the table is found
pub row_there : (w : List ℕ) (i : ℕ) → i < length w / row_width → row_at w i ≡ None → ⊥
unfolding row_at
row_there w i h e =
    let q : row_at w i ≡ Some (row_of w i) = simp (lt-ltb _ _ h) in
    let z : ◌≡◌ {A = ℕ} 0 1 = cc in
    omega arith

-- a lookup at a tree's root does not refuse, and what it finds is the tree's root row
pub root_there : {w : List ℕ} {i : ℕ} {r : Expr Span} → At w i r → row_at w i ≡ None → ⊥
root_there {w} {i} a = row_there w i (root a).inside

pub root_found : {w : List ℕ} {i : ℕ} {r : Expr Span} → At w i r → Found w i (head_of r).0 (head_of r).1 (head_of r).2 (size r)
root_found a = let t = root a in record { within = t.inside; kind = t.kind; x = t.x; y = t.y; rows = t.rows }

pub found_size : {w : List ℕ} {i k x y n : ℕ} {r : Expr Span} → Found w i k x y n → At w i r → n ≡ size r
found_size f a = sym f.rows ∙ (root a).rows

-- a tree's root that was read: the tree's rows are there, and as many as the row says
pub read_size : {w : List ℕ} {i : ℕ} {b : Row} {r : Expr Span} → row_at w i ≡ Some b → At w i r → b.size ≡ size r
read_size e a = found_size (row_found e) a

pub read_fits : {w : List ℕ} {i : ℕ} {b : Row} {r : Expr Span} → row_at w i ≡ Some b → At w i r → (b.size ≤ i + 1) × (i < length w / row_width)
read_fits e a = let t = root a in (omega (arith, read_size e a, t.most), t.inside)

-- ---- parts of a text

pub length_part : (t : List ℕ) (x n : ℕ) → x + n ≤ length t → length (bytes_at t (x, n)) ≡ n
length_part t x n h = simp (length-take, length-drop) (omega arith)

-- two parts of texts are equal exactly when their bytes are
module _ (t u : List ℕ) (x y n : ℕ) (hx : x + n ≤ length t) (hy : y + n ≤ length u) where
  pub same_parts : ((k : ℕ) → k < n → get_or t (x + k) 0 ≡ get_or u (y + k) 0) → bytes_at t (x, n) ≡ bytes_at u (y, n)
  same_parts h = ext_get_or 0 _ _ (simp (length-take, length-drop) (omega arith))
      (λ k l. let lk : k < n = omega (arith, simp (length-take, length-drop) at l) in rw (get_or-take, get_or-drop, get_or-take, get_or-drop) (h k lk))

  pub parts_same : bytes_at t (x, n) ≡ bytes_at u (y, n) → (k : ℕ) → k < n → get_or t (x + k) 0 ≡ get_or u (y + k) 0
  parts_same e k l = simp (get_or-take, get_or-drop) at (ap (λ (s : List ℕ). get_or s k 0) e)

-- what holds of the first i places and of the b after them holds of the first i + b
pub below_block : (t u : List ℕ) (x y i b : ℕ) → ((k : ℕ) → k < i → get_or t (x + k) 0 ≡ get_or u (y + k) 0) → ((k : ℕ) → k < b → get_or t (x + i + k) 0 ≡ get_or u (y + i + k) 0)
    → (k : ℕ) → k < i + b → get_or t (x + k) 0 ≡ get_or u (y + k) 0
below_block t u x y i b f g k l = go (dec_lt k i)
  where
    go : Dec (k < i) → get_or t (x + k) 0 ≡ get_or u (y + k) 0
    go (yes h) = f k h
    go (no h) =
        let p : x + k ≡ x + i + (k - i) = omega arith in
        let q : y + k ≡ y + i + (k - i) = omega arith in
        rw (p, q) (g (k - i) (omega arith))

-- all bytes are the same where none is the first that is not
pub unlike_tells : (t u : List ℕ) (x y n r : ℕ) → x + n ≤ length t → y + n ≤ length u → Unlike t x u y n r → Tells (eqb r n) (bytes_at t (x, n) ≡ bytes_at u (y, n))
unlike_tells t u x y n r h k f = go (eqb r n) refl
  where
    go : (b : Bool) → eqb r n ≡ b → Tells b (bytes_at t (x, n) ≡ bytes_at u (y, n))
    go true e = let z : r ≡ n = eqb-true r n e in same_parts t u x y n h k (λ i l. f.same i (omega arith))
    go false e = λ q. let z : r < n = omega (arith, eqb-false r n e, f.most) in f.unlike z (parts_same t u x y n h k q r z)
