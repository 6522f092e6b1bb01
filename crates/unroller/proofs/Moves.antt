-- The rows of a packed tree, moved with its text, are those of the tree packed further on. Assumes nothing.
use Rattle.std.specs.Prelude.{None, Option, Some}
use Rattle.std.specs.Option.{IsSome}
use mathlib.Core.Path.{◌≡◌, refl, sym, ap, ◌∙◌}
use mathlib.Core.List.{List, [], ◌∷◌, ◌++◌, append_assoc, append-nil}
use Prim.Native.Nat.{ℕ, zero, suc, ◌+◌, ◌-◌, ◌*◌, ◌/◌, ◌^◌, ◌≤◌, ◌<◌}
use native.Mathlib.Nat.{add-zero, add-suc, add_assoc}
use native.Mathlib.Numerals.{add-one, one-add}
use native.Mathlib.Decide.{dec_le}
use native.Mathlib.Omega.{arith}
use lib.ListN.{length, length-append}
use Rattle.grammar.specs.Numbers.{row_width}
use Rattle.grammar.specs.Basic.{Bytes}
use Rattle.grammar.specs.Tree.{E, Expr, lit, fixed, skip, un, bin, size}
use Rattle.grammar.specs.Rows.{Span, row, str_rows, flat}
use Rattle.grammar.specs.Text.{joined, text_of, spans, packed}
use Rattle.rows.specs.declared.Row.{Row}
use Rattle.rows.specs.declared.Shape.{Shape}
use Rattle.rows.specs.declared.Shape.TheVariants.{Lit, Num, One, Two, Skips}
use Rattle.rows.specs.Rows.{kind_at, x_at, y_at, size_at, row_at, shape_of, At, AtStrs}
use Rattle.rows.proofs.Laws.{Found, row_there, head_of, root, at_un, at_left_lem, at_right_lem, at_strs, at_first, at_others, size_pos}
use Rattle.rows.proofs.Views.{shape_in, shape_in_lem}
use Rattle.writing.specs.Writes.{stored}
use Rattle.writing.proofs.Runs.{stored_then}
use Rattle.writing.proofs.Trees.{length_spans, size_packed}
use Rattle.unroller.specs.Copies.{moved_by, moved_row, moved, Movable}
use Rattle.unroller.proofs.Stores.{stored_word}

module _ (d : ℕ) (w : List ℕ) where
  pub moved_more : (i n : ℕ) → moved d w i (n + 1) ≡ moved d w i n ++ moved_row d w (i + n)
  moved_more i n = rw (add-one n)

  moved_add : (i m n : ℕ) → moved d w i (m + n) ≡ moved d w i m ++ moved d w (i + m) n
  moved_add i m zero = rw (add-zero m) (sym (append-nil (moved d w i m)))
  moved_add i m (suc n) = rw (add-suc m n, moved_add i m n, add_assoc i m n) (append_assoc (moved d w i m) (moved d w (i + m) n) (moved_row d w (i + (m + n))))

  -- a tree's root row
  root_moved : {i : ℕ} {r : Expr Span} → At w i r → moved_row d w i ≡ row ((head_of r).0, moved_by (shape_in r) d (head_of r).1, (head_of r).2) (size r)
  unfolding moved_row
  root_moved {i} {r} a = let t = root a in rw (t.kind, t.x, t.y, t.rows, shape_in_lem r)

  strs_moved : (o j : ℕ) (ss : List Bytes) → AtStrs w j (spans o ss) → moved d w j (length ss) ≡ str_rows (spans (o + d) ss)
  strs_moved o j [] a = refl
  strs_moved o j (s ∷ ss) a =
      let f : moved d w j 1 ≡ row (0, o + d, length s) 1 = rw (add-zero j) (root_moved (at_first a)) in
      let g : o + length s + d ≡ o + d + length s = omega arith in
      ap (moved d w j) (sym (one-add (length ss))) ∙ moved_add j 1 (length ss) ∙ rw (f, strs_moved (o + length s) (j + 1) ss (at_others a), g)

  pub tree_moved : (o i j : ℕ) (e : E) → At w i (packed o e) → j + size e ≡ i + 1 → moved d w j (size e) ≡ flat (packed (o + d) e)
  tree_moved o i j (lit k s) a h = let n : j + 0 ≡ i = omega arith in rw n (root_moved a)
  tree_moved o i j (fixed f) a h = let n : j + 0 ≡ i = omega arith in rw n (root_moved a)
  tree_moved o i j (skip ss) a h =
      let n : j + length ss ≡ i = omega arith in
      let m : i - length (spans o ss) ≡ j = omega (arith, length_spans o ss) in
      let f = strs_moved o j ss (rw m at (at_strs a)) in
      moved_more j (length ss) ∙ rw (f, n, root_moved a, length_spans o ss, length_spans (o + d) ss)
  tree_moved o i j (un u e) a h =
      let n : j + size e ≡ i = omega arith in
      let f = tree_moved o (i - 1) j e (at_un a) (omega (arith, size_pos e)) in
      moved_more j (size e) ∙ rw (f, n, root_moved a, size_packed o e, size_packed (o + d) e)
  tree_moved o i j (bin b l r) a h =
      let n : j + (size l + size r) ≡ i = omega arith in
      let x = o + length (text_of l) in
      let g : x + d ≡ o + d + length (text_of l) = omega arith in
      let s = size_packed x r in
      let f₁ = tree_moved o (i - 1 - size (packed x r)) j l (at_left_lem a) (omega (arith, size_pos l, s)) in
      let f₂ = tree_moved x (i - 1) (j + size l) r (at_right_lem a) (omega (arith, size_pos r)) in
      moved_more j (size l + size r) ∙ rw (moved_add j (size l) (size r), f₁, f₂, n, root_moved a, size_packed o l, s, size_packed (o + d) l, g, size_packed (o + d + length (text_of l)) r) (simp append_assoc)

-- ---- one row, as the code moves it

-- a row that is there is found
pub row_some : (w : List ℕ) (i : ℕ) {a : Option Row} → a ≡ row_at w i → i < length w / row_width → IsSome a
row_some w i {a = Some r} e h = refl
row_some w i {a = None} e h = absurd (row_there w i h (sym e))

pub length_moved : (d : ℕ) (w : List ℕ) (i n : ℕ) → length (moved d w i n) ≡ n * row_width
unfolding moved_row
length_moved d w i zero = refl
length_moved d w i (suc n) = simp length-append (omega (arith, length_moved d w i n))

not_moved : (s : Shape) (d x : ℕ) → (s ≡ Lit → ⊥) → moved_by s d x ≡ x
not_moved Lit d x n = absurd (n refl)
not_moved Num d x n = refl
not_moved One d x n = refl
not_moved Two d x n = refl
not_moved Skips d x n = refl

module _ {w : List ℕ} {i k x y n : ℕ} (d : ℕ) (f : Found w i k x y n) where
  pub lit_fits : Movable d w i → shape_of k ≡ Lit → x + d < 2 ^ 32
  lit_fits m h = omega (arith, m (ap shape_of f.kind ∙ h), f.x)

  pub lit_moved : shape_of k ≡ Lit → row (k, x + d, y) n ≡ moved_row d w i
  unfolding moved_row
  lit_moved h = rw (f.kind, f.x, f.y, f.rows, h)

  pub other_moved : (shape_of k ≡ Lit → ⊥) → row (k, x, y) n ≡ moved_row d w i
  unfolding moved_row
  other_moved h = rw (f.kind, f.x, f.y, f.rows, not_moved (shape_of k) d x h)

module _ (d : ℕ) (o v : List ℕ) (i j : ℕ) (h : i < j) where
  pub front_moved : moved_row d (stored o (j * row_width) v) i ≡ moved_row d o i
  unfolding moved_row kind_at x_at y_at size_at
  front_moved =
      rw (stored_word o v (j * row_width) (i * row_width) (omega arith), stored_word o v (j * row_width) (i * row_width + 1) (omega arith), stored_word o v (j * row_width) (i * row_width + 2) (omega arith), stored_word o v (j * row_width) (i * row_width + 3) (omega arith))

  pub front_movable : Movable d o i → Movable d (stored o (j * row_width) v) i
  unfolding kind_at x_at
  front_movable m = rw (stored_word o v (j * row_width) (i * row_width) (omega arith), stored_word o v (j * row_width) (i * row_width + 1) (omega arith)) m

-- one row more
pub move_more : (d : ℕ) (o o₁ o₂ : List ℕ) (i j k : ℕ) → i + k < j → o₁ ≡ stored o (j * row_width) (moved d o i k) → o₂ ≡ stored o₁ ((j + k) * row_width) (moved_row d o₁ (i + k)) → o₂ ≡ stored o (j * row_width) (moved d o i (k + 1))
move_more d o o₁ o₂ i j k h e f =
    stored_then o o₁ o₂ (moved d o i k) (moved_row d o (i + k)) (j * row_width) ((j + k) * row_width) e (omega (arith, length_moved d o i k)) (f ∙ (rw e (rw (front_moved d o (moved d o i k) (i + k) j h))))
    ∙ rw (moved_more d o i k)

-- every literal of a packed tree lies in its text
by_le : {A : Type 0} (a b : ℕ) → (a ≤ b → A) → (b < a → A) → A
by_le {A} a b f g = go (dec_le a b)
  where
    go : Dec (a ≤ b) → A
    go (yes p) = f p
    go (no p) = g (omega arith)

module _ {w : List ℕ} where
  no_lit : {i k : ℕ} {r : Expr Span} {A : Type 0} → At w i r → (shape_in r ≡ Lit → ⊥) → k ≡ i → shape_of (kind_at w k) ≡ Lit → A
  no_lit {i} {k} {r} a n e h = absurd (n (sym (shape_in_lem r) ∙ ap shape_of (sym (root a).kind ∙ ap (kind_at w) (sym e)) ∙ h))

  strs_inside : (o j k : ℕ) (ss : List Bytes) → AtStrs w j (spans o ss) → j ≤ k → k < j + length ss → x_at w k + y_at w k ≤ o + length (joined ss)
  strs_inside o j k [] a l m = absurd (omega arith)
  strs_inside o j k (s ∷ ss) a l m =
      let n = length-append s (joined ss) in
      by_le k j
      (λ p. let e : k ≡ j = omega arith in let t = root (at_first a) in rw e (omega (arith, t.x, t.y, n)))
      (λ p. omega (arith, n, strs_inside (o + length s) (j + 1) k ss (at_others a) (omega arith) (omega arith)))

  pub tree_inside : (o i j k : ℕ) (e : E) → At w i (packed o e) → j + size e ≡ i + 1 → j ≤ k → k ≤ i → shape_of (kind_at w k) ≡ Lit → x_at w k + y_at w k ≤ o + length (text_of e)
  tree_inside o i j k (lit op s) a h l m z = let e : k ≡ i = omega arith in let t = root a in rw e (omega (arith, t.x, t.y))
  tree_inside o i j k (fixed f) a h l m z = no_lit a (λ q. let y : ◌≡◌ {A = ℕ} 0 1 = cc in omega arith) (omega arith) z
  tree_inside o i j k (skip ss) a h l m z =
      let e : i - length (spans o ss) ≡ j = omega (arith, length_spans o ss) in
      by_le i k
      (λ p. no_lit a (λ q. let y : ◌≡◌ {A = ℕ} 0 1 = cc in omega arith) (omega arith) z)
      (λ p. strs_inside o j k ss (rw e at (at_strs a)) l (omega arith))
  tree_inside o i j k (un u e) a h l m z =
      by_le i k
      (λ p. no_lit a (λ q. let y : ◌≡◌ {A = ℕ} 0 1 = cc in omega arith) (omega arith) z)
      (λ p. tree_inside o (i - 1) j k e (at_un a) (omega (arith, size_pos e)) l (omega arith) z)
  tree_inside o i j k (bin b e f) a h l m z =
      let n = length-append (text_of e) (text_of f) in
      let x = o + length (text_of e) in
      let s = size_packed x f in
      by_le i k
      (λ p. no_lit a (λ q. let y : ◌≡◌ {A = ℕ} 0 1 = cc in omega arith) (omega arith) z)
      (λ p. by_le (j + size e) k
      (λ g. omega (arith, n, tree_inside x (i - 1) (j + size e) k f (at_right_lem a) (omega (arith, size_pos f)) g (omega arith) z))
      (λ g. omega (arith, n, tree_inside o (i - 1 - size (packed x f)) j k e (at_left_lem a) (omega (arith, size_pos e, s)) l (omega (arith, s)) z)))
