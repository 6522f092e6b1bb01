-- A run of rows, copied one by one, is the packed tree that stands in it. Assumes nothing.
use Rattle.std.specs.Prelude.{Option}
use mathlib.Core.Path.{◌≡◌, refl, sym, ◌∙◌}
use mathlib.Core.List.{List, [], ◌∷◌, ◌++◌, append_assoc, append-nil, map}
use Prim.Native.Nat.{ℕ, zero, suc, ◌+◌, ◌-◌, ◌*◌}
use native.Mathlib.Nat.{add-zero, zero-add, suc-add}
use native.Mathlib.Omega.{arith}
use lib.ListN.{length, length-append, length-map}
use Rattle.grammar.specs.Numbers.{row_width}
use Rattle.grammar.specs.Basic.{Bytes}
use Rattle.grammar.specs.Tree.{Str, Expr, lit, fixed, skip, un, bin, size}
use Rattle.grammar.specs.Rows.{Span, row, str_rows, flat}
use Rattle.grammar.specs.Text.{bytes_at, resolve, joined, text_of, spans, packed}
use Rattle.rows.specs.declared.Shape.{Shape}
use Rattle.rows.specs.declared.Shape.TheVariants.{Lit, Num, One, Two, Skips}
use Rattle.rows.specs.Rows.{kind_at, x_at, y_at, size_at, shape_of, At, AtStrs}
use Rattle.rows.proofs.Laws.{root, Found, root_found, at_un, at_left_lem, at_right_lem, at_strs, at_first, at_others, size_pos}
use Rattle.rows.proofs.Cells.{lit_shape, fixed_shape, un_shape, bin_shape, skip_shape, size_resolve}
use Rattle.writing.proofs.Trees.{length_spans, size_packed, put_answer}
use Rattle.writing.specs.declared.Place.{Place}
use Rattle.writing.specs.Writes.{PutAnswer, StrsAnswer, Answer}
use Rattle.writing.specs.Copies.{text_by, words_by, row_text, row_words, run_text, run_words}

-- ---- one row

module _ (t : Bytes) {w : List ℕ} {i k x y n : ℕ} (f : Found w i k x y n) where
  pub lit_text : shape_of k ≡ Lit → row_text t w i ≡ bytes_at t (x, y)
  unfolding row_text
  lit_text s = rw (f.kind, f.x, f.y, s)

  pub lit_words : (o : ℕ) → shape_of k ≡ Lit → row_words o t w i ≡ row (k, o, length (bytes_at t (x, y))) n
  unfolding row_words row_text
  lit_words o s = rw (f.kind, f.x, f.y, f.rows, s)

  pub other_text : (shape_of k ≡ Lit → ⊥) → row_text t w i ≡ []
  unfolding row_text
  other_text h = rw (f.kind, f.x, f.y) (go (shape_of k) h)
    where
      go : (s : Shape) → (s ≡ Lit → ⊥) → text_by s t x y ≡ []
      go Lit h = absurd (h refl)
      go Num h = refl
      go One h = refl
      go Two h = refl
      go Skips h = refl

  pub other_words : (o : ℕ) → (shape_of k ≡ Lit → ⊥) → row_words o t w i ≡ row (k, x, y) n
  unfolding row_words
  other_words o h = rw (f.kind, f.x, f.y, f.rows) (go (shape_of k) (row_text t w i) h)
    where
      go : (s : Shape) (b : Bytes) → (s ≡ Lit → ⊥) → words_by s o b k x y n ≡ row (k, x, y) n
      go Lit b h = absurd (h refl)
      go Num b h = refl
      go One b h = refl
      go Two b h = refl
      go Skips b h = refl

-- ---- runs

module _ (t : Bytes) (w : List ℕ) where
  pub text_append : (i m n : ℕ) → run_text t w i (m + n) ≡ run_text t w i m ++ run_text t w (i + m) n
  text_append i zero n = rw (zero-add, add-zero)
  text_append i (suc m) n =
      let e : i + 1 + m ≡ i + suc m = omega arith in
      rw (suc-add, text_append (i + 1) m n, e) (sym (append_assoc (row_text t w i) (run_text t w (i + 1) m) _))

  pub words_append : (o i m n : ℕ) → run_words o t w i (m + n) ≡ run_words o t w i m ++ run_words (o + length (run_text t w i m)) t w (i + m) n
  words_append o i zero n = rw (zero-add, add-zero, add-zero)
  words_append o i (suc m) n =
      let e : i + 1 + m ≡ i + suc m = omega arith in
      let d : o + length (row_text t w i) + length (run_text t w (i + 1) m) ≡ o + length (row_text t w i ++ run_text t w (i + 1) m) = simp length-append (omega arith) in
      rw (suc-add, words_append (o + length (row_text t w i)) (i + 1) m n, e, d) (sym (append_assoc (row_words o t w i) (run_words (o + length (row_text t w i)) t w (i + 1) m) _))

  -- two runs, and one row more
  text_both : (i m n : ℕ) (b c : Bytes) → run_text t w i m ≡ b → run_text t w (i + m) n ≡ c → run_text t w i (m + n) ≡ b ++ c
  text_both i m n b c p q = text_append i m n ∙ rw (p, q)

  pub text_more : (i n : ℕ) → run_text t w i (n + 1) ≡ run_text t w i n ++ row_text t w (i + n)
  text_more i n = text_append i n 1 ∙ rw append-nil

  text_end : (i j n : ℕ) (b : Bytes) → j ≡ i + n → run_text t w i n ≡ b → row_text t w j ≡ [] → run_text t w i (n + 1) ≡ b
  text_end i j n b e p q = text_more i n ∙ rw (← e, p, q, append-nil)

  words_both : (o o' i m n : ℕ) (u v : List ℕ) → o' ≡ o + length (run_text t w i m) → run_words o t w i m ≡ u → run_words o' t w (i + m) n ≡ v → run_words o t w i (m + n) ≡ u ++ v
  words_both o o' i m n u v e p q = words_append o i m n ∙ rw (← e, p, q)

  pub words_more : (o i n : ℕ) → run_words o t w i (n + 1) ≡ run_words o t w i n ++ row_words (o + length (run_text t w i n)) t w (i + n)
  words_more o i n = words_append o i n 1 ∙ rw append-nil

  words_end : (o i j n : ℕ) (u v : List ℕ) → j ≡ i + n → run_words o t w i n ≡ u → ((x : ℕ) → row_words x t w j ≡ v) → run_words o t w i (n + 1) ≡ u ++ v
  words_end o i j n u v e p q = words_more o i n ∙ rw (← e, p, q (o + length (run_text t w i n)))

  pub length_words : (o i n : ℕ) → length (run_words o t w i n) ≡ n * row_width
  unfolding row_words
  length_words o i zero = refl
  length_words o i (suc n) = simp length-append (omega (arith, go (shape_of (kind_at w i)) (row_text t w i), length_words (o + length (row_text t w i)) (i + 1) n))
    where
      go : (s : Shape) (b : Bytes) → length (words_by s o b (kind_at w i) (x_at w i) (y_at w i) (size_at w i)) ≡ 4
      go Lit b = refl
      go Num b = refl
      go One b = refl
      go Two b = refl
      go Skips b = refl

-- ---- the run of a Skip's strings

module _ (t : Bytes) {w : List ℕ} where
  pub text_strs : {j : ℕ} (ss : List Span) → AtStrs w j ss → run_text t w j (length ss) ≡ joined (map (bytes_at t) ss)
  text_strs [] a = refl
  text_strs {j = j} (s ∷ ss) a = rw (lit_text t (root_found (at_first a)) (lit_shape Str), text_strs {j = j + 1} ss (at_others a))

  pub words_strs : {j : ℕ} (o : ℕ) (ss : List Span) → AtStrs w j ss → run_words o t w j (length ss) ≡ str_rows (spans o (map (bytes_at t) ss))
  words_strs o [] a = refl
  words_strs {j = j} o (s ∷ ss) a = rw (lit_words t (root_found (at_first a)) o (lit_shape Str), lit_text t (root_found (at_first a)) (lit_shape Str), words_strs {j = j + 1} (o + length (bytes_at t s)) ss (at_others a))

-- ---- the run of a tree

one_not : (k : ℕ) → shape_of k ≡ One → shape_of k ≡ Lit → ⊥
one_not k p q = let z : ◌≡◌ {A = ℕ} 0 1 = cc in omega arith

two_not : (k : ℕ) → shape_of k ≡ Two → shape_of k ≡ Lit → ⊥
two_not k p q = let z : ◌≡◌ {A = ℕ} 0 1 = cc in omega arith

num_not : (k : ℕ) → shape_of k ≡ Num → shape_of k ≡ Lit → ⊥
num_not k p q = let z : ◌≡◌ {A = ℕ} 0 1 = cc in omega arith

skips_not : shape_of 17 ≡ Lit → ⊥
skips_not q = let p : shape_of 17 ≡ Skips = skip_shape in let z : ◌≡◌ {A = ℕ} 0 1 = cc in omega arith

-- from row j on, up to the root at row i
module _ (t : Bytes) {w : List ℕ} where
  pub text_tree : {i : ℕ} (j : ℕ) (r : Expr Span) → At w i r → i + 1 ≡ j + size r → run_text t w j (size r) ≡ text_of (resolve t r)
  text_tree {i} j (lit k s) a h = let e : i ≡ j = omega arith in rw (← e, append-nil) (lit_text t (root_found a) (lit_shape k))
  text_tree {i} j (fixed f) a h = let e : i ≡ j = omega arith in rw (← e, append-nil) (other_text t (root_found a) (num_not _ (fixed_shape f)))
  text_tree {i} j (skip ss) a h =
      let e : i - length ss ≡ j = omega arith in
      text_end t w j i (length ss) _ (omega arith) (text_strs t ss (rw e at (at_strs a))) (other_text t (root_found a) skips_not)
  text_tree {i} j (un u c) a h =
      text_end t w j i (size c) _ (omega arith) (text_tree {i = i - 1} j c (at_un a) (omega (arith, size_pos c))) (other_text t (root_found a) (one_not _ (un_shape u)))
  text_tree {i} j (bin b l r) a h =
      text_end t w j i (size l + size r) _ (omega arith)
      (text_both t w j (size l) (size r) _ _ (text_tree j l (at_left_lem a) (omega (arith, size_pos l))) (text_tree (j + size l) r (at_right_lem a) (omega (arith, size_pos l))))
      (other_text t (root_found a) (two_not _ (bin_shape b)))

  pub words_tree : {i : ℕ} (o j : ℕ) (r : Expr Span) → At w i r → i + 1 ≡ j + size r → run_words o t w j (size r) ≡ flat (packed o (resolve t r))
  words_tree {i} o j (lit k s) a h = let e : i ≡ j = omega arith in rw (← e, append-nil) (lit_words t (root_found a) o (lit_shape k))
  words_tree {i} o j (fixed f) a h = let e : i ≡ j = omega arith in rw (← e, append-nil) (other_words t (root_found a) o (num_not _ (fixed_shape f)))
  words_tree {i} o j (skip ss) a h =
      let e : i - length ss ≡ j = omega arith in
      let n : length ss ≡ length (spans o (map (bytes_at t) ss)) = sym (length_spans o (map (bytes_at t) ss) ∙ length-map ss (bytes_at t)) in
      words_end t w o j i (length ss) _ _ (omega arith) (words_strs t o ss (rw e at (at_strs a))) (λ x. other_words t (root_found a) x skips_not) ∙ rw n
  words_tree {i} o j (un u c) a h =
      let n : size c ≡ size (packed o (resolve t c)) = sym (size_packed o (resolve t c) ∙ size_resolve t c) in
      words_end t w o j i (size c) _ _ (omega arith) (words_tree {i = i - 1} o j c (at_un a) (omega (arith, size_pos c))) (λ x. other_words t (root_found a) x (one_not _ (un_shape u))) ∙ rw n
  words_tree {i} o j (bin b l r) a h =
      let hl : i - 1 - size r + 1 ≡ j + size l = omega (arith, size_pos l) in
      let x : ℕ = o + length (text_of (resolve t l)) in
      let n : size l ≡ size (packed o (resolve t l)) = sym (size_packed o (resolve t l) ∙ size_resolve t l) in
      let m : size r ≡ size (packed x (resolve t r)) = sym (size_packed x (resolve t r) ∙ size_resolve t r) in
      words_end t w o j i (size l + size r) _ _ (omega arith)
      (words_both t w o x j (size l) (size r) _ _ (rw (text_tree j l (at_left_lem a) hl)) (words_tree o j l (at_left_lem a) hl) (words_tree x (j + size l) r (at_right_lem a) (omega (arith, size_pos l))))
      (λ x. other_words t (root_found a) x (two_not _ (bin_shape b)))
      ∙ rw (n, m) (simp append_assoc)

-- ---- what the copies of rows answer

-- all rows of a tree, and of a Skip's strings
module _ (t : Bytes) {w : List ℕ} (a : Option Place) (p : Place) (o o' b b' : List ℕ) where
  pub tree_copied : {i : ℕ} (n : ℕ) (r : Expr Span) → At w i r → n ≡ size r → PutAnswer a p n (run_words p.text t w (i + 1 - n) n) (run_text t w (i + 1 - n) n) o o' b b' → Answer a p (resolve t r) o o' b b'
  tree_copied {i} n r s e h =
      let l : i + 1 ≡ i + 1 - n + size r = omega (arith, (root s).most) in
      put_answer a p (resolve t r) o o' b b'
      (rw (size_resolve t r, ← (words_tree t p.text (i + 1 - n) r s l), ← (text_tree t (i + 1 - n) r s l), ← e) h)

  pub strs_copied : {j : ℕ} (k : ℕ) (ss : List Span) → AtStrs w j ss → length ss ≡ k → PutAnswer a p k (run_words p.text t w j k) (run_text t w j k) o o' b b' → StrsAnswer a p (map (bytes_at t) ss) o o' b b'
  strs_copied {j} k ss s e h = rw (length-map, ← (words_strs t p.text ss s), ← (text_strs t ss s), e) h
