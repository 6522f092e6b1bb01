-- Sums over words in fours, and what they are of a table's words: the length of its packed text. Assumes nothing.
use mathlib.Core.Path.{◌≡◌, refl, ap, ◌∙◌}
use mathlib.Core.List.{List, [], ◌∷◌, ◌++◌, map, append_assoc}
use Prim.Native.Nat.{ℕ, suc, ◌+◌, ◌-◌, ◌*◌, ◌≤◌}
use native.Mathlib.Omega.{arith}
use lib.ListN.{length, get_or, drop, length-drop, length-append}
use lib.Seq.{get_or-append-add}
use Rattle.grammar.specs.Numbers.{row_width}
use Rattle.grammar.specs.Basic.{Bytes}
use Rattle.grammar.specs.Tree as tree
use Rattle.grammar.specs.Tree.{Bin, Expr, Fixed, Lit, Un, bin, bin_kind, fixed, fixed_head, lit, lit_kind, size, skip, un, un_head}
use Rattle.grammar.specs.Rows.{Span, flat, row, str_rows}
use Rattle.grammar.specs.Text.{bytes_at, joined, resolve, text_of}
use Rattle.grammar.specs.Table.{Table, resolve_table, row_words, rule_words, table_text}
use Rattle.rows.specs.Rows.{AllWithin, At, Inside, Within, kind_at, shape_of, x_at, y_at}
use Rattle.rows.proofs.Fours.{four}
use Rattle.rows.proofs.Laws.{length_flat, length_part, size_pos}
use Rattle.rows.proofs.Insides.{inside_within}
use Rattle.names.specs.Names.{NamesInside}
use Rattle.packing.specs.Packing.{lit_length, name_length, row_length, sum_four}

-- ---- a walk over the rules or rows of the words w: what was summed is the sum without the words from i on

module _ (f : ℕ → ℕ → ℕ → ℕ) (w : List ℕ) (i sum : ℕ) (so_far : sum + sum_four f (drop (i * row_width) w) ≡ sum_four f w) where
  pub sum_more : (r : ℕ) → i * row_width + row_width ≤ length w → r ≡ f (get_or w (i * row_width) 0) (get_or w (i * row_width + 1) 0) (get_or w (i * row_width + 2) 0) → sum + r + sum_four f (drop ((i + 1) * row_width) w) ≡ sum_four f w
  sum_more r h e =
      let n : i * row_width + row_width ≡ (i + 1) * row_width = omega arith in
      let d : sum_four f (drop (i * row_width) w) ≡ f (get_or w (i * row_width) 0) (get_or w (i * row_width + 1) 0) (get_or w (i * row_width + 2) 0) + sum_four f (drop (i * row_width + row_width) w) = ap (sum_four f) (four w (i * row_width) h) in
      rw (← n) (omega (arith, so_far, d, e))

  pub sum_done : length w ≤ i * row_width + 3 → sum ≡ sum_four f w
  sum_done h = omega (arith, so_far, short (drop (i * row_width) w) (omega (arith, length-drop (i * row_width) w)))
    where
      short : (v : List ℕ) → length v ≤ 3 → sum_four f v ≡ 0
      short [] l = refl
      short (a ∷ []) l = refl
      short (a ∷ b ∷ []) l = refl
      short (a ∷ b ∷ c ∷ []) l = refl
      short (a ∷ b ∷ c ∷ d ∷ v) l = absurd (omega arith)

-- ---- the words after the first rule, and after the first tree

names_rest : (n o l y k : ℕ) (rs : List ℕ) → NamesInside (o ∷ l ∷ y ∷ k ∷ rs) n → NamesInside rs n
names_rest n o l y k rs ni i h =
    let e : (i + 1) * row_width ≡ suc (suc (suc (suc (i * row_width)))) = omega arith in
    let e₁ : (i + 1) * row_width + 1 ≡ suc (suc (suc (suc (i * row_width + 1)))) = omega arith in
    rw (e₁, e) at (ni (i + 1) (omega arith))

rows_rest : (n : ℕ) (u v : List ℕ) (k : ℕ) → length u ≡ k * row_width → Inside (u ++ v) n → Inside v n
unfolding kind_at x_at y_at
rows_rest n u v k l ins i h s =
    let z : (k + i) * row_width ≡ length u + i * row_width = omega arith in
    let z₁ : (k + i) * row_width + 1 ≡ length u + (i * row_width + 1) = omega arith in
    let z₂ : (k + i) * row_width + 2 ≡ length u + (i * row_width + 2) = omega arith in
    let q : kind_at (u ++ v) (k + i) ≡ kind_at v i = rw z (get_or-append-add u v (i * row_width) 0) in
    rw (z₁, z₂, get_or-append-add u v (i * row_width + 1) 0, get_or-append-add u v (i * row_width + 2) 0) at (ins (k + i) (omega (arith, length-append u v)) (ap shape_of q ∙ s))

-- ---- a tree's rows

module _ (text : Bytes) where
  sum_strs : (ss : List Span) (w : List ℕ) → AllWithin (length text) ss → sum_four row_length (str_rows ss ++ w) ≡ length (joined (map (bytes_at text) ss)) + sum_four row_length w
  unfolding lit_length
  sum_strs [] w v = omega arith
  sum_strs (s ∷ ss) w v = simp length-append (omega (arith, sum_strs ss w v.1, length_part text s.0 s.1 v.0))

  lit_sum : (k : Lit) (y : ℕ) → lit_length (lit_kind k) y ≡ y
  unfolding lit_length
  lit_sum tree.Str y = refl
  lit_sum tree.Insens y = refl
  lit_sum tree.Ident y = refl

  fixed_sum : (f : Fixed) → lit_length (fixed_head f).0 (fixed_head f).2 ≡ 0
  unfolding lit_length
  fixed_sum (tree.Range a b) = refl
  fixed_sum (tree.PeekSlice a b) = refl
  fixed_sum (tree.PeekFrom a) = refl

  un_sum : (u : Un) → lit_length (un_head u).0 (un_head u).2 ≡ 0
  unfolding lit_length
  un_sum tree.PosPred = refl
  un_sum tree.NegPred = refl
  un_sum tree.Opt = refl
  un_sum tree.Rep = refl
  un_sum tree.RepOnce = refl
  un_sum tree.Push = refl
  un_sum tree.RestoreOnErr = refl
  un_sum (tree.RepExact n) = refl
  un_sum (tree.RepMin n) = refl
  un_sum (tree.RepMax n) = refl
  un_sum (tree.RepMinMax m n) = refl

  skip_sum : lit_length 17 0 ≡ 0
  unfolding lit_length
  skip_sum = refl

  bin_sum : (b : Bin) → lit_length (bin_kind b) 0 ≡ 0
  unfolding lit_length
  bin_sum tree.Seq = refl
  bin_sum tree.Choice = refl

  sum_flat : (e : Expr Span) (w : List ℕ) → Within (length text) e → sum_four row_length (flat e ++ w) ≡ length (text_of (resolve text e)) + sum_four row_length w
  sum_flat (lit k s) w v = omega (arith, lit_sum k s.1, length_part text s.0 s.1 v)
  sum_flat (fixed f) w v = omega (arith, fixed_sum f)
  sum_flat (skip ss) w v = rw append_assoc (omega (arith, sum_strs ss (row (17, length ss, 0) (length ss + 1) ++ w) v, skip_sum))
  sum_flat (un u e) w v = rw append_assoc (omega (arith, sum_flat e (row (un_head u) (size e + 1) ++ w) v, un_sum u))
  sum_flat (bin b l r) w v =
      let z : List ℕ = row (bin_kind b, 0, 0) (size l + size r + 1) ++ w in
      simp (append_assoc, length-append) (omega (arith, sum_flat l (flat r ++ z) v.0, sum_flat r z v.1, bin_sum b))

  -- ---- a table's words

  sum_table : (t : Table Span) → NamesInside (rule_words t) (length text) → Inside (row_words t) (length text) → sum_four name_length (rule_words t) + sum_four row_length (row_words t) ≡ length (table_text (resolve_table text t))
  sum_table [] ni li = refl
  sum_table (r ∷ t) ni li =
      let b : Expr Span = r.body in
      let a : At (row_words (r ∷ t)) (size b - 1) b = record { before = []; after = row_words t; whole = refl; place = omega (arith, size_pos b) } in
      simp length-append
      (omega (
        arith,
        length_part text r.name.0 r.name.1 (ni 0 (omega arith)),
        sum_flat b (row_words t) (inside_within (length text) b li a),
        sum_table t (names_rest (length text) _ _ _ _ (rule_words t) ni) (rows_rest (length text) (flat b) (row_words t) (size b) (length_flat b) li),
      ))

  -- of a table that is lent
  pub sum_lent : (t : Table Span) (rs ws : List ℕ) (m n : ℕ) → m ≡ sum_four name_length rs → n ≡ sum_four row_length ws → rule_words t ≡ rs → row_words t ≡ ws → Inside ws (length text) → NamesInside rs (length text) → m + n ≡ length (table_text (resolve_table text t))
  sum_lent t rs ws m n e f g h li ni = omega (arith, e, f, ap (sum_four name_length) g, ap (sum_four row_length) h, sum_table t (rw (← g) at ni) (rw (← h) at li))
