-- Refusals 4 and 6 by rows: what the definitions ask of a table's trees is what is asked of each row. Assumes nothing.
use mathlib.Core.Path.{◌≡◌, refl, sym, ap, ap₂, ◌∙◌}
use mathlib.Core.Bool.{Bool, true, false, ◌||◌, cond, or_assoc, or_comm, or-false}
use mathlib.Core.List.{List, [], ◌∷◌, ◌++◌, append_assoc}
use Prim.Native.Nat.{ℕ, ◌+◌, ◌*◌, ◌/◌, ◌%◌, ◌≤◌, ◌<◌}
use native.Mathlib.Omega.{arith}
use borrow.Author.Tests.{ltb-true, ltb-false, eqb-true, le-ltb, ne_eqb}
use lib.Dec.{eqb, ltb}
use lib.ListN.{length, get_or}
use Rattle.grammar.specs.Numbers.{rule_width, length_word, row_width}
use Rattle.grammar.specs.Basic.{Bytes, any}
use Rattle.grammar.specs.Tree as tree
use Rattle.grammar.specs.Tree.{Un, Bin, Expr, lit, fixed, skip, un, bin, lit_kind, fixed_head, un_head, bin_kind, lits, any_node}
use Rattle.grammar.specs.Rows.{Span, str_rows, flat}
use Rattle.grammar.specs.Text.{resolve}
use Rattle.grammar.specs.Table.{Table, rule_words, row_words, resolve_table}
use Rattle.grammar.specs.Refusals.{bad_span, bad_range, bad_text, zero_un, zero_count, zero_counts}
use Rattle.rows.specs.Rows.{kind_at, x_at, y_at, shape_of, pick_shape, Inside}
use Rattle.rows.specs.declared.Shape.TheVariants.{Lit, Num, One, Two, Skips}
use Rattle.names.specs.Names.{NamesInside}
use Rattle.refusals.specs.Bytes.{any_four, bad_name, bad_row, zero_row}
use Rattle.refusals.proofs.Fours.{neither_left, none_pass}

or_sort : (x y u v : Bool) → ((x || y) || (u || v)) ≡ ((x || u) || (y || v))
or_sort true y u v = refl
or_sort false true true v = refl
or_sort false true false v = refl
or_sort false false u v = refl

-- a test asked of every row of a tree
module _ (p : ℕ → ℕ → ℕ → Bool) where
  abbrev any_str : List Span → Bool
  any_str [] = false
  any_str (s ∷ ss) = p 0 s.0 s.1 || any_str ss

  abbrev any_tree : Expr Span → Bool
  any_tree (lit k s) = p (lit_kind k) s.0 s.1
  any_tree (fixed f) = p (fixed_head f).0 (fixed_head f).1 (fixed_head f).2
  any_tree (skip ss) = any_str ss || p 17 (length ss) 0
  any_tree (un u e) = any_tree e || p (un_head u).0 (un_head u).1 (un_head u).2
  any_tree (bin b l r) = any_tree l || (any_tree r || p (bin_kind b) 0 0)

  any_strs : (ss : List Span) (w : List ℕ) → any_four p (str_rows ss ++ w) ≡ (any_str ss || any_four p w)
  any_strs [] w = refl
  any_strs (s ∷ ss) w = ap (λ (b : Bool). p 0 s.0 s.1 || b) (any_strs ss w) ∙ sym (or_assoc (p 0 s.0 s.1) (any_str ss) (any_four p w))

  any_flat : (e : Expr Span) (w : List ℕ) → any_four p (flat e ++ w) ≡ (any_tree e || any_four p w)
  any_flat (lit k s) w = refl
  any_flat (fixed f) w = refl
  any_flat (skip ss) w = rw append_assoc (any_strs ss _ ∙ sym (or_assoc (any_str ss) (p 17 (length ss) 0) (any_four p w)))
  any_flat (un u e) w = rw append_assoc (any_flat e _ ∙ sym (or_assoc (any_tree e) _ (any_four p w)))
  any_flat (bin b l r) w = simp append_assoc (any_flat l _ ∙ ap (λ (c : Bool). any_tree l || c) (any_flat r _) ∙ simp or_assoc)

  pub any_rows : (t : Table Span) → any_four p (row_words t) ≡ any (λ r. any_tree r.body) t
  any_rows [] = refl
  any_rows (r ∷ t) = any_flat r.body (row_words t) ∙ ap (λ (b : Bool). any_tree r.body || b) (any_rows t)

  pub any_rules : (t : Table Span) → any_four p (rule_words t) ≡ any (λ r. p r.name.0 r.name.1 r.type) t
  any_rules [] = refl
  any_rules (r ∷ t) = ap (λ (b : Bool). p r.name.0 r.name.1 r.type || b) (any_rules t)

any_ext : {A : Type 0} (f g : A → Bool) → ((a : A) → f a ≡ g a) → (l : List A) → any f l ≡ any g l
any_ext f g h [] = refl
any_ext f g h (a ∷ l) = ap₂ ◌||◌ (h a) (any_ext f g h l)

any_or : {A : Type 0} (f g : A → Bool) (l : List A) → any (λ a. f a || g a) l ≡ (any f l || any g l)
any_or f g [] = refl
any_or f g (a ∷ l) = ap (λ (b : Bool). (f a || g a) || b) (any_or f g l) ∙ or_sort (f a) (g a) (any f l) (any g l)

-- ---- refusal 6

zero_strs : (ss : List Span) → any_str zero_row ss ≡ false
unfolding zero_row
zero_strs [] = refl
zero_strs (s ∷ ss) = zero_strs ss

zero_un_lem : (u : Un) → zero_row (un_head u).0 (un_head u).1 (un_head u).2 ≡ zero_un u
unfolding zero_row
zero_un_lem tree.PosPred = refl
zero_un_lem tree.NegPred = refl
zero_un_lem tree.Opt = refl
zero_un_lem tree.Rep = refl
zero_un_lem tree.RepOnce = refl
zero_un_lem tree.Push = refl
zero_un_lem tree.RestoreOnErr = refl
zero_un_lem (tree.RepExact n) = refl
zero_un_lem (tree.RepMin n) = refl
zero_un_lem (tree.RepMax n) = refl
zero_un_lem (tree.RepMinMax m n) = refl

zero_tree : (e : Expr Span) → any_tree zero_row e ≡ any_node zero_count e
unfolding zero_row
zero_tree (lit tree.Str s) = refl
zero_tree (lit tree.Insens s) = refl
zero_tree (lit tree.Ident s) = refl
zero_tree (fixed (tree.Range a b)) = refl
zero_tree (fixed (tree.PeekSlice a b)) = refl
zero_tree (fixed (tree.PeekFrom a)) = refl
zero_tree (skip ss) = rw (zero_strs ss)
zero_tree (un u e) = ap₂ ◌||◌ (zero_tree e) (zero_un_lem u) ∙ or_comm (any_node zero_count e) (zero_un u)
zero_tree (bin tree.Seq l r) = ap₂ ◌||◌ (zero_tree l) (or-false (any_tree zero_row r) ∙ zero_tree r)
zero_tree (bin tree.Choice l r) = ap₂ ◌||◌ (zero_tree l) (or-false (any_tree zero_row r) ∙ zero_tree r)

zero_resolve : (text : Bytes) (e : Expr Span) → any_node zero_count (resolve text e) ≡ any_node zero_count e
zero_resolve text (lit k s) = refl
zero_resolve text (fixed f) = refl
zero_resolve text (skip ss) = refl
zero_resolve text (un u e) = ap (λ (b : Bool). zero_un u || b) (zero_resolve text e)
zero_resolve text (bin b l r) = ap₂ ◌||◌ (zero_resolve text l) (zero_resolve text r)

pub zeros_are : (text : Bytes) (t : Table Span) → zero_counts (resolve_table text t) ≡ any_four zero_row (row_words t)
unfolding zero_counts
zeros_are text t = go t ∙ sym (any_rows zero_row t)
  where
    go : (t : Table Span) → any (λ r. any_node zero_count r.body) (resolve_table text t) ≡ any (λ r. any_tree zero_row r.body) t
    go [] = refl
    go (r ∷ t) = ap₂ ◌||◌ (zero_resolve text r.body ∙ sym (zero_tree r.body)) (go t)

-- ---- refusal 4

not_lit : (a b c d : Bool) → pick_shape a Num (pick_shape b Two (pick_shape c Two (pick_shape d Skips One))) ≡ Lit → ⊥
not_lit true b c d h = let z : ◌≡◌ {A = ℕ} 0 1 = cc in omega arith
not_lit false true c d h = let z : ◌≡◌ {A = ℕ} 0 1 = cc in omega arith
not_lit false false true d h = let z : ◌≡◌ {A = ℕ} 0 1 = cc in omega arith
not_lit false false false true h = let z : ◌≡◌ {A = ℕ} 0 1 = cc in omega arith
not_lit false false false false h = let z : ◌≡◌ {A = ℕ} 0 1 = cc in omega arith

lit_kinds : (k : ℕ) → shape_of k ≡ Lit → (k ≤ 3) × (k ≡ 2 → ⊥)
unfolding shape_of
lit_kinds k h = go (ltb k 2) (eqb k 3) refl refl h
  where
    go : (a b : Bool) → ltb k 2 ≡ a → eqb k 3 ≡ b → pick_shape a Lit (pick_shape b Lit (pick_shape (ltb k 6) Num (pick_shape (eqb k 8) Two (pick_shape (eqb k 9) Two (pick_shape (eqb k 17) Skips One))))) ≡ Lit → (k ≤ 3) × (k ≡ 2 → ⊥)
    go true b p q e = let l : k < 2 = ltb-true k 2 p in omega arith
    go false true p q e = let l : k ≡ 3 = eqb-true k 3 q in omega arith
    go false false p q e = absurd (not_lit (ltb k 6) (eqb k 8) (eqb k 9) (eqb k 17) e)

module _ (text : Bytes) where
  bad_strs : (ss : List Span) → any_str (bad_row text) ss ≡ any (bad_span text) ss
  unfolding bad_row
  bad_strs [] = refl
  bad_strs (s ∷ ss) = ap (λ (b : Bool). bad_span text s || b) (bad_strs ss)

  bad_un : (u : Un) → bad_row text (un_head u).0 (un_head u).1 (un_head u).2 ≡ false
  unfolding bad_row
  bad_un tree.PosPred = refl
  bad_un tree.NegPred = refl
  bad_un tree.Opt = refl
  bad_un tree.Rep = refl
  bad_un tree.RepOnce = refl
  bad_un tree.Push = refl
  bad_un tree.RestoreOnErr = refl
  bad_un (tree.RepExact n) = refl
  bad_un (tree.RepMin n) = refl
  bad_un (tree.RepMax n) = refl
  bad_un (tree.RepMinMax m n) = refl

  any_append : (a b : List Span) → any (bad_span text) (a ++ b) ≡ (any (bad_span text) a || any (bad_span text) b)
  any_append [] b = refl
  any_append (s ∷ a) b = ap (λ (c : Bool). bad_span text s || c) (any_append a b) ∙ sym (or_assoc (bad_span text s) (any (bad_span text) a) (any (bad_span text) b))

  abbrev bads : Expr Span → Bool
  bads e = any (bad_span text) (lits e) || any_node bad_range e

  bad_tree : (e : Expr Span) → any_tree (bad_row text) e ≡ bads e
  unfolding bad_row
  bad_tree (lit tree.Str s) = sym (or-false (bad_span text s || false) ∙ or-false (bad_span text s))
  bad_tree (lit tree.Insens s) = sym (or-false (bad_span text s || false) ∙ or-false (bad_span text s))
  bad_tree (lit tree.Ident s) = sym (or-false (bad_span text s || false) ∙ or-false (bad_span text s))
  bad_tree (fixed (tree.Range a b)) = refl
  bad_tree (fixed (tree.PeekSlice a b)) = refl
  bad_tree (fixed (tree.PeekFrom a)) = refl
  bad_tree (skip ss) = ap (λ (c : Bool). c || false) (bad_strs ss)
  bad_tree (un u e) = ap₂ ◌||◌ (bad_tree e) (bad_un u) ∙ or-false (bads e)
  bad_tree (bin b l r) =
      ap₂ ◌||◌ (bad_tree l) (ap₂ ◌||◌ (bad_tree r) (bad_bin b) ∙ or-false (bads r))
      ∙ or_sort (any (bad_span text) (lits l)) (any_node bad_range l) (any (bad_span text) (lits r)) (any_node bad_range r)
      ∙ ap (λ (c : Bool). c || (any_node bad_range l || any_node bad_range r)) (sym (any_append (lits l) (lits r)))
    where
      bad_bin : (b : Bin) → bad_row text (bin_kind b) 0 0 ≡ false
      bad_bin tree.Seq = refl
      bad_bin tree.Choice = refl

  pub bads_are : (t : Table Span) → bad_text text t ≡ (any_four (bad_name text) (rule_words t) || any_four (bad_row text) (row_words t))
  unfolding bad_text
  bads_are t =
      any_or (λ r. bad_span text r.name) (λ r. bads r.body) t
      ∙ ap₂ ◌||◌ (sym (any_rules (bad_name text) t)) (any_ext (λ r. bads r.body) (λ r. any_tree (bad_row text) r.body) (λ r. sym (bad_tree r.body)) t ∙ sym (any_rows (bad_row text) t))

  -- names and literals that are not refused lie in the text
  span_inside : (s : Span) → bad_span text s ≡ false → s.0 + s.1 ≤ length text
  span_inside s h = ltb-false (length text) (s.0 + s.1) (neither_left _ _ h)

  pub names_inside : (rules : List ℕ) → length rules % rule_width ≡ 0 → any_four (bad_name text) rules ≡ false → NamesInside rules (length text)
  names_inside rules l h i k = span_inside (get_or rules (i * rule_width) 0, get_or rules (i * rule_width + length_word) 0) (none_pass (bad_name text) (length rules / rule_width) rules (omega arith) h i k)

  lit_bad : (k x y : ℕ) → shape_of k ≡ Lit → bad_row text k x y ≡ bad_span text (x, y)
  unfolding bad_row
  lit_bad k x y h = go (lit_kinds k h)
    where
      go : (k ≤ 3) × (k ≡ 2 → ⊥) → cond (ltb 3 k) false (cond (eqb k 2) (ltb 127 x || ltb 127 y) (bad_span text (x, y))) ≡ bad_span text (x, y)
      go q = rw (le-ltb 3 k q.0, ne_eqb k 2 q.1)

  pub rows_inside : (rows : List ℕ) → length rows % row_width ≡ 0 → any_four (bad_row text) rows ≡ false → Inside rows (length text)
  unfolding kind_at x_at y_at
  rows_inside rows l h i k s =
      let p : bad_row text (get_or rows (i * row_width) 0) (get_or rows (i * row_width + 1) 0) (get_or rows (i * row_width + 2) 0) ≡ false = none_pass (bad_row text) (length rows / row_width) rows (omega arith) h i k in
      span_inside (get_or rows (i * row_width + 1) 0, get_or rows (i * row_width + 2) 0) (sym (lit_bad (get_or rows (i * row_width) 0) (get_or rows (i * row_width + 1) 0) (get_or rows (i * row_width + 2) 0) s) ∙ p)
