-- Rows that are right one by one are a pile of trees, and one tree's rows are right: so the local test is exact. Assumes nothing.
use mathlib.Core.Path.{◌≡◌, refl, sym, ap, ap₂, subst, ◌∙◌}
use mathlib.Core.Bool.{Bool, true, false, ◌&&◌, ◌||◌, or-true, or-false}
use mathlib.Core.List.{List, [], ◌∷◌, ◌++◌, append_assoc, append-nil}
use Prim.Native.Nat.{ℕ, zero, suc, ◌+◌, ◌-◌, ◌*◌, ◌≤◌, ◌<◌}
use native.Mathlib.Numerals.{add-one}
use native.Mathlib.Decide.{ℕ_discrete, dec_le}
use native.Mathlib.Omega.{arith}
use borrow.Author.Tests.{le-leb, leb-true, eqb-true}
use lib.Dec.{eqb, leb}
use lib.ListN.{length, get_or, take, drop, length-append, take-append-drop}
use lib.Seq.{take-add, take_at, take-take, take_all, length-take-le}
use Rattle.grammar.specs.Numbers.{row_width}
use Rattle.grammar.specs.Tree as tree
use Rattle.grammar.specs.Tree.{Head, Str, Fixed, Un, Bin, Expr, lit, fixed, skip, un, bin, lit_kind, fixed_head, un_head, bin_kind, size}
use Rattle.grammar.specs.Rows.{Span, row, str_rows, flat}
use Rattle.grammar.specs.Reading.{Kinds, read_tree}
use Rattle.grammar.proofs.Logic.{and_left, and_right}
use Rattle.grammar.proofs.Words.{Allowed, StrsAllowed, tree_back, tree_is, tree_allowed}
use Rattle.rows.specs.Rows.{kind_at, x_at, y_at, size_at, shape_of, At, AtStrs, Tells}
use Rattle.rows.specs.declared.Shape.{Shape}
use Rattle.rows.proofs.Laws.{head_of, below, flat_root, length_flat, size_pos, root, root_found, at_un, at_left_lem, at_right_lem, at_strs, at_first, at_others}
use Rattle.rows.proofs.Cells.{lit_shape, fixed_shape, un_shape, bin_shape, skip_shape, tells_iff, tells_eqb}
use Rattle.rows.proofs.Views.{shape_in, shape_in_lem, as_lit, lit_is}
use Rattle.rows.proofs.Fours.{four}
use Rattle.refusals.specs.Local.{up_to, unused_zero, OneFits, TwoFits, SkipFits, Below, RowFits, IsTree}

-- ---- the head of a row that is right is that of a node

data Node (k x y : ℕ) : Type 0 where
  a_lit : (l : tree.Lit) → lit_kind l ≡ k → Node k x y
  a_fixed : (f : Fixed) → ◌≡◌ {A = Head} (fixed_head f) (k, x, y) → Node k x y
  a_un : (u : Un) → ◌≡◌ {A = Head} (un_head u) (k, x, y) → Node k x y
  a_bin : (b : Bin) → ◌≡◌ {A = Head} (bin_kind b, 0, 0) (k, x, y) → Node k x y
  a_skip : ◌≡◌ {A = Head} (17, x, 0) (k, x, y) → Node k x y

abbrev AllBelow : (ℕ → Type 0) → ℕ → Type 0
AllBelow P zero = Unit {0}
AllBelow P (suc n) = AllBelow P n × P n

one_below : (P : ℕ → Type 0) (n : ℕ) → AllBelow P n → (k : ℕ) → k < n → P k
one_below P zero a k h = absurd (omega arith)
one_below P (suc n) a k h = go (ℕ_discrete k n) (λ l. one_below P n a.0 k l)
  where
    go : Dec (k ≡ n) → (k < n → P k) → P k
    go (yes e) ih = rw e a.1
    go (no e) ih = ih (omega arith)

-- what a test of unused words says
x_used : (x y : ℕ) (b : Bool) → ((eqb y 0 || false) && b) ≡ true → y ≡ 0
x_used x y b h = eqb-true y 0 (sym (or-false (eqb y 0)) ∙ (and_left (eqb y 0 || false) b h))

none_used : (x y : ℕ) → ((eqb y 0 || false) && (eqb x 0 || false)) ≡ true → (x ≡ 0) × (y ≡ 0)
none_used x y h = (eqb-true x 0 (sym (or-false (eqb x 0)) ∙ (and_right (eqb y 0 || false) (eqb x 0 || false) h)), x_used x y (eqb x 0 || false) h)

both_used : (x y : ℕ) → ((eqb y 0 || true) && (eqb x 0 || true)) ≡ true
both_used x y = rw (or-true (eqb y 0)) (or-true (eqb x 0))

module _ (x y : ℕ) where
  plain : (u : Un) (k : ℕ) → ◌≡◌ {A = Head} (un_head u) (k, 0, 0) → (x ≡ 0) × (y ≡ 0) → Node k x y
  plain u k e z = a_un u (e ∙ rw (z.0, z.1))

  counted : (u : Un) (k : ℕ) → ◌≡◌ {A = Head} (un_head u) (k, x, 0) → y ≡ 0 → Node k x y
  counted u k e z = a_un u (e ∙ rw z)

  two : (b : Bin) → (x ≡ 0) × (y ≡ 0) → Node (bin_kind b) x y
  two b z = a_bin b (rw (z.0, z.1))

  abbrev Reads : ℕ → Type 0
  Reads k = unused_zero k x y ≡ true → Node k x y

  -- the twenty kinds
  kinds : AllBelow Reads 20
  unfolding unused_zero
  kinds = (
    (
      (
        (
          (
            (
              (
                (
                  (
                    (
                      (
                        (
                          (
                            (
                              (
                                (
                                  (
                                    (
                                      (
                                        (
                                          tt,
                                          λ h. a_lit tree.Str refl,
                                        ),
                                        λ h. a_lit tree.Insens refl,
                                      ),
                                      λ h. a_fixed (tree.Range x y) refl,
                                    ),
                                    λ h. a_lit tree.Ident refl,
                                  ),
                                  λ h. a_fixed (tree.PeekFrom x) (rw (x_used x y _ h)),
                                ),
                                λ h. a_fixed (tree.PeekSlice x y) refl,
                              ),
                              λ h. plain tree.PosPred 6 refl (none_used x y h),
                            ),
                            λ h. plain tree.NegPred 7 refl (none_used x y h),
                          ),
                          λ h. two tree.Seq (none_used x y h),
                        ),
                        λ h. two tree.Choice (none_used x y h),
                      ),
                      λ h. plain tree.Opt 10 refl (none_used x y h),
                    ),
                    λ h. plain tree.Rep 11 refl (none_used x y h),
                  ),
                  λ h. plain tree.RepOnce 12 refl (none_used x y h),
                ),
                λ h. counted (tree.RepExact x) 13 refl (x_used x y _ h),
              ),
              λ h. counted (tree.RepMin x) 14 refl (x_used x y _ h),
            ),
            λ h. counted (tree.RepMax x) 15 refl (x_used x y _ h),
          ),
          λ h. a_un (tree.RepMinMax x y) refl,
        ),
        λ h. a_skip (rw (x_used x y _ h)),
      ),
      λ h. plain tree.Push 18 refl (none_used x y h),
    ),
    λ h. plain tree.RestoreOnErr 19 refl (none_used x y h),
  )

  node : (k : ℕ) → k ≤ 19 → unused_zero k x y ≡ true → Node k x y
  node k h = one_below Reads 20 kinds k (omega arith)

-- the other way: a node's unused words are 0
head_unused : (e : Expr Span) → unused_zero (head_of e).0 (head_of e).1 (head_of e).2 ≡ true
unfolding unused_zero
head_unused (lit tree.Str s) = both_used s.0 s.1
head_unused (lit tree.Insens s) = both_used s.0 s.1
head_unused (lit tree.Ident s) = both_used s.0 s.1
head_unused (fixed (tree.Range a b)) = both_used a b
head_unused (fixed (tree.PeekSlice a b)) = both_used a b
head_unused (fixed (tree.PeekFrom a)) = or-true (eqb a 0)
head_unused (skip ss) = or-true (eqb (length ss) 0)
head_unused (un tree.PosPred e) = refl
head_unused (un tree.NegPred e) = refl
head_unused (un tree.Opt e) = refl
head_unused (un tree.Rep e) = refl
head_unused (un tree.RepOnce e) = refl
head_unused (un tree.Push e) = refl
head_unused (un tree.RestoreOnErr e) = refl
head_unused (un (tree.RepExact n) e) = or-true (eqb n 0)
head_unused (un (tree.RepMin n) e) = or-true (eqb n 0)
head_unused (un (tree.RepMax n) e) = or-true (eqb n 0)
head_unused (un (tree.RepMinMax m n) e) = both_used m n
head_unused (bin tree.Seq l r) = refl
head_unused (bin tree.Choice l r) = refl

-- ---- a tree's rows are right

module _ {w : List ℕ} where
  strs_kinds : (ss : List Span) (m : ℕ) → AtStrs w m ss → (j : ℕ) → m ≤ j → j < m + length ss → kind_at w j ≡ 0
  strs_kinds [] m a j h l = absurd (omega arith)
  strs_kinds (s ∷ ss) m a j h l = go (ℕ_discrete j m) (λ k. strs_kinds ss (m + 1) (at_others a) j k (omega arith))
    where
      go : Dec (j ≡ m) → (m + 1 ≤ j → kind_at w j ≡ 0) → kind_at w j ≡ 0
      go (yes e) ih = rw e (root (at_first a)).kind
      go (no e) ih = ih (omega arith)

  below_fits : (e : Expr Span) (i : ℕ) → At w i e → Below (shape_in e) w i (x_at w i) (size_at w i)
  below_fits (lit k s) i a = (root a).rows
  below_fits (fixed f) i a = (root a).rows
  below_fits (skip ss) i a =
      let t = root a in
      let x : x_at w i ≡ length ss = t.x in
      let m : length ss + 1 ≤ i + 1 = t.most in
      rw x (record { there = omega arith; strs = λ j h l. strs_kinds ss (i - length ss) (at_strs a) j (omega arith) (omega arith); sum = t.rows })
  below_fits (un u c) i a =
      let t = root a in
      let m : size c + 1 ≤ i + 1 = t.most in
      record { there = omega (arith, size_pos c); sum = t.rows ∙ ap (λ (n : ℕ). n + 1) (sym (root (at_un a)).rows) }
  below_fits (bin b l r) i a =
      let t = root a in
      let m : size l + size r + 1 ≤ i + 1 = t.most in
      let p : size_at w (i - 1) ≡ size r = (root (at_right_lem a)).rows in
      let q : size_at w (i - 1 - size r) ≡ size l = (root (at_left_lem a)).rows in
      record { there = rw p (omega (arith, size_pos l)); sum = rw (p, q) t.rows }

allowed_kind : (most : ℕ) (e : Expr Span) → Allowed (up_to most) e → (head_of e).0 ≤ most
allowed_kind most (lit k s) h = leb-true _ _ h
allowed_kind most (fixed f) h = leb-true _ _ h
allowed_kind most (skip ss) h = leb-true _ _ h.1
allowed_kind most (un u e) h = leb-true _ _ h.1
allowed_kind most (bin b l r) h = leb-true _ _ h.2

or_else : {P R : Type 0} → Dec P → (P → R) → ((P → ⊥) → R) → R
or_else (yes p) f g = f p
or_else (no p) f g = g p

module _ (w : List ℕ) (most : ℕ) where
  root_fits : (e : Expr Span) (i : ℕ) → Allowed (up_to most) e → At w i e → RowFits most w i
  root_fits e i p a =
      let t = root a in
      record {
        kind = rw t.kind (allowed_kind most e p);
        unused = rw (t.kind, t.x, t.y) (head_unused e);
        below = subst (λ (s : Shape). Below s w i (x_at w i) (size_at w i)) (sym (ap shape_of t.kind ∙ shape_in_lem e)) (below_fits e i a);
      }

  -- at row i, or at another
  at_or : (i j : ℕ) → Dec (j ≡ i) → RowFits most w i → ((j ≡ i → ⊥) → RowFits most w j) → RowFits most w j
  at_or i j (yes e) h f = rw e h
  at_or i j (no e) h f = f e

  strs_fit : (ss : List Span) (m : ℕ) → StrsAllowed (up_to most) ss → AtStrs w m ss → (j : ℕ) → m ≤ j → j < m + length ss → RowFits most w j
  strs_fit [] m p a j h l = absurd (omega arith)
  strs_fit (s ∷ ss) m p a j h l = at_or m j (ℕ_discrete j m) (root_fits (lit Str s) m p.0 (at_first a)) (λ n. strs_fit ss (m + 1) p.1 (at_others a) j (omega arith) (omega arith))

  -- every row of a tree that stands in the words is right
  pub tree_fits : (e : Expr Span) (i : ℕ) → Allowed (up_to most) e → At w i e → (j : ℕ) → i < j + size e → j ≤ i → RowFits most w j
  tree_fits (lit k s) i p a j h l = let e : j ≡ i = omega arith in rw e (root_fits (lit k s) i p a)
  tree_fits (fixed f) i p a j h l = let e : j ≡ i = omega arith in rw e (root_fits (fixed f) i p a)
  tree_fits (skip ss) i p a j h l =
      let m : length ss + 1 ≤ i + 1 = (root a).most in
      at_or i j (ℕ_discrete j i) (root_fits (skip ss) i p a) (λ n. strs_fit ss (i - length ss) p.0 (at_strs a) j (omega arith) (omega arith))
  tree_fits (un u c) i p a j h l = at_or i j (ℕ_discrete j i) (root_fits (un u c) i p a) (λ n. tree_fits c (i - 1) p.0 (at_un a) j (omega arith) (omega arith))
  tree_fits (bin b c d) i p a j h l =
      let m : size c + size d + 1 ≤ i + 1 = (root a).most in
      at_or i j (ℕ_discrete j i) (root_fits (bin b c d) i p a) (λ n. or_else (dec_le i (j + size d))
      (λ q. tree_fits d (i - 1) p.1 (at_right_lem a) j (omega arith) (omega arith))
      (λ q. tree_fits c (i - 1 - size d) p.0 (at_left_lem a) j (omega arith) (omega arith)))

-- ---- rows that are right are a pile of trees, the last on top

abbrev flats : List (Expr Span) → List ℕ
flats [] = []
flats (e ∷ st) = flats st ++ flat e

abbrev AllAllowed : Kinds → List (Expr Span) → Type 0
AllAllowed ok [] = Unit {0}
AllAllowed ok (e ∷ st) = Allowed ok e × AllAllowed ok st

-- the first i rows are those of the pile
record Piled (w : List ℕ) (i : ℕ) (st : List (Expr Span)) : Type 0 where
  words : flats st ≡ take (i * row_width) w
  within : i * row_width ≤ length w

module _ {w : List ℕ} {i : ℕ} where
  pile_length : {st : List (Expr Span)} → Piled w i st → length (flats st) ≡ i * row_width
  pile_length p = ap length p.words ∙ length-take-le (i * row_width) w p.within

  nothing_piled : Piled w i [] → i ≡ 0
  nothing_piled p = let e : 0 ≡ i * row_width = pile_length p in omega arith

  module _ {e : Expr Span} {st : List (Expr Span)} (p : Piled w i (e ∷ st)) where
    rest_length : length (flats st) + size e * row_width ≡ i * row_width
    rest_length = omega (arith, pile_length p, length-append (flats st) (flat e), length_flat e)

    top_at : At w (i - 1) e
    top_at = record {
      before = flats st;
      after = drop (i * row_width) w;
      whole = sym (take-append-drop (i * row_width) w) ∙ ap (λ (l : List ℕ). l ++ drop (i * row_width) w) (sym p.words) ∙ append_assoc (flats st) (flat e) _;
      place = omega (arith, rest_length, size_pos e);
    }

    top_size_lem : size e ≤ i
    top_size_lem = omega (arith, rest_length)

    rest_piled : Piled w (i - size e) st
    rest_piled =
        let n : length (flats st) ≡ (i - size e) * row_width = omega (arith, rest_length) in
        record {
          words = sym (take_at (flats st) (flat e) ((i - size e) * row_width) n) ∙ ap (take ((i - size e) * row_width)) p.words ∙ take-take ((i - size e) * row_width) (i * row_width) w (omega arith);
          within = omega (arith, p.within);
        }

next_row : (w : List ℕ) (i : ℕ) → i * row_width + row_width ≤ length w → take (i * row_width + row_width) w ≡ take (i * row_width) w ++ row (kind_at w i, x_at w i, y_at w i) (size_at w i)
unfolding kind_at x_at y_at size_at
next_row w i h = take-add (i * row_width) 4 w ∙ ap (λ (l : List ℕ). take (i * row_width) w ++ take 4 l) (four w (i * row_width) h)

-- a node over the top of the pile, whose row comes next
record Pile (ok : Kinds) (w : List ℕ) (i : ℕ) : Type 0 where
  stack : List (Expr Span)
  piled : Piled w i stack
  allowed : AllAllowed ok stack

module _ (ok : Kinds) (w : List ℕ) (i : ℕ) where
  grow : (e : Expr Span) (st : List (Expr Span)) → flats st ++ below e ≡ take (i * row_width) w → ◌≡◌ {A = Head} (head_of e) (kind_at w i, x_at w i, y_at w i)
      → size e ≡ size_at w i → Allowed ok e → AllAllowed ok st → i * row_width + row_width ≤ length w → Pile ok w (i + 1)
  grow e st b h n p q l =
      let m : (i + 1) * row_width ≡ i * row_width + row_width = omega arith in
      record {
        stack = e ∷ st;
        piled = record {
          words =
              ap (λ (v : List ℕ). flats st ++ v) (flat_root e)
              ∙ sym (append_assoc (flats st) (below e) (row (head_of e) (size e)))
              ∙ ap (λ (v : List ℕ). v ++ row (head_of e) (size e)) b
              ∙ ap₂ (λ (g : Head) (k : ℕ). take (i * row_width) w ++ row g k) h n
              ∙ sym (next_row w i l)
              ∙ ap (λ (k : ℕ). take k w) (sym m);
          within = omega arith;
        };
        allowed = (p, q);
      }

-- the strings on top of the pile, above those already taken
record Taken (ok : Kinds) (k : ℕ) (w : List ℕ) (all : List ℕ) : Type 0 where
  strings : List Span
  count : length strings ≡ k
  under : List (Expr Span)
  words : flats under ++ str_rows strings ≡ all
  strs_ok : StrsAllowed ok strings
  under_ok : AllAllowed ok under

is_str : {w : List ℕ} {i : ℕ} (e : Expr Span) → At w i e → kind_at w i ≡ 0 → e ≡ lit Str ((head_of e).1, (head_of e).2)
unfolding shape_of
is_str e a h =
    let k : (head_of e).0 ≡ 0 = sym (root a).kind ∙ h in
    lit_is Str (as_lit (root_found a) a (ap shape_of k)) k

take_strs : (ok : Kinds) (w : List ℕ) (k i : ℕ) (st : List (Expr Span)) (acc : List Span) → Piled w i st → AllAllowed ok st → StrsAllowed ok acc → k ≤ i
    → ((j : ℕ) → i ≤ j + k → j < i → kind_at w j ≡ 0) → Taken ok (k + length acc) w (flats st ++ str_rows acc)
take_strs ok w zero i st acc p q s h f = record { strings = acc; count = omega arith; under = st; words = refl; strs_ok = s; under_ok = q }
take_strs ok w (suc k) i [] acc p q s h f = let z : i ≡ 0 = nothing_piled p in absurd (omega arith)
take_strs ok w (suc k) i (e ∷ st) acc p q s h f =
    let t : Span = ((head_of e).1, (head_of e).2) in
    let a : At w (i - 1) e = top_at p in
    let b : e ≡ lit Str t = is_str e a (f (i - 1) (omega arith) (omega arith)) in
    let z : size e ≡ 1 = ap size b in
    let m : i - size e ≡ i - 1 = omega arith in
    let ih : Taken ok (k + length (t ∷ acc)) w (flats st ++ str_rows (t ∷ acc)) = take_strs ok w k (i - 1) st (t ∷ acc) (rw m at (rest_piled p)) q.1 (rw b at q.0, s) (omega arith) (λ j g l. f j (omega arith) (omega arith)) in
    let n : k + length (t ∷ acc) ≡ suc k + length acc = omega arith in
    record {
      strings = ih.strings;
      count = ih.count ∙ n;
      under = ih.under;
      words = ih.words ∙ sym (append_assoc (flats st) (flat (lit Str t)) (str_rows acc)) ∙ ap (λ (x : Expr Span). (flats st ++ flat x) ++ str_rows acc) (sym b);
      strs_ok = ih.strs_ok;
      under_ok = ih.under_ok;
    }

module _ (most : ℕ) (w : List ℕ) (i : ℕ) (small : most ≤ 19) (long : i * row_width + row_width ≤ length w) (f : RowFits most w i) where
  abbrev k : ℕ
  k = kind_at w i

  abbrev h : Head
  h = (kind_at w i, x_at w i, y_at w i)

  ok_kind : (g : Head) → g ≡ h → up_to most g.0 ≡ true
  ok_kind g e = ap (λ (j : Head). leb j.0 most) e ∙ le-leb k most f.kind

  has : {s : Shape} → shape_of k ≡ s → Below s w i (x_at w i) (size_at w i)
  has {s} e = subst (λ (s : Shape). Below s w i (x_at w i) (size_at w i)) e f.below

  shape_of_lem : {s : Shape} (g : Head) → g ≡ h → shape_of g.0 ≡ s → shape_of k ≡ s
  shape_of_lem g e q = ap (λ (j : Head). shape_of j.0) (sym e) ∙ q

  leaf : (e : Expr Span) (st : List (Expr Span)) → Piled w i st → AllAllowed (up_to most) st → below e ≡ [] → head_of e ≡ h → size e ≡ size_at w i → Allowed (up_to most) e → Pile (up_to most) w (i + 1)
  leaf e st p q b g n a = grow (up_to most) w i e st (ap (λ (l : List ℕ). flats st ++ l) b ∙ append-nil (flats st) ∙ p.words) g n a q long

  one_step : (u : Un) (st : List (Expr Span)) → Piled w i st → AllAllowed (up_to most) st → un_head u ≡ h → OneFits w i (size_at w i) → Pile (up_to most) w (i + 1)
  one_step u [] p q e g = let z : i ≡ 0 = nothing_piled p in absurd (omega (arith, g.there))
  one_step u (c ∷ st) p q e g =
      let n : size_at w (i - 1) ≡ size c = (root (top_at p)).rows in
      grow (up_to most) w i (un u c) st p.words e (ap (λ (m : ℕ). m + 1) (sym n) ∙ sym g.sum) (q.0, ok_kind (un_head u) e) q.1 long

  two_step : (b : Bin) (st : List (Expr Span)) → Piled w i st → AllAllowed (up_to most) st → ◌≡◌ {A = Head} (bin_kind b, 0, 0) h → TwoFits w i (size_at w i) → Pile (up_to most) w (i + 1)
  two_step b [] p q e g = let z : i ≡ 0 = nothing_piled p in absurd (omega (arith, g.there))
  two_step b (r ∷ []) p q e g =
      let n : size_at w (i - 1) ≡ size r = (root (top_at p)).rows in
      let z : i - size r ≡ 0 = nothing_piled (rest_piled p) in
      absurd (omega (arith, g.there))
  two_step b (r ∷ l ∷ st) p q e g =
      let n : size_at w (i - 1) ≡ size r = (root (top_at p)).rows in
      let m : size_at w (i - size r - 1) ≡ size l = (root (top_at (rest_piled p))).rows in
      let z : i - size r - 1 ≡ i - 1 - size r = omega arith in
      let s : size_at w i ≡ size_at w (i - 1 - size r) + size r + 1 = rw n at g.sum in
      let t : size l + size r + 1 ≡ size_at w i = omega (arith, rw z at m) in
      grow (up_to most) w i (bin b l r) st (sym (append_assoc (flats st) (flat l) (flat r)) ∙ p.words) e t (q.1.0, q.0, ok_kind (bin_kind b, 0, 0) e) q.1.1 long

  skip_step_lem : (st : List (Expr Span)) → Piled w i st → AllAllowed (up_to most) st → ◌≡◌ {A = Head} (17, x_at w i, 0) h → SkipFits w i (x_at w i) (size_at w i) → Pile (up_to most) w (i + 1)
  skip_step_lem st p q e g =
      let t : Taken (up_to most) (x_at w i + 0) w (flats st ++ str_rows []) = take_strs (up_to most) w (x_at w i) i st [] p q tt g.there g.strs in
      let c : length t.strings ≡ x_at w i = omega (arith, t.count) in
      grow (up_to most) w i (skip t.strings) t.under (t.words ∙ append-nil (flats st) ∙ p.words)
      (ap (λ (m : ℕ). (17, m, 0)) c ∙ e) (ap (λ (m : ℕ). m + 1) c ∙ sym g.sum) (t.strs_ok, ok_kind (17, x_at w i, 0) e) t.under_ok long

  -- one row more
  pile_step : Pile (up_to most) w i → Pile (up_to most) w (i + 1)
  pile_step p = go (node (x_at w i) (y_at w i) k (omega (arith, f.kind)) f.unused)
    where
      go : Node k (x_at w i) (y_at w i) → Pile (up_to most) w (i + 1)
      go (a_lit l e) = leaf (lit l (x_at w i, y_at w i)) p.stack p.piled p.allowed refl (rw e) (sym (has (ap shape_of (sym e) ∙ lit_shape l))) (ap (λ (j : ℕ). leb j most) e ∙ le-leb k most f.kind)
      go (a_fixed g e) = leaf (fixed g) p.stack p.piled p.allowed refl e (sym (has (shape_of_lem (fixed_head g) e (fixed_shape g)))) (ok_kind (fixed_head g) e)
      go (a_un u e) = one_step u p.stack p.piled p.allowed e (has (shape_of_lem (un_head u) e (un_shape u)))
      go (a_bin b e) = two_step b p.stack p.piled p.allowed e (has (shape_of_lem (bin_kind b, 0, 0) e (bin_shape b)))
      go (a_skip e) = skip_step_lem p.stack p.piled p.allowed e (has (shape_of_lem (17, x_at w i, 0) e skip_shape))

-- ---- THE LOCAL TEST IS EXACT: the words of n rows are one tree's exactly when every row is right and the last one's size is n

module _ (most : ℕ) (w : List ℕ) (small : most ≤ 19) where
  pile_all : (n : ℕ) → n * row_width ≤ length w → ((j : ℕ) → j < n → RowFits most w j) → Pile (up_to most) w n
  pile_all zero l f = record { stack = []; piled = record { words = refl; within = omega arith }; allowed = tt }
  pile_all (suc n) l f = rw add-one at (pile_step most w n small (omega arith) (f n (omega arith)) (pile_all n (omega arith) (λ j h. f j (omega arith))))

  pub tree_of : (n : ℕ) → length w ≡ n * row_width → ((j : ℕ) → j < n → RowFits most w j) → 0 < n → size_at w (n - 1) ≡ n → IsTree (up_to most) w
  tree_of n l f h s = go p.stack p.piled p.allowed
    where
      p : Pile (up_to most) w n
      p = pile_all n (omega arith) f

      go : (st : List (Expr Span)) → Piled w n st → AllAllowed (up_to most) st → IsTree (up_to most) w
      go [] q a = let z : n ≡ 0 = nothing_piled q in absurd (omega arith)
      go (e ∷ []) q a = record { tree = e; read = ap (read_tree (up_to most)) (sym (q.words ∙ take_all (n * row_width) w (omega arith))) ∙ tree_back (up_to most) e a.0 }
      go (e ∷ g ∷ st) q a =
          let m : size_at w (n - 1) ≡ size e = (root (top_at q)).rows in
          absurd (omega (arith, top_size_lem (rest_piled q), size_pos g))

  pub record TreeFits (n : ℕ) : Type 0 where
    pub rows : (j : ℕ) → j < n → RowFits most w j
    pub some_row : 0 < n
    pub last : size_at w (n - 1) ≡ n

  pub of_tree : (n : ℕ) → length w ≡ n * row_width → IsTree (up_to most) w → TreeFits n
  of_tree n l t =
      let e : Expr Span = t.tree in
      let q : flat e ≡ w = tree_is (up_to most) w e t.read in
      let m : size e ≡ n = omega (arith, length_flat e, ap length q) in
      let z : 1 ≤ size e = size_pos e in
      let a : At w (n - 1) e = record { before = []; after = []; whole = sym q ∙ sym (append-nil (flat e)); place = omega arith } in
      record {
        rows = λ j h. tree_fits w most e (n - 1) (tree_allowed (up_to most) w e t.read) a j (omega arith) (omega arith);
        some_row = omega arith;
        last = (root a).rows ∙ m;
      }

  pub tree_tells : (n s : ℕ) → length w ≡ n * row_width → ((j : ℕ) → j < n → RowFits most w j) → 0 < n → s ≡ get_or w ((n - 1) * row_width + 3) 0 → Tells (eqb s n) (IsTree (up_to most) w)
  unfolding size_at
  tree_tells n s l f h e = tells_iff (eqb s n) (λ q. tree_of n l f h (sym e ∙ q)) (λ t. e ∙ (of_tree n l t).last) (tells_eqb s n)
