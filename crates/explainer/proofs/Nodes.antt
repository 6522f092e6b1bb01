-- A row of a table, by its number: the rule that has it, and the tree that stands there. Assumes nothing.
use mathlib.Core.Path.{◌≡◌, subst, refl, sym, ap, ◌∙◌}
use mathlib.Core.Bool.{cond}
use mathlib.Core.List.{List, [], ◌∷◌, map}
use mathlib.Core.Option.{none, some}
use Prim.Native.Nat.{ℕ, zero, suc, ◌+◌, ◌-◌, ◌/◌, ◌≤◌, ◌<◌}
use native.Mathlib.Decide.{dec_le}
use native.Mathlib.Omega.{arith}
use borrow.Author.Tests.{lt-ltb, le-ltb, eq-eqb}
use lib.Dec.{eqb, ltb}
use lib.ListN.{length, get_or, get_elem?, length-map}
use Rattle.grammar.specs.Numbers.{rule_width}
use Rattle.grammar.specs.Basic.{Bytes}
use Rattle.grammar.specs.Tree.{Str, Expr, lit, fixed, skip, un, bin, size}
use Rattle.grammar.specs.Rows.{Span}
use Rattle.grammar.specs.Text.{bytes_at, resolve}
use Rattle.grammar.specs.Table.{Rule, Table, rule_words, row_words, row_count, resolve_table}
use Rattle.grammar.proofs.Logic.{none_some, some_eq}
use Rattle.rows.specs.Rows.{At, AtStrs}
use Rattle.rows.proofs.Laws.{root, at_un, at_left_lem, at_right_lem, at_strs, at_first, at_others}
use Rattle.rows.proofs.Cells.{size_resolve}
use Rattle.rows.proofs.Views.{at_unique}
use Rattle.names.specs.Names.{rows_before}
use Rattle.names.proofs.Finding.{rule_words_lem, rule_count, rows_before_all, body_at}
use Rattle.skipper.specs.Lends.{Lent}
use Rattle.explanation.specs.Explain.{node_at, in_rule, node_from}
use Rattle.explainer.proofs.Places.{before_later}

-- ---- a tree

-- the branch that a test takes
if_less : {A : Type 0} (k n : ℕ) (x y : A) {z : A} → k < n → x ≡ z → cond (ltb k n) x y ≡ z
if_less k n x y h e = rw (lt-ltb k n h) e

if_past : {A : Type 0} (k n : ℕ) (x y : A) {z : A} → n ≤ k → y ≡ z → cond (ltb k n) x y ≡ z
if_past k n x y h e = rw (le-ltb k n h) e

if_same : {A : Type 0} (k n : ℕ) (x y : A) {z : A} → k ≡ n → x ≡ z → cond (eqb k n) x y ≡ z
if_same k n x y h e = rw (eq-eqb k n h) e

module _ (s : Bytes) {w : List ℕ} where
  -- the root's row: one tree stands there
  root_is : {i : ℕ} (r q : Expr Span) → At w i r → (j : ℕ) → j ≡ i → At w j q → resolve s r ≡ resolve s q
  root_is r q a j e b = ap (resolve s) (sym (at_unique q r (rw e at b) a))

  strs_are : {i : ℕ} (ss : List Span) → AtStrs w i ss → (j k : ℕ) → i + k ≡ j → k < length ss → (q : Expr Span) → At w j q → lit Str (get_or (map (bytes_at s) ss) k []) ≡ resolve s q
  strs_are [] a j k e h q b = absurd (omega arith)
  strs_are (p ∷ ss) a j zero e h q b = root_is (lit Str p) q (at_first a) j (omega arith) b
  strs_are {i = i} (p ∷ ss) a j (suc k) e h q b = strs_are {i = i + 1} ss (at_others a) j k (omega arith) (omega arith) q b

  -- row j is row k of the tree
  node_there : {i : ℕ} (r : Expr Span) → At w i r → (j k : ℕ) → k + i + 1 ≡ j + size r → j ≤ i → (q : Expr Span) → At w j q → node_at (resolve s r) k ≡ some (resolve s q)
  node_there (lit l p) a j k h n q b = if_same k 0 _ _ (omega arith) (ap some (root_is (lit l p) q a j (omega arith) b))
  node_there (fixed f) a j k h n q b = if_same k 0 _ _ (omega arith) (ap some (root_is (fixed f) q a j (omega arith) b))
  node_there {i} (skip ss) a j k h n q b = go (dec_le i j)
    where
      long : length (map (bytes_at s) ss) ≡ length ss
      long = length-map ss (bytes_at s)

      go : Dec (i ≤ j) → node_at (skip (map (bytes_at s) ss)) k ≡ some (resolve s q)
      go (yes z) =
          if_past k (length (map (bytes_at s) ss)) _ _ (omega (arith, long))
          (if_same k (length (map (bytes_at s) ss)) _ _ (omega (arith, long)) (ap some (root_is (skip ss) q a j (omega arith) b)))
      go (no z) = if_less k (length (map (bytes_at s) ss)) _ _ (omega (arith, long)) (ap some (strs_are ss (at_strs a) j k (omega (arith, (root a).most)) (omega arith) q b))
  node_there {i} (un u e) a j k h n q b = go (dec_le i j) (λ z. node_there {i = i - 1} e (at_un a) j k (omega arith) (omega arith) q b)
    where
      long : size (resolve s e) ≡ size e
      long = size_resolve s e

      go : Dec (i ≤ j) → (j < i → node_at (resolve s e) k ≡ some (resolve s q)) → node_at (resolve s (un u e)) k ≡ some (resolve s q)
      go (yes z) f =
          if_past k (size (resolve s e)) _ _ (omega (arith, long))
          (if_same k (size (resolve s e)) _ _ (omega (arith, long)) (ap some (root_is (un u e) q a j (omega arith) b)))
      go (no z) f = if_less k (size (resolve s e)) _ _ (omega (arith, long)) (f (omega arith))
  node_there {i} (bin c x y) a j k h n q b =
      go (dec_le i j) (dec_le i (j + size y))
      (λ z d. node_there y (at_right_lem a) j (k - size (resolve s x)) (omega (arith, size_resolve s x)) (omega arith) q b)
      (λ z. node_there x (at_left_lem a) j k (omega arith) (omega arith) q b)
    where
      left : size (resolve s x) ≡ size x
      left = size_resolve s x

      right : size (resolve s y) ≡ size y
      right = size_resolve s y

      go : Dec (i ≤ j) → Dec (i ≤ j + size y) → (j < i → i ≤ j + size y → node_at (resolve s y) (k - size (resolve s x)) ≡ some (resolve s q)) → (j + size y < i → node_at (resolve s x) k ≡ some (resolve s q)) → node_at (resolve s (bin c x y)) k ≡ some (resolve s q)
      go (yes z) d f g =
          if_past k (size (resolve s x)) _ _ (omega (arith, left))
          (if_past k (size (resolve s x) + size (resolve s y)) _ _ (omega (arith, left, right))
          (if_same k (size (resolve s x) + size (resolve s y)) _ _ (omega (arith, left, right)) (ap some (root_is (bin c x y) q a j (omega arith) b))))
      go (no z) (yes d) f g =
          if_past k (size (resolve s x)) _ _ (omega (arith, left))
          (if_less k (size (resolve s x) + size (resolve s y)) _ _ (omega (arith, left, right)) (f (omega arith) d))
      go (no z) (no d) f g = if_less k (size (resolve s x)) _ _ (omega (arith, left)) (g (omega arith))

-- THE NODE OF A ROW: what stands there, with rows counted from the tree's first
pub node_is : (s : Bytes) {w : List ℕ} {i : ℕ} (r : Expr Span) → At w i r → (j : ℕ) → i < j + size r → j ≤ i → (q : Expr Span) → At w j q → node_at (resolve s r) (j + size r - 1 - i) ≡ some (resolve s q)
node_is s {w} {i} r a j h n q b = node_there s r a j (j + size r - 1 - i) (omega arith) n q b

-- ---- a table

module _ (s : Bytes) where
  -- the first rule has number n
  node_from_lem : (t : Table Span) (n k : ℕ) (r : Rule Span) → get_elem? t k ≡ some r → (j : ℕ) → rows_before (rule_words t) k ≤ j → j < rows_before (rule_words t) (suc k)
      → node_from n (resolve_table s t) j ≡ in_rule (n + k) r.type (node_at (resolve s r.body) (j - rows_before (rule_words t) k))
  node_from_lem [] n k r h j l m = none_some h
  node_from_lem (q ∷ t) n zero r h j l m =
      let e : q ≡ r = some_eq _ _ h in
      let z : n + 0 ≡ n = omega arith in
      let f : j ≡ j - 0 = omega arith in
      if_less j (size (resolve s q.body)) _ _ (omega (arith, size_resolve s q.body)) (rw (z, ← e) (ap (λ (x : ℕ). in_rule n q.type (node_at (resolve s q.body) x)) f))
  node_from_lem (q ∷ t) n (suc k) r h j l m =
      let c = before_later q t k in
      let d = before_later q t (suc k) in
      let b : size (resolve s q.body) ≡ size q.body = size_resolve s q.body in
      let e : suc n + k ≡ n + suc k = omega arith in
      let f : j - size (resolve s q.body) - rows_before (rule_words t) k ≡ j - rows_before (rule_words (q ∷ t)) (suc k) = omega arith in
      if_past j (size (resolve s q.body)) _ _ (omega arith)
      (node_from_lem t (suc n) k r h (j - size (resolve s q.body)) (omega arith) (omega arith)
      ∙ ap (λ (x : ℕ). in_rule x r.type (node_at (resolve s r.body) (j - size (resolve s q.body) - rows_before (rule_words t) k))) e
      ∙ ap (λ (x : ℕ). in_rule (n + suc k) r.type (node_at (resolve s r.body) x)) f)

  node_beyond : (t : Table Span) (n j : ℕ) → row_count t ≤ j → node_from n (resolve_table s t) j ≡ none
  node_beyond [] n j h = refl
  node_beyond (r ∷ t) n j h =
      let b : size (resolve s r.body) ≡ size r.body = size_resolve s r.body in
      if_past j (size (resolve s r.body)) _ _ (omega arith) (node_beyond t (suc n) (j - size (resolve s r.body)) (omega arith))

  node_of : (t : Table Span) (k : ℕ) (r : Rule Span) → get_elem? t k ≡ some r → (j : ℕ) → rows_before (rule_words t) k ≤ j → j < rows_before (rule_words t) (suc k) → (q : Expr Span) → At (row_words t) j q
      → node_from 0 (resolve_table s t) j ≡ some (record { rule = k; type = r.type; tree = resolve s q })
  node_of t k r h j l m q a =
      let b = body_at t k r h in
      let c : rows_before (rule_words t) (suc k) ≡ rows_before (rule_words t) k + size r.body = ap (λ (x : ℕ). rows_before (rule_words t) k + x) (rule_words_lem t k r h).rows' in
      let z : 0 + k ≡ k = omega arith in
      node_from_lem t 0 k r h j l m ∙ rw z (ap (in_rule k r.type) (node_there s r.body b j (j - rows_before (rule_words t) k) (omega arith) (omega arith) q a))

  module _ {rules rows : List ℕ} {t : Table Span} (l : Lent rules rows t) where
    -- THE NODE OF A TABLE'S ROW: its rule, and what stands there
    pub node_in : (k : ℕ) (r : Rule Span) → get_elem? t k ≡ some r → (j : ℕ) → rows_before rules k ≤ j → j < rows_before rules (suc k) → (q : Expr Span) → At rows j q
        → node_from 0 (resolve_table s t) j ≡ some (record { rule = k; type = r.type; tree = resolve s q })
    node_in k r h j n m q a = node_of t k r h j (rw l.heads at n) (subst (λ (v : List ℕ). j < rows_before v (suc k)) l.heads m) q (rw l.trees at a)

    -- and past the table there is none
    pub node_past : (j : ℕ) → rows_before rules (length rules / rule_width) ≤ j → node_from 0 (resolve_table s t) j ≡ none
    node_past j h =
        let n : rows_before (rule_words t) (length (rule_words t) / rule_width) ≤ j = rw l.heads at h in
        let e : rows_before (rule_words t) (length (rule_words t) / rule_width) ≡ row_count t = ap (rows_before (rule_words t)) (rule_count t) ∙ rows_before_all t in
        node_beyond t 0 j (omega arith)
