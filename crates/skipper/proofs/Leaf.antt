-- A reading of rows, arm by arm: a leaf, a rule, a Choice. Assumes nothing.
use Rattle.std.specs.Prelude.{⊤, None, Option, Some, Result, Ok, Err}
use mathlib.Core.Path.{◌≡◌, refl, sym, ap, subst, ◌∙◌}
use mathlib.Core.List.{List, [], ◌∷◌}
use mathlib.Core.Option.{none, some}
use Prim.Native.Nat.{ℕ, suc, ◌+◌, ◌-◌, ◌*◌, ◌/◌, ◌≤◌, ◌<◌}
use native.Mathlib.Decide.{dec_le}
use native.Mathlib.Omega.{arith}
use lib.ListN.{length, get_or, set}
use Rattle.grammar.specs.Numbers.{rule_width, rows_word, row_width, mark_width}
use Rattle.grammar.specs.Basic.{Bytes}
use Rattle.grammar.specs.Tree.{Str, Insens, Ident, Seq, Choice, E, Expr, lit, fixed, skip, un, bin, size}
use Rattle.grammar.specs.Rows.{Span}
use Rattle.grammar.specs.Text.{bytes_at, resolve}
use Rattle.grammar.specs.Table.{Table, rule_words, row_words, resolve_table, find}
use Rattle.grammar.proofs.Logic.{some_eq}
use Rattle.grammar.specs.Lists.{Reading, nothing, strings, again, and_then, read_left, read_in}
use Rattle.rows.specs.Rows.{At, kind_at, x_at, y_at, size_at}
use Rattle.rows.proofs.Laws.{Found, root, size_pos}
use Rattle.rows.proofs.Cells.{lit_shape, bin_shape}
use Rattle.rows.proofs.Views.{TwoView, as_lit, as_two, lit_is, two_is}
use Rattle.names.specs.Names.{rows_before, Ended, First, Finds, memory_word, end_word}
use Rattle.names.proofs.Index.{index_kept}
use Rattle.names.proofs.Finding.{There, there, rule_count, rule_words_lem, looked, not_found, body_at}
use Rattle.skipper.specs.declared.Unlisted.{Unlisted}
use Rattle.skipper.specs.declared.Unlisted.TheVariants.{Again, Absent}
use Rattle.skipper.specs.Memory.{mark_of, Marks, by_marks, Reads}
use Rattle.skipper.specs.Lends.{index_from, marks_of, capped, lists_of, Lent, Given, Steady, memory_of, ReadsOf}
use Rattle.skipper.proofs.Memories.{Monotone, reads_plain, reads_marked, reads_unknown, reads_then, reads_stop, reads_rule}
use Rattle.skipper.proofs.Rules.{sets_mark, index_first, index_nothing}

-- what is lent stays lent
pub given_steady : {rules rows : List ℕ} {text : Bytes} {m m' : List ℕ} → Given rules rows text m → Steady m m' → length m' ≡ length m → Given rules rows text m'
given_steady g s l =
    record {
      table = g.table;
      lent = g.lent;
      inside = g.inside;
      index = index_kept g.index l s.slots s.ways;
      ended = record { end = λ i h. s.end i ∙ g.ended.end i h };
    }

-- the memories that readings leave
pub memory_least : (a : Result ⊤ Unlisted) → 1 ≤ memory_of a
memory_least (Ok v) = omega arith
memory_least (Err Again) = omega arith
memory_least (Err Absent) = omega arith

pub unlisted : (e : Unlisted) → memory_of (Err e) ≡ 3 → ⊥
unlisted Again h = omega arith
unlisted Absent h = omega arith

-- what a search found
module _ (n : ℕ) (rules : List ℕ) (s x : Bytes) {f : Option ℕ} (h : Finds n rules s x f) where
  pub finds_at : {i : ℕ} → f ≡ Some i → First n rules s x i
  finds_at g = rw g at h

  pub finds_nothing : f ≡ None → Finds n rules s x None
  finds_nothing g = rw g at h

-- a row whose kind was read
pub kind_found : {w : List ℕ} {i k : ℕ} → i < length w / row_width → k ≡ kind_at w i → Found w i k (x_at w i) (y_at w i) (size_at w i)
kind_found h e = record { within = h; kind = sym e; x = refl; y = refl; rows = refl }

pub read_found_lem : {w : List ℕ} {i k : ℕ} {r : Expr Span} → At w i r → k ≡ kind_at w i → Found w i k (x_at w i) (y_at w i) (size_at w i)
read_found_lem a e = kind_found (root a).inside e

-- the left one of two children
pub left_stands : {w : List ℕ} {i k x y n j : ℕ} {r : Expr Span} (v : TwoView w i k x y n r) → j ≡ i - 1 - size_at w (i - 1) → At w j v.left
left_stands v e = rw (e, (root v.at_right).rows) v.at_left

pub left_below : {w : List ℕ} {i k x y n j : ℕ} {r : Expr Span} → TwoView w i k x y n r → j ≡ i - 1 - size_at w (i - 1) → j + 1 < i
left_below v e = omega (arith, v.most, v.least_left, v.least_right, (root v.at_right).rows)

-- both sides of a Choice
module _ {w : List ℕ} {i k x y n : ℕ} {r : Expr Span} (f : Found w i k x y n) (a : At w i r) (z : k ≡ 9) where
  pub choice_view : TwoView w i k x y n r
  choice_view = as_two f a (rw z (bin_shape Choice))

  pub choice_left : {j : ℕ} → j ≡ i - 1 - size_at w (i - 1) → At w j choice_view.left
  choice_left e = left_stands choice_view e

module _ (s : Bytes) {t : Table Span} {m : List ℕ} where
  -- "Str s: the list s"
  pub leaf_str : {w : List ℕ} {i k x y n : ℕ} {r : Expr Span} → Found w i k x y n → At w i r → k ≡ 0 → ReadsOf s t m m 3 (λ look. read_left look (resolve s r))
  leaf_str f a z = rw (lit_is Str (as_lit f a (rw z (lit_shape Str))) z) (record { read = λ known. reads_plain (strings _) known (omega arith) })

  -- "all else: none"
  pub leaf_other : {w : List ℕ} {i k x y n : ℕ} {r : Expr Span} → Found w i k x y n → At w i r → (k ≡ 0 → ⊥) → (k ≡ 3 → ⊥) → ReadsOf s t m m 2 (λ look. read_left look (resolve s r))
  leaf_other {r = lit Str p} f a no-str no-ident = absurd (no-str (sym f.kind ∙ (root a).kind))
  leaf_other {r = lit Insens p} f a no-str no-ident = record { read = λ known. reads_plain nothing known (omega arith) }
  leaf_other {r = lit Ident p} f a no-str no-ident = absurd (no-ident (sym f.kind ∙ (root a).kind))
  leaf_other {r = fixed g} f a no-str no-ident = record { read = λ known. reads_plain nothing known (omega arith) }
  leaf_other {r = skip ss} f a no-str no-ident = record { read = λ known. reads_plain nothing known (omega arith) }
  leaf_other {r = un u e} f a no-str no-ident = record { read = λ known. reads_plain nothing known (omega arith) }
  leaf_other {r = bin b l e} f a no-str no-ident = record { read = λ known. reads_plain nothing known (omega arith) }

  -- "Ident: the list of that rule's expression"
  pub leaf_ident : {w : List ℕ} {i k x y n v : ℕ} {m' : List ℕ} {r : Expr Span} → Found w i k x y n → At w i r → k ≡ 3 → ReadsOf s t m m' v (λ look. look (bytes_at s (x, y))) → ReadsOf s t m m' v (λ look. read_left look (resolve s r))
  leaf_ident f a z h = rw (lit_is Ident (as_lit f a (rw z (lit_shape Ident))) z) h

  -- an expression that is no Choice is a leaf
  pub in_leaf : {w : List ℕ} {i k x y n v : ℕ} {m' : List ℕ} {r : Expr Span} → Found w i k x y n → At w i r → (k ≡ 9 → ⊥) → ReadsOf s t m m' v (λ look. read_left look (resolve s r)) → ReadsOf s t m m' v (λ look. read_in look (resolve s r))
  in_leaf {r = lit k p} f a z h = h
  in_leaf {r = fixed g} f a z h = h
  in_leaf {r = skip ss} f a z h = h
  in_leaf {r = un u e} f a z h = h
  in_leaf {r = bin Seq l e} f a z h = h
  in_leaf {r = bin Choice l e} f a z h = absurd (z (sym f.kind ∙ (root a).kind))

-- "Choice: its list, then right's list. The first none ends it": `left` reads the left side, `whole` the Choice and its right side
module _ (left whole : (Bytes → Reading) → E → Reading) (mono : (e : E) → Monotone (λ look. left look e)) (step : (l e : E) → ◌≡◌ {A = (Bytes → Reading) → Reading} (λ look. whole look (bin Choice l e)) (λ look. and_then (left look l) (whole look e))) (s : Bytes) (t : Table Span) {m m₁ : List ℕ} {w : List ℕ} {i k x y n j : ℕ} {r : Expr Span} (f : Found w i k x y n) (a : At w i r) (z : k ≡ 9) (c : j ≡ i - 1 - size_at w (i - 1)) where
  pub choice_stop : {v : ℕ} → (v ≡ 3 → ⊥) → ((q : Expr Span) → At w j q → ReadsOf s t m m₁ v (λ look. left look (resolve s q))) → ReadsOf s t m m₁ v (λ look. whole look (resolve s r))
  choice_stop q p =
      let v = choice_view f a z in
      rw (two_is Choice v z, step (resolve s v.left) (resolve s v.right))
      (record { read = λ known. reads_stop (λ look. left look (resolve s v.left)) (λ look. whole look (resolve s v.right)) q ((p v.left (choice_left f a z c)).read known) })

  pub choice_then : {m₂ : List ℕ} {v : ℕ} → ((q : Expr Span) → At w j q → ReadsOf s t m m₁ 3 (λ look. left look (resolve s q))) → ((q : Expr Span) → At w (i - 1) q → ReadsOf s t m₁ m₂ v (λ look. whole look (resolve s q))) → ReadsOf s t m m₂ v (λ look. whole look (resolve s r))
  choice_then p q =
      let v = choice_view f a z in
      let l = p v.left (choice_left f a z c) in
      rw (two_is Choice v z, step (resolve s v.left) (resolve s v.right))
      (record { read = λ known. reads_then (λ look. left look (resolve s v.left)) (λ look. whole look (resolve s v.right)) (mono (resolve s v.left)) (l.read known) ((q v.right v.at_right).read ((l.read known).known (omega arith))) })

pub length_table : (s : Bytes) (t : Table Span) → length (resolve_table s t) ≡ length t
length_table s [] = refl
length_table s (r ∷ t) = ap suc (length_table s t)

mark_most : (p : Reading) → mark_of p ≤ 3
mark_most nothing = omega arith
mark_most (strings ss) = omega arith
mark_most again = omega arith

mark_bound : {t : Table Bytes} {st st' : Marks} {v : ℕ} {f : (Bytes → Reading) → Reading} → Reads t st st' v f → Dec (2 ≤ v) → v ≤ 3
mark_bound {st' = st'} {f = f} h (yes l) = omega (arith, h.settled l, mark_most (f (by_marks st')))
mark_bound h (no n) = omega arith

-- a name, looked up
module _ {rules : List ℕ} (t : Table Span) (heads : rules ≡ rule_words t) where
  pub count : length rules / rule_width ≡ length t
  count = ap (λ (w : List ℕ). length w / row_width) heads ∙ rule_count t

  pub rule_there : (k : ℕ) → k < length rules / rule_width → There t k
  rule_there k h = there t k (omega (arith, count))

  module _ (s : Bytes) (m : List ℕ) (x : Bytes) where
    nothing_mark : Finds (length rules / rule_width) rules s x None → marks_of (resolve_table s t) m x ≡ 2
    unfolding marks_of
    nothing_mark n = rw (index_nothing 0 t s x (λ j h e. n j (omega (arith, count)) (rw heads e)))

    pub nothing_list : Finds (length rules / rule_width) rules s x None → lists_of (resolve_table s t) m x ≡ 2
    unfolding lists_of
    nothing_list n = ap capped (nothing_mark n)

    pub name_missing : Finds (length rules / rule_width) rules s x None → find (resolve_table s t) x ≡ none
    name_missing n = not_found s x t (rw heads at n)

    pub name_nothing : Finds (length rules / rule_width) rules s x None → ReadsOf s t m m 2 (λ look. look x)
    name_nothing n = record { read = λ known. reads_unknown x known (nothing_mark n) }

    module _ {k : ℕ} (f : First (length rules / rule_width) rules s x k) where
      name_index : index_from 0 (resolve_table s t) x ≡ some k
      name_index =
          let e : ◌≡◌ {A = ℕ} (0 + k) k = omega arith in
          index_first 0 t s x k (omega (arith, f.below, count)) (rw (← heads) f.same) (λ j h q. f.first j h (rw heads q)) ∙ ap some e

      pub name_found : (r : There t k) → find (resolve_table s t) x ≡ some (resolve s r.rule.body)
      name_found r =
          let l = looked s x t k (rw heads at f) in
          let e : l.rule ≡ r.rule = some_eq l.rule r.rule (sym l.is ∙ r.is) in
          rw (← e) l.finds

      name_mark : marks_of (resolve_table s t) m x ≡ get_or m (k * mark_width + memory_word) 0
      unfolding marks_of
      name_mark = rw name_index

      pub name_list_lem : lists_of (resolve_table s t) m x ≡ capped (get_or m (k * mark_width + memory_word) 0)
      unfolding lists_of
      name_list_lem = ap capped name_mark

      pub name_marked : (v : ℕ) → v ≡ get_or m (k * mark_width + memory_word) 0 → (v ≡ 0 → ⊥) → ReadsOf s t m m v (λ look. look x)
      name_marked v e z =
          let q : marks_of (resolve_table s t) m x ≡ v = name_mark ∙ sym e in
          record { read = λ known. rw q at (reads_marked x _ (name_found (rule_there k f.below)) known (rw q (omega arith))) }

      -- the reading a that left the mark v
      pub name_recalled : (a : Result ⊤ Unlisted) (v : ℕ) → v ≡ get_or m (k * mark_width + memory_word) 0 → (v ≡ 0 → ⊥) → (1 ≤ v → v ≤ 3 → memory_of a ≡ v) → ReadsOf s t m m (memory_of a) (λ look. look x)
      name_recalled a v e z g =
          record {
            read = λ known.
                let h = (name_marked v e z).read known in
                rw (g (omega arith) (mark_bound h (dec_le 2 v))) h;
          }

      pub name_read : {m₂ : List ℕ} {v : ℕ} (r : There t k) → k * mark_width + memory_word < length m → k * mark_width + memory_word < length m₂ → get_or m (k * mark_width + memory_word) 0 ≡ 0
          → ReadsOf s t (set m (k * mark_width + memory_word) 1) m₂ v (λ look. read_in look (resolve s r.rule.body))
          → ReadsOf s t m (set m₂ (k * mark_width + memory_word) v) v (λ look. look x)
      name_read {m₂} {v} r l l₂ z h =
          record { read = λ known. reads_rule (name_found r) (name_mark ∙ z) known (sets_mark (resolve_table s t) m x k 1 name_index l) h.read (sets_mark (resolve_table s t) m₂ x k v name_index l₂) }

-- rule k
module _ {rules rows : List ℕ} {t : Table Span} (lent : Lent rules rows t) where
  pub rule_stands : {m : List ℕ} (k : ℕ) (r : There t k) → k < length rules / rule_width → Ended rules m → At rows (get_or m (k * mark_width + end_word) 0 - 1) r.rule.body
  rule_stands k r h d = rw (lent.trees, d.end k h) (subst (λ (v : List ℕ). At (row_words t) (rows_before v (suc k) - 1) r.rule.body) (sym lent.heads) (body_at t k r.rule r.is))

  pub rule_before : {m : List ℕ} (k : ℕ) (r : There t k) → k < length rules / rule_width → Ended rules m → (end : ℕ) → end ≡ get_or m (k * mark_width + end_word) 0 → At rows (end - 1) r.rule.body
  rule_before k r h d end e = rw e (rule_stands k r h d)

  -- its root's row
  pub rule_inside : {m : List ℕ} (k : ℕ) → k < length rules / rule_width → Ended rules m → get_or m (k * mark_width + end_word) 0 - 1 < length rows / row_width
  rule_inside k h d = (root (rule_stands k (rule_there t lent.heads k h) h d)).inside

  pub rule_end : {m : List ℕ} (k : ℕ) → k < length rules / rule_width → Ended rules m → 1 ≤ get_or m (k * mark_width + end_word) 0
  rule_end k h d =
      let r = rule_there t lent.heads k h in
      let e : get_or rules (k * rule_width + rows_word) 0 ≡ size r.rule.body = ap (λ (v : List ℕ). get_or v (k * row_width + 3) 0) lent.heads ∙ (rule_words_lem t k r.rule r.is).rows' in
      omega (arith, d.end k h, size_pos r.rule.body)
