-- Marks in words: memories are written, with the stack of rules that are not settled, and what is lent stays lent. Assumes nothing.
use mathlib.Core.Path.{◌≡◌, refl, sym, ap, ◌∙◌, subst}
use mathlib.Core.Bool.{Bool, true, false, cond}
use mathlib.Core.List.{List}
use Prim.Native.Nat.{ℕ, zero, suc, ◌+◌, ◌-◌, ◌*◌, ◌/◌, ◌≤◌, ◌<◌}
use native.Mathlib.Omega.{arith}
use lib.ListN.{length, get_or, set}
use lib.Seq.{get_or-set_same, get_or-set_other}
use native.Mathlib.Decide.{ℕ_discrete, dec_lt}
use lib.Dec.{eqb}
use Rattle.grammar.specs.Numbers.{rule_width, rows_word, row_width, mark_width}
use Rattle.grammar.specs.Basic.{Bytes}
use Rattle.grammar.specs.Tree.{size}
use Rattle.grammar.specs.Rows.{Span}
use Rattle.grammar.specs.Table.{Table, row_words, resolve_table}
use Rattle.grammar.proofs.Logic.{eqb_eq}
use Rattle.rows.specs.Rows.{At}
use Rattle.rows.proofs.Laws.{root, size_pos}
use Rattle.names.specs.Names.{rows_before, Ended, memory_word, ways_word, end_word}
use Rattle.names.proofs.Index.{index_kept}
use Rattle.names.proofs.Finding.{There, there, rule_count, rule_words_lem, body_at}
use Rattle.restorer.specs.Search.{OPEN, state_of}
use Rattle.restorer.specs.Lends.{Lent, Given, Steady, TreeRows}
use Rattle.restorer.specs.Stacks.{unseen, Stacked, Ran, Closes}
use Rattle.restorer.proofs.Memories.{length_resolved}

-- ---- one memory is written

pub record Sets (m m' : List ℕ) (i v : ℕ) : Type 0 where
  pub here : state_of m' i ≡ v
  pub others : (j : ℕ) → (j ≡ i → ⊥) → state_of m' j ≡ state_of m j

pub sets_state : (m : List ℕ) (i v : ℕ) → i * mark_width + memory_word < length m → Sets m (set m (i * mark_width + memory_word) v) i v
sets_state m i v h =
    record {
      here = get_or-set_same m (i * mark_width + memory_word) v 0 h;
      others = λ j n. get_or-set_other m (i * mark_width + memory_word) (j * mark_width + memory_word) v 0 (λ e. n (omega arith));
    }

-- ---- how many rules were not seen

abbrev is_zero : ℕ → ℕ
is_zero w = cond (eqb w 0) 1 0

not_zero : (v : ℕ) → 1 ≤ v → is_zero v ≡ 0
not_zero v h = go (eqb v 0) refl
  where
    go : (b : Bool) → eqb v 0 ≡ b → ◌≡◌ {A = ℕ} (cond b 1 0) 0
    go true e = absurd (omega (arith, eqb_eq v 0 e))
    go false e = refl

unseen_same : (n : ℕ) (m m' : List ℕ) → ((i : ℕ) → i < n → state_of m' i ≡ state_of m i) → unseen n m' ≡ unseen n m
unseen_same zero m m' f = refl
unseen_same (suc n) m m' f = omega (arith, ap is_zero (f n (omega arith)), unseen_same n m m' (λ i l. f i (omega arith)))

module _ {m m' : List ℕ} {i v : ℕ} (s : Sets m m' i v) (l : 1 ≤ v) where
  unseen_sets : (n : ℕ) → i < n → unseen n m' + is_zero (state_of m i) ≡ unseen n m
  unseen_sets zero h = absurd (omega arith)
  unseen_sets (suc n) h = go (ℕ_discrete n i) (unseen_sets n)
    where
      go : Dec (n ≡ i) → (i < n → unseen n m' + is_zero (state_of m i) ≡ unseen n m) → is_zero (state_of m' n) + unseen n m' + is_zero (state_of m i) ≡ is_zero (state_of m n) + unseen n m
      go (yes e) ih = omega (arith, not_zero (state_of m' n) (omega (arith, ap (state_of m') e, s.here)), ap (λ (j : ℕ). is_zero (state_of m j)) e, unseen_same n m m' (λ j b. s.others j (λ q. absurd (omega arith))))
      go (no e) ih = omega (arith, ap is_zero (s.others n e), ih (omega arith))

pub unseen_most : (n : ℕ) (m : List ℕ) → unseen n m ≤ n
unseen_most zero m = omega arith
unseen_most (suc n) m = go (eqb (state_of m n) 0) (unseen_most n m)
  where
    go : (b : Bool) → unseen n m ≤ n → cond b 1 0 + unseen n m ≤ suc n
    go true l = omega arith
    go false l = omega arith

-- ---- the stack of rules

pub stack_top : {n : ℕ} {m st : List ℕ} {top i : ℕ} → Stacked n m st top → i < n → state_of m i < OPEN + top
stack_top {n} {m} {st} {top} {i} s h = go (dec_lt (state_of m i) OPEN)
  where
    go : Dec (state_of m i < OPEN) → state_of m i < OPEN + top
    go (yes k) = omega arith
    go (no k) = let e : state_of m i ≡ OPEN + (state_of m i - OPEN) = omega arith in omega (arith, (s.back i (state_of m i - OPEN) h e).0)

module _ {n : ℕ} {m m' st : List ℕ} {top i : ℕ} (s : Stacked n m st top) (h : i < n) (z : state_of m i ≡ 0) (w : Sets m m' i (OPEN + top)) where
  pub pushed_less : unseen n m' + 1 ≡ unseen n m
  pushed_less = omega (arith, unseen_sets w (omega arith) n h, ap is_zero z)

  pub pushed : top < length st → Stacked n m' (set st top i) (top + 1)
  pushed long = record { below = λ p l. below p l (ℕ_discrete p top); place = λ p l. place p l (ℕ_discrete p top); back = λ j p l e. back j p l e (ℕ_discrete j i); room = omega (arith, s.room, pushed_less) }
    where
      here : get_or (set st top i) top 0 ≡ i
      here = get_or-set_same st top i 0 long

      under : (p : ℕ) → (p ≡ top → ⊥) → get_or (set st top i) p 0 ≡ get_or st p 0
      under p k = get_or-set_other st top p i 0 k

      below : (p : ℕ) → p < top + 1 → Dec (p ≡ top) → get_or (set st top i) p 0 < n
      below p l (yes e) = omega (arith, ap (λ (q : ℕ). get_or (set st top i) q 0) e, here)
      below p l (no k) = omega (arith, under p k, s.below p (omega arith))

      place : (p : ℕ) → p < top + 1 → Dec (p ≡ top) → state_of m' (get_or (set st top i) p 0) ≡ OPEN + p
      place p l (yes e) = omega (arith, ap (λ (q : ℕ). state_of m' (get_or (set st top i) q 0)) e, ap (state_of m') here, w.here)
      place p l (no k) =
          let e = s.place p (omega arith) in
          ap (state_of m') (under p k) ∙ w.others (get_or st p 0) (λ q. absurd (omega (arith, ap (state_of m) q, e))) ∙ e

      back : (j p : ℕ) → j < n → state_of m' j ≡ OPEN + p → Dec (j ≡ i) → (p < top + 1) × (get_or (set st top i) p 0 ≡ j)
      back j p l e (yes k) =
          let q : p ≡ top = omega (arith, ap (state_of m') k, w.here) in
          (omega arith, ap (λ (v : ℕ). get_or (set st top i) v 0) q ∙ here ∙ sym k)
      back j p l e (no k) =
          let b = s.back j p l (sym (w.others j k) ∙ e) in
          (omega (arith, b.0), under p (λ q. absurd (omega (arith, b.0))) ∙ b.1)

-- none is closed yet
pub closes_none : {n : ℕ} {m st : List ℕ} {top to : ℕ} → Stacked n m st top → Closes n m m st top to
closes_none s = record { stacked = s; turned = λ i l h. absurd (omega (arith, stack_top s l)); kept = λ i l h. refl; fewer = omega arith }

-- one more is closed
pub closes_next : {n : ℕ} {m m₁ m₂ st : List ℕ} {p to : ℕ} → Closes n m m₁ st (p + 1) to → Sets m₁ m₂ (get_or st p 0) to → 1 ≤ to → to < OPEN → Closes n m m₂ st p to
closes_next {n} {m} {m₁} {m₂} {st} {p} {to} c w lo hi =
    record {
      stacked = record {
        below = λ q l. s.below q (omega arith);
        place = λ q l. let e = s.place q (omega arith) in w.others (get_or st q 0) (λ k. absurd (omega (arith, ap (state_of m₁) k, e, at))) ∙ e;
        back = λ j q l e. back j q l e (ℕ_discrete j k);
        room = omega (arith, s.room, less);
      };
      turned = λ j l e. turned j l e (ℕ_discrete j k);
      kept = λ j l e. let q = c.kept j l (omega arith) in w.others j (λ r. absurd (omega (arith, ap (state_of m₁) r, at, q))) ∙ q;
      fewer = omega (arith, less, c.fewer);
    }
  where
    s : Stacked n m₁ st (p + 1)
    s = c.stacked

    k : ℕ
    k = get_or st p 0

    at : state_of m₁ (get_or st p 0) ≡ OPEN + p
    at = s.place p (omega arith)

    less : unseen n m₂ ≤ unseen n m₁
    less = omega (arith, unseen_sets w lo n (s.below p (omega arith)))

    back : (j q : ℕ) → j < n → state_of m₂ j ≡ OPEN + q → Dec (j ≡ get_or st p 0) → (q < p) × (get_or st q 0 ≡ j)
    back j q l e (yes r) = absurd (omega (arith, ap (state_of m₂) r, w.here))
    back j q l e (no r) =
        let b = s.back j q l (sym (w.others j r) ∙ e) in
        (under (ℕ_discrete q p) b, b.1)
      where
        under : Dec (q ≡ p) → (q < p + 1) × (get_or st q 0 ≡ j) → q < p
        under (yes v) b = absurd (r (sym b.1 ∙ ap (λ (u : ℕ). get_or st u 0) v))
        under (no v) b = omega (arith, b.0)

    turned : (j : ℕ) → j < n → OPEN + p ≤ state_of m j → Dec (j ≡ get_or st p 0) → state_of m₂ j ≡ to
    turned j l e (yes r) = ap (state_of m₂) r ∙ w.here
    turned j l e (no r) = w.others j r ∙ go (ℕ_discrete (state_of m j) (OPEN + p))
      where
        go : Dec (state_of m j ≡ OPEN + p) → state_of m₁ j ≡ to
        go (yes v) = absurd (r (sym (s.back j p l (c.kept j l (omega arith) ∙ v)).1))
        go (no v) = c.turned j l (omega arith)

-- the rules from position p to `top` are closed
pub record Closing (m m' st : List ℕ) (from top to p : ℕ) : Type 0 where
  pub low : from ≤ p
  pub high : p ≤ top
  pub long : length m' ≡ length m
  pub steady : Steady m m'
  pub closes : (n : ℕ) → Stacked n m st top → Closes n m m' st p to

pub closing_next : {m m₁ st : List ℕ} {top p to i : ℕ} → 1 ≤ p → i ≡ get_or st (p - 1) 0 → i * mark_width + memory_word < length m₁ → 1 < to → to < OPEN → ((n : ℕ) → Stacked n m st top → Closes n m m₁ st p to) → (n : ℕ) → Stacked n m st top → Closes n m (set m₁ (i * mark_width + memory_word) to) st (p - 1) to
closing_next {m} {m₁} {st} {top} {p} {to} {i} h e l lo hi f n s =
    let k : p ≡ p - 1 + 1 = omega arith in
    closes_next (subst (λ (q : ℕ). Closes n m m₁ st q to) k (f n s)) (subst (λ (j : ℕ). Sets m₁ (set m₁ (i * mark_width + memory_word) to) j to) e (sets_state m₁ i to l)) (omega arith) hi

-- ---- nothing but memories is changed

pub steady_none : (m : List ℕ) → Steady m m
steady_none m = record { slots = λ i. refl; ways = λ i. refl; end = λ i. refl }

pub steady_more : {m m₁ m₂ : List ℕ} → Steady m m₁ → Steady m₁ m₂ → Steady m m₂
steady_more a b = record { slots = λ i. b.slots i ∙ a.slots i; ways = λ i. b.ways i ∙ a.ways i; end = λ i. b.end i ∙ a.end i }

pub steady_set : (m : List ℕ) (i v : ℕ) → Steady m (set m (i * mark_width + memory_word) v)
steady_set m i v =
    record { slots = λ j. get_or-set_other m (i * mark_width + memory_word) (j * mark_width) v 0 (λ e. omega arith); ways = λ j. get_or-set_other m (i * mark_width + memory_word) (j * mark_width + ways_word) v 0 (λ e. omega arith); end = λ j. get_or-set_other m (i * mark_width + memory_word) (j * mark_width + end_word) v 0 (λ e. omega arith) }

pub ran_none : {n : ℕ} {m st : List ℕ} {top : ℕ} → Stacked n m st top → Ran n m m st top top
ran_none {m = m} s = record { steady = steady_none m; fewer = omega arith; grown = omega arith; stacked = s }

pub ran_more : {n : ℕ} {m m₁ m₂ st₁ st₂ : List ℕ} {top high more : ℕ} → Ran n m m₁ st₁ top high → Ran n m₁ m₂ st₂ high more → Ran n m m₂ st₂ top more
ran_more a b = record { steady = steady_more a.steady b.steady; fewer = omega (arith, a.fewer, b.fewer); grown = omega (arith, a.grown, b.grown); stacked = b.stacked }

pub given_steady : {rules rows : List ℕ} {text : Bytes} {m m' : List ℕ} → Given rules rows text m → Steady m m' → length m' ≡ length m → Given rules rows text m'
given_steady g s l =
    record {
      marked = record {
        table = g.marked.table;
        lent = g.marked.lent;
        inside = g.marked.inside;
        index = index_kept g.marked.index l s.slots s.ways;
      };
      ended = record { end = λ i h. s.end i ∙ g.ended.end i h };
    }

-- ---- rule k of what is lent

module _ {rules rows : List ℕ} {t : Table Span} (lent : Lent t rules rows) where
  pub count : length rules / rule_width ≡ length t
  count = ap (λ (w : List ℕ). length w / row_width) (sym lent.heads) ∙ rule_count t

  pub count_resolved : (text : Bytes) → length rules / rule_width ≡ length (resolve_table text t)
  count_resolved text = count ∙ sym (length_resolved text t)

  pub below_resolved : (text : Bytes) (k : ℕ) → k < length rules / rule_width → k < length (resolve_table text t)
  below_resolved text k h = omega (arith, count_resolved text)

  pub rule_there : (k : ℕ) → k < length rules / rule_width → There t k
  rule_there k h = there t k (omega (arith, count))

  pub rule_rows : (k : ℕ) (r : There t k) → get_or rules (k * rule_width + rows_word) 0 ≡ size r.rule.body
  rule_rows k r = ap (λ (v : List ℕ). get_or v (k * row_width + 3) 0) (sym lent.heads) ∙ (rule_words_lem t k r.rule r.is).rows'

  module _ (m : List ℕ) (k : ℕ) (r : There t k) (h : k < length rules / rule_width) (d : Ended rules m) where
    pub rule_stands : At rows (get_or m (k * mark_width + end_word) 0 - 1) r.rule.body
    rule_stands = rw (← lent.trees, d.end k h) (subst (λ (v : List ℕ). At (row_words t) (rows_before v (suc k) - 1) r.rule.body) lent.heads (body_at t k r.rule r.is))

    -- where the rule's rows end: n is their number
    module _ (end n : ℕ) (e : end ≡ get_or m (k * mark_width + end_word) 0) (q : n ≡ get_or rules (k * rule_width + rows_word) 0) where
      pub rule_at : At rows (end - 1) r.rule.body
      rule_at = rw e rule_stands

      pub rule_long : n ≡ size r.rule.body
      rule_long = q ∙ rule_rows k r

      pub rule_most : n ≤ end
      rule_most = omega (arith, (root rule_at).most, rule_long, size_pos r.rule.body, d.end k h, rule_rows k r)

      pub rule_tree : TreeRows rows (end - n) end
      rule_tree = record { tree = r.rule.body; at = rule_at; rows = omega (arith, rule_most, rule_long) }
