-- Marks in words: one memory is written, and which rule a name has. Assumes nothing.
use mathlib.Core.Path.{◌≡◌, refl, sym, ap, ap₂, ◌∙◌}
use mathlib.Core.Bool.{Bool, true, false, cond}
use mathlib.Core.List.{List, [], ◌∷◌}
use mathlib.Core.Option.{Option, none, some}
use Prim.Native.Nat.{ℕ, zero, suc, ◌+◌, ◌*◌, ◌≤◌, ◌<◌}
use native.Mathlib.Nat.{add-zero}
use native.Mathlib.Omega.{arith}
use lib.ListN.{length, get_or, set}
use lib.Seq.{get_or-set_same, get_or-set_other}
use lib.Dec.{eqb}
use Rattle.grammar.specs.Numbers.{rule_width, row_width, mark_width}
use Rattle.grammar.specs.Basic.{Bytes, same_bytes}
use Rattle.grammar.specs.Rows.{Span}
use Rattle.grammar.specs.Text.{bytes_at}
use Rattle.grammar.specs.Table.{Table, Rule, rule_words, resolve_table}
use Rattle.grammar.proofs.Logic.{none_some, some_eq, eqb_eq, same_bytes_eq, eq_same_bytes}
use Rattle.names.specs.Names.{name_of, memory_word, ways_word, end_word}
use Rattle.skipper.specs.Lends.{index_from, state_at, marks_of, zeros, Steady}
use Rattle.skipper.proofs.Memories.{Sets}

-- how many words are 0

abbrev pub is_zero : ℕ → ℕ
is_zero w = cond (eqb w 0) 1 0

pub zeros_set : (m : List ℕ) (i v : ℕ) → i < length m → zeros (set m i v) + is_zero (get_or m i 0) ≡ zeros m + is_zero v
zeros_set [] i v h = absurd (omega arith)
zeros_set (w ∷ m) zero v h = omega arith
zeros_set (w ∷ m) (suc i) v h = let l : i < length m = omega arith in omega (arith, zeros_set m i v l)

pub not_zero : (v : ℕ) → 1 ≤ v → is_zero v ≡ 0
not_zero v h = go (eqb v 0) refl
  where
    go : (b : Bool) → eqb v 0 ≡ b → ◌≡◌ {A = ℕ} (cond b 1 0) 0
    go true e = absurd (omega (arith, eqb_eq v 0 e))
    go false e = refl

-- one memory is written
pub steady_none : (m : List ℕ) → Steady m m
steady_none m = record { fewer = omega arith; slots = λ i. refl; ways = λ i. refl; end = λ i. refl }

pub steady_more : {m m₁ m₂ : List ℕ} → Steady m m₁ → Steady m₁ m₂ → Steady m m₂
steady_more s t = record { fewer = omega (arith, s.fewer, t.fewer); slots = λ i. t.slots i ∙ s.slots i; ways = λ i. t.ways i ∙ s.ways i; end = λ i. t.end i ∙ s.end i }

pub steady_set : (m : List ℕ) (i v : ℕ) → i * mark_width + memory_word < length m → 1 ≤ v → Steady m (set m (i * mark_width + memory_word) v)
steady_set m i v h l =
    record {
      fewer = omega (arith, zeros_set m (i * mark_width + memory_word) v h, not_zero v l);
      slots = λ j. get_or-set_other m (i * mark_width + memory_word) (j * mark_width) v 0 (λ e. omega arith);
      ways = λ j. get_or-set_other m (i * mark_width + memory_word) (j * mark_width + ways_word) v 0 (λ e. omega arith);
      end = λ j. get_or-set_other m (i * mark_width + memory_word) (j * mark_width + end_word) v 0 (λ e. omega arith);
    }

-- a rule has one name
index_later : (i k : ℕ) (t : Table Bytes) (x : Bytes) → index_from i t x ≡ some k → i ≤ k
index_later i k [] x h = none_some h
index_later i k (r ∷ rs) x h = at (same_bytes r.name x) h (index_later (suc i) k rs x)
  where
    at : (b : Bool) → cond b (some i) (index_from (suc i) rs x) ≡ some k → (index_from (suc i) rs x ≡ some k → suc i ≤ k) → i ≤ k
    at true e f = omega (arith, some_eq i k e)
    at false e f = omega (arith, f e)

index_name : (i k : ℕ) (t : Table Bytes) (x y : Bytes) → index_from i t x ≡ some k → index_from i t y ≡ some k → x ≡ y
index_name i k [] x y p q = none_some p
index_name i k (r ∷ rs) x y p q = go (same_bytes r.name x) (same_bytes r.name y) refl refl p q (index_name (suc i) k rs x y)
  where
    go : (a b : Bool) → same_bytes r.name x ≡ a → same_bytes r.name y ≡ b → cond a (some i) (index_from (suc i) rs x) ≡ some k → cond b (some i) (index_from (suc i) rs y) ≡ some k → (index_from (suc i) rs x ≡ some k → index_from (suc i) rs y ≡ some k → x ≡ y) → x ≡ y
    go true true u v e f ih = sym (same_bytes_eq r.name x u) ∙ same_bytes_eq r.name y v
    go true false u v e f ih = absurd (omega (arith, some_eq i k e, index_later (suc i) k rs y f))
    go false true u v e f ih = absurd (omega (arith, some_eq i k f, index_later (suc i) k rs x e))
    go false false u v e f ih = ih e f

pub sets_mark : (t : Table Bytes) (m : List ℕ) (x : Bytes) (k v : ℕ) → index_from 0 t x ≡ some k → k * mark_width + memory_word < length m → Sets (marks_of t m) (marks_of t (set m (k * mark_width + memory_word) v)) x v
unfolding marks_of
sets_mark t m x k v e h =
    record {
      here = rw e (get_or-set_same m (k * mark_width + memory_word) v 0 h);
      others = λ y n. other y n (index_from 0 t y) refl;
    }
  where
    other : (y : Bytes) → (y ≡ x → ⊥) → (o : Option ℕ) → index_from 0 t y ≡ o → state_at (set m (k * mark_width + memory_word) v) o ≡ state_at m o
    other y n none q = refl
    other y n (some j) q = get_or-set_other m (k * mark_width + memory_word) (j * mark_width + memory_word) v 0 (λ f. n (index_name 0 k t y x (q ∙ ap some (omega arith)) e))

-- Which rule a name has

-- the words of one rule, and of the rules after it
word_later : (a b c d : ℕ) (ws : List ℕ) (k n : ℕ) → get_or (a ∷ b ∷ c ∷ d ∷ ws) (suc k * row_width + n) 0 ≡ get_or ws (k * row_width + n) 0
word_later a b c d ws k n = let e : suc k * rule_width + n ≡ suc (suc (suc (suc (k * rule_width + n)))) = omega arith in rw e

name_later : (r : Rule Span) (t : Table Span) (text : Bytes) (k : ℕ) → name_of (rule_words (r ∷ t)) text (suc k) ≡ name_of (rule_words t) text k
name_later r t text k =
    let e : suc k * rule_width ≡ suc (suc (suc (suc (k * 4)))) = omega arith in
    let x : get_or (rule_words (r ∷ t)) (suc k * rule_width) 0 ≡ get_or (rule_words t) (k * rule_width) 0 = rw e in
    ap₂ (λ (a b : ℕ). bytes_at text (a, b)) x (word_later _ _ _ _ (rule_words t) k 1)

same_bytes_no : (a b : Bytes) → (a ≡ b → ⊥) → same_bytes a b ≡ false
same_bytes_no a b n = go (same_bytes a b) refl
  where
    go : (c : Bool) → same_bytes a b ≡ c → c ≡ false
    go true e = absurd (n (same_bytes_eq a b e))
    go false e = refl

pub index_first : (i : ℕ) (t : Table Span) (text x : Bytes) (k : ℕ) → k < length t → name_of (rule_words t) text k ≡ x → ((j : ℕ) → j < k → name_of (rule_words t) text j ≡ x → ⊥) → index_from i (resolve_table text t) x ≡ some (i + k)
index_first i [] text x k h e n = absurd (omega arith)
index_first i (r ∷ rs) text x zero h e n = rw (eq_same_bytes (bytes_at text r.name) x e) (ap some (sym (add-zero i)))
index_first i (r ∷ rs) text x (suc k) h e n =
    let l : k < length rs = omega arith in
    let m : bytes_at text r.name ≡ x → ⊥ = λ q. n 0 (omega arith) q in
    let s : suc i + k ≡ i + suc k = omega arith in
    rw (same_bytes_no (bytes_at text r.name) x m)
    (index_first (suc i) rs text x k l (sym (name_later r rs text k) ∙ e) (λ j g q. n (suc j) (omega arith) (name_later r rs text j ∙ q)) ∙ ap some s)

pub index_nothing : (i : ℕ) (t : Table Span) (text x : Bytes) → ((j : ℕ) → j < length t → name_of (rule_words t) text j ≡ x → ⊥) → index_from i (resolve_table text t) x ≡ none
index_nothing i [] text x n = refl
index_nothing i (r ∷ rs) text x n =
    let m : bytes_at text r.name ≡ x → ⊥ = λ q. n 0 (omega arith) q in
    rw (same_bytes_no (bytes_at text r.name) x m) (index_nothing (suc i) rs text x (λ j g q. n (suc j) (omega arith) (name_later r rs text j ∙ q)))
