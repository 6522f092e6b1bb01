-- A reading with its place, arm by arm: what a name finds. Assumes nothing.
use Rattle.std.specs.Prelude.{None}
use mathlib.Core.Path.{◌≡◌, refl, sym, ap, ◌∙◌, subst}
use mathlib.Core.Bool.{Bool, true, false, cond}
use mathlib.Core.List.{List, [], ◌∷◌, ◌++◌, append_assoc}
use mathlib.Core.Option.{some}
use Prim.Native.Nat.{ℕ, zero, suc, ◌+◌, ◌-◌, ◌*◌, ◌/◌, ◌≤◌, ◌<◌}
use native.Mathlib.Omega.{arith}
use borrow.Author.Tests.{ne_eqb}
use lib.Dec.{eqb}
use lib.ListN.{length, set}
use Rattle.grammar.specs.Numbers.{rule_width, mark_width}
use Rattle.grammar.specs.Basic.{Bytes}
use Rattle.grammar.specs.Rows.{Span}
use Rattle.grammar.specs.Text.{resolve}
use Rattle.grammar.specs.Table.{Table, rule_words, resolve_table}
use Rattle.grammar.specs.Lists.{read_in}
use Rattle.names.specs.Names.{First, Finds, rows_before, memory_word}
use Rattle.names.proofs.Finding.{There}
use Rattle.writing.specs.Writes.{stored}
use Rattle.skipper.specs.Lends.{index_from, marks_of}
use Rattle.skipper.proofs.Leaf as leaf
use Rattle.skipper.proofs.Rules.{sets_mark, index_first}
use Rattle.explanation.specs.Ends.{Ends, reads, unknown, other, again, Place, ends_in}
use Rattle.explanation.specs.Explain.{ends_told}
use Rattle.explainer.specs.declared.Explained.{Explained}
use Rattle.explainer.specs.declared.Reason.TheVariants.{BecomesSkip, Unknown, MetAgain}
use Rattle.explainer.specs.Reading.{number_of, Numbered, memory_at, Clean, Steady, Way, Says, ReadSo}
use Rattle.explainer.proofs.Marks.{steady_none, steady_more, steady_set, clean_set}
use Rattle.explainer.proofs.Places.{place_at, place_missing}
use Rattle.explainer.proofs.Opens.{known_opens, not_member, within_opens, read_once}
use Rattle.explainer.proofs.Arms.{says_reads, says_unknown, says_again, says_by, three_reads, ends_unknown, ends_met, ends_step}

-- ---- the list on the way back

set_swap : (l : List ℕ) (i j a b : ℕ) → (i ≡ j → ⊥) → set (set l j b) i a ≡ set (set l i a) j b
set_swap [] i j a b h = refl
set_swap (x ∷ l) zero zero a b h = absurd (h refl)
set_swap (x ∷ l) zero (suc j) a b h = refl
set_swap (x ∷ l) (suc i) zero a b h = refl
set_swap (x ∷ l) (suc i) (suc j) a b h = ap (λ (r : List ℕ). x ∷ r) (set_swap l i j a b (λ e. h (ap suc e)))

stored_front : (vs l : List ℕ) (i k a : ℕ) → i < k → set (stored l k vs) i a ≡ stored (set l i a) k vs
unfolding stored
stored_front [] l i k a h = refl
stored_front (v ∷ vs) l i k a h = stored_front vs (set l k v) i (suc k) a (omega (arith, h)) ∙ ap (λ (u : List ℕ). stored u (suc k) vs) (set_swap l i k a v (λ e. omega (arith, h, e)))

stored_cons : (vs l : List ℕ) (i a : ℕ) → stored (set l i a) (suc i) vs ≡ stored l i (a ∷ vs)
unfolding stored
stored_cons vs l i a = refl

-- rule k of the way is written where a rule was met again
says_back : (o : List ℕ) (d k : ℕ) {a : Explained} {w : Ends} {l l₁ l₂ : List ℕ} → Says a w (o ++ (k ∷ [])) (d + 1) l l₁ → l₂ ≡ cond (eqb (number_of a.answer) 9) (set l₁ d k) l₁ → Says a w o d l l₂
unfolding stored
says_back o d k {a} {w} {l} {l₁} {l₂} h e = go w h.answer h.rule h.at h.met h.count h.way
  where
    keeps : (n : ℕ) → (n ≡ 9 → ⊥) → number_of a.answer ≡ n → h.tail ≡ [] → l₂ ≡ stored l d []
    keeps n u p q = e ∙ rw (p, ne_eqb n 9 u) (h.list ∙ ap (stored l (d + 1)) q)

    go : (v : Ends) → number_of a.answer ≡ (ends_told v []).answer → a.rule ≡ (ends_told v []).rule → a.at ≡ (ends_told v []).at → a.met ≡ (ends_told v []).met → a.opened ≡ (ends_told v []).open' → Way v (o ++ (k ∷ [])) (d + 1) (length l) h.tail → Says a v o d l l₂
    go reads p q r s c y = record { answer = p; rule = q; at = r; met = s; count = c; tail = []; way = refl; list = keeps 0 (λ z. omega (arith, z)) p y }
    go (unknown i at) p q r s c y = record { answer = p; rule = q; at = r; met = s; count = c; tail = []; way = refl; list = keeps 7 (λ z. omega (arith, z)) p y }
    go (other i at) p q r s c y = record { answer = p; rule = q; at = r; met = s; count = c; tail = []; way = refl; list = keeps 8 (λ z. omega (arith, z)) p y }
    go (again i at j x) p q r s c y =
        let g : suc d ≡ d + 1 = omega arith in
        record {
          answer = p;
          rule = q;
          at = r;
          met = s;
          count = c;
          tail = k ∷ h.tail;
          way = (y.0 ∙ append_assoc o (k ∷ []) h.tail, omega (arith, y.1));
          list = e ∙ rw p (ap (λ (u : List ℕ). set u d k) h.list ∙ stored_front h.tail l d (d + 1) k (omega arith) ∙ ap (λ (u : ℕ). stored (set l d k) u h.tail) (sym g) ∙ stored_cons h.tail l d k);
        }

-- ---- a name

-- the rule that it finds
module _ {rules : List ℕ} (t : Table Span) (heads : rules ≡ rule_words t) (s x : Bytes) {k : ℕ} (f : First (length rules / rule_width) rules s x k) where
  there' : There t k
  there' = leaf.rule_there t heads k f.below

  abbrev place : Place
  place = record { rule = k; root = rows_before rules (suc k) - 1; body = resolve s there'.rule.body }

  name_index : index_from 0 (resolve_table s t) x ≡ some k
  name_index =
      let e : ◌≡◌ {A = ℕ} (0 + k) k = omega arith in
      index_first 0 t s x k (omega (arith, f.below, leaf.count t heads)) (rw (← heads) f.same) (λ j h q. f.first j h (rw heads q)) ∙ ap some e

  name_mark : (m : List ℕ) → marks_of (resolve_table s t) m x ≡ memory_at m k
  unfolding marks_of
  name_mark m = rw name_index

module _ {rules : List ℕ} (t : Table Span) (heads : rules ≡ rule_words t) (s x : Bytes) (n d : ℕ) {m l : List ℕ} (i at : ℕ) where
  pub arm_unknown : {a : Explained} → Finds (length rules / rule_width) rules s x None → Numbered a Unknown i at 0 0 → ReadSo s t n d m m l l a (λ look. look x) (λ look. look i at x)
  arm_unknown f h =
      record {
        steady = steady_none n m;
        clean = λ e. absurd (cc (h.0, e));
        reads' = λ e. absurd (cc (h.0, e));
        says = λ o names known within. says_by (ends_unknown (resolve_table s t) o d (omega (arith, within.room)) x i at (place_missing t heads s x f)) (says_unknown h);
      }

  module _ {k : ℕ} (f : First (length rules / rule_width) rules s x k) where
    pub arm_met : {a : Explained} → d ≤ length l → memory_at m k ≡ 1 → Numbered a MetAgain i at k d → ReadSo s t n d m m l l a (λ look. look x) (λ look. look i at x)
    arm_met g e h =
        record {
          steady = steady_none n m;
          clean = λ q. absurd (cc (h.0, q));
          reads' = λ q. absurd (cc (h.0, q));
          says = λ o names known within.
              let p = place_at t heads s x f (there' t heads s x f) in
              says_by (ends_met (resolve_table s t) o d (omega (arith, within.room)) x i at (place t heads s x f) p (within.numbers x (place t heads s x f) p ∙ within.all.all x (name_mark t heads s x f m ∙ e))) (says_again within.deep g h);
        }

    pub arm_done : {a : Explained} → Clean n m → memory_at m k ≡ 3 → Numbered a BecomesSkip 0 0 0 0 → ReadSo s t n d m m l l a (λ look. look x) (λ look. look i at x)
    arm_done clean e h =
        record {
          steady = steady_none n m;
          clean = λ _. clean;
          reads' = λ _. leaf.name_marked t heads s m x f 3 (sym e) (λ q. omega (arith, q));
          says = λ o names known within. says_by (three_reads _ (read_once known within x (name_mark t heads s x f m ∙ e) i at)) (says_reads h);
        }

    -- a rule that was not read: it is opened, its expression is read, and it is closed
    pub arm_rule : {a : Explained} {m₂ m₃ l₂ l₃ : List ℕ} → k < n → k * mark_width + memory_word < length m → k * mark_width + memory_word < length m₂ → memory_at m k ≡ 0
        → ((r : There t k) → ReadSo s t n (d + 1) (set m (k * mark_width + memory_word) 1) m₂ l l₂ a (λ look. read_in look (resolve s r.rule.body)) (λ look. ends_in look k (rows_before rules (suc k) - 1) (resolve s r.rule.body)))
        → m₃ ≡ cond (eqb (number_of a.answer) 0) (set m₂ (k * mark_width + memory_word) 3) m₂ → l₃ ≡ cond (eqb (number_of a.answer) 9) (set l₂ d k) l₂ → ReadSo s t n d m m₃ l l₃ a (λ look. look x) (λ look. look i at x)
    arm_rule {a} {m₂} {m₃} {l₂} {l₃} u v v₂ z body e q =
        let b = body (there' t heads s x f) in
        record {
          steady = steady_more (steady_set m k 1 v n u (omega arith)) (steady_more b.steady (closes (eqb (number_of a.answer) 0) e));
          clean = λ c. subst (Clean n) (sym (closed c)) (clean_set m₂ k 3 v₂ n (λ _ _. refl) (b.clean c));
          reads' = λ c. subst (λ (w : List ℕ). Rattle.skipper.specs.Lends.ReadsOf s t m w 3 (λ look. look x)) (sym (closed c)) (leaf.name_read t heads s m x f (there' t heads s x f) v v₂ z (b.reads' c));
          says = λ o names known within.
              let p = place_at t heads s x f (there' t heads s x f) in
              let sets = sets_mark (resolve_table s t) m x k 1 (name_index t heads s x f) v in
              let zero' = name_mark t heads s x f m ∙ z in
              says_by (ends_step (resolve_table s t) o d (omega (arith, within.room)) x i at (place t heads s x f) p (within.numbers x (place t heads s x f) p ∙ not_member sets zero' within))
              (says_back o d k (b.says (o ++ (k ∷ [])) (x ∷ names) (known_opens sets zero' known) (within_opens sets zero' within (place t heads s x f) p)) q);
        }
      where
        closed : a.answer ≡ BecomesSkip → m₃ ≡ set m₂ (k * mark_width + memory_word) 3
        closed c = e ∙ rw c

        closes : (c : Bool) → m₃ ≡ cond c (set m₂ (k * mark_width + memory_word) 3) m₂ → Steady n m₂ m₃
        closes true g = rw g (steady_set m₂ k 3 v₂ n u (omega arith))
        closes false g = rw g (steady_none n m₂)
