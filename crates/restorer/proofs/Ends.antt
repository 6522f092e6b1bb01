-- The rules of a table are settled one after the other. Assumes nothing.
use mathlib.Core.Path.{◌≡◌, refl, sym, ap, ◌∙◌}
use mathlib.Core.List.{List, [], ◌∷◌}
use mathlib.Core.Option.{some}
use Prim.Native.Nat.{ℕ, suc, ◌+◌, ◌*◌, ◌/◌, ◌^◌, ◌≤◌, ◌<◌}
use native.Mathlib.Decide.{dec_lt}
use native.Mathlib.Omega.{arith}
use lib.ListN.{length, get_elem?}
use Rattle.grammar.specs.Numbers.{rule_width, row_width, mark_width}
use Rattle.grammar.specs.Basic.{Bytes}
use Rattle.grammar.specs.Rows.{Span}
use Rattle.grammar.specs.Table.{Rule, Table, row_count, rule_words, resolve_table}
use Rattle.rows.proofs.Laws.{size_pos}
use Rattle.names.specs.Names.{rows_before, marked, with_ends, ways_word, end_word}
use Rattle.names.proofs.Finding.{rule_count, rows_before_all, length_rows}
use Rattle.names.proofs.Marks.{length_marked, marked_other, marked_at, ended}
use Rattle.names.proofs.Index.{index_ends}
use Rattle.restorer.specs.Search.{state_of, Right, RuleSettled}
use Rattle.restorer.specs.Lends.{Lent, Marked, Given, Steady, Settles}
use Rattle.restorer.specs.Stacks.{Stacked, Searching}
use Rattle.restorer.proofs.Memories.{inside_rule}
use Rattle.restorer.proofs.Marks.{unseen_most, stack_top, count, count_resolved, given_steady}

-- ---- memories that are written

module _ (f : ℕ → ℕ) (n : ℕ) (m : List ℕ) where
  pub marked_steady : Steady m (marked f 1 n m)
  marked_steady = record { slots = λ i. marked_other f 1 n m (i * mark_width) (λ k l e. omega arith); ways = λ i. marked_other f 1 n m (i * mark_width + ways_word) (λ k l e. omega arith); end = λ i. marked_other f 1 n m (i * mark_width + end_word) (λ k l e. omega arith) }

  pub marked_state : (i : ℕ) → n * mark_width ≤ length m → i < n → state_of (marked f 1 n m) i ≡ f i
  marked_state i l h = marked_at f 1 n m i (omega arith) l h

-- ---- the table

-- how many rows there are
pub rows_fit : {rules rows : List ℕ} {text : Bytes} {m : List ℕ} → Marked rules rows text m → length rows < 2 ^ 32 → rows_before rules (length rules / rule_width) < 2 ^ 32
rows_fit {rules} {rows} g h =
    let t = g.table in
    let e : rows_before (rule_words t) (length t) ≡ row_count t = rows_before_all t in
    let k : length rows ≡ row_count t * row_width = ap length (sym g.lent.trees) ∙ length_rows t in
    let f : rows_before rules (length rules / rule_width) ≡ rows_before (rule_words t) (length t) = rw (← g.lent.heads, rule_count t) in
    omega (arith, e, k, f)

-- each rule has one
rules_most : (t : Table Span) → length t ≤ row_count t
rules_most [] = omega arith
rules_most (r ∷ t) = omega (arith, size_pos r.body, rules_most t)

rules_few : {rules rows : List ℕ} {t : Table Span} → Lent t rules rows → length rows < 2 ^ 32 → length rules / rule_width < 2 ^ 30
rules_few {t = t} l h = omega (arith, count l, rules_most t, ap length (sym l.trees) ∙ length_rows t)

-- rules below i are settled, and no others are open
pub record Settling (rules rows : List ℕ) (text : Bytes) (m m' st st' : List ℕ) (i : ℕ) : Type 0 where
  pub searching : Searching rules rows text m' st' 0
  pub most : i ≤ length rules / rule_width
  pub long : length m' ≡ length m
  pub longs : length st' ≡ length st
  pub so : (t : Table Span) → Lent t rules rows → Right (resolve_table text t) m' × ((j : ℕ) → j < i → 2 ≤ state_of m' j)

pub settling_start : {rules rows : List ℕ} {text : Bytes} {m m₁ m₂ st : List ℕ} {n : ℕ} → Marked rules rows text m → length rows < 2 ^ 32 → length rules / rule_width ≤ length st → m₁ ≡ with_ends rules m → n ≡ length rules / rule_width → m₂ ≡ marked (λ _. 0) 1 n m₁ → Settling rules rows text m₂ m₂ st st 0
settling_start {rules} {rows} {text} {m} {m₁} {m₂} {st} {n} g few room e c f =
    let z : length m₂ ≡ length m₁ = ap length f ∙ length_marked (λ _. 0) 1 n m₁ in
    let d : Given rules rows text m₁ = record { marked = record { table = g.table; lent = g.lent; inside = g.inside; index = rw e (index_ends rules text m g.index) }; ended = rw e (ended rules m g.index.long) } in
    record {
      searching = record {
        given = given_steady d (rw f (marked_steady (λ _. 0) n m₁)) z;
        stacked = record { below = λ p l. absurd (omega arith); place = λ p l. absurd (omega arith); back = λ i p l q. absurd (omega (arith, none i l)); room = omega (arith, unseen_most (length rules / rule_width) m₂) };
        long = room;
        few = rules_few g.lent few;
      };
      most = omega arith;
      long = refl;
      longs = refl;
      so = λ t l. (nothing t l, λ j h. absurd (omega arith));
    }
  where
    none : (i : ℕ) → i < length rules / rule_width → state_of m₂ i ≡ 0
    none i b =
        let k : length m₁ ≡ length m = ap length e ∙ length_marked (λ i. rows_before rules (suc i)) 3 (length rules / rule_width) m in
        rw f (marked_state (λ _. 0) n m₁ i (omega (arith, k, g.index.long)) (omega arith))

    nothing : (t : Table Span) → Lent t rules rows → Right (resolve_table text t) m₂
    nothing t l =
        record {
          states = λ i b q. omega (arith, none i (omega (arith, count_resolved l text)));
          no = λ i r is q. absurd (omega (arith, none i (at i r is)));
          yes = λ i r is q. absurd (omega (arith, none i (at i r is)));
        }
      where
        at : (i : ℕ) (r : Rule Bytes) → get_elem? (resolve_table text t) i ≡ some r → i < length rules / rule_width
        at i r is = omega (arith, count_resolved l text, inside_rule (resolve_table text t) i r is)

pub settling_next : {rules rows : List ℕ} {text : Bytes} {m m₁ m₂ st st₁ st₂ : List ℕ} {i : ℕ} → Settling rules rows text m m₁ st st₁ i → i < length rules / rule_width → Steady m₁ m₂ → Stacked (length rules / rule_width) m₂ st₂ 0 → length m₂ ≡ length m₁ → length st₂ ≡ length st₁
    → ((t : Table Span) → Lent t rules rows → Right (resolve_table text t) m₁ → RuleSettled (resolve_table text t) m₁ m₂ i) → Settling rules rows text m m₂ st st₂ (i + 1)
settling_next {rules} {rows} {text} {m} {m₁} {m₂} {st} {st₁} {st₂} {i} inv lt s k z y f =
    record {
      searching = record { given = given_steady inv.searching.given s z; stacked = k; long = omega (arith, inv.searching.long, y); few = inv.searching.few };
      most = omega arith;
      long = z ∙ inv.long;
      longs = y ∙ inv.longs;
      so = λ t l. let q = inv.so t l in let a = f t l q.0 in (a.right, λ j h. go t l j h a (dec_lt j i));
    }
  where
    go : (t : Table Span) → Lent t rules rows → (j : ℕ) → j < i + 1 → RuleSettled (resolve_table text t) m₁ m₂ i → Dec (j < i) → 2 ≤ state_of m₂ j
    go t l j h a (yes b) = let q = (inv.so t l).1 j b in omega (arith, a.kept.same j (omega (arith, count_resolved l text)) (omega arith), q)
    go t l j h a (no b) = let e : j ≡ i = omega arith in rw e a.here

pub settling_end : {rules rows : List ℕ} {text : Bytes} {m m₁ st st₁ : List ℕ} {i : ℕ} → Settling rules rows text m m₁ st st₁ i → length rules / rule_width ≤ i → Settles rules rows text m₁
settling_end {text = text} inv le =
    record {
      settled = λ t l. record {
        right = (inv.so t l).0;
        done = λ j h. (inv.so t l).1 j (omega (arith, count_resolved l text));
        states = λ j h. let b = stack_top {i = j} inv.searching.stacked (omega (arith, count_resolved l text)) in omega arith;
      };
      ended = inv.searching.given.ended;
    }
