-- The rules of a table whose loops are read, and what the marks say in the end. Assumes nothing.
use Rattle.std.specs.Prelude.{⊤, Result, Ok, Err}
use mathlib.Core.Path.{◌≡◌, refl, sym, ap, ap₂, ◌∙◌}
use mathlib.Core.Bool.{false≢true, Bool, true, false, ◌&&◌, ◌||◌, cond}
use mathlib.Core.List.{List, [], ◌∷◌}
use mathlib.Core.Option.{Option, none, some}
use Prim.Native.Nat.{ℕ, zero, suc, ◌+◌, ◌-◌, ◌*◌, ◌/◌, ◌≤◌, ◌<◌}
use native.Mathlib.Decide.{dec_le}
use native.Mathlib.Omega.{arith}
use borrow.Author.Tests.{eq-eqb, ne_eqb}
use lib.ListN.{length, get_or, get_elem?}
use Rattle.grammar.specs.Numbers.{rule_width, type_word, rows_word, row_width, mark_width}
use Rattle.grammar.specs.declared.Refusal.{Refusal}
use Rattle.grammar.specs.declared.Refusal.TheVariants.{Cycle}
use Rattle.grammar.specs.Basic.{Bytes, any, same_bytes}
use Rattle.grammar.specs.Tree.{E, lit, fixed, skip, un, bin, size, any_node}
use Rattle.grammar.specs.Rows.{Span}
use Rattle.grammar.specs.Text.{resolve}
use Rattle.grammar.specs.Table.{Table, Rule, resolve_rule, resolve_table, find}
use Rattle.grammar.specs.Lists.{Reading}
use Rattle.grammar.specs.Steps.{is_atomic}
use Rattle.grammar.specs.Refusals.{meets}
use Rattle.grammar.proofs.Logic.{none_some, some_eq, or_left, or_right}
use Rattle.rows.specs.Rows.{At}
use Rattle.names.specs.Names.{marked, Ended, ways_word, end_word}
use Rattle.names.proofs.Marks.{length_marked, marked_other, marked_at}
use Rattle.names.proofs.Index.{index_kept}
use Rattle.names.proofs.Finding.{There, rule_words_lem, inside_table}
use Rattle.skipper.specs.Memory.{mark_of, name_list, Marks, by_marks, Known, Grows}
use Rattle.skipper.specs.Lends.{index_from, state_at, marks_of, lists_of, Lent, Given, Steady}
use Rattle.skipper.specs.Loops.{TreeRows, open_at, rule_open, Idle, Settled, LoopsOf}
use Rattle.skipper.specs.Ways.{Targets, Relisted}
use Rattle.skipper.specs.Lists.{ReadAll}
use Rattle.skipper.proofs.Memories.{Below, marks_below, marks_grow, grows_none, grows_more, name_none}
use Rattle.skipper.proofs.Rules.{steady_none, steady_more}
use Rattle.skipper.proofs.Leaf.{length_table, count, rule_there, rule_stands}
use Rattle.skipper.proofs.Settles.{ok_not_err, idle_grows, loops_none, open_mono}
use Rattle.skipper.proofs.Rotation.{rotated_rules, meets_is}
use Rattle.skipper.proofs.Ways.{lists_same}

pub or_first : (a b : Bool) → (a || b) ≡ false → a ≡ false
or_first true b h = h
or_first false b h = refl

pub or_second : (a b : Bool) → (a || b) ≡ false → b ≡ false
or_second true b h = absurd (false≢true (sym h))
or_second false b h = h

-- what is settled stays settled
module _ (look look' : Bytes → Reading) (m : (x : Bytes) → Below (look x) (look' x)) where
  any_mono : (e : E) → any_node (open_at look) e ≡ false → any_node (open_at look') e ≡ false
  any_mono (lit k s) h = open_mono look look' m (lit k s) h
  any_mono (fixed f) h = open_mono look look' m (fixed f) h
  any_mono (skip ss) h = open_mono look look' m (skip ss) h
  any_mono (un u e) h =
      let a = open_at look (un u e) in
      let b = any_node (open_at look) e in
      ap₂ ◌||◌ (open_mono look look' m (un u e) (or_first a b h)) (any_mono e (or_second a b h))
  any_mono (bin b l r) h =
      let a = open_at look (bin b l r) in
      let x = any_node (open_at look) l in
      let y = any_node (open_at look) r in
      ap₂ ◌||◌ (open_mono look look' m (bin b l r) (or_first a (x || y) h)) (ap₂ ◌||◌ (any_mono l (or_first x y (or_second a (x || y) h))) (any_mono r (or_second x y (or_second a (x || y) h))))

  rule_mono : (r : Rule Bytes) → rule_open look r ≡ false → rule_open look' r ≡ false
  rule_mono r = go (is_atomic r.type)
    where
      go : (a : Bool) → (a && any_node (open_at look) r.body) ≡ false → (a && any_node (open_at look') r.body) ≡ false
      go true h = any_mono r.body h
      go false h = refl

  rules_mono : (t : Table Bytes) → any (rule_open look) t ≡ false → any (rule_open look') t ≡ false
  rules_mono [] h = refl
  rules_mono (r ∷ rs) h = ap₂ ◌||◌ (rule_mono r (or_first (rule_open look r) (any (rule_open look) rs) h)) (rules_mono rs (or_second (rule_open look r) (any (rule_open look) rs) h))

-- a test of every rule
rules_yes : (p : Rule Bytes → Bool) (s : Bytes) (t : Table Span) (j : ℕ) (r : Rule Span) → get_elem? t j ≡ some r → p (resolve_rule s r) ≡ true → any p (resolve_table s t) ≡ true
rules_yes p s [] j r h e = none_some h
rules_yes p s (q ∷ t) zero r h e = let z : q ≡ r = some_eq q r h in or_left (p (resolve_rule s q)) (any p (resolve_table s t)) (rw z e)
rules_yes p s (q ∷ t) (suc j) r h e = or_right (p (resolve_rule s q)) (any p (resolve_table s t)) (rules_yes p s t j r h e)

rules_no : (p : Rule Bytes → Bool) (s : Bytes) (t : Table Span) → ((j : ℕ) (r : Rule Span) → get_elem? t j ≡ some r → p (resolve_rule s r) ≡ false) → any p (resolve_table s t) ≡ false
rules_no p s [] h = refl
rules_no p s (q ∷ t) h = ap₂ ◌||◌ (h 0 q refl) (rules_no p s t (λ j r e. h (suc j) r e))

-- Rule k

module _ {rules rows : List ℕ} {t : Table Span} (lent : Lent rules rows t) (k : ℕ) (r : Rule Span) (h : get_elem? t k ≡ some r) where
  rule_type : get_or rules (k * rule_width + type_word) 0 ≡ r.type
  rule_type = ap (λ (v : List ℕ). get_or v (k * row_width + 2) 0) lent.heads ∙ (rule_words_lem t k r h).type'

  pub rule_size : get_or rules (k * rule_width + rows_word) 0 ≡ size r.body
  rule_size = ap (λ (v : List ℕ). get_or v (k * row_width + 3) 0) lent.heads ∙ (rule_words_lem t k r h).rows'

  pub rule_tree : {m : List ℕ} → k < length rules / rule_width → Ended rules m → At rows (get_or m (k * mark_width + end_word) 0 - 1) r.body
  rule_tree b e = rule_stands lent k (record { rule = r; is = h }) b e

  module _ (s : Bytes) where
    pub atomic_no : {m : List ℕ} → (get_or rules (k * rule_width + type_word) 0 ≡ 2 → ⊥) → LoopsOf s t m m (Ok (record {})) (λ look. rule_open look (resolve_rule s r))
    atomic_no n = rw (ne_eqb r.type 2 (λ e. n (rule_type ∙ e))) loops_none

    pub atomic_yes : {m m' : List ℕ} {v : Result ⊤ Refusal} → get_or rules (k * rule_width + type_word) 0 ≡ 2 → LoopsOf s t m m' v (λ look. any_node (open_at look) (resolve s r.body)) → LoopsOf s t m m' v (λ look. rule_open look (resolve_rule s r))
    atomic_yes e l = rw (eq-eqb r.type 2 (sym rule_type ∙ e)) l

module _ {rules rows : List ℕ} {text : Bytes} {m : List ℕ} (g : Given rules rows text m) {k end n : ℕ} (b : k < length rules / rule_width) (e : end ≡ get_or m (k * mark_width + end_word) 0) (f : n ≡ get_or rules (k * rule_width + rows_word) 0) where
  pub rule_fits : n ≤ end
  rule_fits = omega (arith, g.ended.end k b)

  pub tree_rows : TreeRows rows (end - n) end
  tree_rows =
      let r = rule_there g.table g.lent.heads k b in
      let q = rule_size g.lent k r.rule r.is in
      record { tree = r.rule.body; at = rw e (rule_tree g.lent k r.rule r.is b g.ended); rows = omega (arith, rule_fits) }

-- the loops of the rules before rule k are settled
pub record RulesSettled (s : Bytes) (t : Table Span) (st st' : Marks) (k : ℕ) : Type 0 where
  pub known : Known (resolve_table s t) st'
  pub grows : Grows st st'
  pub no : (j : ℕ) (r : Rule Span) → j < k → get_elem? t j ≡ some r → rule_open (by_marks st') (resolve_rule s r) ≡ false

-- the rules before rule k are read, which changed the marks m to m'
pub record RulesRead (rules rows : List ℕ) (text : Bytes) (m m' : List ℕ) (k : ℕ) : Type 0 where
  pub high : k ≤ length rules / rule_width
  pub steady : Steady m m'
  pub long : length m' ≡ length m
  pub settled : (t : Table Span) → Lent rules rows t → Known (resolve_table text t) (marks_of (resolve_table text t) m) → Idle (marks_of (resolve_table text t) m) → RulesSettled text t (marks_of (resolve_table text t) m) (marks_of (resolve_table text t) m') k

pub rules_begin : {rules rows : List ℕ} {text : Bytes} {m : List ℕ} → RulesRead rules rows text m m 0
rules_begin {m = m} = record { high = omega arith; steady = steady_none m; long = refl; settled = λ t l k id. record { known = k; grows = grows_none; no = λ j r h. absurd (omega arith) } }

module _ {rules rows : List ℕ} {text : Bytes} {m m₁ : List ℕ} {k : ℕ} (inv : RulesRead rules rows text m m₁ k) where
  module _ (lt : k < length rules / rule_width) {m₂ : List ℕ} {v : Result ⊤ Refusal} (h : (t : Table Span) (r : Rule Span) → Lent rules rows t → get_elem? t k ≡ some r → LoopsOf text t m₁ m₂ v (λ look. rule_open look (resolve_rule text r))) where
    pub rules_met : {d : Refusal} → v ≡ Err d → (t : Table Span) → Lent rules rows t → LoopsOf text t m m₂ (Err d) (λ look. any (rule_open look) (resolve_table text t))
    rules_met e t l =
        let r = rule_there t l.heads k lt in
        record {
          cycle = λ z c. (h t r.rule l r.is).cycle z (e ∙ c);
          met = λ kn id z. let x = inv.settled t l kn id in rules_yes (rule_open (name_list (resolve_table text t) [])) text t k r.rule r.is ((h t r.rule l r.is).met x.known (idle_grows id x.grows) (e ∙ z));
          settled = λ kn id n. absurd (ok_not_err (sym n));
        }

    more_settled : {st : Marks} (t : Table Span) (r : There t k) → RulesSettled text t st (marks_of (resolve_table text t) m₁) k → Settled (resolve_table text t) (marks_of (resolve_table text t) m₁) (marks_of (resolve_table text t) m₂) (λ look. rule_open look (resolve_rule text r.rule)) → RulesSettled text t st (marks_of (resolve_table text t) m₂) (k + 1)
    more_settled t r x y = record { known = y.known; grows = grows_more x.grows y.grows; no = λ j q l e. go j q l e (dec_le k j) }
      where
        go : (j : ℕ) (q : Rule Span) → j < k + 1 → get_elem? t j ≡ some q → Dec (k ≤ j) → rule_open (by_marks (marks_of (resolve_table text t) m₂)) (resolve_rule text q) ≡ false
        go j q l e (yes c) = let z : j ≡ k = omega arith in let u : r.rule ≡ q = some_eq r.rule q (sym r.is ∙ ap (get_elem? t) (sym z) ∙ e) in rw (← u) y.no
        go j q l e (no c) = rule_mono (by_marks (marks_of (resolve_table text t) m₁)) (by_marks (marks_of (resolve_table text t) m₂)) (marks_grow y.grows) (resolve_rule text q) (x.no j q (omega arith) e)

    pub rules_next : Steady m₁ m₂ → length m₂ ≡ length m₁ → v ≡ Ok (record {}) → RulesRead rules rows text m m₂ (k + 1)
    rules_next s g n =
        record {
          high = omega arith;
          steady = steady_more inv.steady s;
          long = g ∙ inv.long;
          settled = λ t l kn id. let x = inv.settled t l kn id in let r = rule_there t l.heads k lt in
              more_settled t r x ((h t r.rule l r.is).settled x.known (idle_grows id x.grows) n);
        }

  pub rules_end : length rules / rule_width ≤ k → (t : Table Span) → Lent rules rows t → LoopsOf text t m m₁ (Ok (record {})) (λ look. any (rule_open look) (resolve_table text t))
  rules_end le t l =
      record {
        cycle = λ z c. absurd (ok_not_err c);
        met = λ kn id z. absurd (ok_not_err z);
        settled = λ kn id z. let x = inv.settled t l kn id in record { known = x.known; grows = x.grows; no = rules_no (rule_open (by_marks (marks_of (resolve_table text t) m₁))) text t (λ j r e. x.no j r (omega (arith, inside_table t j r e, count t l.heads)) e) };
      }

-- Marks that remember nothing

find_index : (i : ℕ) (t : Table Bytes) (x : Bytes) → index_from i t x ≡ none → find t x ≡ none
find_index i [] x h = refl
find_index i (r ∷ rs) x h = go (same_bytes r.name x) h (find_index (suc i) rs x)
  where
    go : (b : Bool) → cond b (some i) (index_from (suc i) rs x) ≡ none → (index_from (suc i) rs x ≡ none → find rs x ≡ none) → cond b (some r.body) (find rs x) ≡ none
    go true e f = none_some (sym e)
    go false e f = f e

index_below : (i k : ℕ) (t : Table Bytes) (x : Bytes) → index_from i t x ≡ some k → k < i + length t
index_below i k [] x h = none_some h
index_below i k (r ∷ rs) x h = go (same_bytes r.name x) h (index_below (suc i) k rs x)
  where
    go : (b : Bool) → cond b (some i) (index_from (suc i) rs x) ≡ some k → (index_from (suc i) rs x ≡ some k → k < suc i + length rs) → k < i + length (r ∷ rs)
    go true e f = omega (arith, some_eq i k e)
    go false e f = omega (arith, f e)

-- the marks m with no memory
abbrev pub cleared : ℕ → List ℕ → List ℕ
cleared n m = marked (λ _. 0) 1 n m

module _ {rules rows : List ℕ} {text : Bytes} {m : List ℕ} (g : Given rules rows text m) where
  abbrev n : ℕ
  n = length rules / rule_width

  pub cleared_given : Given rules rows text (cleared n m)
  cleared_given =
      record {
        table = g.table;
        lent = g.lent;
        inside = g.inside;
        index = index_kept g.index (length_marked (λ _. 0) 1 n m) (λ i. marked_other (λ _. 0) 1 n m (i * mark_width) (λ j l e. omega arith)) (λ i. marked_other (λ _. 0) 1 n m (i * mark_width + ways_word) (λ j l e. omega arith));
        ended = record { end = λ i h. marked_other (λ _. 0) 1 n m (i * mark_width + end_word) (λ j l e. omega arith) ∙ g.ended.end i h };
      }

  -- the marks as `forget` leaves them
  pub forgotten : {m' : List ℕ} → m' ≡ cleared n m → Given rules rows text m'
  forgotten e = rw e cleared_given

  module _ (t : Table Span) (l : Lent rules rows t) where
    pub cleared_idle : Idle (marks_of (resolve_table text t) (cleared n m))
    unfolding marks_of
    cleared_idle z e = go (index_from 0 (resolve_table text t) z) refl e
      where
        go : (o : Option ℕ) → index_from 0 (resolve_table text t) z ≡ o → state_at (cleared n m) o ≡ 1 → ⊥
        go none q h = omega arith
        go (some k) q h = omega (arith, marked_at (λ _. 0) 1 n m k (omega arith) g.index.long (omega (arith, index_below 0 k (resolve_table text t) z q, length_table text t, count t l.heads)))

    pub cleared_known : Known (resolve_table text t) (marks_of (resolve_table text t) (cleared n m))
    unfolding marks_of
    cleared_known = record { so = λ y o h u. go y o (index_from 0 (resolve_table text t) y) refl h }
      where
        go : (y : Bytes) (o : List Bytes) (p : Option ℕ) → index_from 0 (resolve_table text t) y ≡ p → 2 ≤ state_at (cleared n m) p → mark_of (name_list (resolve_table text t) o y) ≡ state_at (cleared n m) p
        go y o none q h = ap mark_of (name_none (resolve_table text t) o y (find_index 0 (resolve_table text t) y q))
        go y o (some k) q h = absurd (omega (arith, marked_at (λ _. 0) 1 n m k (omega arith) g.index.long (omega (arith, index_below 0 k (resolve_table text t) y q, length_table text t, count t l.heads))))

    -- WHAT THE READING OF A TABLE SAYS
    module _ {m' : List ℕ} {v : Result ⊤ Refusal} (h : LoopsOf text t (cleared n m) m' v (λ look. any (rule_open look) (resolve_table text t))) where
      pub all_met : {d : Refusal} → v ≡ Err d → (d ≡ Cycle) × (meets (resolve_table text t) ≡ true)
      all_met {d} e = let c = h.cycle d e in (c, meets_is (resolve_table text t) ∙ h.met cleared_known cleared_idle (e ∙ ap Err c))

      -- the lists of rules are then told in other memories
      pub all_read : {m'' : List ℕ} → v ≡ Ok (record {}) → Relisted m' m'' → Targets (resolve_table text t) m'' → ReadAll (resolve_table text t) m''
      all_read {m''} e r g =
          let x = h.settled cleared_known cleared_idle e in
          let st = marks_of (resolve_table text t) m' in
          let q : lists_of (resolve_table text t) m'' ≡ st = lists_same x.known r in
          record {
            never = meets_is (resolve_table text t) ∙ rules_mono (by_marks st) (name_list (resolve_table text t) []) (marks_below [] x.known (λ z b. absurd (false≢true b))) (resolve_table text t) x.no;
            lists = record { known = rw q x.known; settled = rw q (rotated_rules (by_marks st) (resolve_table text t) ∙ x.no); targets = g };
          }
