-- Rules that a step leaves as they are, one after the other. Assumes nothing.
use mathlib.Core.Path.{◌≡◌, refl, sym, ap, ap₂, ◌∙◌, subst}
use mathlib.Core.List.{List, [], ◌∷◌, ◌++◌, append_assoc, append-nil}
use Prim.Native.Nat.{ℕ, zero, suc, ◌+◌, ◌-◌, ◌*◌, ◌/◌, ◌≤◌, ◌<◌}
use native.Mathlib.Numerals.{add-one}
use native.Mathlib.Omega.{arith}
use lib.ListN.{length, get_or, length-append}
use Rattle.grammar.specs.Numbers.{rule_width, type_word, rows_word, row_width}
use Rattle.grammar.specs.Basic.{Bytes}
use Rattle.grammar.specs.Tree.{Expr, E, size}
use Rattle.grammar.specs.Rows.{Span}
use Rattle.grammar.specs.Text.{resolve}
use Rattle.grammar.specs.Table.{Rule, Table, rule_words, row_words, row_count, resolve_rule, resolve_table}
use Rattle.grammar.specs.Steps.{each}
use Rattle.grammar.proofs.TopDown.{size_pos}
use Rattle.rows.specs.Rows.{At}
use Rattle.names.specs.Names.{rows_before}
use Rattle.names.proofs.Marks.{before_step}
use Rattle.passes.specs.Passes.{step_of, LeavesFrom, Holds}
use Rattle.passes.proofs.Tables.{count_append, resolve_append, each_append, rules_length}
use Rattle.passes.proofs.Progress.{rule_word, at_rule, rows_length}

-- the first i rules end before row `end`, and the step F leaves them as they are
pub record Calm (F : ℕ → E → E) (ts : Table Span) (text : Bytes) (i end : ℕ) : Type 0 where
  pub done : Table Span
  pub rest : Table Span
  pub whole : ts ≡ done ++ rest
  pub count : length done ≡ i
  pub ends : end ≡ row_count done
  pub same : each F (resolve_table text done) ≡ resolve_table text done

pub calm_start : (F : ℕ → E → E) (ts : Table Span) (text : Bytes) → Calm F ts text 0 0
calm_start F ts text = record { done = []; rest = ts; whole = refl; count = refl; ends = refl; same = refl }

-- the rule that comes next, its words and its tree
pub record Following (F : ℕ → E → E) (ts : Table Span) (rs ws : List ℕ) (text : Bytes) (i end : ℕ) : Type 0 where
  pub rule : Rule Span
  pub type : get_or rs (i * rule_width + type_word) 0 ≡ rule.type
  pub rows : get_or rs (i * rule_width + rows_word) 0 ≡ size rule.body
  pub at : (k : ℕ) → k + 1 ≡ end + size rule.body → At ws k rule.body
  pub bound : (end + size rule.body) * row_width ≤ length ws
  pub next : F rule.type (resolve text rule.body) ≡ resolve text rule.body → Calm F ts text (i + 1) (end + size rule.body)

pub following : {F : ℕ → E → E} {ts : Table Span} {rs ws : List ℕ} {text : Bytes} {i end : ℕ} → Holds ts rs ws text → i < length rs / rule_width → Calm F ts text i end → Following F ts rs ws text i end
following {F} {ts} {rs} {ws} {text} {i} {end} h m g = go g.rest g.whole
  where
    go : (rest : Table Span) → ts ≡ g.done ++ rest → Following F ts rs ws text i end
    go [] w = absurd (omega (arith, m, ap length (sym h.rules), rules_length ts, ap length (w ∙ append-nil g.done), g.count))
    go (r ∷ rest) w =
        let word : (k : ℕ) → get_or rs (i * rule_width + k) 0 ≡ get_or (rule_words (r ∷ rest)) k 0 = λ k. ap (λ (x : ℕ). get_or rs (x * rule_width + k) 0) (sym g.count) ∙ rule_word g.done r rest rs (ap rule_words (sym w) ∙ h.rules) k in
        record {
          rule = r;
          type = word 2;
          rows = word 3;
          at = λ k e. at_rule g.done r rest ws (ap row_words (sym w) ∙ h.rows) k (omega (arith, e, g.ends));
          bound = omega (arith, g.ends, ap row_count w, count_append g.done (r ∷ rest), ap length (sym h.rows), rows_length ts);
          next = λ e.
              record {
                done = g.done ++ (r ∷ []);
                rest = rest;
                whole = w ∙ sym (append_assoc g.done (r ∷ []) rest);
                count = length-append g.done (r ∷ []) ∙ omega (arith, g.count);
                ends = omega (arith, g.ends, count_append g.done (r ∷ []));
                same =
                    ap (each F) (resolve_append text g.done (r ∷ []))
                    ∙ each_append F (resolve_table text g.done) (resolve_table text (r ∷ []))
                    ∙ ap₂ (λ (x y : Table Bytes). x ++ y) g.same (ap (λ (b : E). record { name = (resolve_rule text r).name; type = r.type; body = b } ∷ []) e)
                    ∙ sym (resolve_append text g.done (r ∷ []));
              };
        }

-- its root
pub rooted : {F : ℕ → E → E} {ts : Table Span} {rs ws : List ℕ} {text : Bytes} {i end : ℕ} (f : Following F ts rs ws text i end) → At ws (end + get_or rs (i * rule_width + rows_word) 0 - 1) f.rule.body
rooted f = f.at _ (omega (arith, f.rows, size_pos f.rule.body))

-- one rule more, where the step leaves the tree at its last row as it is
calm_next : {F : ℕ → E → E} {ts : Table Span} {rs ws : List ℕ} {text : Bytes} {i end : ℕ} → Following F ts rs ws text i end → ((root : ℕ) → root + 1 ≡ end + get_or rs (i * rule_width + rows_word) 0 → (r : Expr Span) → At ws root r → F (get_or rs (i * rule_width + type_word) 0) (resolve text r) ≡ resolve text r) → Calm F ts text (i + 1) (end + get_or rs (i * rule_width + rows_word) 0)
calm_next {F} {ts} {rs} {ws} {text} {i} {end} f k =
    let b = f.rule.body in
    let e : end + size b ≡ end + get_or rs (i * rule_width + rows_word) 0 = omega (arith, f.rows) in
    let s : F f.rule.type (resolve text b) ≡ resolve text b = subst (λ (y : ℕ). F y (resolve text b) ≡ resolve text b) f.type (k _ (omega (arith, e, size_pos b)) b (rooted f)) in
    subst (λ (x : ℕ). Calm F ts text (i + 1) x) e (f.next s)

-- the first n rules, likewise
pub calm_first : {F : ℕ → E → E} {ts : Table Span} {rs ws : List ℕ} {text : Bytes} → Holds ts rs ws text → (n : ℕ) → n ≤ length rs / rule_width → ((j : ℕ) → j < n → (root : ℕ) → root + 1 ≡ rows_before rs (j + 1) → (r : Expr Span) → At ws root r → F (get_or rs (j * rule_width + type_word) 0) (resolve text r) ≡ resolve text r) → Calm F ts text n (rows_before rs n)
calm_first {F} {ts} {rs} {ws} {text} h zero m k = calm_start F ts text
calm_first {F} {ts} {rs} {ws} {text} h (suc n) m k =
    subst (λ (x : ℕ). Calm F ts text x (rows_before rs n + get_or rs (n * rule_width + rows_word) 0)) (add-one n) (calm_next (following {F = F} h (omega arith) (calm_first h n (omega arith) (λ j b. k j (omega arith)))) (λ root e. k n (omega arith) root (e ∙ before_step rs n (rows_before rs n) refl)))

-- rule i begins where the rules before it end
pub rule_at : {ts : Table Span} {rs ws : List ℕ} {text : Bytes} {count i begin : ℕ} → Holds ts rs ws text → count ≡ length rs / rule_width → begin ≡ rows_before rs i → i < count → Following (λ y e. e) ts rs ws text i begin
rule_at {i = i} h e b m = rw b (following h (omega (arith, e, m)) (calm_first h i (omega (arith, e, m)) (λ j b root e r a. refl)))

-- all rules
pub calm_all : {F : ℕ → E → E} {ts : Table Span} {rs ws : List ℕ} {text : Bytes} {i end : ℕ} → Holds ts rs ws text → length rs / rule_width ≤ i → Calm F ts text i end → each F (resolve_table text ts) ≡ resolve_table text ts
calm_all {F} {ts} {rs} {ws} {text} {i} h l g = go g.rest g.whole
  where
    go : (rest : Table Span) → ts ≡ g.done ++ rest → each F (resolve_table text ts) ≡ resolve_table text ts
    go [] w = subst (λ (x : Table Span). each F (resolve_table text x) ≡ resolve_table text x) (sym (w ∙ append-nil g.done)) g.same
    go (r ∷ rest) w = absurd (omega (arith, l, ap length (sym h.rules), rules_length ts, ap length w, length-append g.done (r ∷ rest), g.count))

-- so that a step that leaves each rule as it is leaves the table so
pub leaves_all : (step : ℕ) {ts : Table Span} {rs ws : List ℕ} {text : Bytes} {n : ℕ} (look : Table Bytes) → Holds ts rs ws text → n ≡ length rs / rule_width → LeavesFrom step rs ws text 0 n → each (step_of step look) (resolve_table text ts) ≡ resolve_table text ts
leaves_all step {n = n} look h e l = calm_all h (omega (arith, e)) (calm_first {F = step_of step look} h n (omega (arith, e)) (λ j b root k r a. l j b (omega arith) root k look r a))
