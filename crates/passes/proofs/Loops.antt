-- The loop of a pass: what holds at its test, and what one more rule gives. Assumes nothing.
use Rattle.std.specs.Prelude.{None, Option, Some}
use mathlib.Core.Path.{◌≡◌, refl, sym, ap, ◌∙◌, subst}
use mathlib.Core.List.{List, ◌∷◌, ◌++◌}
use Prim.Native.Nat.{ℕ, ◌+◌, ◌-◌, ◌*◌, ◌/◌, ◌≤◌, ◌<◌}
use native.Mathlib.Omega.{arith}
use lib.ListN.{length, take, get_or, length-append, length-take}
use Rattle.grammar.specs.Numbers.{rule_width, length_word, type_word, rows_word, row_width}
use Rattle.grammar.specs.Basic.{Bytes}
use Rattle.grammar.specs.Tree.{E, Expr, size}
use Rattle.grammar.specs.Rows.{Span, flat}
use Rattle.grammar.specs.Text.{bytes_at, resolve, text_of, packed}
use Rattle.grammar.specs.Table.{Rule, Table, row_count, resolve_table}
use Rattle.grammar.specs.Steps.{each}
use Rattle.grammar.proofs.TopDown.{size_pos}
use Rattle.grammar.proofs.Packing.{packed_size}
use Rattle.rows.specs.Rows.{At}
use Rattle.rows.proofs.Laws.{length_flat}
use Rattle.rows.proofs.Views.{at_unique}
use Rattle.passes.proofs.Growth.{step_of_less, step_of_text, asks_part, rule_fits_same}
use Rattle.writing.specs.Writes.{Areas, Room}
use Rattle.writing.specs.declared.Place.{Place}
use Rattle.passes.specs.Passes.{step_of, Asks, AsksAll, Lent, RulePrepared, RuleReady, RuleFits, RuleKept, RuleAnswer, Holds, Passing, TableFits, Front}
use Rattle.passes.proofs.Tables.{count_append}
use Rattle.passes.proofs.Progress.{Progress, Next, start, next_rule, the_next, progress_next, rule_fits, finished, rows_length}

-- what holds at the loop's test
pub record Loop (step : ℕ) (rs₀ ws₀ : List ℕ) (text₀ : Bytes) (rs ws : List ℕ) (text : Bytes) (os₀ o₀ s₀ os o s : List ℕ) (p : Place) (end i : ℕ) : Type 0 where
  pub heads_same : length os ≡ length os₀
  pub out_same : length o ≡ length o₀
  pub lits_same : length s ≡ length s₀
  pub room : Room p o s
  pub progress : (gs ts : Table Span) → Lent gs rs₀ ws₀ → Holds ts rs ws text → Progress (step_of step (resolve_table text₀ gs)) ts text i end p os o s

pub loop_start : (step : ℕ) (rs₀ ws₀ : List ℕ) (text₀ : Bytes) (rs ws : List ℕ) (text : Bytes) (os o s : List ℕ) (p : Place) → p.rows ≡ 0 → p.text ≡ 0 → Areas o s → Loop step rs₀ ws₀ text₀ rs ws text os o s os o s p 0 0
loop_start step rs₀ ws₀ text₀ rs ws text os o s p a b r =
    record {
      heads_same = refl;
      out_same = refl;
      lits_same = refl;
      room = record { rows = omega (arith, a); text = omega (arith, b); areas = r };
      progress = λ gs ts g h. start (step_of step (resolve_table text₀ gs)) ts text p os o s a b;
    }

-- the rule that comes next
pub record Here (ts : Table Span) (rs ws : List ℕ) (text : Bytes) (i end : ℕ) : Type 0 where
  pub rule : Rule Span
  pub next : Next ts rs ws text i end rule
  pub bound : (end + size rule.body) * row_width ≤ length ws
  pub at : At ws (end + get_or rs (i * rule_width + rows_word) 0 - 1) rule.body
  pub last : end + get_or rs (i * rule_width + rows_word) 0 - 1 + 1 ≡ end + get_or rs (i * rule_width + rows_word) 0

module _ {step : ℕ} {rs₀ ws₀ : List ℕ} {text₀ : Bytes} {marks rs ws : List ℕ} {text : Bytes} {os₀ o₀ s₀ os o s : List ℕ} {p : Place} {count end i : ℕ} (all : count ≡ length rs / rule_width) (l : Loop step rs₀ ws₀ text₀ rs ws text os₀ o₀ s₀ os o s p end i) (more : i < count) (q : Passing step rs₀ ws₀ text₀ marks rs ws text os₀ o₀ s₀) where
  m : i < length rs / rule_width
  m = omega (arith, all, more)

  -- the row of its root
  abbrev root : ℕ
  root = end + get_or rs (i * rule_width + rows_word) 0 - 1

  rooted : {ts : Table Span} {r : Rule Span} → Next ts rs ws text i end r → At ws root r.body
  rooted {r = r} x = x.at root (omega (arith, x.count, size_pos r.body))

  pub here : Here q.table rs ws text i end
  here =
      let h = q.holds in
      let g = l.progress q.given q.table q.lent h in
      let n = next_rule _ q.table text i end p os o s rs h.rules m g in
      let x = the_next h g n.0 n.1 n.2 in
      record {
        rule = n.0;
        next = x;
        bound = omega (arith, g.ends, count_append g.done (n.0 ∷ n.1), ap row_count (g.whole ∙ ap (λ (x : Table Span). g.done ++ x) n.2), ap length (sym h.rows), rows_length q.table);
        at = rooted x;
        last = omega (arith, x.count, size_pos n.0.body);
      }

  pub ready : length rs ≤ length os₀ → RuleReady rs i (length text) os
  ready k = record { there = m; name = q.holds.names i m; room = omega (arith, m, l.heads_same, k) }

  -- what the step asks of the rule
  pub rule_prepared : RulePrepared step (get_or rs (i * rule_width + type_word) 0) rs₀ ws₀ text₀ marks ws text root p (bytes_at text (get_or rs (i * rule_width) 0, get_or rs (i * rule_width + length_word) 0)) o s
  rule_prepared =
      let h = q.holds in
      let g = l.progress q.given q.table q.lent h in
      let n = next_rule _ q.table text i end p os o s rs h.rules m g in
      let x = the_next h g n.0 n.1 n.2 in
      record {
        table = q.given;
        lent = q.lent;
        fits = λ k r a.
            subst (λ (c : ℕ × ℕ). RuleFits p (bytes_at text c) (resolve text r) o s) (λ j. (sym x.offset j, sym x.len j))
            (subst (λ (b : Expr Span). RuleFits p (bytes_at text n.0.name) (resolve text b) o s) (at_unique _ _ (rooted x) a)
            (rule_fits_same {os' = os₀} g n.0 n.1 n.2 (λ y b. step_of_less step k (resolve_table text₀ q.given) y b) (λ y b. step_of_text step k (resolve_table text₀ q.given) y b) (record { rules = (q.fits k).rules; rows = omega (arith, (q.fits k).rows, l.out_same); text = omega (arith, (q.fits k).text, l.lits_same) })));
        asks = λ r a. subst (λ (b : Expr Span). Asks step (get_or rs (i * rule_width + type_word) 0) rs₀ ws₀ text₀ marks ws text b) (at_unique _ _ (rooted x) a) (subst (λ (y : ℕ). Asks step y rs₀ ws₀ text₀ marks ws text n.0.body) (sym x.type) (asks_part g.done n.0 n.1 (subst (AsksAll step rs₀ ws₀ text₀ marks ws text) (g.whole ∙ ap (λ (y : Table Span). g.done ++ y) n.2) q.asks)));
      }

  -- the answer for the rule, in the rule's own terms
  rule_answer : (a : Option Place) (t : Table Bytes) (ts : Table Span) (os' o' s' : List ℕ) (r : Rule Span) → Next ts rs ws text i end r → RuleAnswer a p i (get_or rs (i * rule_width + type_word) 0) (bytes_at text (get_or rs (i * rule_width) 0, get_or rs (i * rule_width + length_word) 0)) (step_of step t (get_or rs (i * rule_width + type_word) 0) (resolve text r.body)) os os' o o' s s' → RuleAnswer a p i r.type (bytes_at text r.name) (step_of step t r.type (resolve text r.body)) os os' o o' s s'
  rule_answer a t ts os' o' s' r n h =
      subst (λ (y : ℕ). RuleAnswer a p i y (bytes_at text r.name) (step_of step t y (resolve text r.body)) os os' o o' s s') n.type
      (subst (λ (x : ℕ). RuleAnswer a p i (get_or rs (i * rule_width + type_word) 0) (bytes_at text (r.name.0, x)) (step_of step t (get_or rs (i * rule_width + type_word) 0) (resolve text r.body)) os os' o o' s s') n.len
      (subst (λ (x : ℕ). RuleAnswer a p i (get_or rs (i * rule_width + type_word) 0) (bytes_at text (x, get_or rs (i * rule_width + length_word) 0)) (step_of step t (get_or rs (i * rule_width + type_word) 0) (resolve text r.body)) os os' o o' s s') n.offset h))

  -- what one_rule says of the tree at its root
  abbrev pub Said : Option Place → (os' o' s' : List ℕ) → Type 0
  Said a os' o' s' = (gs : Table Span) (r : Expr Span) → Lent gs rs₀ ws₀ → At ws root r → RuleAnswer a p i (get_or rs (i * rule_width + type_word) 0) (bytes_at text (get_or rs (i * rule_width) 0, get_or rs (i * rule_width + length_word) 0)) (step_of step (resolve_table text₀ gs) (get_or rs (i * rule_width + type_word) 0) (resolve text r)) os os' o o' s s'

  said : {a b : Option Place} (os' o' s' : List ℕ) → a ≡ b → Said a os' o' s' → (gs ts : Table Span) → Lent gs rs₀ ws₀ → (r : Rule Span) → Next ts rs ws text i end r → RuleAnswer b p i r.type (bytes_at text r.name) (step_of step (resolve_table text₀ gs) r.type (resolve text r.body)) os os' o o' s s'
  said os' o' s' d f gs ts g r n = subst (λ (b : Option Place). RuleAnswer b p i r.type (bytes_at text r.name) (step_of step (resolve_table text₀ gs) r.type (resolve text r.body)) os os' o o' s s') d (rule_answer _ (resolve_table text₀ gs) ts os' o' s' r n (f gs r.body g (rooted n)))

  -- one more rule is done
  pub loop_next : {a : Option Place} {p' : Place} (os' o' s' : List ℕ) → a ≡ Some p' → length rs ≤ length os₀ → length os' ≡ length os → length o' ≡ length o → length s' ≡ length s → Said a os' o' s' → Loop step rs₀ ws₀ text₀ rs ws text os₀ o₀ s₀ os' o' s' p' (end + get_or rs (i * rule_width + rows_word) 0) (i + 1)
  loop_next {a} {p'} os' o' s' d k eos eo es f =
      record {
        heads_same = eos ∙ l.heads_same;
        out_same = eo ∙ l.out_same;
        lits_same = es ∙ l.lits_same;
        room = rule_room (said os' o' s' d f q.given q.table q.lent here.rule here.next);
        progress = λ gs ts k₀ h.
            let g = l.progress gs ts k₀ h in
            let n = next_rule _ ts text i end p os o s rs h.rules m g in
            let x = the_next h g n.0 n.1 n.2 in
            progress_next h g n.0 n.1 n.2 _ (omega (arith, x.count)) (omega (arith, m, k, l.heads_same)) (said os' o' s' d f gs ts k₀ n.0 x);
      }
    where
      rule_room : {y : ℕ} {n : Bytes} {x : E} → RuleKept p' p i y n x os os' o o' s s' → Room p' o' s'
      rule_room {y} {n} {x} w =
          let r = l.room in
          let a₁ : length (take (p'.rows * row_width) o') ≡ length (take (p.rows * row_width) o) + size x * row_width = ap length w.words ∙ length-append (take (p.rows * row_width) o) (flat (packed (p.text + length n) x)) ∙ ap (λ (z : ℕ). length (take (p.rows * row_width) o) + z) (length_flat (packed (p.text + length n) x) ∙ ap (λ (z : ℕ). z * 4) (packed_size (p.text + length n) x)) in
          let a₂ : length (take p'.text s') ≡ length (take p.text s) + length (n ++ text_of x) = ap length w.bytes ∙ length-append (take p.text s) (n ++ text_of x) in
          record {
            rows = omega (arith, a₁, w.rows, r.rows, length-take (p'.rows * row_width) o', length-take (p.rows * row_width) o);
            text = omega (arith, a₂, w.text, r.text, length-take p'.text s', length-take p.text s);
            areas = record { words = omega (arith, eo, r.areas.words); bytes = omega (arith, es, r.areas.bytes) };
          }

  -- a rule that does not fit
  pub loop_full : {a : Option Place} (os' o' s' : List ℕ) → a ≡ None → Said a os' o' s' → (gs ts : Table Span) → Lent gs rs₀ ws₀ → Holds ts rs ws text → TableFits (each (step_of step (resolve_table text₀ gs)) (resolve_table text ts)) os₀ o₀ s₀ → ⊥
  loop_full os' o' s' d f gs ts k₀ h t =
      let g = l.progress gs ts k₀ h in
      let n = next_rule _ ts text i end p os o s rs h.rules m g in
      let x = the_next h g n.0 n.1 n.2 in
      let y : RuleFits p (bytes_at text n.0.name) (step_of step (resolve_table text₀ gs) n.0.type (resolve text n.0.body)) o s = rule_fits h g n.0 n.1 n.2 {os' = os₀} (record { rules = t.rules; rows = omega (arith, t.rows, l.out_same); text = omega (arith, t.text, l.lits_same) }) in
      said os' o' s' d f gs ts k₀ n.0 x y

-- every rule is done
pub loop_done : {step : ℕ} {rs₀ ws₀ : List ℕ} {text₀ : Bytes} {rs ws : List ℕ} {text : Bytes} {os₀ o₀ s₀ os o s : List ℕ} {p : Place} {count end i : ℕ} → count ≡ length rs / rule_width → Loop step rs₀ ws₀ text₀ rs ws text os₀ o₀ s₀ os o s p end i → count ≤ i → (gs ts : Table Span) → Lent gs rs₀ ws₀ → Holds ts rs ws text → Front p (each (step_of step (resolve_table text₀ gs)) (resolve_table text ts)) os o s
loop_done e l m gs ts g h = finished h.rules (omega (arith, e, m)) (l.progress gs ts g h)
