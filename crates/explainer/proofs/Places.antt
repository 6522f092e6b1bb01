-- The rule that a name finds, as the definitions place it. Assumes nothing.
use Rattle.std.specs.Prelude.{None}
use mathlib.Core.Path.{◌≡◌, refl, sym, ap, ap₂, ◌∙◌, subst}
use mathlib.Core.Bool.{Bool, true, false, ◌||◌, cond}
use mathlib.Core.List.{List, [], ◌∷◌}
use mathlib.Core.Option.{Option, none, some}
use Prim.Native.Nat.{ℕ, zero, suc, ◌+◌, ◌-◌, ◌*◌, ◌/◌, ◌≤◌, ◌<◌}
use native.Mathlib.Nat.{add-zero}
use native.Mathlib.Omega.{arith}
use lib.ListN.{length, get_or, get_elem?}
use Rattle.grammar.specs.Numbers.{rule_width, rows_word, row_width, k_ident}
use Rattle.grammar.specs.Basic.{Bytes, same_bytes, member}
use Rattle.grammar.specs.Tree.{Ident, E, size}
use Rattle.grammar.specs.Rows.{Span}
use Rattle.grammar.specs.Text.{bytes_at, resolve}
use Rattle.grammar.specs.Table.{Rule, Table, rule_words, resolve_table, find}
use Rattle.grammar.proofs.Logic.{none_some, some_eq, same_bytes_eq, eq_same_bytes}
use Rattle.grammar.proofs.Readings.{unopened}
use Rattle.rows.specs.Rows.{Inside, kind_at, x_at, y_at}
use Rattle.rows.proofs.Laws.{found_row}
use Rattle.rows.proofs.Cells.{in_text, lit_shape, size_resolve}
use Rattle.names.specs.Names.{name_of, rows_before, First, Finds}
use Rattle.names.proofs.Finding.{There, differ}
use Rattle.skipper.proofs.Leaf.{name_missing}
use Rattle.explanation.specs.Ends.{Place, place_from}
use Rattle.explanation.proofs.Ties.{place_some}

-- ---- an Ident's literal

pub ident_inside : (w : List ℕ) {n i x y : ℕ} → Inside w n → i < length w / row_width → kind_at w i ≡ k_ident → x ≡ x_at w i → y ≡ y_at w i → x + y ≤ n
ident_inside w inside h z p q = rw (p, q) (in_text _ inside (found_row _ _ h) (rw z (lit_shape Ident)))

-- ---- the rows before a rule

word_later : (a b c d : ℕ) (ws : List ℕ) (k n : ℕ) → get_or (a ∷ b ∷ c ∷ d ∷ ws) (suc k * rule_width + n) 0 ≡ get_or ws (k * rule_width + n) 0
word_later a b c d ws k n = let e : suc k * rule_width + n ≡ suc (suc (suc (suc (k * rule_width + n)))) = omega arith in rw e

pub before_later : (r : Rule Span) (t : Table Span) (k : ℕ) → rows_before (rule_words (r ∷ t)) (suc k) ≡ size r.body + rows_before (rule_words t) k
before_later r t zero = omega arith
before_later r t (suc k) = omega (arith, before_later r t k, word_later r.name.0 r.name.1 r.type (size r.body) (rule_words t) k rows_word)

name_later : (r : Rule Span) (t : Table Span) (text : Bytes) (k : ℕ) → name_of (rule_words (r ∷ t)) text (suc k) ≡ name_of (rule_words t) text k
name_later r t text k =
    let e : suc k * rule_width ≡ suc (suc (suc (suc (k * 4)))) = omega arith in
    let x : get_or (rule_words (r ∷ t)) (suc k * rule_width) 0 ≡ get_or (rule_words t) (k * rule_width) 0 = rw e in
    ap₂ (λ (a b : ℕ). bytes_at text (a, b)) x (word_later _ _ _ _ (rule_words t) k 1)

-- ---- the first rule with a name

abbrev placed : (s : Bytes) (rules : List ℕ) (i from k : ℕ) → Rule Span → Place
placed s rules i from k r = record { rule = i + k; root = from + rows_before rules (suc k) - 1; body = resolve s r.body }

place_first : (i from : ℕ) (t : Table Span) (s x : Bytes) (k : ℕ) (r : Rule Span) → get_elem? t k ≡ some r → name_of (rule_words t) s k ≡ x → ((j : ℕ) → j < k → name_of (rule_words t) s j ≡ x → ⊥) → place_from i from (resolve_table s t) x ≡ some (placed s (rule_words t) i from k r)
place_first i from [] s x k r h e n = none_some h
place_first i from (q ∷ t) s x zero r h e n =
    let f : q ≡ r = some_eq q r h in
    rw (eq_same_bytes (bytes_at s q.name) x e, ← f)
    (ap₂ (λ (a b : ℕ). some (record { rule = a; root = b; body = resolve s q.body })) (sym (add-zero i)) (omega (arith, size_resolve s q.body)))
place_first i from (q ∷ t) s x (suc k) r h e n =
    let m : bytes_at s q.name ≡ x → ⊥ = λ p. n 0 (omega arith) p in
    rw (differ (bytes_at s q.name) x m)
    (place_first (suc i) (from + size (resolve s q.body)) t s x k r h (sym (name_later q t s k) ∙ e) (λ j g p. n (suc j) (omega arith) (name_later q t s j ∙ p))
    ∙ ap₂ (λ (a b : ℕ). some (record { rule = a; root = b; body = resolve s r.body })) (omega arith) (omega (arith, size_resolve s q.body, before_later q t (suc k))))

-- a rule that was found
module _ {rules : List ℕ} (t : Table Span) (heads : rules ≡ rule_words t) (s x : Bytes) where
  pub place_at : {k : ℕ} → First (length rules / rule_width) rules s x k → (r : There t k) → place_from 0 0 (resolve_table s t) x ≡ some (record { rule = k; root = rows_before rules (suc k) - 1; body = resolve s r.rule.body })
  place_at {k} f r =
      subst (λ (v : List ℕ). place_from 0 0 (resolve_table s t) x ≡ some (record { rule = k; root = rows_before v (suc k) - 1; body = resolve s r.rule.body })) (sym heads)
      (place_first 0 0 t s x k r.rule r.is (rw (← heads) f.same) (λ j h q. f.first j h (rw heads q))
      ∙ ap₂ (λ (a b : ℕ). some (record { rule = a; root = b; body = resolve s r.rule.body })) (omega arith) (omega arith))

  pub place_missing : Finds (length rules / rule_width) rules s x None → place_from 0 0 (resolve_table s t) x ≡ none
  place_missing n = go (place_from 0 0 (resolve_table s t) x) refl
    where
      go : (o : Option Place) → place_from 0 0 (resolve_table s t) x ≡ o → o ≡ none
      go none e = refl
      go (some p) e = none_some (sym (name_missing t heads s [] x n) ∙ place_some 0 0 (resolve_table s t) x p e)

-- ---- one more rule is being read, so that one fewer is not

opens_less : (t : Table Bytes) (x : Bytes) (o : List Bytes) → unopened t (x ∷ o) ≤ unopened t o
opens_less [] x o = omega arith
opens_less (r ∷ rs) x o = go (same_bytes r.name x) (member r.name o) (opens_less rs x o)
  where
    go : (a b : Bool) → unopened rs (x ∷ o) ≤ unopened rs o → cond (a || b) 0 1 + unopened rs (x ∷ o) ≤ cond b 0 1 + unopened rs o
    go true true h = omega arith
    go true false h = omega arith
    go false b h = omega arith

pub opens_one : (t : Table Bytes) (x : Bytes) (o : List Bytes) (e : E) → find t x ≡ some e → member x o ≡ false → unopened t (x ∷ o) < unopened t o
opens_one [] x o e h m = none_some h
opens_one (r ∷ rs) x o e h m = go (same_bytes r.name x) refl h (λ k. opens_one rs x o e k m)
  where
    go : (a : Bool) → same_bytes r.name x ≡ a → cond a (some r.body) (find rs x) ≡ some e → (find rs x ≡ some e → unopened rs (x ∷ o) < unopened rs o) → cond (a || member r.name o) 0 1 + unopened rs (x ∷ o) < cond (member r.name o) 0 1 + unopened rs o
    go true p q ih = let f : member r.name o ≡ false = ap (λ (y : Bytes). member y o) (same_bytes_eq r.name x p) ∙ m in rw f (omega (arith, opens_less rs x o))
    go false p q ih = omega (arith, ih q)
