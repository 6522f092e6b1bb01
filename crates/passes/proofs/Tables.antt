-- Tables grow by a rule at their end: their words, rows and packed text. Assumes nothing.
use mathlib.Core.Path.{◌≡◌, refl, sym, ap, ◌∙◌}
use mathlib.Core.List.{List, [], ◌∷◌, ◌++◌, append_assoc}
use Prim.Native.Nat.{ℕ, ◌+◌, ◌*◌}
use native.Mathlib.Nat.{add-zero}
use native.Mathlib.Omega.{arith}
use lib.ListN.{length, length-append}
use Rattle.grammar.specs.Numbers.{rule_width}
use Rattle.grammar.specs.Basic.{Bytes}
use Rattle.grammar.specs.Tree.{E, size}
use Rattle.grammar.specs.Rows.{Span, flat}
use Rattle.grammar.specs.Table.{Table, rule_words, row_words, row_count, rule_text, table_text, packed_rule, packed_from, resolve_rule, resolve_table}
use Rattle.grammar.specs.Steps.{on_rule, each}

pub rules_append : (s t : Table Span) → rule_words (s ++ t) ≡ rule_words s ++ rule_words t
rules_append [] t = refl
rules_append (r ∷ s) t = ap (λ (l : List ℕ). r.name.0 ∷ r.name.1 ∷ r.type ∷ size r.body ∷ l) (rules_append s t)

pub rows_append : (s t : Table Span) → row_words (s ++ t) ≡ row_words s ++ row_words t
rows_append [] t = refl
rows_append (r ∷ s) t = ap (λ (l : List ℕ). flat r.body ++ l) (rows_append s t) ∙ sym (append_assoc (flat r.body) (row_words s) (row_words t))

pub count_append : {L : Type 0} (s t : Table L) → row_count (s ++ t) ≡ row_count s + row_count t
count_append [] t = omega arith
count_append (r ∷ s) t = omega (arith, count_append s t)

pub text_append : (s t : Table Bytes) → table_text (s ++ t) ≡ table_text s ++ table_text t
text_append [] t = refl
text_append (r ∷ s) t = ap (λ (l : Bytes). rule_text r ++ l) (text_append s t) ∙ sym (append_assoc (rule_text r) (table_text s) (table_text t))

pub packed_append : (o : ℕ) (s t : Table Bytes) → packed_from o (s ++ t) ≡ packed_from o s ++ packed_from (o + length (table_text s)) t
packed_append o [] t = ap (λ (n : ℕ). packed_from n t) (sym (add-zero o))
packed_append o (r ∷ s) t =
    let e : o + length (rule_text r) + length (table_text s) ≡ o + length (rule_text r ++ table_text s) = simp length-append (omega arith) in
    ap (λ (l : Table Span). packed_rule o r ∷ l) (packed_append (o + length (rule_text r)) s t ∙ ap (λ (n : ℕ). packed_from (o + length (rule_text r)) s ++ packed_from n t) e)

pub resolve_append : (text : Bytes) (s t : Table Span) → resolve_table text (s ++ t) ≡ resolve_table text s ++ resolve_table text t
resolve_append text [] t = refl
resolve_append text (r ∷ s) t = ap (λ (l : Table Bytes). resolve_rule text r ∷ l) (resolve_append text s t)

pub each_append : (f : ℕ → E → E) (s t : Table Bytes) → each f (s ++ t) ≡ each f s ++ each f t
each_append f [] t = refl
each_append f (r ∷ s) t = ap (λ (l : Table Bytes). on_rule f r ∷ l) (each_append f s t)

pub rules_length : (t : Table Span) → length (rule_words t) ≡ length t * rule_width
rules_length [] = refl
rules_length (r ∷ t) = omega (arith, rules_length t)

pub each_length : (f : ℕ → E → E) (t : Table Bytes) → length (each f t) ≡ length t
each_length f [] = refl
each_length f (r ∷ t) = omega (arith, each_length f t)

pub resolve_length : (text : Bytes) (t : Table Span) → length (resolve_table text t) ≡ length t
resolve_length text [] = refl
resolve_length text (r ∷ t) = omega (arith, resolve_length text t)
