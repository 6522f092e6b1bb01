-- Refusal 5 over words: no two names equal and none reserved is what the definition asks of the table's names. Assumes nothing.
use mathlib.Core.Path.{◌≡◌, refl, sym, ap, ap₂, ◌∙◌}
use mathlib.Core.Bool.{false≢true, false, ◌||◌}
use mathlib.Core.List.{List, [], ◌∷◌}
use mathlib.Core.Option.{some}
use Prim.Native.Nat.{ℕ, zero, suc, ◌/◌, ◌<◌}
use native.Mathlib.Omega.{arith}
use lib.ListN.{length, get_elem?}
use Rattle.grammar.specs.Numbers.{rule_width}
use Rattle.grammar.specs.Basic.{Bytes, any, same_bytes, member}
use Rattle.grammar.specs.Rows.{Span}
use Rattle.grammar.specs.Text.{bytes_at}
use Rattle.grammar.specs.Table.{Rule, Table, rule_words, resolve_table}
use Rattle.grammar.specs.Refusals.{reserved, repeated, names, bad_names}
use Rattle.grammar.proofs.Logic.{eq_same_bytes, none_some, some_eq}
use Rattle.names.specs.Names.{name_of, AllIndexed, Twice}
use Rattle.names.proofs.Index.{names_apart}
use Rattle.names.proofs.Finding.{differ, There, there, inside_table, name_is, rule_count}
use Rattle.refusals.specs.Bytes.{NamesFine}
use Rattle.refusals.proofs.Fours.{neither_left, neither_right}

module _ (text : Bytes) where
  abbrev nm : Rule Span → Bytes
  nm r = bytes_at text r.name

  abbrev ns : Table Span → List Bytes
  ns t = names (resolve_table text t)

  -- a name is not among those of a table
  member_none : (x : Bytes) (t : Table Span) → ((i : ℕ) (r : Rule Span) → get_elem? t i ≡ some r → x ≡ nm r → ⊥) → member x (ns t) ≡ false
  member_none x [] f = refl
  member_none x (r ∷ t) f = ap₂ ◌||◌ (differ x (nm r) (f zero r refl)) (member_none x t (λ i. f (suc i)))

  none_member : (x : Bytes) (t : Table Span) → member x (ns t) ≡ false → (i : ℕ) (r : Rule Span) → get_elem? t i ≡ some r → x ≡ nm r → ⊥
  none_member x [] h i r g e = none_some g
  none_member x (s ∷ t) h zero r g e =
      let q : s ≡ r = some_eq _ _ g in
      false≢true (sym (neither_left (same_bytes x (nm s)) (member x (ns t)) h) ∙ eq_same_bytes x (nm s) (e ∙ ap nm (sym q)))
  none_member x (s ∷ t) h (suc i) r g e = none_member x t (neither_right (same_bytes x (nm s)) (member x (ns t)) h) i r g e

  abbrev Apart : Table Span → Type 0
  Apart t = (i j : ℕ) (r s : Rule Span) → i < j → get_elem? t i ≡ some r → get_elem? t j ≡ some s → nm r ≡ nm s → ⊥

  not_repeated : (t : Table Span) → Apart t → repeated (ns t) ≡ false
  not_repeated [] f = refl
  not_repeated (r ∷ t) f = ap₂ ◌||◌ (member_none (nm r) t (λ i s g. f zero (suc i) r s (omega arith) refl g)) (not_repeated t (λ i j p q l. f (suc i) (suc j) p q (omega arith)))

  repeated_not : (t : Table Span) → repeated (ns t) ≡ false → Apart t
  repeated_not [] h i j r s l g k = none_some g
  repeated_not (p ∷ t) h i zero r s l g k = absurd (omega arith)
  repeated_not (p ∷ t) h zero (suc j) r s l g k =
      let q : p ≡ r = some_eq _ _ g in
      λ e. none_member (nm p) t (neither_left (member (nm p) (ns t)) (repeated (ns t)) h) j s k (ap nm q ∙ e)
  repeated_not (p ∷ t) h (suc i) (suc j) r s l g k = repeated_not t (neither_right (member (nm p) (ns t)) (repeated (ns t)) h) i j r s (omega arith) g k

  abbrev Free : Table Span → Type 0
  Free t = (i : ℕ) (r : Rule Span) → get_elem? t i ≡ some r → member (nm r) reserved ≡ false

  all_free : (t : Table Span) → Free t → any (λ x. member x reserved) (ns t) ≡ false
  all_free [] f = refl
  all_free (r ∷ t) f = ap₂ ◌||◌ (f zero r refl) (all_free t (λ i. f (suc i)))

  free_all : (t : Table Span) → any (λ x. member x reserved) (ns t) ≡ false → Free t
  free_all [] h i r g = none_some g
  free_all (s ∷ t) h zero r g = let q : s ≡ r = some_eq _ _ g in ap (λ (p : Rule Span). member (nm p) reserved) (sym q) ∙ neither_left _ (any (λ x. member x reserved) (ns t)) h
  free_all (s ∷ t) h (suc i) r g = free_all t (neither_right (member (nm s) reserved) (any (λ x. member x reserved) (ns t)) h) i r g

  pub names_fine : (t : Table Span) → NamesFine (rule_words t) text → bad_names (resolve_table text t) ≡ false
  unfolding bad_names
  names_fine t f =
      ap₂ ◌||◌
      (not_repeated t (λ i j r s l g k e. (f j (omega (arith, inside_table t j s k, rule_count t))).apart i l (name_is text t i r g ∙ e ∙ sym (name_is text t j s k))))
      (all_free t (λ i r g. ap (λ (x : Bytes). member x reserved) (sym (name_is text t i r g)) ∙ (f i (omega (arith, inside_table t i r g, rule_count t))).free))

  pub fine_names : (t : Table Span) → bad_names (resolve_table text t) ≡ false → NamesFine (rule_words t) text
  unfolding bad_names
  fine_names t h =
      let a : repeated (ns t) ≡ false = neither_left (repeated (ns t)) (any (λ x. member x reserved) (ns t)) h in
      let b : any (λ x. member x reserved) (ns t) ≡ false = neither_right (repeated (ns t)) (any (λ x. member x reserved) (ns t)) h in
      λ j l.
      let s : There t j = there t j (omega (arith, rule_count t)) in
      record {
        free = ap (λ (x : Bytes). member x reserved) (name_is text t j s.rule s.is) ∙ free_all t b j s.rule s.is;
        apart = λ i k e.
            let r : There t i = there t i (omega (arith, rule_count t)) in
            repeated_not t a i j r.rule s.rule k r.is s.is (sym (name_is text t i r.rule r.is) ∙ e ∙ name_is text t j s.rule s.is);
      }

-- what a search among the earlier rules tells of a rule's name
-- the names of an index are apart, so that it is enough that none is reserved
pub indexed_fine : {rules : List ℕ} {text : Bytes} {m : List ℕ} → AllIndexed rules text m → ((i : ℕ) → i < length rules / rule_width → member (name_of rules text i) reserved ≡ false) → NamesFine rules text
indexed_fine h f = λ i l. record { free = f i l; apart = λ j b e. names_apart h j i b l e }

pub twice_not : {rules : List ℕ} {text : Bytes} → Twice rules text → NamesFine rules text → ⊥
twice_not t f = (f t.second t.there).apart t.first t.order t.same
