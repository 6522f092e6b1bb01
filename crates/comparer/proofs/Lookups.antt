-- What the memories say, as the list's definition says it of tables. Assumes nothing.
use mathlib.Core.Path.{◌≡◌, refl, sym, ap, ap₂, ◌∙◌, subst}
use mathlib.Core.Bool.{Bool, true, false, false≢true, ◌||◌, not, cond}
use mathlib.Core.List.{List, [], ◌∷◌, ◌++◌, append_assoc, append-nil}
use mathlib.Core.Option.{none, some}
use Prim.Native.Nat.{ℕ, zero, suc, ◌+◌, ◌/◌, ◌<◌}
use native.Mathlib.Nat.{zero-add, add-zero, add-suc, suc-add}
use native.Mathlib.Omega.{arith}
use borrow.Author.Tests.{eqb-true, eqb-false}
use lib.Dec.{eqb}
use lib.ListN.{length, take, get_elem?, length-map}
use lib.Seq.{length-take-le}
use Rattle.grammar.specs.Basic.{Bytes, same_bytes, member}
use Rattle.grammar.specs.Numbers.{rule_width}
use Rattle.grammar.specs.Rows.{Span}
use Rattle.grammar.specs.Text.{bytes_at}
use Rattle.grammar.specs.Table.{Rule, Table, rule_words, resolve_rule, resolve_table}
use Rattle.grammar.specs.Refusals.{names}
use Rattle.grammar.proofs.Logic.{none_some, some_eq, same_bytes_eq, eq_same_bytes, or_left, or_right}
use Rattle.names.specs.Names.{name_of, First, Finds}
use Rattle.names.proofs.Finding.{There, there, inside_table, name_is, rule_count, differ}
use Rattle.comparison.specs.Compare.{Entry, only_right, lookup, rule_entries, left_entries, right_entries}
use Rattle.comparer.specs.Pairs.{memory_at, partner, Paired}
use Rattle.comparer.specs.Lists.{Standing, RuleIs, unmet_from}

-- ---- what a search finds

module _ (text key : Bytes) where
  lookup_first : (b : ℕ) (t : Table Span) (i : ℕ) (r : Rule Span) → get_elem? t i ≡ some r → bytes_at text r.name ≡ key → ((j : ℕ) (s : Rule Span) → j < i → get_elem? t j ≡ some s → bytes_at text s.name ≡ key → ⊥) → lookup b (resolve_table text t) key ≡ some (b + i, resolve_rule text r)
  lookup_first b [] i r h e f = none_some h
  lookup_first b (s ∷ t) zero r h e f =
      let q : s ≡ r = some_eq _ _ h in
      let p : same_bytes (bytes_at text s.name) key ≡ true = rw q (eq_same_bytes (bytes_at text r.name) key e) in
      rw (p, q, add-zero)
  lookup_first b (s ∷ t) (suc i) r h e f =
      let z : suc b + i ≡ b + suc i = omega arith in
      rw (differ (bytes_at text s.name) key (f zero s (omega arith) refl))
      (lookup_first (suc b) t i r h e (λ j q l. f (suc j) q (omega arith)) ∙ ap (λ (n : ℕ). some (n, resolve_rule text r)) z)

  lookup_nothing : (b : ℕ) (t : Table Span) → ((j : ℕ) (s : Rule Span) → get_elem? t j ≡ some s → bytes_at text s.name ≡ key → ⊥) → lookup b (resolve_table text t) key ≡ none
  lookup_nothing b [] f = refl
  lookup_nothing b (s ∷ t) f = rw (differ (bytes_at text s.name) key (f zero s refl)) (lookup_nothing (suc b) t (λ j q. f (suc j) q))

  pub found_rule : (t : Table Span) (i : ℕ) (r : Rule Span) → get_elem? t i ≡ some r → First (length (rule_words t) / rule_width) (rule_words t) text key i → lookup 0 (resolve_table text t) key ≡ some (i, resolve_rule text r)
  found_rule t i r h f =
      lookup_first 0 t i r h (sym (name_is text t i r h) ∙ f.same) (λ j s l q k. f.first j l (name_is text t j s q ∙ k)) ∙ ap (λ (n : ℕ). some (n, resolve_rule text r)) (zero-add i)

  pub found_none : (t : Table Span) → ((j : ℕ) → j < length (rule_words t) / rule_width → name_of (rule_words t) text j ≡ key → ⊥) → lookup 0 (resolve_table text t) key ≡ none
  found_none t f = lookup_nothing 0 t (λ j s q k. f j (omega (arith, inside_table t j s q, rule_count t)) (name_is text t j s q ∙ k))

-- ---- the left rules, one after the other

pub take_more : (t : Table Span) (i : ℕ) (r : Rule Span) → get_elem? t i ≡ some r → take (i + 1) t ≡ take i t ++ (r ∷ [])
take_more [] i r h = none_some h
take_more (s ∷ t) zero r h = ap (λ (x : Rule Span). x ∷ []) (some_eq _ _ h)
take_more (s ∷ t) (suc i) r h = ap (λ (n : ℕ). take n (s ∷ t)) (suc-add i 1) ∙ ap (λ (l : Table Span). s ∷ l) (take_more t i r h)

left_append : (i : ℕ) (a b u : Table Bytes) → left_entries i (a ++ b) u ≡ left_entries i a u ++ left_entries (i + length a) b u
left_append i [] b u = ap (λ (n : ℕ). left_entries n b u) (sym (add-zero i))
left_append i (r ∷ a) b u =
    let z : suc i + length a ≡ i + suc (length a) = omega arith in
    ap (λ (l : List Entry). rule_entries i r (lookup 0 u r.name) ++ l) (left_append (suc i) a b u ∙ ap (λ (n : ℕ). left_entries (suc i) a u ++ left_entries n b u) z)
    ∙ sym (append_assoc (rule_entries i r (lookup 0 u r.name)) (left_entries (suc i) a u) (left_entries (i + suc (length a)) b u))

resolve_append : (text : Bytes) (a b : Table Span) → resolve_table text (a ++ b) ≡ resolve_table text a ++ resolve_table text b
resolve_append text [] b = refl
resolve_append text (r ∷ a) b = ap (λ (l : Table Bytes). resolve_rule text r ∷ l) (resolve_append text a b)

-- rule i is the next
pub left_next : (text : Bytes) (t : Table Span) (u : Table Bytes) (i : ℕ) (r : Rule Span) → get_elem? t i ≡ some r → left_entries 0 (resolve_table text (take (i + 1) t)) u ≡ left_entries 0 (resolve_table text (take i t)) u ++ rule_entries i (resolve_rule text r) (lookup 0 u (bytes_at text r.name))
left_next text t u i r h =
    let a : Table Bytes = resolve_table text (take i t) in
    let n : 0 + length a ≡ i = zero-add (length a) ∙ length-map (take i t) _ ∙ length-take-le i t (omega (arith, inside_table t i r h)) in
    ap (λ (l : Table Span). left_entries 0 (resolve_table text l) u) (take_more t i r h)
    ∙ ap (λ (l : Table Bytes). left_entries 0 l u) (resolve_append text (take i t) (r ∷ []))
    ∙ left_append 0 a (resolve_rule text r ∷ []) u
    ∙ ap (λ (m : ℕ). left_entries 0 a u ++ left_entries m (resolve_rule text r ∷ []) u) n
    ∙ ap (λ (l : List Entry). left_entries 0 a u ++ l) (append-nil (rule_entries i (resolve_rule text r) (lookup 0 u (bytes_at text r.name))))

-- ---- the right rules that are not met

-- a name is a rule's
pub record NamedAt (text : Bytes) (t : Table Span) (x : Bytes) : Type 0 where
  pub place : ℕ
  pub rule : Rule Span
  pub is : get_elem? t place ≡ some rule
  pub same : bytes_at text rule.name ≡ x

member_named : (text : Bytes) (t : Table Span) (x : Bytes) → member x (names (resolve_table text t)) ≡ true → NamedAt text t x
member_named text [] x h = absurd (false≢true h)
member_named text (r ∷ t) x h = go (same_bytes x (bytes_at text r.name)) refl (member_named text t x) h
  where
    go : (b : Bool) → same_bytes x (bytes_at text r.name) ≡ b → (member x (names (resolve_table text t)) ≡ true → NamedAt text t x) → (b || member x (names (resolve_table text t))) ≡ true → NamedAt text (r ∷ t) x
    go true e ih k = record { place = 0; rule = r; is = refl; same = sym (same_bytes_eq x (bytes_at text r.name) e) }
    go false e ih k = let n = ih k in record { place = suc n.place; rule = n.rule; is = n.is; same = n.same }

named_member : (text : Bytes) (t : Table Span) (x : Bytes) (i : ℕ) (r : Rule Span) → get_elem? t i ≡ some r → bytes_at text r.name ≡ x → member x (names (resolve_table text t)) ≡ true
named_member text [] x i r h e = none_some h
named_member text (s ∷ t) x zero r h e = or_left (same_bytes x (bytes_at text s.name)) _ (eq_same_bytes x (bytes_at text s.name) (sym (ap (λ (y : Rule Span). bytes_at text y.name) (some_eq _ _ h) ∙ e)))
named_member text (s ∷ t) x (suc i) r h e = or_right (same_bytes x (bytes_at text s.name)) _ (named_member text t x i r h e)

-- the memory of a right rule says whether its name is found left
module _ (text₁ : Bytes) (t : Table Span) (text₂ : Bytes) (u : Table Span) {marks₁ marks₂ : List ℕ} (p : Paired (length (rule_words t) / rule_width) (rule_words t) text₁ (rule_words u) text₂ marks₁ marks₂) where
  memory_says : (j : ℕ) (s : Rule Span) → get_elem? u j ≡ some s → eqb (memory_at marks₂ j) 0 ≡ not (member (bytes_at text₂ s.name) (names (resolve_table text₁ t)))
  memory_says j s h = go (eqb (memory_at marks₂ j) 0) refl (member (bytes_at text₂ s.name) (names (resolve_table text₁ t))) refl
    where
      inside : j < length (rule_words u) / rule_width
      inside = omega (arith, inside_table u j s h, rule_count u)

      named : name_of (rule_words u) text₂ j ≡ bytes_at text₂ s.name
      named = name_is text₂ u j s h

      go : (a : Bool) → eqb (memory_at marks₂ j) 0 ≡ a → (b : Bool) → member (bytes_at text₂ s.name) (names (resolve_table text₁ t)) ≡ b → a ≡ not b
      go true e false f = refl
      go false e true f = refl
      go true e true f =
          let n = member_named text₁ t (bytes_at text₂ s.name) f in
          absurd (p.unmet j inside (eqb-true _ 0 e) (record { rule = n.place; below = omega (arith, inside_table t n.place n.rule n.is, rule_count t); same = name_is text₁ t n.place n.rule n.is ∙ n.same ∙ sym named }))
      go false e false f =
          let w = p.met j inside (eqb-false _ 0 e) in
          let x = there t w.rule (omega (arith, w.below, rule_count t)) in
          absurd (false≢true (sym f ∙ named_member text₁ t (bytes_at text₂ s.name) w.rule x.rule x.is (sym (name_is text₁ t w.rule x.rule x.is) ∙ w.same ∙ named)))

unmet_rights : (left : Table Bytes) (marks : List ℕ) (j : ℕ) (text : Bytes) (u : Table Span) → ((k : ℕ) (s : Rule Span) → get_elem? u k ≡ some s → eqb (memory_at marks (j + k)) 0 ≡ not (member (bytes_at text s.name) (names left))) → unmet_from marks j (length u) ≡ right_entries left j (resolve_table text u)
unmet_rights left marks j text [] h = refl
unmet_rights left marks j text (s ∷ u) h =
    ap₂ (λ (x y : List Entry). x ++ y) (turn (member (bytes_at text s.name) (names left)) (ap (λ (n : ℕ). eqb (memory_at marks n) 0) (sym (add-zero j)) ∙ h 0 s refl)) (unmet_rights left marks (suc j) text u (λ k r e. ap (λ (n : ℕ). eqb (memory_at marks n) 0) (suc-add j k ∙ sym (add-suc j k)) ∙ h (suc k) r e))
  where
    turn : (b : Bool) {a : Bool} → a ≡ not b → cond a (only_right j ∷ []) [] ≡ cond b [] (only_right j ∷ [])
    turn true e = rw e
    turn false e = rw e

pub unmet_is : (text₁ : Bytes) (t : Table Span) (text₂ : Bytes) (u : Table Span) {marks₁ marks₂ : List ℕ} → Paired (length (rule_words t) / rule_width) (rule_words t) text₁ (rule_words u) text₂ marks₁ marks₂ → unmet_from marks₂ 0 (length u) ≡ right_entries (resolve_table text₁ t) 0 (resolve_table text₂ u)
unmet_is text₁ t text₂ u {marks₂ = m} p = unmet_rights (resolve_table text₁ t) m 0 text₂ u (λ k s e. ap (λ (n : ℕ). eqb (memory_at m n) 0) (zero-add k) ∙ memory_says text₁ t text₂ u p k s e)

-- ---- a left rule and its partner

module _ {rules₁ : List ℕ} {text₁ : Bytes} {rules₂ : List ℕ} {text₂ : Bytes} {m₁ m₂ : List ℕ} {n i : ℕ} (p : Paired n rules₁ text₁ rules₂ text₂ m₁ m₂) (l : i < n) where
  pub partner_first : {j : ℕ} → memory_at m₁ i ≡ suc j → First (length rules₂ / rule_width) rules₂ text₂ (name_of rules₁ text₁ i) j
  partner_first {j} e = subst (λ (x : ℕ). Finds (length rules₂ / rule_width) rules₂ text₂ (name_of rules₁ text₁ i) (partner x)) e (p.left i l)

  module _ {rows₁ rows₂ : List ℕ} {x : Rule Span} (r : RuleIs rules₁ rows₁ i x) (u : Table Span) (s : Standing u rules₂ rows₂) where
    named_by : name_of rules₁ text₁ i ≡ bytes_at text₁ x.name
    named_by = subst (λ (w : List ℕ). name_of w text₁ i ≡ bytes_at text₁ x.name) r.stands.heads (name_is text₁ r.table i x r.is)

    pub alone : memory_at m₁ i ≡ 0 → lookup 0 (resolve_table text₂ u) (bytes_at text₁ x.name) ≡ none
    alone e =
        let f : (j : ℕ) → j < length rules₂ / rule_width → name_of rules₂ text₂ j ≡ name_of rules₁ text₁ i → ⊥ = subst (λ (y : ℕ). Finds (length rules₂ / rule_width) rules₂ text₂ (name_of rules₁ text₁ i) (partner y)) e (p.left i l) in
        found_none text₂ (bytes_at text₁ x.name) u (subst (λ (w : List ℕ). (j : ℕ) → j < length w / rule_width → name_of w text₂ j ≡ bytes_at text₁ x.name → ⊥) (sym s.heads) (λ j b h. f j b (h ∙ sym named_by)))

    pub together : {j : ℕ} {y : Rule Span} → memory_at m₁ i ≡ suc j → get_elem? u j ≡ some y → lookup 0 (resolve_table text₂ u) (bytes_at text₁ x.name) ≡ some (j, resolve_rule text₂ y)
    together {j} {y} e h = found_rule text₂ (bytes_at text₁ x.name) u j y h (subst (λ (w : List ℕ). First (length w / rule_width) w text₂ (bytes_at text₁ x.name) j) (sym s.heads) (subst (λ (k : Bytes). First (length rules₂ / rule_width) rules₂ text₂ k j) named_by (partner_first e)))

    pub partner_there : {j : ℕ} → memory_at m₁ i ≡ suc j → There u j
    partner_there {j} e = there u j (omega (arith, (partner_first e).below, rule_count u, ap length s.heads))
