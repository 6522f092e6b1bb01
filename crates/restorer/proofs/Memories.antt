-- The memory of names, and what stays quiet. Assumes nothing.
use mathlib.Core.Path.{◌≡◌, refl, sym, ap, ◌∙◌}
use mathlib.Core.Bool.{false≢true, Bool, true, false, ◌&&◌, ◌||◌, not}
use mathlib.Core.List.{List, [], ◌∷◌}
use mathlib.Core.Option.{none, some}
use mathlib.Core.Logic.{◌⊎◌, inl, inr}
use Prim.Native.Nat.{ℕ, zero, suc, ◌+◌, ◌≤◌, ◌<◌}
use native.Mathlib.Nat.{add-zero}
use native.Mathlib.Omega.{arith}
use lib.ListN.{length, get_elem?}
use lib.Dec.{eqb, leb}
use borrow.Author.Tests.{leb-true, le-leb}
use Rattle.grammar.specs.Basic.{Bytes, member, same_bytes}
use Rattle.grammar.specs.Tree.{E, Str, Insens, Ident, lit, fixed, skip, un, bin, is_un}
use Rattle.grammar.specs.Rows.{Span}
use Rattle.grammar.specs.Text.{bytes_at}
use Rattle.grammar.specs.Table.{Rule, Table, find, resolve_rule, resolve_table}
use Rattle.grammar.specs.Stack.{stack_names, changes_in}
use Rattle.grammar.proofs.Logic.{none_some, some_eq, or_right, eqb_eq, same_bytes_eq, eq_same_bytes}
use Rattle.restorer.specs.Search.{OPEN, state_of, memory_from, memory_of, is_quiet, loud, Quiet, Right, Reach, Kept, Searches, Closed, nowhere}

-- ---- a test that fails, in parts

pub or_no_left : (a b : Bool) → (a || b) ≡ false → a ≡ false
or_no_left true b h = absurd (false≢true (sym h))
or_no_left false b h = refl

pub or_no_right : (a b : Bool) → (a || b) ≡ false → b ≡ false
or_no_right true b h = absurd (false≢true (sym h))
or_no_right false b h = h

pub or_no : (a b : Bool) → a ≡ false → b ≡ false → (a || b) ≡ false
or_no a b p q = ap (λ (x : Bool). x || b) p ∙ q

and_no : (a b d : Bool) → (b ≡ false → d ≡ false) → (a && b) ≡ false → (a && d) ≡ false
and_no true b d f h = f h
and_no false b d f h = refl

-- ---- quiet states

pub quiet_state : (low s : ℕ) → is_quiet low s ≡ true → (s ≡ 2) ⊎ (OPEN + low ≤ s)
quiet_state low s h = go (eqb s 2) (leb (OPEN + low) s) refl refl h
  where
    go : (a b : Bool) → eqb s 2 ≡ a → leb (OPEN + low) s ≡ b → (a || b) ≡ true → (s ≡ 2) ⊎ (OPEN + low ≤ s)
    go true b p q k = inl (eqb_eq s 2 p)
    go false true p q k = inr (leb-true (OPEN + low) s q)
    go false false p q k = absurd (false≢true k)

pub state_quiet : (low s : ℕ) → (s ≡ 2) ⊎ (OPEN + low ≤ s) → is_quiet low s ≡ true
state_quiet low s (inl e) = ap (is_quiet low) e
state_quiet low s (inr h) = or_right (eqb s 2) (leb (OPEN + low) s) (le-leb (OPEN + low) s h)

pub not_loud : (low s : ℕ) → not (is_quiet low s) ≡ false → is_quiet low s ≡ true
not_loud low s h = go (is_quiet low s) h
  where
    go : (b : Bool) → not b ≡ false → b ≡ true
    go true k = refl
    go false k = absurd (false≢true (sym k))

-- the same memory, with a lower position
quiet_lower : {low low' s s' : ℕ} → s' ≡ s → low' ≤ low → (s ≡ 2) ⊎ (OPEN + low ≤ s) → is_quiet low' s' ≡ true
quiet_lower {low} {low'} {s} {s'} e l (inl h) = state_quiet low' s' (inl (e ∙ h))
quiet_lower {low} {low'} {s} {s'} e l (inr h) = state_quiet low' s' (inr (omega arith))

-- ---- a name is that of no rule, or of the first rule that has it

pub record Nameless (i : ℕ) (t : Table Bytes) (x : Bytes) : Type 0 where
  pub finds : find t x ≡ none
  pub memory : (m : List ℕ) → memory_from i t m x ≡ 2

pub record Named (i : ℕ) (t : Table Bytes) (x : Bytes) : Type 0 where
  pub place : ℕ
  pub rule : Rule Bytes
  pub is : get_elem? t place ≡ some rule
  pub finds : find t x ≡ some rule.body
  pub memory : (m : List ℕ) → memory_from i t m x ≡ state_of m (i + place)

named : (i : ℕ) (t : Table Bytes) (x : Bytes) → Nameless i t x ⊎ Named i t x
named i [] x = inl (record { finds = refl; memory = λ m. refl })
named i (r ∷ rs) x = go (same_bytes r.name x) refl (named (suc i) rs x)
  where
    go : (b : Bool) → same_bytes r.name x ≡ b → Nameless (suc i) rs x ⊎ Named (suc i) rs x → Nameless i (r ∷ rs) x ⊎ Named i (r ∷ rs) x
    go true e h = inr (record { place = 0; rule = r; is = refl; finds = rw e; memory = λ m. rw (e, add-zero) })
    go false e (inl h) = inl (record { finds = rw e h.finds; memory = λ m. rw e (h.memory m) })
    go false e (inr h) =
        let s : suc i + h.place ≡ i + suc h.place = omega arith in
        inr (record { place = suc h.place; rule = h.rule; is = h.is; finds = rw e h.finds; memory = λ m. rw e (h.memory m ∙ ap (state_of m) s) })

-- in the table itself
pub record Known (t : Table Bytes) (x : Bytes) : Type 0 where
  pub place : ℕ
  pub rule : Rule Bytes
  pub is : get_elem? t place ≡ some rule
  pub finds : find t x ≡ some rule.body
  pub memory : (m : List ℕ) → memory_of t m x ≡ state_of m place

pub record Unknown (t : Table Bytes) (x : Bytes) : Type 0 where
  pub finds : find t x ≡ none
  pub memory : (m : List ℕ) → memory_of t m x ≡ 2

pub known : (t : Table Bytes) (x : Bytes) → Unknown t x ⊎ Known t x
unfolding memory_of
known t x = go (named 0 t x)
  where
    go : Nameless 0 t x ⊎ Named 0 t x → Unknown t x ⊎ Known t x
    go (inl h) = inl (record { finds = h.finds; memory = h.memory })
    go (inr h) =
        let e : ◌≡◌ {A = ℕ} (0 + h.place) h.place = omega arith in
        inr (record { place = h.place; rule = h.rule; is = h.is; finds = h.finds; memory = λ m. h.memory m ∙ ap (state_of m) e })

pub memory_none : (t : Table Bytes) (m : List ℕ) (x : Bytes) → find t x ≡ none → memory_of t m x ≡ 2
memory_none t m x f = go (known t x)
  where
    go : Unknown t x ⊎ Known t x → memory_of t m x ≡ 2
    go (inl h) = h.memory m
    go (inr h) = none_some (sym f ∙ h.finds)

-- ---- the rule that a search by name found

differ : (x key : Bytes) → (x ≡ key → ⊥) → same_bytes x key ≡ false
differ x key d = go (same_bytes x key) refl
  where
    go : (b : Bool) → same_bytes x key ≡ b → b ≡ false
    go true q = absurd (d (same_bytes_eq x key q))
    go false q = refl

first_from : (i : ℕ) (text x : Bytes) (m : List ℕ) (t : Table Span) (k : ℕ) (r : Rule Span) → get_elem? t k ≡ some r → bytes_at text r.name ≡ x
    → ((j : ℕ) (s : Rule Span) → j < k → get_elem? t j ≡ some s → bytes_at text s.name ≡ x → ⊥)
    → memory_from i (resolve_table text t) m x ≡ state_of m (i + k)
first_from i text x m [] k r h e f = none_some h
first_from i text x m (s ∷ t) zero r h e f =
    let q : s ≡ r = some_eq _ _ h in
    let p : same_bytes (bytes_at text s.name) x ≡ true = rw q (eq_same_bytes (bytes_at text r.name) x e) in
    rw (p, add-zero)
first_from i text x m (s ∷ t) (suc k) r h e f =
    let a : suc i + k ≡ i + suc k = omega arith in
    rw (differ (bytes_at text s.name) x (f zero s (omega arith) refl)) (first_from (suc i) text x m t k r h e (λ j q l. f (suc j) q (omega arith)) ∙ ap (state_of m) a)

pub memory_first : (text x : Bytes) (m : List ℕ) (t : Table Span) (k : ℕ) (r : Rule Span) → get_elem? t k ≡ some r → bytes_at text r.name ≡ x
    → ((j : ℕ) (s : Rule Span) → j < k → get_elem? t j ≡ some s → bytes_at text s.name ≡ x → ⊥)
    → memory_of (resolve_table text t) m x ≡ state_of m k
unfolding memory_of
memory_first text x m t k r h e f =
    let a : ◌≡◌ {A = ℕ} (0 + k) k = omega arith in
    first_from 0 text x m t k r h e f ∙ ap (state_of m) a

pub rule_resolved : (text : Bytes) (t : Table Span) (k : ℕ) (r : Rule Span) → get_elem? t k ≡ some r → get_elem? (resolve_table text t) k ≡ some (resolve_rule text r)
rule_resolved text [] k r h = none_some h
rule_resolved text (s ∷ t) zero r h = let q : s ≡ r = some_eq _ _ h in rw q
rule_resolved text (s ∷ t) (suc k) r h = rule_resolved text t k r h

pub length_resolved : (text : Bytes) (t : Table Span) → length (resolve_table text t) ≡ length t
length_resolved text [] = refl
length_resolved text (s ∷ t) = ap suc (length_resolved text t)

pub inside_rule : (t : Table Bytes) (i : ℕ) (r : Rule Bytes) → get_elem? t i ≡ some r → i < length t
inside_rule [] i r h = none_some h
inside_rule (s ∷ t) zero r h = omega arith
inside_rule (s ∷ t) (suc i) r h = let l : i < length t = inside_rule t i r h in omega arith

-- ---- quiet stays quiet

module _ (f g : Bytes → Bool) (fewer : (x : Bytes) → f x ≡ false → g x ≡ false) where
  changes_fewer : (e : E) → changes_in f e ≡ false → changes_in g e ≡ false
  changes_fewer (lit Str x) q = q
  changes_fewer (lit Insens x) q = q
  changes_fewer (lit Ident x) q = or_no (member x stack_names) (g x) (or_no_left (member x stack_names) (f x) q) (fewer x (or_no_right (member x stack_names) (f x) q))
  changes_fewer (fixed h) q = q
  changes_fewer (skip ss) q = q
  changes_fewer (un u e) q =
      or_no (is_un 18 u) (not (is_un 19 u) && changes_in g e) (or_no_left (is_un 18 u) (not (is_un 19 u) && changes_in f e) q)
      (and_no (not (is_un 19 u)) (changes_in f e) (changes_in g e) (changes_fewer e) (or_no_right (is_un 18 u) (not (is_un 19 u) && changes_in f e) q))
  changes_fewer (bin b l r) q =
      or_no (changes_in g l) (changes_in g r) (changes_fewer l (or_no_left (changes_in f l) (changes_in f r) q)) (changes_fewer r (or_no_right (changes_in f l) (changes_in f r) q))

module _ {t : Table Bytes} {m m' : List ℕ} (kept : Kept t m m') {low low' : ℕ} (le : low' ≤ low) where
  quiet_kept : (x : Bytes) → loud t m low x ≡ false → loud t m' low' x ≡ false
  quiet_kept x h = go (known t x)
    where
      was : (memory_of t m x ≡ 2) ⊎ (OPEN + low ≤ memory_of t m x)
      was = quiet_state low (memory_of t m x) (not_loud low (memory_of t m x) h)

      seen : (memory_of t m x ≡ 2) ⊎ (OPEN + low ≤ memory_of t m x) → 1 ≤ memory_of t m x
      seen (inl q) = omega arith
      seen (inr q) = omega arith

      go : Unknown t x ⊎ Known t x → loud t m' low' x ≡ false
      go (inl u) = ap (λ (n : ℕ). not (is_quiet low' n)) (u.memory m')
      go (inr u) =
          let l : 1 ≤ state_of m u.place = omega (arith, u.memory m, seen was) in
          let e : memory_of t m' x ≡ memory_of t m x = u.memory m' ∙ kept.same u.place (inside_rule t u.place u.rule u.is) l ∙ sym (u.memory m) in
          ap not (quiet_lower e le was)

  pub stays_quiet : (e : E) → Quiet t m low e → Quiet t m' low' e
  stays_quiet e = changes_fewer (loud t m low) (loud t m' low') quiet_kept e

-- ---- one search after another

pub kept_none : (t : Table Bytes) (m : List ℕ) → Kept t m m
kept_none t m = record { same = λ i l h. refl }

pub kept_then : {t : Table Bytes} {m m₁ m₂ : List ℕ} → Kept t m m₁ → Kept t m₁ m₂ → Kept t m m₂
kept_then a b = record { same = λ i l h. b.same i l (omega (arith, a.same i l h)) ∙ a.same i l h }

pub searches_none : {t : Table Bytes} {top : ℕ} {m : List ℕ} → Right t m → Searches t top m m
searches_none {t} {top} {m} r = record { right = r; kept = kept_none t m; was = λ i l h k. refl; spreads = λ f. f }

pub searches_then : {t : Table Bytes} {top high : ℕ} {m m₁ m₂ : List ℕ} → top ≤ high → Searches t top m m₁ → Searches t high m₁ m₂ → Searches t top m m₂
searches_then le a b =
    record {
      right = b.right;
      kept = kept_then a.kept b.kept;
      was = λ i l h k. let e = b.was i l h (omega arith) in a.was i l (omega (arith, e)) (omega (arith, e)) ∙ e;
      spreads = λ f. b.spreads (a.spreads f);
    }

pub closed_none : (t : Table Bytes) (low : ℕ) (m : List ℕ) → Closed t low m m
closed_none t low m i r h e q = absurd (omega arith)

module _ {t : Table Bytes} {m₁ m₂ : List ℕ} (kept : Kept t m₁ m₂) where
  pub closed_then : {low low₁ low₂ : ℕ} → low ≤ low₁ → low ≤ low₂ → (m : List ℕ) → Closed t low₁ m m₁ → Closed t low₂ m₁ m₂ → Closed t low m m₂
  closed_then {low} {low₁} {low₂} le₁ le₂ m a b i r h e q = go (state_of m₁ i) refl
    where
      go : (v : ℕ) → state_of m₁ i ≡ v → Quiet t m₂ low r.body
      go zero k = stays_quiet (kept_none t m₂) le₂ r.body (b i r h k q)
      go (suc v) k =
          let l : 1 ≤ state_of m₁ i = omega arith in
          let z = kept.same i (inside_rule t i r h) l in
          stays_quiet kept le₁ r.body (a i r h e (omega (arith, z)))

  -- the rule at a position stays there
  pub leads_then : (low : ℕ) {R : Type 0} → (low < nowhere → Reach t m₁ (λ s. s ≡ OPEN + low) → R) → low < nowhere → Reach t m₂ (λ s. s ≡ OPEN + low) → R
  leads_then low a l f = a l (λ i e r h. f i (kept.same i (inside_rule t i r h) (omega arith) ∙ e) r h)
