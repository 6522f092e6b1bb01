-- A table in no row of which the stack changes is restored as it is. Assumes nothing.
use mathlib.Core.Path.{◌≡◌, refl, sym, ap, ap₂, ◌∙◌, fun_ext, subst}
use mathlib.Core.Bool.{Bool, true, false, ◌||◌, cond}
use mathlib.Core.List.{List, [], ◌∷◌}
use mathlib.Core.Option.{some}
use Prim.Native.Nat.{ℕ, zero, suc, ◌-◌, ◌/◌, ◌<◌}
use native.Mathlib.Omega.{arith}
use lib.ListN.{length, get_elem?}
use Rattle.grammar.specs.Numbers.{row_width}
use Rattle.grammar.specs.Basic.{Bytes, member, same_bytes}
use Rattle.grammar.specs.Tree.{Expr, E}
use Rattle.grammar.specs.Rows.{Span}
use Rattle.grammar.specs.Text.{bytes_at, resolve}
use Rattle.grammar.specs.Table.{Rule, Table, rule_words, row_words, resolve_table, find}
use Rattle.grammar.specs.Stack.{stack_names, changes, changes_in, changes_found, changes_name}
use Rattle.grammar.specs.Steps.{restore, each}
use Rattle.rows.specs.Rows.{kind_at, x_at, y_at, At}
use Rattle.rows.proofs.Laws.{root}
use Rattle.names.specs.Names.{rows_before}
use Rattle.names.proofs.Finding.{body_at}
use Rattle.restorer.proofs.Stills.{Still, changes_still, restore_still}

-- row j changes the stack by itself in no way: nor where there are no rules
abbrev pub Calm : Bytes → List ℕ → ℕ → Type 0
Calm s w j = Still [] s w j

pub calm_other : (w : List ℕ) (s : Bytes) (j : ℕ) → (kind_at w j ≡ 18 → ⊥) → (kind_at w j ≡ 3 → ⊥) → Calm s w j
calm_other w s j p n = record { push = p; name = λ e. absurd (n e) }

pub calm_name : (w : List ℕ) (s : Bytes) (j : ℕ) (b : Bool) → (kind_at w j ≡ 18 → ⊥) → b ≡ member (bytes_at s (x_at w j, y_at w j)) stack_names → b ≡ false → Calm s w j
unfolding changes
calm_name w s j b p n h = record { push = p; name = λ _. ap (λ (c : Bool). c || false) (sym n ∙ h) }

-- every rule's tree
abbrev Bodies : (Expr Span → Type 0) → Table Span → Type 0
Bodies P t = (i : ℕ) (r : Rule Span) → get_elem? t i ≡ some r → P r.body

module _ (s : Bytes) where
  found_calm : (t : Table Span) → Bodies (λ e. changes [] (resolve s e) ≡ false) t → (x : Bytes) → changes_found (find (resolve_table s t) x) (changes_in (λ _. false)) ≡ false
  unfolding changes
  found_calm [] h x = refl
  found_calm (r ∷ t) h x = go (same_bytes (bytes_at s r.name) x) (found_calm t (λ i. h (suc i)) x)
    where
      go : (b : Bool) → changes_found (find (resolve_table s t) x) (changes_in (λ _. false)) ≡ false → changes_found (cond b (some (resolve s r.body)) (find (resolve_table s t) x)) (changes_in (λ _. false)) ≡ false
      go true ih = h 0 r refl
      go false ih = ih

  each_same : (f : E → E) (t : Table Span) → Bodies (λ e. f (resolve s e) ≡ resolve s e) t → each (λ _. f) (resolve_table s t) ≡ resolve_table s t
  each_same f [] h = refl
  each_same f (r ∷ t) h = ap₂ ◌∷◌ (ap (λ (e : E). record { name = bytes_at s r.name; type = r.type; body = e }) (h 0 r refl)) (each_same f t (λ i. h (suc i)))

  module _ (t : Table Span) (h : Bodies (λ e. changes [] (resolve s e) ≡ false) t) where
    -- through no name does the stack change
    through_calm : (n : ℕ) (x : Bytes) → changes_name n (resolve_table s t) x ≡ false
    through_calm zero x = refl
    through_calm (suc n) x = ap (λ (f : Bytes → Bool). changes_found (find (resolve_table s t) x) (changes_in f)) (fun_ext (through_calm n)) ∙ found_calm t h x

    calm_still : (w : List ℕ) (j : ℕ) → Calm s w j → Still (resolve_table s t) s w j
    unfolding changes
    calm_still w j c = record { push = c.push; name = λ k. ap (λ (b : Bool). member (bytes_at s (x_at w j, y_at w j)) stack_names || b) (through_calm (length (resolve_table s t)) _) ∙ c.name k }

  -- THE LAW OF A CALM TABLE
  pub calm_table : (w : List ℕ) → ((j : ℕ) → j < length w / row_width → Calm s w j) → (t : Table Span) → row_words t ≡ w → each (λ _. restore (resolve_table s t)) (resolve_table s t) ≡ resolve_table s t
  calm_table w c t e =
      let at : (i : ℕ) (r : Rule Span) → get_elem? t i ≡ some r → At w (rows_before (rule_words t) (suc i) - 1) r.body = λ i r is. subst (λ (v : List ℕ). At v (rows_before (rule_words t) (suc i) - 1) r.body) e (body_at t i r is) in
      let h : Bodies (λ x. changes [] (resolve s x) ≡ false) t = λ i r is. changes_still [] s w r.body (at i r is) (λ j p q. c j (omega (arith, (root (at i r is)).inside))) in
      each_same (restore (resolve_table s t)) t (λ i r is. restore_still (resolve_table s t) s w r.body (at i r is) (λ j p q. calm_still t h w j (c j (omega (arith, (root (at i r is)).inside)))))
