-- Steps that cannot grow: what is left of the table that is read fits beside what is written. Assumes nothing.
use mathlib.Core.Path.{◌≡◌, refl, sym, ap, ◌∙◌, subst}
use mathlib.Core.Bool.{false≢true, Bool, true, false, not, ◌||◌, cond}
use mathlib.Core.List.{List, [], ◌∷◌, ◌++◌}
use Prim.Native.Nat.{ℕ, ◌+◌, ◌≤◌}
use native.Mathlib.Omega.{arith}
use lib.ListN.{length, length-append}
use lib.Dec.{eqb}
use Rattle.grammar.specs.Basic.{Bytes}
use Rattle.grammar.specs.Tree.{E, size}
use Rattle.grammar.specs.Rows.{Span}
use Rattle.grammar.specs.Text.{bytes_at, resolve, text_of}
use Rattle.grammar.specs.Table.{Rule, Table, Atomic, row_count, rule_text, table_text, resolve_rule, resolve_table}
use Rattle.grammar.specs.Steps.{each, or_same, bottom_up, concat?, rotate, skip_to, unroll, concatenate, factor, list, restore}
use Rattle.grammar.proofs.Logic.{eqb_eq}
use Rattle.rotator.proofs.Rotations.{rotate_size, rotate_text}
use Rattle.concatenator.proofs.Concats.{concat_size, concat_text}
use Rattle.factorizer.proofs.Factors.{factor_size, factor_text}
use Rattle.lister.proofs.Lists.{list_size, list_text}
use Rattle.writing.specs.declared.Place.{Place}
use Rattle.passes.specs.Passes.{step_of, grows, Asks, AsksAll, RuleFits, TableFits}
use Rattle.passes.proofs.Tables.{count_append, text_append, resolve_append}
use Rattle.passes.proofs.Progress.{Progress}

-- concatenate leaves rules of other types alone
type_case : (P : E → Type 0) (y : ℕ) (e : E) → P (concatenate Atomic e) → P e → P (concatenate y e)
unfolding concatenate
type_case P y e a b = go (eqb y Atomic) refl
  where
    go : (v : Bool) → eqb y Atomic ≡ v → P (cond v (bottom_up (or_same concat?) e) e)
    go true h = a
    go false h = b

-- a step by its number
pub step_one : (look : Table Bytes) (y : ℕ) (e : E) → step_of 1 look y e ≡ rotate e
unfolding step_of
step_one look y e = refl

pub step_three : (look : Table Bytes) (y : ℕ) (e : E) → step_of 3 look y e ≡ unroll e
unfolding step_of
step_three look y e = refl

pub step_four : (look : Table Bytes) (y : ℕ) (e : E) → step_of 4 look y e ≡ concatenate y e
unfolding step_of
step_four look y e = refl

pub step_five : (look : Table Bytes) (y : ℕ) (e : E) → step_of 5 look y e ≡ factor y e
unfolding step_of
step_five look y e = refl

pub step_six : (look : Table Bytes) (y : ℕ) (e : E) → step_of 6 look y e ≡ list e
unfolding step_of
step_six look y e = refl

pub step_two : (look : Table Bytes) (y : ℕ) (e : E) → step_of 2 look y e ≡ skip_to look y e
unfolding step_of
step_two look y e = refl

pub step_seven : (look : Table Bytes) (y : ℕ) (e : E) → step_of 7 look y e ≡ restore look e
unfolding step_of
step_seven look y e = refl

-- a step that cannot grow
by_number : (P : E → Type 0) (n : ℕ) → grows n ≡ false → (look : Table Bytes) (y : ℕ) (e : E) → P (rotate e) → P (concatenate y e) → P (factor y e) → P (list e) → P (step_of n look y e)
by_number P n k look y e a b c d = go (eqb n 1) (eqb n 4) (eqb n 5) (eqb n 6) refl refl refl refl k
  where
    is : (m : ℕ) → eqb n m ≡ true → (x : E) → step_of m look y e ≡ x → P x → P (step_of n look y e)
    is m h x q p = subst P (sym (ap (λ (i : ℕ). step_of i look y e) (eqb_eq n m h) ∙ q)) p

    go : (v x z u : Bool) → eqb n 1 ≡ v → eqb n 4 ≡ x → eqb n 5 ≡ z → eqb n 6 ≡ u → not (v || (x || (z || u))) ≡ false → P (step_of n look y e)
    go true x z u p q r s h = is 1 p (rotate e) (step_one look y e) a
    go false true z u p q r s h = is 4 q (concatenate y e) (step_four look y e) b
    go false false true u p q r s h = is 5 r (factor y e) (step_five look y e) c
    go false false false true p q r s h = is 6 s (list e) (step_six look y e) d
    go false false false false p q r s h = absurd (false≢true (sym h))

pub step_of_less : (n : ℕ) → grows n ≡ false → (look : Table Bytes) (y : ℕ) (e : E) → size (step_of n look y e) ≤ size e
step_of_less n k look y e = by_number (λ x. size x ≤ size e) n k look y e (omega (arith, rotate_size e)) (type_case (λ x. size x ≤ size e) y e (concat_size e) (omega arith)) (factor_size y e) (omega (arith, list_size e))

pub step_of_text : (n : ℕ) → grows n ≡ false → (look : Table Bytes) (y : ℕ) (e : E) → length (text_of (step_of n look y e)) ≤ length (text_of e)
step_of_text n k look y e = by_number (λ x. length (text_of x) ≤ length (text_of e)) n k look y e (omega (arith, ap length (rotate_text e))) (type_case (λ x. length (text_of x) ≤ length (text_of e)) y e (omega (arith, ap length (concat_text e))) (omega arith)) (factor_text y e) (omega (arith, ap length (list_text e)))

module _ (F : ℕ → E → E) (less : (y : ℕ) (e : E) → size (F y e) ≤ size e) (text-less : (y : ℕ) (e : E) → length (text_of (F y e)) ≤ length (text_of e)) where
  pub each_rows : (t : Table Bytes) → row_count (each F t) ≤ row_count t
  each_rows [] = omega arith
  each_rows (r ∷ t) = omega (arith, less r.type r.body, each_rows t)

  pub each_text : (t : Table Bytes) → length (table_text (each F t)) ≤ length (table_text t)
  each_text [] = omega arith
  each_text (r ∷ t) = simp length-append (omega (arith, text-less r.type r.body, each_text t))

-- a rule of a table that fits, as it is read
pub rule_fits_same : {F : ℕ → E → E} {ts : Table Span} {text : Bytes} {i end : ℕ} {p : Place} {os os' o s : List ℕ} (g : Progress F ts text i end p os o s) (r : Rule Span) (rest : Table Span) → g.rest ≡ r ∷ rest → ((y : ℕ) (e : E) → size (F y e) ≤ size e) → ((y : ℕ) (e : E) → length (text_of (F y e)) ≤ length (text_of e)) → TableFits (resolve_table text ts) os' o s → RuleFits p (bytes_at text r.name) (resolve text r.body) o s
rule_fits_same {F} {ts} {text} {i} {end} {p} {os} {os'} {o} {s} g r rest w less text-less f =
    let D : Table Bytes = resolve_table text g.done in
    let R : Table Bytes = resolve_table text rest in
    let x : Rule Bytes = resolve_rule text r in
    let split : resolve_table text ts ≡ D ++ (x ∷ R) = ap (resolve_table text) (g.whole ∙ ap (λ (z : Table Span). g.done ++ z) w) ∙ resolve_append text g.done (r ∷ rest) in
    let a : row_count (resolve_table text ts) ≡ row_count D + (size x.body + row_count R) = ap row_count split ∙ count_append D (x ∷ R) in
    let b : length (table_text (resolve_table text ts)) ≡ length (table_text D) + (length (rule_text x) + length (table_text R)) = ap (λ (t : Table Bytes). length (table_text t)) split ∙ ap length (text_append D (x ∷ R)) ∙ length-append (table_text D) (table_text (x ∷ R)) ∙ ap (λ (n : ℕ). length (table_text D) + n) (length-append (rule_text x) (table_text R)) in
    record { rows = omega (arith, f.rows, a, g.front.rows, each_rows F less text-less D); text = omega (arith, f.text, b, g.front.text, each_text F less text-less D) }

-- what is asked of every rule of a table is asked of each
pub asks_part : {step : ℕ} {rs₀ ws₀ : List ℕ} {text₀ : Bytes} {marks ws : List ℕ} {text : Bytes} (done : Table Span) (r : Rule Span) (rest : Table Span) → AsksAll step rs₀ ws₀ text₀ marks ws text (done ++ (r ∷ rest)) → Asks step r.type rs₀ ws₀ text₀ marks ws text r.body
asks_part [] r rest h = h.0
asks_part (x ∷ done) r rest h = asks_part done r rest h.1
