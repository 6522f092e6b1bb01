-- Steps by their numbers: what each asks, and what it answers. Assumes nothing.
use Rattle.std.specs.Prelude.{Option}
use mathlib.Core.Path.{◌≡◌, refl, sym, ap, ◌∙◌, subst}
use mathlib.Core.Bool.{Bool, true, false}
use mathlib.Core.List.{List}
use Prim.Native.Nat.{ℕ}
use lib.Dec.{eqb}
use Rattle.grammar.specs.Basic.{Bytes}
use Rattle.grammar.specs.Tree.{E, Expr}
use Rattle.grammar.specs.Rows.{Span}
use Rattle.grammar.specs.Text.{resolve}
use Rattle.grammar.specs.Table.{Table, resolve_table}
use Rattle.skipper.specs.Lends.{Given}
use Rattle.skipper.specs.Skips.{Settles, Settling}
use Rattle.grammar.specs.Steps.{restore}
use Rattle.restorer.specs.Lends as restorer
use Rattle.restorer.specs.Lends.{Marked}
use Rattle.grammar.proofs.Logic.{eqb_eq}
use Rattle.rows.specs.Rows.{At, Stands}
use Rattle.writing.specs.Writes.{Answer}
use Rattle.writing.specs.Keeps.{Ready, KeptAnswer}
use Rattle.writing.specs.declared.Place.{Place}
use Rattle.unroller.specs.Items.{Counted}
use Rattle.passes.specs.Passes.{step_of, grows, Lent, Prepared, StepAnswer}
use Rattle.passes.proofs.Answers.{answer_step, kept_step}

module _ {step type : ℕ} {rs₀ ws₀ : List ℕ} {text₀ : Bytes} {marks ws : List ℕ} {text : Bytes} {root : ℕ} {p : Place} {o t : List ℕ} (s : Stands ws root) (r : Prepared step type rs₀ ws₀ text₀ marks ws text root p o t) where
  pub ready_for : (n : ℕ) → step ≡ n → grows n ≡ false → Ready ws text root p o t
  ready_for n h k = record { tree = s.tree; at = s.at; fits = r.fits (ap grows h ∙ k) s.tree s.at }

  pub counted_for : step ≡ 3 → Counted ws root
  counted_for h = record { tree = s.tree; at = s.at; counts = (r.asks s.tree s.at).counts h }

  pub given_for : step ≡ 2 → Given rs₀ ws₀ text₀ marks
  given_for h = (r.asks s.tree s.at).given h

  pub settling_for : step ≡ 2 → type ≡ 2 → Settling rs₀ ws₀ text₀ marks ws text root
  settling_for h k =
      let g = given_for h in
      record { table = g.table; lent = g.lent; tree = s.tree; at = s.at; settles = (r.asks s.tree s.at).settles h k g.table (record { rules = sym g.lent.heads; rows = sym g.lent.trees }) }

  pub settles_for : step ≡ 2 → (gs : Table Span) → Lent gs rs₀ ws₀ → (e : Expr Span) → At ws root e → type ≡ 2 → Settles (resolve_table text₀ gs) marks (resolve text e)
  settles_for h gs l e a k = (r.asks e a).settles h k gs l

  pub marked_for : step ≡ 7 → Marked rs₀ ws text marks
  marked_for h = (r.asks s.tree s.at).marked h

  pub known_for : step ≡ 7 → restorer.Settles rs₀ ws text marks
  known_for h = (r.asks s.tree s.at).known h

  pub lent_for : step ≡ 7 → (gs : Table Span) → Lent gs rs₀ ws₀ → restorer.Lent gs rs₀ ws
  lent_for h gs l = record { heads = l.rules; trees = l.rows ∙ (r.asks s.tree s.at).same_rows h }

  pub look_for : step ≡ 7 → (gs : Table Span) (e : E) → restore (resolve_table text₀ gs) e ≡ restore (resolve_table text gs) e
  look_for h gs e = ap (λ (x : Bytes). restore (resolve_table x gs) e) ((r.asks s.tree s.at).same_text h)

pub kept_by : (a : Option Place) (p : Place) {step : ℕ} (n : ℕ) (look : Table Bytes) (y : ℕ) (e x : E) (o o' t t' : List ℕ) → step ≡ n → step_of n look y e ≡ x → KeptAnswer a p x o o' t t' → StepAnswer a p (step_of step look y e) o o' t t'
kept_by a p n look y e x o o' t t' h q k = subst (λ (z : E). StepAnswer a p z o o' t t') (sym (ap (λ (m : ℕ). step_of m look y e) h ∙ q)) (kept_step a p x o o' t t' k)

pub exact_by : (a : Option Place) (p : Place) {step : ℕ} (n : ℕ) (look : Table Bytes) (y : ℕ) (e x : E) (o o' t t' : List ℕ) → step ≡ n → step_of n look y e ≡ x → Answer a p x o o' t t' → StepAnswer a p (step_of step look y e) o o' t t'
exact_by a p n look y e x o o' t t' h q k = subst (λ (z : E). StepAnswer a p z o o' t t') (sym (ap (λ (m : ℕ). step_of m look y e) h ∙ q)) (answer_step a p x o o' t t' k)

no_number : (n m : ℕ) → (n ≡ m → ⊥) → eqb n m ≡ false
no_number n m h = go (eqb n m) refl
  where
    go : (b : Bool) → eqb n m ≡ b → eqb n m ≡ false
    go true e = absurd (h (eqb_eq n m e))
    go false e = e

pub other_step : (n : ℕ) → (n ≡ 7 → ⊥) → (n ≡ 1 → ⊥) → (n ≡ 2 → ⊥) → (n ≡ 3 → ⊥) → (n ≡ 4 → ⊥) → (n ≡ 5 → ⊥) → (n ≡ 6 → ⊥) → (look : Table Bytes) (y : ℕ) (e : E) → step_of n look y e ≡ e
unfolding step_of
other_step n z a g b c d f look y e = rw (no_number n 1 a, no_number n 3 b, no_number n 4 c, no_number n 5 d, no_number n 6 f, no_number n 2 g, no_number n 7 z)
