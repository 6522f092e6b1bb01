-- A node that is no Rep of a Seq is skipped as it is. Assumes nothing.
use mathlib.Core.Path.{◌≡◌, refl, sym, ap, ◌∙◌}
use mathlib.Core.List.{List}
use mathlib.Core.Option.{none}
use Prim.Native.Nat.{ℕ, ◌-◌, ◌≤◌}
use native.Mathlib.Omega.{arith}
use Rattle.grammar.specs.Basic.{Bytes}
use Rattle.grammar.specs.Tree.{PosPred, NegPred, Opt, Rep, RepOnce, Push, RestoreOnErr, RepExact, RepMin, RepMax, RepMinMax, Seq, Choice, Expr, lit, fixed, skip, un, bin}
use Rattle.grammar.specs.Rows.{Span}
use Rattle.grammar.specs.Text.{resolve}
use Rattle.grammar.specs.Table.{Table}
use Rattle.grammar.specs.Lists.{loop_over}
use Rattle.grammar.specs.Steps.{or_same, skip?}
use Rattle.rows.specs.Rows.{kind_at, shape_of, At}
use Rattle.rows.proofs.Laws.{root, root_found, at_un}
use Rattle.rows.proofs.Cells.{un_shape}
use Rattle.rows.proofs.Views.{as_one}
use Rattle.skipper.proofs.Skipping.{skip_none}

-- a Rep of no Seq is no loop
no_loop : (s : Bytes) {w : List ℕ} {i : ℕ} (r : Expr Span) → At w i r → (kind_at w i ≡ 11 → kind_at w (i - 1) ≡ 8 → ⊥) → loop_over (resolve s r) ≡ none
unfolding loop_over
no_loop s (lit k p) a h = refl
no_loop s (fixed f) a h = refl
no_loop s (skip ss) a h = refl
no_loop s (bin b l r) a h = refl
no_loop s (un PosPred e) a h = refl
no_loop s (un NegPred e) a h = refl
no_loop s (un Opt e) a h = refl
no_loop s (un RepOnce e) a h = refl
no_loop s (un Push e) a h = refl
no_loop s (un RestoreOnErr e) a h = refl
no_loop s (un (RepExact n) e) a h = refl
no_loop s (un (RepMin n) e) a h = refl
no_loop s (un (RepMax n) e) a h = refl
no_loop s (un (RepMinMax m n) e) a h = refl
no_loop s (un Rep (lit k p)) a h = refl
no_loop s (un Rep (fixed f)) a h = refl
no_loop s (un Rep (skip ss)) a h = refl
no_loop s (un Rep (un u e)) a h = refl
no_loop s (un Rep (bin Choice l r)) a h = refl
no_loop s (un Rep (bin Seq l r)) a h = absurd (h (root a).kind (root (at_un a)).kind)

-- skip finds nothing there
pub row_quiet : (t : Table Bytes) (s : Bytes) {w : List ℕ} {i : ℕ} (r : Expr Span) → At w i r → (kind_at w i ≡ 11 → kind_at w (i - 1) ≡ 8 → ⊥) → or_same (skip? t) (resolve s r) ≡ resolve s r
row_quiet t s r a h = rw (skip_none t (resolve s r) (no_loop s r a h))

-- below a row of kind 11 there is another
pub rep_below : {w : List ℕ} {i : ℕ} {r : Expr Span} → At w i r → kind_at w i ≡ 11 → 1 ≤ i
rep_below a h = let v = as_one (root_found a) a (ap shape_of (sym (root a).kind ∙ h) ∙ un_shape Rep) in omega (arith, v.least, v.most)
