-- Rows at which factor does not fire. Assumes nothing.
use mathlib.Core.Path.{◌≡◌, refl}
use mathlib.Core.Bool.{Bool}
use mathlib.Core.List.{List}
use mathlib.Core.Option.{none}
use Prim.Native.Nat.{ℕ}
use Rattle.grammar.specs.Basic.{Bytes}
use Rattle.grammar.specs.Tree.{Seq, Choice, Expr, lit, fixed, skip, un, bin}
use Rattle.grammar.specs.Rows.{Span}
use Rattle.grammar.specs.Text.{resolve}
use Rattle.grammar.specs.Steps.{factor?}
use Rattle.rows.specs.Rows.{kind_at, At}
use Rattle.rows.proofs.Laws.{root}

pub choice_idle : (tight : Bool) (t : Bytes) {x y r : Expr Span} → r ≡ bin Choice x y → factor? tight (bin Choice (resolve t x) (resolve t y)) ≡ none → factor? tight (resolve t r) ≡ none
choice_idle tight t e h = rw e h

-- a root that is no Choice
pub other_idle : (tight : Bool) (t : Bytes) {w : List ℕ} {i : ℕ} (r : Expr Span) → At w i r → (kind_at w i ≡ 9 → ⊥) → factor? tight (resolve t r) ≡ none
unfolding factor?
other_idle tight t (lit k s) a h = refl
other_idle tight t (fixed f) a h = refl
other_idle tight t (skip ss) a h = refl
other_idle tight t (un u e) a h = refl
other_idle tight t (bin Seq x y) a h = refl
other_idle tight t (bin Choice x y) a h = absurd (h (root a).kind)
