-- Rows at which list does not fire. Assumes nothing.
use mathlib.Core.Path.{◌≡◌, refl}
use mathlib.Core.List.{List}
use mathlib.Core.Option.{none}
use Prim.Native.Nat.{ℕ}
use Rattle.grammar.specs.Basic.{Bytes}
use Rattle.grammar.specs.Tree.{Seq, Choice, Expr, lit, fixed, skip, un, bin}
use Rattle.grammar.specs.Rows.{Span}
use Rattle.grammar.specs.Text.{resolve}
use Rattle.grammar.specs.Steps.{list?}
use Rattle.rows.specs.Rows.{kind_at, At}
use Rattle.rows.proofs.Laws.{root}
use Rattle.lister.specs.Loops.{Loops}
use Rattle.lister.proofs.Lists.{list_idle}

module _ (t : Bytes) where
  pub seq_idle : {x y r : Expr Span} → r ≡ bin Seq x y → (Loops (resolve t x) (resolve t y) → ⊥) → list? (resolve t r) ≡ none
  seq_idle {x} {y} e n = rw e (list_idle (resolve t x) (resolve t y) n)

  -- a root that is no Seq
  pub other_idle : {w : List ℕ} {i : ℕ} (r : Expr Span) → At w i r → (kind_at w i ≡ 8 → ⊥) → list? (resolve t r) ≡ none
  unfolding list?
  other_idle (lit k s) a h = refl
  other_idle (fixed f) a h = refl
  other_idle (skip ss) a h = refl
  other_idle (un u e) a h = refl
  other_idle (bin Seq x y) a h = absurd (h (root a).kind)
  other_idle (bin Choice x y) a h = refl
