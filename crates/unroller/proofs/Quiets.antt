-- A node that is no repeat is unrolled as it is. Assumes nothing.
use mathlib.Core.Path.{◌≡◌, refl, subst}
use mathlib.Core.List.{List}
use Prim.Native.Nat.{ℕ}
use native.Mathlib.Omega.{arith}
use Rattle.grammar.specs.Basic.{Bytes}
use Rattle.grammar.specs.Tree.{Un, PosPred, NegPred, Opt, Rep, RepOnce, Push, RestoreOnErr, RepExact, RepMin, RepMax, RepMinMax, un_head, Expr, E, lit, fixed, skip, un, bin}
use Rattle.grammar.specs.Rows.{Span}
use Rattle.grammar.specs.Text.{resolve}
use Rattle.grammar.specs.Steps.{unrolled, unroll_at}
use Rattle.rows.specs.Rows.{kind_at, At}
use Rattle.rows.proofs.Laws.{root}
use Rattle.unroller.specs.Items.{IsRepeat}

un_quiet : (u : Un) (e : E) → (IsRepeat (un_head u).0 → ⊥) → unrolled u e ≡ un u e
un_quiet PosPred e h = refl
un_quiet NegPred e h = refl
un_quiet Opt e h = refl
un_quiet Rep e h = refl
un_quiet Push e h = refl
un_quiet RestoreOnErr e h = refl
un_quiet RepOnce e h = absurd (h (omega arith, omega arith))
un_quiet (RepExact n) e h = absurd (h (omega arith, omega arith))
un_quiet (RepMin n) e h = absurd (h (omega arith, omega arith))
un_quiet (RepMax n) e h = absurd (h (omega arith, omega arith))
un_quiet (RepMinMax m n) e h = absurd (h (omega arith, omega arith))

-- unrolling finds nothing at a root that is no repeat
pub other_quiet : (t : Bytes) {w : List ℕ} {i : ℕ} (r : Expr Span) → At w i r → (IsRepeat (kind_at w i) → ⊥) → unroll_at (resolve t r) ≡ resolve t r
other_quiet t (lit k s) a h = refl
other_quiet t (fixed f) a h = refl
other_quiet t (skip ss) a h = refl
other_quiet t (un u e) a h = un_quiet u (resolve t e) (subst (λ (k : ℕ). IsRepeat k → ⊥) (root a).kind h)
other_quiet t (bin b l r) a h = refl
