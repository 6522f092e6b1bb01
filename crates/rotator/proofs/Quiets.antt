-- Rows that rotation leaves as they are. Assumes nothing.
use mathlib.Core.Path.{◌≡◌, refl, sym, ◌∙◌}
use mathlib.Core.List.{List}
use Prim.Native.Nat.{ℕ, ◌/◌}
use Rattle.grammar.specs.Numbers.{k_pair}
use Rattle.grammar.specs.Basic.{Bytes}
use Rattle.grammar.specs.Tree.{Bin, Seq, Choice, bin_kind, Expr, E, lit, fixed, skip, un, bin}
use Rattle.grammar.specs.Rows.{Span}
use Rattle.grammar.specs.Text.{resolve}
use Rattle.grammar.specs.Steps.{rotate_at, rotated}
use Rattle.rows.specs.Rows.{kind_at, At}
use Rattle.rows.proofs.Laws.{head_of, root}
use Rattle.rows.proofs.Views.{TwoView, bin_half}

module _ (t : Bytes) where
  side_quiet : (b : Bin) (l : Expr Span) (r : E) → ((head_of l).0 ≡ bin_kind b → ⊥) → rotated b (resolve t l) r ≡ bin b (resolve t l) r
  side_quiet b (lit k s) r n = refl
  side_quiet b (fixed f) r n = refl
  side_quiet b (skip ss) r n = refl
  side_quiet b (un u e) r n = refl
  side_quiet Seq (bin Seq x y) r n = absurd (n refl)
  side_quiet Seq (bin Choice x y) r n = refl
  side_quiet Choice (bin Seq x y) r n = refl
  side_quiet Choice (bin Choice x y) r n = absurd (n refl)

  pub pair_quiet : {w : List ℕ} {i l k x y n : ℕ} {r : Expr Span} (v : TwoView w i k x y n r) → At w l v.left → (kind_at w l ≡ k → ⊥) → rotate_at (resolve t r) ≡ resolve t r
  pair_quiet v a h = rw v.is (side_quiet v.op v.left (resolve t v.right) (λ e. h ((root a).kind ∙ e ∙ sym v.kind)))

  -- rotation finds nothing at any other root
  pub other_quiet : {w : List ℕ} {i : ℕ} (r : Expr Span) → At w i r → (kind_at w i / 2 ≡ k_pair → ⊥) → rotate_at (resolve t r) ≡ resolve t r
  other_quiet (lit k s) a h = refl
  other_quiet (fixed f) a h = refl
  other_quiet (skip ss) a h = refl
  other_quiet (un u e) a h = refl
  other_quiet (bin b x y) a h = absurd (h (bin_half b (root a).kind))
