-- Rows that concatenation leaves as they are. Assumes nothing.
use mathlib.Core.Path.{◌≡◌, refl, sym, ◌∙◌}
use mathlib.Core.Bool.{false}
use mathlib.Core.List.{List}
use Prim.Native.Nat.{ℕ}
use Rattle.grammar.specs.Basic.{Bytes}
use Rattle.grammar.specs.Tree.{Seq, Choice, Expr, E, lit, fixed, skip, un, bin}
use Rattle.grammar.specs.Rows.{Span}
use Rattle.grammar.specs.Text.{resolve}
use Rattle.grammar.specs.Steps.{or_same, concat?}
use Rattle.rows.specs.Rows.{kind_at, At}
use Rattle.rows.proofs.Laws.{head_of, root}
use Rattle.concatenator.specs.Joins.{joins_of}
use Rattle.concatenator.proofs.Concats.{kind_in, join_law}

module _ (t : Bytes) where
  kind_resolve : (r : Expr Span) → kind_in (resolve t r) ≡ (head_of r).0
  kind_resolve (lit k s) = refl
  kind_resolve (fixed f) = refl
  kind_resolve (skip ss) = refl
  kind_resolve (un u e) = refl
  kind_resolve (bin b l r) = refl

  sides_quiet : (e f : E) → joins_of 8 (kind_in e) (kind_in f) ≡ false → or_same concat? (bin Seq e f) ≡ bin Seq e f
  sides_quiet e f h = join_law Seq e f ∙ rw h

  pub seq_quiet : {w : List ℕ} {i j : ℕ} {x y r : Expr Span} → r ≡ bin Seq x y → At w i x → At w j y → joins_of 8 (kind_at w i) (kind_at w j) ≡ false → or_same concat? (resolve t r) ≡ resolve t r
  seq_quiet {w} {i} {j} {x} {y} e a b h =
      let l : kind_at w i ≡ kind_in (resolve t x) = (root a).kind ∙ sym (kind_resolve x) in
      let r : kind_at w j ≡ kind_in (resolve t y) = (root b).kind ∙ sym (kind_resolve y) in
      rw e (sides_quiet (resolve t x) (resolve t y) (rw (l, r) at h))

  -- concatenation finds nothing at any other root
  pub other_quiet : {w : List ℕ} {i : ℕ} (r : Expr Span) → At w i r → (kind_at w i ≡ 8 → ⊥) → or_same concat? (resolve t r) ≡ resolve t r
  other_quiet (lit k s) a h = refl
  other_quiet (fixed f) a h = refl
  other_quiet (skip ss) a h = refl
  other_quiet (un u e) a h = refl
  other_quiet (bin Seq x y) a h = absurd (h (root a).kind)
  other_quiet (bin Choice x y) a h = refl
