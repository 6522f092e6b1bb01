-- The row that ends a node, leaves, and what was told of a Choice. Assumes nothing.
use Rattle.std.specs.Prelude.{None, Option, Some}
use mathlib.Core.Path.{◌≡◌, refl, subst}
use mathlib.Core.Bool.{Bool}
use mathlib.Core.List.{List}
use Prim.Native.Nat.{ℕ, ◌+◌, ◌-◌, ◌/◌, ◌<◌}
use native.Mathlib.Omega.{arith}
use lib.ListN.{length}
use Rattle.grammar.specs.Numbers.{row_width}
use Rattle.grammar.specs.Basic.{Bytes}
use Rattle.grammar.specs.Tree.{E, Expr, Head, Un, Bin, lit, fixed, skip, un, bin, un_head, bin_kind}
use Rattle.grammar.specs.Rows.{Span}
use Rattle.grammar.specs.Text.{resolve}
use Rattle.rows.proofs.Views.{shape_in}
use Rattle.writing.specs.declared.Place.{Place}
use Rattle.writing.specs.Writes.{RowAnswer}
use Rattle.writing.specs.Keeps.{Kept, KeptAnswer}
use Rattle.writing.proofs.Keeps.{kept_un, kept_bin}
use Rattle.chains.proofs.Walks.{Leaf}
use Rattle.factorizer.specs.declared.Case.{Case}
use Rattle.factorizer.specs.declared.Case.TheVariants.{Heads, Tail, First, Plain}
use Rattle.factorizer.specs.Cases.{HeadsTold, TailTold, FirstTold, CaseTold}
use Rattle.factorizer.specs.Factors.{factored}
use Rattle.factorizer.proofs.Factors.{factored_other}

-- ---- a node's own row ends it

pub un_answer : (a : Option Place) {q p : Place} {e : E} {o o₁ t t₁ : List ℕ} (o₂ : List ℕ) (u : Un) → Kept q p e o o₁ t t₁ → {h : Head} → h ≡ un_head u → q.rows < length o₁ / row_width
    → RowAnswer a q h (q.rows - p.rows + 1) o₁ o₂ → KeptAnswer a p (un u e) o o₂ t t₁
un_answer None o₂ u w k r g = g r
un_answer (Some a) o₂ u w k r g = kept_un w u _ _ k (omega (arith, w.rows)) g

pub bin_answer : (a : Option Place) {s q p : Place} {e f : E} {o o₁ o₂ t t₁ t₂ : List ℕ} (o₃ : List ℕ) (b : Bin) → Kept q p e o o₁ t t₁ → Kept s q f o₁ o₂ t₁ t₂ → {k : ℕ} → k ≡ bin_kind b → s.rows < length o₂ / row_width
    → RowAnswer a s (k, 0, 0) (s.rows - p.rows + 1) o₂ o₃ → KeptAnswer a p (bin b e f) o o₃ t t₂
bin_answer None o₃ b w v k r g = g r
bin_answer (Some a) o₃ b w v {k = h} k r g = kept_bin w v b (h, 0, 0) _ (rw k) (omega (arith, w.rows, v.rows)) g

-- ---- leaves are as they were

pub factored_leaf : (tight : Bool) (t : Bytes) (r : Expr Span) → Leaf (shape_in r) → factored tight (resolve t r) ≡ resolve t r
factored_leaf tight t (lit k s) h = factored_other tight _ refl
factored_leaf tight t (fixed f) h = factored_other tight _ refl
factored_leaf tight t (skip ss) h = factored_other tight _ refl
factored_leaf tight t (un u e) h = absurd h
factored_leaf tight t (bin b l r) h = absurd h

-- ---- what was told of a Choice

module _ {z : Case} (tight : Bool) (w : List ℕ) (t : Bytes) (x y : Expr Span) (h : CaseTold z tight w t x y) where
  pub told_heads : {a b c : ℕ} → z ≡ Heads a b c → HeadsTold w t a b c x y
  told_heads e = subst (λ (d : Case). CaseTold d tight w t x y) e h

  pub told_tail : {a b : ℕ} → z ≡ Tail a b → TailTold tight w t a b x y
  told_tail e = subst (λ (d : Case). CaseTold d tight w t x y) e h

  pub told_first : z ≡ First → FirstTold w t x y
  told_first e = subst (λ (d : Case). CaseTold d tight w t x y) e h

  pub told_plain : z ≡ Plain → CaseTold Plain tight w t x y
  told_plain e = subst (λ (d : Case). CaseTold d tight w t x y) e h
