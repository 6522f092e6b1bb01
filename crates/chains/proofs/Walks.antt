-- A walk over a subtree by a step that cannot grow: what falls, what is left as it was, and a run over its result. Assumes nothing.
use Rattle.std.specs.Prelude.{Option}
use mathlib.Core.Path.{◌≡◌, refl, sym, ap, subst, ◌∙◌}
use mathlib.Core.List.{List}
use Prim.Native.Nat.{ℕ, ◌+◌, ◌-◌, ◌/◌, ◌^◌, ◌≤◌, ◌<◌}
use native.Mathlib.Omega.{arith}
use lib.ListN.{length}
use Rattle.grammar.specs.Numbers.{k_pair}
use Rattle.grammar.specs.Basic.{Bytes}
use Rattle.grammar.specs.Tree.{Un, E, Expr, lit, fixed, skip, un, bin, size}
use Rattle.grammar.specs.Rows.{Span}
use Rattle.grammar.specs.Text.{resolve}
use Rattle.rows.specs.declared.Shape.{Shape}
use Rattle.rows.specs.declared.Shape.TheVariants.{Lit, Num, One, Two, Skips}
use Rattle.rows.specs.Rows.{kind_at, x_at, y_at, size_at, At}
use Rattle.rows.proofs.Laws.{root}
use Rattle.rows.proofs.Cells.{size_resolve}
use Rattle.rows.proofs.Views.{TwoView, shape_in, as_pair, pair_left, not_pair}
use Rattle.writing.specs.declared.Place.{Place}
use Rattle.writing.specs.Writes.{Areas, Fits}
use Rattle.writing.specs.Keeps.{Kept, KeptAnswer, Ready}
use Rattle.writing.proofs.Trees.{fits_left}
use Rattle.writing.proofs.Keeps.{ready_fits}
use Rattle.chains.specs.Runs.{wrap, ups, low, Raisable, RaisedAnswer}
use Rattle.chains.proofs.Runs.{low_not, low_at, low_most, low_fits, low_size, resolve_run, step_run}

-- ---- at a row with two children below a run

-- the tree r stands at row `root` and fits at p, its run stands over row `base`, and the sides there are the trees at rows l and base - 1, whose size words are smaller
pub record Forked (w : List ℕ) (t : Bytes) (root base l : ℕ) (p : Place) (o b : List ℕ) (r : Expr Span) : Type 0 where
  pub view : TwoView w base (kind_at w base) (x_at w base) (y_at w base) (size_at w base) (low r)
  pub run : base + length (ups r) ≡ root
  pub at_left : At w l view.left
  pub fits : Fits p (resolve t (low r)) o b
  pub left_falls : size_at w l < size_at w root
  pub right_falls : size_at w (base - 1) < size_at w root

pub as_forked : {w : List ℕ} {t : Bytes} {root base l : ℕ} {p : Place} {o b : List ℕ} → Ready w t root p o b → kind_at w base / 2 ≡ k_pair → l ≡ base - 1 - size_at w (base - 1)
    → (r : Expr Span) → At w root r → base + length (ups r) ≡ root → Forked w t root base l p o b r
as_forked {t} {base} d h e r a n =
    let c = low_at r a base n in
    let v = as_pair c h in
    let m = low_most r a base n in
    record {
      view = v;
      run = n;
      at_left = pair_left v e;
      fits = low_fits t r (ready_fits d r a);
      left_falls = omega (arith, m, v.rows, v.least_right, (root (pair_left v e)).rows);
      right_falls = omega (arith, m, v.rows, v.least_left, (root v.at_right).rows);
    }

pub ready_left : {w : List ℕ} {t : Bytes} {root base l : ℕ} {p : Place} {o b : List ℕ} {r : Expr Span} → Forked w t root base l p o b r → Ready w t l p o b
ready_left f = record { tree = f.view.left; at = f.at_left; fits = fits_left (rw f.view.is at f.fits) }

-- areas of the same lengths
pub same_areas : {o o₁ b b₁ : List ℕ} → Areas o b → length o₁ ≡ length o → length b₁ ≡ length b → Areas o₁ b₁
same_areas a e d = record { words = omega (arith, a.words); bytes = omega (arith, a.bytes) }

-- an answer for an equal tree
pub kept_same : (a : Option Place) (p : Place) {e f : E} (o o' b b' : List ℕ) → e ≡ f → KeptAnswer a p e o o' b b' → KeptAnswer a p f o o' b b'
kept_same a p o o' b b' h w = subst (λ (z : E). KeptAnswer a p z o o' b b') h w

-- ---- leaves are left as they were

abbrev pub Leaf : Shape → Type 0
Leaf Lit = Unit {0}
Leaf Num = Unit {0}
Leaf Skips = Unit {0}
Leaf One = ⊥
Leaf Two = ⊥

-- the row below the run has no two children
pub leaf_below : {w : List ℕ} {root : ℕ} (base : ℕ) (r : Expr Span) → At w root r → base + length (ups r) ≡ root → (kind_at w base / 2 ≡ k_pair → ⊥) → shape_in (low r) ≡ Two → ⊥
leaf_below base r a n h = not_pair (low_at r a base n) h

-- ---- a run over what a step makes of the tree below it

module _ (f : E → E) (f-un : (u : Un) (e : E) → f (un u e) ≡ un u (f e)) (t : Bytes) where
  -- over a leaf nothing changes
  pub leaf_run : ((r : Expr Span) → Leaf (shape_in r) → f (resolve t r) ≡ resolve t r) → (r : Expr Span) → (shape_in (low r) ≡ Two → ⊥) → f (resolve t r) ≡ resolve t r
  leaf_run g r h = step_run f f-un t r ∙ ap (wrap (ups r)) (g (low r) (leaf (low r) (low_not r) h)) ∙ sym (resolve_run t r)
    where
      leaf : (r : Expr Span) → (shape_in r ≡ One → ⊥) → (shape_in r ≡ Two → ⊥) → Leaf (shape_in r)
      leaf (lit k s) a b = tt
      leaf (fixed n) a b = tt
      leaf (skip ss) a b = tt
      leaf (un u r) a b = absurd (a refl)
      leaf (bin c l r) a b = absurd (b refl)

  -- so a copy is what is asked for
  pub leaf_kept : ((r : Expr Span) → Leaf (shape_in r) → f (resolve t r) ≡ resolve t r) → (r : Expr Span) → (shape_in (low r) ≡ Two → ⊥) → (a : Option Place) (p : Place) (o o' b b' : List ℕ)
      → KeptAnswer a p (resolve t r) o o' b b' → KeptAnswer a p (f (resolve t r)) o o' b b'
  leaf_kept g r h a p o o' b b' c = kept_same a p o o' b b' (sym (leaf_run g r h)) c

  module _ (r : Expr Span) {q p : Place} {o o₁ b b₁ : List ℕ} (c : Kept q p (f (resolve t (low r))) o o₁ b b₁) where
    pub run_raisable : size (f (resolve t (low r))) ≤ size (resolve t (low r)) → {w : List ℕ} {root : ℕ} (base : ℕ) → At w root r → base + length (ups r) ≡ root → Fits p (resolve t r) o b
        → length o₁ ≡ length o → length o < 2 ^ 32 → Raisable w base root p q o₁
    run_raisable l base a e h lo z = record {
      tree = r;
      at = a;
      run = e;
      order = omega (arith, c.rows);
      room = omega (arith, c.rows, h.rows, low_size r, size_resolve t r, size_resolve t (low r));
      words = omega arith;
    }

    pub run_kept : (a : Option Place) (o₂ : List ℕ) → RaisedAnswer a q p (ups r) o₁ o₂ → KeptAnswer a p (f (resolve t r)) o o₂ b b₁
    run_kept a o₂ g = kept_same a p o o₂ b b₁ (sym (step_run f f-un t r)) (g (f (resolve t (low r))) o b b₁ c)
