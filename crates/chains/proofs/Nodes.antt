-- A walk at a row with two children below a run, whatever tree stands there: what its calls find, and what they make. Assumes nothing.
use Rattle.std.specs.Prelude.{Option, Some}
use mathlib.Core.Path.{◌≡◌}
use mathlib.Core.List.{List}
use Prim.Native.Nat.{ℕ, ◌+◌, ◌-◌, ◌/◌, ◌≤◌, ◌<◌}
use native.Mathlib.Omega.{arith}
use lib.ListN.{length}
use Rattle.grammar.specs.Numbers.{row_width, k_pair}
use Rattle.grammar.specs.Basic.{Bytes}
use Rattle.grammar.specs.Tree.{Un, E, Expr, un, bin, size}
use Rattle.grammar.specs.Rows.{Span}
use Rattle.grammar.specs.Text.{resolve, text_of}
use Rattle.rows.specs.Rows.{kind_at, size_at, At, Stands}
use Rattle.rows.proofs.Laws.{root}
use Rattle.writing.specs.declared.Place.{Place}
use Rattle.writing.specs.Writes.{Areas, Fits}
use Rattle.writing.specs.Keeps.{Kept, KeptAnswer, Ready}
use Rattle.writing.proofs.Keeps.{kept_done, right_fits, ready_right}
use Rattle.chains.specs.Runs.{ups, low, Raisable, RaisedAnswer}
use Rattle.chains.proofs.Runs.{low_at}
use Rattle.chains.proofs.Walks.{Forked, as_forked, run_raisable, run_kept}
use Rattle.chains.proofs.Walks as walks

-- the row below the run
pub base_stands : {w : List ℕ} {t : Bytes} {i base : ℕ} {p : Place} {o b : List ℕ} → Ready w t i p o b → ((r : Expr Span) → At w i r → base + length (ups r) ≡ i) → Stands w base
base_stands d n = record { tree = low d.tree; at = low_at d.tree d.at _ (n d.tree d.at) }

pub stands_inside : {w : List ℕ} {i : ℕ} → Stands w i → i < length w / row_width
stands_inside s = (root s.at).inside

-- the tree of row i, which fits at p, has a node with two children at row `base` below its run, whose left side is the tree of row l
pub record Fork (w : List ℕ) (t : Bytes) (i base l : ℕ) (p : Place) (o b : List ℕ) : Type 0 where
  pub ready : Ready w t i p o b
  pub run : (r : Expr Span) → At w i r → base + length (ups r) ≡ i
  pub forks : kind_at w base / 2 ≡ k_pair
  pub left : l ≡ base - 1 - size_at w (base - 1)

pub fork : {w : List ℕ} {t : Bytes} {i base l : ℕ} {p : Place} {o b : List ℕ} → Ready w t i p o b → ((r : Expr Span) → At w i r → base + length (ups r) ≡ i) → kind_at w base / 2 ≡ k_pair → l ≡ base - 1 - size_at w (base - 1)
    → Fork w t i base l p o b
fork d n h e = record { ready = d; run = n; forks = h; left = e }

module _ {w : List ℕ} {t : Bytes} {i base l : ℕ} {p : Place} {o b : List ℕ} (f : Fork w t i base l p o b) where
  pub forked : (r : Expr Span) → At w i r → Forked w t i base l p o b r
  forked r a = as_forked f.ready f.forks f.left r a (f.run r a)

  abbrev pub own : Forked w t i base l p o b f.ready.tree
  own = forked f.ready.tree f.ready.at

  pub left_ready : Ready w t l p o b
  left_ready = walks.ready_left own

  pub left_falls : size_at w l < size_at w i
  left_falls = own.left_falls

  pub right_falls : size_at w (base - 1) < size_at w i
  right_falls = own.right_falls

  pub base_some : 1 ≤ base
  base_some = omega (arith, own.view.least_left, own.view.most)

-- a step that leaves nodes with one child alone, and takes no more rows and no more text
pub record Step (g : E → E) : Type 0 where
  pub over : (u : Un) (e : E) → g (un u e) ≡ un u (g e)
  pub rows : (e : E) → size (g e) ≤ size e
  pub text : (e : E) → length (text_of (g e)) ≤ length (text_of e)

-- the step's trees of both sides, one after the other, and room for a row more
pub record Both (g : E → E) (t : Bytes) (q p s : Place) (x y : Expr Span) (o o₁ o₂ b b₁ b₂ : List ℕ) : Type 0 where
  pub first : Kept q p (g (resolve t x)) o o₁ b b₁
  pub second : Kept s q (g (resolve t y)) o₁ o₂ b₁ b₂
  pub rows : p.rows ≤ length o / row_width
  pub text : p.text ≤ length b
  pub rows₁ : q.rows ≤ length o₁ / row_width
  pub room : s.rows < length o₂ / row_width
  pub end : s.text ≤ length b₂

-- by the answers of both calls
module _ {g : E → E} (z : Step g) {w : List ℕ} {t : Bytes} {i base l : ℕ} {p : Place} {o b : List ℕ} (f : Fork w t i base l p o b) {a₁ : Option Place} {q : Place} {o₁ b₁ : List ℕ} (e₁ : a₁ ≡ Some q)
    (c : (r : Expr Span) → At w l r → KeptAnswer a₁ p (g (resolve t r)) o o₁ b b₁) (lo : length o₁ ≡ length o) (lb : length b₁ ≡ length b) where
  first_kept : {r : Expr Span} (h : Forked w t i base l p o b r) → Kept q p (g (resolve t h.view.left)) o o₁ b b₁
  first_kept h = kept_done _ _ _ _ _ _ e₁ (c h.view.left h.at_left)

  pub right_ready : Ready w t (base - 1) q o₁ b₁
  right_ready = let h = own f in ready_right t h.view (first_kept h) (z.rows _) (z.text _) lo lb h.fits

  module _ {a₂ : Option Place} {s : Place} {o₂ b₂ : List ℕ} (e₂ : a₂ ≡ Some s) (d : (r : Expr Span) → At w (base - 1) r → KeptAnswer a₂ q (g (resolve t r)) o₁ o₂ b₁ b₂) (lo₂ : length o₂ ≡ length o₁) (lb₂ : length b₂ ≡ length b₁) where
    pub both_of : {r : Expr Span} (h : Forked w t i base l p o b r) → Both g t q p s h.view.left h.view.right o o₁ o₂ b b₁ b₂
    both_of h =
        let x = resolve t h.view.left in
        let y = resolve t h.view.right in
        let first = first_kept h in
        let second : Kept s q (g y) o₁ o₂ b₁ b₂ = kept_done _ _ _ _ _ _ e₂ (d h.view.right h.view.at_right) in
        let n : Fits p (bin h.view.op x y) o b = rw h.view.is at h.fits in
        let m : Fits q y o₁ b₁ = right_fits first x (z.rows x) lo (z.text x) lb n in
        record {
          first = first;
          second = second;
          rows = omega (arith, n.rows);
          text = omega (arith, n.text);
          rows₁ = omega (arith, m.rows);
          room = omega (arith, n.rows, first.rows, second.rows, z.rows x, z.rows y);
          end = omega (arith, m.text, second.text, z.text y);
        }

-- the run over what is made of the node
module _ {g : E → E} (z : Step g) {w : List ℕ} {t : Bytes} {i base l : ℕ} {p : Place} {o b : List ℕ} (f : Fork w t i base l p o b) {a : Option Place} {q : Place} {o₁ : List ℕ} (b₁ : List ℕ) (e : a ≡ Some q)
    (c : (r : Expr Span) → At w i r → KeptAnswer a p (g (resolve t (low r))) o o₁ b b₁) where
  pub raise_ready : length o₁ ≡ length o → Areas o b → Raisable w base i p q o₁
  raise_ready lo h = let r = f.ready.tree in let x = f.ready.at in run_raisable g z.over t r (kept_done _ _ _ _ _ _ e (c r x)) (z.rows _) base x (f.run r x) f.ready.fits lo h.words

  pub raised : (r : Expr Span) → At w i r → (m : Option Place) (o₂ : List ℕ) → RaisedAnswer m q p (ups r) o₁ o₂ → KeptAnswer m p (g (resolve t r)) o o₂ b b₁
  raised r x m o₂ h = run_kept g z.over t r (kept_done _ _ _ _ _ _ e (c r x)) m o₂ h
