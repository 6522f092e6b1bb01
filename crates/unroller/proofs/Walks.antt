-- A subtree that was read is unrolled by what its parts' walks answer. Assumes nothing.
use Rattle.std.specs.Prelude.{None, Option, Some}
use mathlib.Core.Path.{◌≡◌, refl, sym, ap, subst, ◌∙◌}
use mathlib.Core.Bool.{Bool, true, false, ◌||◌, false≢true}
use mathlib.Core.List.{List}
use Prim.Native.Nat.{ℕ, ◌+◌, ◌-◌, ◌/◌, ◌^◌, ◌≤◌, ◌<◌}
use native.Mathlib.Omega.{arith}
use lib.ListN.{length}
use Rattle.grammar.specs.Numbers.{k_pair}
use Rattle.grammar.specs.Basic.{Bytes}
use Rattle.grammar.specs.Tree.{Expr, E, bin, size, any_node}
use Rattle.grammar.specs.Rows.{Span}
use Rattle.grammar.specs.Text.{bytes_at, resolve}
use Rattle.grammar.specs.Steps.{unroll}
use Rattle.grammar.specs.Refusals.{zero_count}
use Rattle.rows.specs.declared.Row.{Row}
use Rattle.rows.specs.declared.Shape.{Shape}
use Rattle.rows.specs.declared.Shape.TheVariants.{One, Two}
use Rattle.rows.specs.Rows.{At, row_at, kind_at, size_at, shape_of}
use Rattle.rows.proofs.Laws.{Found, row_found, root}
use Rattle.rows.proofs.Views.{LitView, NumView, TwoView, SkipView, as_two, bin_half, pair_left, at_unique}
use Rattle.writing.specs.declared.Place.{Place}
use Rattle.writing.specs.Writes.{Areas, Room, RowAnswer, LitAnswer, Fits, Written, Answer}
use Rattle.writing.proofs.Trees.{done_written, full_not, written_out, written_room, lit_tree, fixed_tree, bin_tree, fits_left, fits_right}
use Rattle.unroller.specs.Items.{Counted}

-- ---- counts

pub or_false : (a b : Bool) → (a || b) ≡ false → (a ≡ false) × (b ≡ false)
or_false true b h = absurd (false≢true (sym h))
or_false false b h = (refl, h)

-- whatever tree stands there
pub counted_any : {w : List ℕ} {i : ℕ} {r : Expr Span} → Counted w i → At w i r → any_node zero_count r ≡ false
counted_any {r} c a = subst (λ (s : Expr Span). any_node zero_count s ≡ false) (at_unique c.tree r c.at a) c.counts

-- ---- leaves

module _ (t : Bytes) {k x y n : ℕ} {r : Expr Span} where
  pub unrolled_lit : (a : Option Place) (p : Place) (o o' b b' : List ℕ) → LitView k x y n r → LitAnswer a p k (bytes_at t (x, y)) o o' b b' → Answer a p (unroll (resolve t r)) o o' b b'
  unfolding unroll
  unrolled_lit a p o o' b b' v h = rw v.is (lit_tree a p v.op (bytes_at t (x, y)) o o' b b' (rw v.kind at h))

  pub unrolled_num : (a : Option Place) (p : Place) (o o' b : List ℕ) → NumView k x y n r → p.text ≤ length b → RowAnswer a p (k, x, y) 1 o o' → Answer a p (unroll (resolve t r)) o o' b b
  unfolding unroll
  unrolled_num a p o o' b v l h = rw v.is (fixed_tree a p v.op (k, x, y) o o' b v.head l h)

  pub unrolled_skip : {w : List ℕ} {i : ℕ} (a : Option Place) (p : Place) (o o' b b' : List ℕ) → SkipView w i k x y n r → Answer a p (resolve t r) o o' b b' → Answer a p (unroll (resolve t r)) o o' b b'
  unfolding unroll
  unrolled_skip a p o o' b b' v h = rw v.is (rw v.is at h)

-- ---- the kind of a row that was read

pub one_kind : (w : List ℕ) (i : ℕ) {a : Option Row} {r : Row} {s : Shape} → a ≡ row_at w i → a ≡ Some r → s ≡ shape_of r.kind → s ≡ One → shape_of (kind_at w i) ≡ One
one_kind w i d f g h = ap shape_of (row_found (sym d ∙ f)).kind ∙ sym g ∙ h

-- ---- two children

-- row i, of kind k, has two children; the root of the left one is row l
pub record Forked (w : List ℕ) (i l k x y n : ℕ) : Type 0 where
  found : Found w i k x y n
  two : shape_of k ≡ Two
  left : l ≡ i - 1 - size_at w (i - 1)

module _ {w : List ℕ} {i : ℕ} {a : Option Row} {r : Row} {s : Shape} (d : a ≡ row_at w i) (f : a ≡ Some r) (g : s ≡ shape_of r.kind) (h : s ≡ Two) where
  pub half_kind : {e : Expr Span} → At w i e → kind_at w i / 2 ≡ k_pair
  half_kind b = let v = as_two (row_found (sym d ∙ f)) b (sym g ∙ h) in bin_half v.op ((row_found (sym d ∙ f)).kind ∙ v.kind)

  pub forked : {l : ℕ} → l ≡ i - 1 - size_at w (i - 1) → Forked w i l r.kind r.x r.y r.size
  forked e = record { found = row_found (sym d ∙ f); two = sym g ∙ h; left = e }

module _ {w : List ℕ} {i l k x y n : ℕ} (f : Forked w i l k x y n) where
  sides : {r : Expr Span} → At w i r → TwoView w i k x y n r
  sides a = as_two f.found a f.two

  at_left : {r : Expr Span} (a : At w i r) → At w l (sides a).left
  at_left a = pair_left (sides a) f.left

  counts_two : {r : Expr Span} (a : At w i r) → any_node zero_count r ≡ false → (any_node zero_count (sides a).left ≡ false) × (any_node zero_count (sides a).right ≡ false)
  counts_two a z = let v = sides a in or_false (any_node zero_count v.left) (any_node zero_count v.right) (rw v.is at z)

  pub left_counted : Counted w i → Counted w l
  left_counted c = record { tree = (sides c.at).left; at = at_left c.at; counts = (counts_two c.at c.counts).0 }

  pub right_counted : Counted w i → Counted w (i - 1)
  right_counted c = record { tree = (sides c.at).right; at = (sides c.at).at_right; counts = (counts_two c.at c.counts).1 }

  -- both sides are smaller
  pub left_less : {r : Expr Span} → At w i r → size_at w l < size_at w i
  left_less a = let v = sides a in omega (arith, (root (at_left a)).rows, (root a).rows, v.rows, f.found.rows)

  pub right_less : {r : Expr Span} → At w i r → (size_at w (i - 1) < size_at w i) × (1 ≤ i)
  right_less a = let v = sides a in (omega (arith, (root v.at_right).rows, (root a).rows, v.rows, f.found.rows), omega (arith, v.most, v.least_left))

  module _ (t : Bytes) where
    abbrev first : {r : Expr Span} → At w i r → E
    first a = unroll (resolve t (sides a).left)

    abbrev second : {r : Expr Span} → At w i r → E
    second a = unroll (resolve t (sides a).right)

    two_is : {r : Expr Span} (v : TwoView w i k x y n r) → unroll (resolve t r) ≡ bin v.op (unroll (resolve t v.left)) (unroll (resolve t v.right))
    unfolding unroll
    two_is v = rw v.is

    module _ (h₁ : Option Place) (p : Place) (o o₁ b b₁ : List ℕ) (c₁ : (e : Expr Span) → At w l e → Answer h₁ p (unroll (resolve t e)) o o₁ b b₁) where
      done₁ : {q : Place} → h₁ ≡ Some q → {r : Expr Span} (a : At w i r) → Written q p (first a) o o₁ b b₁
      done₁ d a = done_written p _ o o₁ b b₁ d (c₁ (sides a).left (at_left a))

      pub two_full₁ : h₁ ≡ None → {r : Expr Span} → At w i r → Fits p (unroll (resolve t r)) o b → ⊥
      two_full₁ d a f = full_not p (first a) o o₁ b b₁ d (c₁ (sides a).left (at_left a)) (fits_left (rw (two_is (sides a)) at f))

      pub two_room : {q : Place} → h₁ ≡ Some q → {r : Expr Span} → At w i r → Areas o b → Room q o₁ b₁
      two_room d a = written_room (done₁ d a)

      module _ {q : Place} (d₁ : h₁ ≡ Some q) (h₂ : Option Place) (o₂ b₂ : List ℕ) (c₂ : (e : Expr Span) → At w (i - 1) e → Answer h₂ q (unroll (resolve t e)) o₁ o₂ b₁ b₂) where
        done₂ : {s : Place} → h₂ ≡ Some s → {r : Expr Span} (a : At w i r) → Written s q (second a) o₁ o₂ b₁ b₂
        done₂ d a = done_written q _ o₁ o₂ b₁ b₂ d (c₂ (sides a).right (sides a).at_right)

        pub two_full₂ : h₂ ≡ None → {r : Expr Span} → At w i r → Fits p (unroll (resolve t r)) o b → ⊥
        two_full₂ d a f = full_not q (second a) o₁ o₂ b₁ b₂ d (c₂ (sides a).right (sides a).at_right) (fits_right (done₁ d₁ a) (rw (two_is (sides a)) at f))

        -- the size of the node
        two_size : {s : Place} → h₂ ≡ Some s → {r : Expr Span} (a : At w i r) → s.rows - p.rows + 1 ≡ size (first a) + size (second a) + 1
        two_size d a = omega (arith, (done₁ d₁ a).rows, (done₂ d a).rows)

        -- there is room to count its rows
        pub two_over : {s : Place} → h₂ ≡ Some s → {r : Expr Span} → At w i r → Areas o b → (p.rows ≤ s.rows) × (s.rows + 1 < 2 ^ 32)
        two_over d a g =
            let u = done₁ d₁ a in
            let v = done₂ d a in
            (omega (arith, u.rows, v.rows), omega (arith, g.words, v.rows, v.fits.rows, written_out u))

        pub two_node : (z : Option Place) {s : Place} (o₃ : List ℕ) → h₂ ≡ Some s → RowAnswer z s (k, x, y) (s.rows - p.rows + 1) o₂ o₃ → {r : Expr Span} → At w i r → Answer z p (unroll (resolve t r)) o o₃ b b₂
        two_node z {s} o₃ d u a =
            rw (two_is (sides a)) (bin_tree (done₁ d₁ a) (done₂ d a) z (sides a).op (k, x, y) (s.rows - p.rows + 1) o₃ (sides a).head (two_size d a) u)
