-- The two children of a row, walked one after the other. Assumes nothing.
use Rattle.std.specs.Prelude.{None, Option}
use mathlib.Core.Path.{◌≡◌, refl, sym, ap, subst, ◌∙◌}
use mathlib.Core.List.{List}
use mathlib.Core.Logic.{◌⊎◌, inl, inr}
use Prim.Native.Nat.{ℕ, ◌+◌, ◌-◌, ◌/◌, ◌≤◌, ◌<◌}
use native.Mathlib.Omega.{arith}
use lib.ListN.{length}
use Rattle.grammar.specs.Numbers.{row_width}
use Rattle.grammar.specs.Basic.{Bytes}
use Rattle.grammar.specs.Tree.{Bin, Expr, E, bin, bin_kind, size}
use Rattle.grammar.specs.Rows.{Span}
use Rattle.grammar.specs.Text.{resolve}
use Rattle.grammar.specs.Table.{Table, resolve_table}
use Rattle.rows.specs.Rows.{At}
use Rattle.rows.proofs.Views.{TwoView}
use Rattle.writing.specs.declared.Place.{Place}
use Rattle.writing.specs.Writes.{Areas, Room, Fits, Written, RowAnswer, Answer}
use Rattle.writing.proofs.Trees.{full_not, written_out, written_room, bin_tree, fits_left, fits_right}
use Rattle.skipper.specs.Lends.{Lent}
use Rattle.skipper.specs.Skips.{Settles, Rising}
use Rattle.skipper.proofs.Skipping.{skipped, settles_first, settles_second}

-- what step 2 makes of the tree at row i, whatever that is, stands from p to q
abbrev pub Walked : (rules rows : List ℕ) → Bytes → (m w : List ℕ) → Bytes → ℕ → (q p : Place) → (o o₁ b b₁ : List ℕ) → Type 0
Walked rules rows g m w s i q p o o₁ b b₁ = (u : Table Span) (x : Expr Span) → Lent rules rows u → At w i x → Settles (resolve_table g u) m (resolve s x) → Written q p (skipped (resolve_table g u) (resolve s x)) o o₁ b b₁

abbrev pub Walks : Type 1
Walks = ℕ → (q p : Place) → (o o₁ b b₁ : List ℕ) → Type 0

-- W says that the tree at a row was walked; the left child is at row `left`, the right one at the row before `base`
pub record First (left base : ℕ) (p : Place) (o₀ b₀ o b : List ℕ) (child next : ℕ) (q : Place) : Type 0 where
  pub row : child ≡ left
  pub after : next + 1 ≡ base
  pub is : q ≡ p
  pub words : o ≡ o₀
  pub bytes : b ≡ b₀

pub record Second (W : Walks) (left base : ℕ) (p : Place) (o₀ b₀ o b : List ℕ) (child next : ℕ) (q : Place) : Type 0 where
  pub row : child + 1 ≡ base
  pub after : next ≡ base
  pub walked : W left q p o₀ o b₀ b

pub record Both (W : Walks) (left base : ℕ) (p : Place) (o₀ b₀ o b : List ℕ) (child : ℕ) (q : Place) : Type 0 where
  pub row : child ≡ base
  pub mid : Place
  pub words : List ℕ
  pub bytes : List ℕ
  pub first : W left mid p o₀ words b₀ bytes
  pub second : W (base - 1) q mid words o bytes b

-- before the left child, between the two, after both
pub record Forking (W : Walks) (left base : ℕ) (p : Place) (o₀ b₀ o b : List ℕ) (child next : ℕ) (q : Place) : Type 0 where
  pub same_words : length o ≡ length o₀
  pub same_bytes : length b ≡ length b₀
  pub stage : First left base p o₀ b₀ o b child next q ⊎ (Second W left base p o₀ b₀ o b child next q ⊎ Both W left base p o₀ b₀ o b child q)

pub forking_none : (W : Walks) {left base next : ℕ} {p : Place} {o b : List ℕ} → next + 1 ≡ base → Forking W left base p o b o b left next p
forking_none W h = record { same_words = refl; same_bytes = refl; stage = inl (record { row = refl; after = h; is = refl; words = refl; bytes = refl }) }

module _ {W : Walks} {left base : ℕ} {p : Place} {o₀ b₀ o b : List ℕ} {child next : ℕ} {q : Place} (f : Forking W left base p o₀ b₀ o b child next q) where
  pub forking_less : left + 1 < base → child < base → child < next
  forking_less l h = go f.stage
    where
      go : First left base p o₀ b₀ o b child next q ⊎ (Second W left base p o₀ b₀ o b child next q ⊎ Both W left base p o₀ b₀ o b child q) → child < next
      go (inl x) = omega (arith, x.row, x.after)
      go (inr (inl x)) = omega (arith, x.row, x.after)
      go (inr (inr x)) = omega (arith, x.row)

  pub forking_more : {s : Place} {o₁ b₁ : List ℕ} → child < base → length o₁ ≡ length o → length b₁ ≡ length b → W child s q o o₁ b b₁ → Forking W left base p o₀ b₀ o₁ b₁ next base s
  forking_more {s} {o₁} {b₁} h c d k = record { same_words = c ∙ f.same_words; same_bytes = d ∙ f.same_bytes; stage = go f.stage }
    where
      go : First left base p o₀ b₀ o b child next q ⊎ (Second W left base p o₀ b₀ o b child next q ⊎ Both W left base p o₀ b₀ o b child q) → First left base p o₀ b₀ o₁ b₁ next base s ⊎ (Second W left base p o₀ b₀ o₁ b₁ next base s ⊎ Both W left base p o₀ b₀ o₁ b₁ next s)
      go (inl x) = inr (inl (record { row = x.after; after = refl; walked = rw (x.row, x.is, x.words, x.bytes) at k }))
      go (inr (inl x)) = let e : child ≡ base - 1 = omega (arith, x.row) in inr (inr (record { row = x.after; mid = q; words = o; bytes = b; first = x.walked; second = rw e at k }))
      go (inr (inr x)) = absurd (omega (arith, x.row))

  pub forking_all : base ≤ child → left + 1 < base → Both W left base p o₀ b₀ o b child q
  forking_all h l = go f.stage
    where
      go : First left base p o₀ b₀ o b child next q ⊎ (Second W left base p o₀ b₀ o b child next q ⊎ Both W left base p o₀ b₀ o b child q) → Both W left base p o₀ b₀ o b child q
      go (inl x) = absurd (omega (arith, x.row))
      go (inr (inl x)) = absurd (omega (arith, x.row))
      go (inr (inr x)) = x

-- the child that is walked next
pub record Child (t : Table Bytes) (m w : List ℕ) (s : Bytes) (i n : ℕ) : Type 0 where
  pub tree : Expr Span
  pub at : At w i tree
  pub settles : Settles t m (resolve s tree)
  pub least : size tree + 2 ≤ n

module _ {W : Walks} {left base : ℕ} {p : Place} {o₀ b₀ o b : List ℕ} {child next : ℕ} {q₀ : Place} (f : Forking W left base p o₀ b₀ o b child next q₀) {t : Table Bytes} {m w : List ℕ} (s : Bytes) {k x y n : ℕ} {r : Expr Span} (v : TwoView w base k x y n r) (l : At w left v.left) (st : Settles t m (resolve s r)) (h : child < base) where
  pub forking_child : Child t m w s child (size r)
  forking_child = go f.stage
    where
      go : First left base p o₀ b₀ o b child next q₀ ⊎ (Second W left base p o₀ b₀ o b child next q₀ ⊎ Both W left base p o₀ b₀ o b child q₀) → Child t m w s child (size r)
      go (inl z) = record { tree = v.left; at = subst (λ (i : ℕ). At w i v.left) (sym z.row) l; settles = settles_first s v st; least = omega (arith, ap size v.is, v.least_right) }
      go (inr (inl z)) = let e : base - 1 ≡ child = omega (arith, z.row) in record { tree = v.right; at = subst (λ (i : ℕ). At w i v.right) e v.at_right; settles = settles_second s v st; least = omega (arith, ap size v.is, v.least_left) }
      go (inr (inr z)) = absurd (omega (arith, z.row))

  module _ (g : (q : Place) (o₁ b₁ : List ℕ) → W left q p o₀ o₁ b₀ b₁ → Written q p (skipped t (resolve s v.left)) o₀ o₁ b₀ b₁) where
    pub forking_room : Room p o₀ b₀ → Room q₀ o b
    forking_room d = go f.stage
      where
        go : First left base p o₀ b₀ o b child next q₀ ⊎ (Second W left base p o₀ b₀ o b child next q₀ ⊎ Both W left base p o₀ b₀ o b child q₀) → Room q₀ o b
        go (inl z) = rw (z.is, z.words, z.bytes) d
        go (inr (inl z)) = written_room (g q₀ o b z.walked) d.areas
        go (inr (inr z)) = absurd (omega (arith, z.row))

    pub forking_full : {a : Option Place} (o₁ b₁ : List ℕ) → ((c : Expr Span) → At w child c → Settles t m (resolve s c) → Answer a q₀ (skipped t (resolve s c)) o o₁ b b₁) → a ≡ None → Fits p (bin v.op (skipped t (resolve s v.left)) (skipped t (resolve s v.right))) o₀ b₀ → ⊥
    forking_full {a} o₁ b₁ c d e = go f.stage
      where
        go : First left base p o₀ b₀ o b child next q₀ ⊎ (Second W left base p o₀ b₀ o b child next q₀ ⊎ Both W left base p o₀ b₀ o b child q₀) → ⊥
        go (inl z) =
            let j : At w child v.left = subst (λ (i : ℕ). At w i v.left) (sym z.row) l in
            full_not q₀ (skipped t (resolve s v.left)) o o₁ b b₁ d (c v.left j (settles_first s v st)) (rw (z.is, z.words, z.bytes) (fits_left e))
        go (inr (inl z)) =
            let i : base - 1 ≡ child = omega (arith, z.row) in
            let j : At w child v.right = subst (λ (i : ℕ). At w i v.right) i v.at_right in
            full_not q₀ (skipped t (resolve s v.right)) o o₁ b b₁ d (c v.right j (settles_second s v st)) (fits_right (g q₀ o b z.walked) e)
        go (inr (inr z)) = absurd (omega (arith, z.row))

-- there is room for their row
pub forking_rising : {q s p : Place} {c e : E} {o o₁ o₂ b b₁ b₂ v : List ℕ} {base root : ℕ} → Written q p c o o₁ b b₁ → Written s q e o₁ o₂ b₁ b₂ → Areas o b → (base ≤ root) × (root < length v / row_width) → Rising v base root p s o₂
forking_rising w x a l = record {
  order = l.0;
  inside = l.1;
  after = omega (arith, w.rows, x.rows);
  room = omega (arith, x.rows, x.fits.rows, written_out x);
  words = omega (arith, a.words, written_out w, written_out x);
}

-- their row over both
pub forking_done : {q s p : Place} {v c e : E} {u : Bin} {o o₁ o₂ b b₁ b₂ : List ℕ} → v ≡ bin u c e → Written q p c o o₁ b b₁ → Written s q e o₁ o₂ b₁ b₂ → (a : Option Place) (k : ℕ) (o₃ : List ℕ) → k ≡ bin_kind u → RowAnswer a s (k, 0, 0) (s.rows - p.rows + 1) o₂ o₃ → Answer a p v o o₃ b b₂
forking_done {q} {s} {p} {v} {c} {e} {u} g w x a k o₃ l r =
    let n : s.rows - p.rows + 1 ≡ size c + size e + 1 = omega (arith, w.rows, x.rows) in
    rw g (bin_tree w x a u (k, 0, 0) (s.rows - p.rows + 1) o₃ (ap (λ (i : ℕ). (i, 0, 0)) l) n r)
