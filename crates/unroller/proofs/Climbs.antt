-- Up a run of nodes with one child each: what stands so far, node by node unrolled. Assumes nothing.
use Rattle.std.specs.Prelude.{None, Option, Some}
use mathlib.Core.Path.{◌≡◌, refl, sym, ap, subst, ◌∙◌}
use mathlib.Core.Bool.{false}
use mathlib.Core.List.{List, [], ◌∷◌}
use Prim.Native.Nat.{ℕ, zero, suc, ◌+◌, ◌-◌, ◌≤◌, ◌<◌}
use native.Mathlib.Omega.{arith}
use lib.ListN.{length}
use Rattle.grammar.specs.Basic.{Bytes}
use Rattle.grammar.specs.Tree.{Un, Expr, E, lit, fixed, skip, un, bin, un_head, any_node}
use Rattle.grammar.specs.Rows.{Span}
use Rattle.grammar.specs.Text.{resolve}
use Rattle.grammar.specs.Steps.{unroll, unrolled}
use Rattle.grammar.specs.Refusals.{zero_un, zero_count}
use Rattle.rows.specs.Rows.{At, row_at, kind_at, shape_of}
use Rattle.rows.specs.declared.Shape.TheVariants.{One}
use Rattle.rows.proofs.Laws.{Found, root, root_found, root_there, at_un}
use Rattle.rows.proofs.Views.{found_head, found_shape}
use Rattle.writing.specs.declared.Place.{Place}
use Rattle.writing.specs.Writes.{Areas, Fits, Written, Answer}
use Rattle.writing.proofs.Trees.{done_written, full_not, written_out, written_lits}
use Rattle.chains.specs.Runs.{ups, low}
use Rattle.chains.proofs.Runs.{low_not, low_at}
use Rattle.unroller.specs.Items.{Counted}
use Rattle.unroller.specs.Copies.{Source, Headed}
use Rattle.unroller.specs.Climbs.{climbed, RunOver, Standing, ClimbedAnswer}
use Rattle.unroller.proofs.Lays.{written_source}
use Rattle.unroller.proofs.Nodes.{unrolled_larger, answer_over, fits_larger}
use Rattle.unroller.proofs.Walks.{or_false, counted_any}

-- ---- an unrolled tree is its run, unrolled over the unrolled tree below

pub unroll_run : (t : Bytes) (r : Expr Span) → unroll (resolve t r) ≡ climbed (ups r) (unroll (resolve t (low r)))
unfolding unroll
unroll_run t (lit k x) = refl
unroll_run t (fixed f) = refl
unroll_run t (skip ss) = refl
unroll_run t (un u r) = ap (λ (e : E). unrolled u e) (unroll_run t r)
unroll_run t (bin b l r) = refl

fits_climbed : (r : Expr Span) → any_node zero_count r ≡ false → (e : E) {p : Place} {o t : List ℕ} → Fits p (climbed (ups r) e) o t → Fits p e o t
fits_climbed (lit k x) z e f = f
fits_climbed (fixed g) z e f = f
fits_climbed (skip ss) z e f = f
fits_climbed (un u r) z e f = let c = or_false (zero_un u) (any_node zero_count r) z in fits_climbed r c.1 e (fits_larger (unrolled_larger u _ c.0) f)
fits_climbed (bin b l r) z e f = f

-- ---- up a run

-- the tree at row j of the run of the tree r
record Under (w : List ℕ) (base j : ℕ) (r : Expr Span) : Type 0 where
  tree : Expr Span
  at : At w j tree
  run : base + length (ups tree) ≡ j
  counts : any_node zero_count tree ≡ false
  fits : (e : E) (p : Place) (o t : List ℕ) → Fits p (climbed (ups r) e) o t → Fits p (climbed (ups tree) e) o t

under : {w : List ℕ} {i base : ℕ} (r : Expr Span) → At w i r → any_node zero_count r ≡ false → base + length (ups r) ≡ i → (k j : ℕ) → base ≤ j → j + k ≡ i → Under w base j r
under {w} r a z h zero j b e = record { tree = r; at = subst (λ (n : ℕ). At w n r) (omega arith) a; run = omega arith; counts = z; fits = λ e p o t f. f }
under (lit x s) a z h (suc k) j b e = absurd (omega arith)
under (fixed f) a z h (suc k) j b e = absurd (omega arith)
under (skip ss) a z h (suc k) j b e = absurd (omega arith)
under (bin c l r) a z h (suc k) j b e = absurd (omega arith)
under {i = i} (un u r) a z h (suc k) j b e =
    let c = or_false (zero_un u) (any_node zero_count r) z in
    let n = under {i = i - 1} r (at_un a) c.1 (omega arith) k j b (omega arith) in
    record { tree = n.tree; at = n.at; run = n.run; counts = n.counts; fits = λ e p o t f. n.fits e p o t (fits_larger (unrolled_larger u _ c.0) f) }

-- the rows after `base` up to row i stand
pub record Up (w o₀ t₀ : List ℕ) (base root : ℕ) (p q : Place) (o t : List ℕ) (s : Place) (i : ℕ) : Type 0 where
  pub low : base ≤ i
  pub high : i ≤ root
  pub words : length o ≡ length o₀
  pub bytes : length t ≡ length t₀
  pub kept : (r : Expr Span) → At w i r → base + length (ups r) ≡ i → any_node zero_count r ≡ false → ClimbedAnswer (Some s) q p (ups r) o₀ o t₀ t

climbed_none : (us : List Un) (e : E) → length us ≡ 0 → e ≡ climbed us e
climbed_none [] e h = refl
climbed_none (u ∷ us) e h = absurd (omega arith)

pub up_none : {w o₀ t₀ : List ℕ} {base root : ℕ} {p q : Place} → base ≤ root → Up w o₀ t₀ base root p q o₀ t₀ q base
up_none {o₀ = o₀} {t₀ = t₀} {p = p} {q = q} h = record {
  low = omega arith;
  high = h;
  words = refl;
  bytes = refl;
  kept = λ r a n z e o t w. subst (λ (x : E). Written q p x o o₀ t t₀) (climbed_none (ups r) e (omega arith)) w;
}

module _ {w o₀ t₀ : List ℕ} {base top : ℕ} {p q : Place} {o t : List ℕ} {s : Place} {i : ℕ} (u : Up w o₀ t₀ base top p q o t s i) (c : Counted w top) (h : RunOver w base top) where
  -- the tree at the next row
  next_tree : i < top → Under w base (i + 1) c.tree
  next_tree l = under c.tree c.at c.counts (h c.tree c.at) (top - (i + 1)) (i + 1) (omega (arith, u.low)) (omega arith)

  pub up_there : i < top → row_at w (i + 1) ≡ None → ⊥
  up_there l = root_there (next_tree l).at

  pub up_headed : i < top → {k x y m : ℕ} → Found w (i + 1) k x y m → Standing q p o₀ t₀ → Headed p s (k, x, y) o t
  up_headed l {k} {x} {y} there d = let n = next_tree l in headed n.tree n.at n.run n.counts
    where
      headed : (r : Expr Span) → At w (i + 1) r → base + length (ups r) ≡ i + 1 → any_node zero_count r ≡ false → Headed p s (k, x, y) o t
      headed (lit j z) a n f = absurd (omega (arith, u.low))
      headed (fixed z) a n f = absurd (omega (arith, u.low))
      headed (skip ss) a n f = absurd (omega (arith, u.low))
      headed (bin j l r) a n f = absurd (omega (arith, u.low))
      headed (un v r) a n f =
          let b : At w i r = subst (λ (n : ℕ). At w n r) (omega arith) (at_un a) in
          let g = or_false (zero_un v) (any_node zero_count r) f in
          record {
            op = v;
            is = found_head there a;
            counts = g.0;
            tree = climbed (ups r) d.tree;
            source = written_source (u.kept r b (omega arith) g.1 d.tree d.words d.bytes d.written);
            areas = record { words = omega (arith, d.areas.words, u.words); bytes = omega (arith, d.areas.bytes, u.bytes) };
          }

  -- the next row was put, or did not fit
  module _ (l : i < top) {k x y m : ℕ} (there : Found w (i + 1) k x y m) (o₁ t₁ : List ℕ) (a : Option Place) (f : (v : Un) (e : E) → (k, x, y) ≡ un_head v → Source p s e o t → Answer a p (unrolled v e) o o₁ t t₁) where
    next : (r : Expr Span) → At w (i + 1) r → base + length (ups r) ≡ i + 1 → any_node zero_count r ≡ false → ClimbedAnswer a q p (ups r) o₀ o₁ t₀ t₁
    next (lit j z) b n x = absurd (omega (arith, u.low))
    next (fixed z) b n x = absurd (omega (arith, u.low))
    next (skip ss) b n x = absurd (omega (arith, u.low))
    next (bin j l r) b n x = absurd (omega (arith, u.low))
    next (un v r) b n z = λ e o₂ t₂ m.
        let d : At w i r = subst (λ (n : ℕ). At w n r) (omega arith) (at_un b) in
        let g = or_false (zero_un v) (any_node zero_count r) z in
        let y = u.kept r d (omega arith) g.1 e o₂ t₂ m in
        answer_over y (unrolled v (climbed (ups r) e)) (unrolled_larger v _ g.0) a o₁ t₁ (f v _ (found_head there b) (written_source y))

    pub up_more : {z : Place} → a ≡ Some z → length o₁ ≡ length o → length t₁ ≡ length t → Up w o₀ t₀ base top p q o₁ t₁ z (i + 1)
    up_more e m k = record {
      low = omega (arith, u.low);
      high = omega arith;
      words = m ∙ u.words;
      bytes = k ∙ u.bytes;
      kept = λ r b n x y o₂ t₂ v. done_written p _ o₂ o₁ t₂ t₁ e (next r b n x y o₂ t₂ v);
    }

    pub up_full : a ≡ None → (r : Expr Span) → At w top r → ClimbedAnswer None q p (ups r) o₀ o₁ t₀ t₁
    up_full e r b x o₂ t₂ y j =
        let v = under r b (counted_any c b) (h r b) (top - (i + 1)) (i + 1) (omega (arith, u.low)) (omega arith) in
        full_not p _ o₂ o₁ t₂ t₁ e (next v.tree v.at v.run v.counts x o₂ t₂ y) (v.fits x p o₂ t₂ j)

  -- at the top of the run
  pub up_all : i ≡ top → (r : Expr Span) → At w top r → ClimbedAnswer (Some s) q p (ups r) o₀ o t₀ t
  up_all e r b =
      let n = h r b in
      u.kept r (subst (λ (n : ℕ). At w n r) (sym e) b) (omega arith) (counted_any c b)

-- ---- a run over the unrolled tree below it

-- the row below a run has not one child
pub low_kind : {w : List ℕ} {i : ℕ} (r : Expr Span) → At w i r → (j : ℕ) → j + length (ups r) ≡ i → shape_of (kind_at w j) ≡ One → ⊥
low_kind r a j e h = let b = low_at r a j e in low_not r (found_shape (root_found b) b (ap shape_of (sym (root b).kind) ∙ h))

low_counts : (r : Expr Span) → any_node zero_count r ≡ false → any_node zero_count (low r) ≡ false
low_counts (lit k x) z = z
low_counts (fixed f) z = z
low_counts (skip ss) z = z
low_counts (un u r) z = low_counts r (or_false (zero_un u) (any_node zero_count r) z).1
low_counts (bin b l r) z = z

module _ {w : List ℕ} {base root : ℕ} (c : Counted w root) (h : RunOver w base root) where
  pub low_counted : Counted w base
  low_counted = record { tree = low c.tree; at = low_at c.tree c.at base (h c.tree c.at); counts = low_counts c.tree c.counts }

  module _ (t : Bytes) (p : Place) (o o₁ b b₁ : List ℕ) (a : Option Place) (f : (r : Expr Span) → At w base r → Answer a p (unroll (resolve t r)) o o₁ b b₁) where
    pub low_full : a ≡ None → (r : Expr Span) → At w root r → Fits p (unroll (resolve t r)) o b → ⊥
    low_full e r d g = full_not p _ o o₁ b b₁ e (f (low r) (low_at r d base (h r d))) (fits_climbed r (counted_any c d) _ (subst (λ (x : E). Fits p x o b) (unroll_run t r) g))

    low_done : {q : Place} → a ≡ Some q → (r : Expr Span) → At w root r → Written q p (unroll (resolve t (low r))) o o₁ b b₁
    low_done e r d = done_written p _ o o₁ b b₁ e (f (low r) (low_at r d base (h r d)))

    pub low_standing : {q : Place} → a ≡ Some q → Areas o b → Standing q p o₁ b₁
    low_standing e g =
        let d = low_done e c.tree c.at in
        record {
          tree = unroll (resolve t (low c.tree));
          words = o;
          bytes = b;
          written = d;
          areas = record { words = omega (arith, g.words, written_out d); bytes = omega (arith, g.bytes, written_lits d) };
        }

    pub run_answer : {q : Place} → a ≡ Some q → (z : Option Place) (o₂ b₂ : List ℕ) (r : Expr Span) → At w root r → ClimbedAnswer z q p (ups r) o₁ o₂ b₁ b₂ → Answer z p (unroll (resolve t r)) o o₂ b b₂
    run_answer e z o₂ b₂ r d g = subst (λ (x : E). Answer z p x o o₂ b b₂) (sym (unroll_run t r)) (g (unroll (resolve t (low r))) o b (low_done e r d))
