-- Up a run of nodes with one child each: what stands so far, row by row. Assumes nothing.
use Rattle.std.specs.Prelude.{None, Option, Some}
use mathlib.Core.Path.{◌≡◌, refl, sym, ap, subst, ◌∙◌}
use mathlib.Core.Bool.{Bool, false}
use mathlib.Core.List.{List, [], ◌∷◌}
use Prim.Native.Nat.{ℕ, zero, suc, ◌+◌, ◌-◌, ◌≤◌, ◌<◌}
use native.Mathlib.Omega.{arith}
use lib.ListN.{length}
use Rattle.grammar.specs.Basic.{Bytes}
use Rattle.grammar.specs.Tree.{Head, Un, Expr, E, lit, fixed, skip, un, bin, un_head}
use Rattle.grammar.specs.Rows.{Span}
use Rattle.grammar.specs.Text.{resolve}
use Rattle.grammar.specs.Table.{Table}
use Rattle.grammar.specs.Steps.{restore}
use Rattle.rows.specs.Rows.{At, kind_at, shape_of}
use Rattle.rows.specs.declared.Shape.TheVariants.{One}
use Rattle.rows.proofs.Laws.{Found, root, root_found, at_un}
use Rattle.rows.proofs.Views.{found_head, found_shape, at_unique}
use Rattle.writing.specs.Writes.{Fits, Written}
use Rattle.writing.specs.declared.Place.{Place}
use Rattle.writing.proofs.Trees.{fits_un}
use Rattle.chains.specs.Runs.{ups, low}
use Rattle.chains.proofs.Runs.{low_not, low_at}
use Rattle.restorer.specs.Restores.{is_guard, guarded_if, climbed, Shown, RestoredAnswer, Over, NodeAnswer, OverAnswer, Becomes, Climbable}
use Rattle.restorer.proofs.Showing.{restore_un, guarded_not, fits_guarded}
use Rattle.restorer.proofs.Restores.{node_un}

-- ---- an answer that is known

shown_of : {a : Option (Place × Bool)} {q : Place} {b : Bool} (p : Place) (t : Table Bytes) (e : E) (o o' l l' : List ℕ) → a ≡ Some (q, b) → RestoredAnswer a p t e o o' l l' → Shown q p b t e o o' l l'
shown_of p t e o o' l l' h w = subst (λ (z : Option (Place × Bool)). RestoredAnswer z p t e o o' l l') h w

no_room : {a : Option (Place × Bool)} (p : Place) (t : Table Bytes) (e : E) (o o' l l' : List ℕ) → a ≡ None → RestoredAnswer a p t e o o' l l' → Fits p e o l → ⊥
no_room p t e o o' l l' h w = subst (λ (z : Option (Place × Bool)). RestoredAnswer z p t e o o' l l') h w

-- ---- a row over what stands

pub over_told : {a : Option (Place × Bool)} {s : Place} {c : Bool} (p : Place) (o : List ℕ) → a ≡ Some (s, c) → OverAnswer a p o → Over p s o
over_told p o e v = subst (λ (z : Option (Place × Bool)). OverAnswer z p o) e v

-- a row with one child, which is guarded where the row guards
module _ (u : Un) {k x y : ℕ} (d : (k, x, y) ≡ un_head u) (g : Bool) (h : g ≡ is_guard k) (t : Table Bytes) (e : E) where
  same : g ≡ is_guard (un_head u).0
  same = h ∙ ap (λ (z : Head). is_guard z.0) d

  pub over_full : {p : Place} {o l : List ℕ} → (Fits p (guarded_if t g e) o l → ⊥) → Fits p (un u (guarded_if t (is_guard (un_head u).0) e)) o l → ⊥
  over_full {p} {o} {l} n f = n (fits_un (subst (λ (z : Bool). Fits p (un u (guarded_if t z e)) o l) (sym same) f))

  pub over_done : {s p : Place} {c : Bool} {o o₁ l l₁ : List ℕ} (a : Option (Place × Bool)) (o₂ : List ℕ) → Shown s p c t (guarded_if t g e) o o₁ l l₁ → NodeAnswer a p s (k, x, y) c o₁ o₂ → RestoredAnswer a p t (un u (guarded_if t (is_guard (un_head u).0) e)) o o₂ l l₁
  over_done {p = p} {o = o} {l = l} {l₁ = l₁} a o₂ w n = subst (λ (z : Bool). RestoredAnswer a p t (un u (guarded_if t z e)) o o₂ l l₁) same (node_un w a u (k, x, y) o₂ d n)

-- ---- a restored tree is its run over the restored tree below

pub restore_run : (t : Table Bytes) (s : Bytes) (r : Expr Span) → restore t (resolve s r) ≡ climbed t (ups r) (restore t (resolve s (low r)))
restore_run t s (lit k x) = refl
restore_run t s (fixed f) = refl
restore_run t s (skip ss) = refl
restore_run t s (un u r) = restore_un t u (resolve s r) ∙ ap (λ (e : E). un u (guarded_if t (is_guard (un_head u).0) e)) (restore_run t s r)
restore_run t s (bin b l r) = refl

fits_climbed : (t : Table Bytes) (us : List Un) (e : E) {p : Place} {o l : List ℕ} → Fits p (climbed t us e) o l → Fits p e o l
fits_climbed t [] e f = f
fits_climbed t (u ∷ us) e f = fits_climbed t us e (fits_guarded t _ _ (fits_un f))

-- the tree below does not fit, so the run over it does not
pub low_full : (t : Table Bytes) (g : Bool) (s : Bytes) (r : Expr Span) {p : Place} {o l : List ℕ} → (Fits p (restore t (resolve s (low r))) o l → ⊥) → Fits p (guarded_if t g (restore t (resolve s r))) o l → ⊥
low_full t g s r {p} {o} {l} n f = n (fits_climbed t (ups r) _ (subst (λ (e : E). Fits p e o l) (restore_run t s r) (fits_guarded t g _ f)))

-- ---- up a run

-- the tree at row j of the run of the tree r
record Under (w : List ℕ) (base j : ℕ) (r : Expr Span) : Type 0 where
  tree : Expr Span
  at : At w j tree
  run : base + length (ups tree) ≡ j
  fits : (t : Table Bytes) (e : E) (p : Place) (o l : List ℕ) → Fits p (climbed t (ups r) e) o l → Fits p (climbed t (ups tree) e) o l

under : {w : List ℕ} {i base : ℕ} (r : Expr Span) → At w i r → base + length (ups r) ≡ i → (k j : ℕ) → base ≤ j → j + k ≡ i → Under w base j r
under {w} r a h zero j b e = record { tree = r; at = subst (λ (n : ℕ). At w n r) (omega arith) a; run = omega arith; fits = λ t e p o l f. f }
under (lit x s) a h (suc k) j b e = absurd (omega arith)
under (fixed f) a h (suc k) j b e = absurd (omega arith)
under (skip ss) a h (suc k) j b e = absurd (omega arith)
under (bin c l r) a h (suc k) j b e = absurd (omega arith)
under {i = i} (un u r) a h (suc k) j b e =
    let n = under {i = i - 1} r (at_un a) (omega arith) k j b (omega arith) in
    record { tree = n.tree; at = n.at; run = n.run; fits = λ t e p o l f. n.fits t e p o l (fits_guarded t _ _ (fits_un f)) }

-- the rows after `base` up to row i stand
pub record Up (w o₀ : List ℕ) (base root : ℕ) (p q : Place) (b₀ : Bool) (o : List ℕ) (s : Place) (b : Bool) (i : ℕ) : Type 0 where
  pub low : base ≤ i
  pub high : i ≤ root
  pub same : length o ≡ length o₀
  pub over : Over p s o
  pub kept : (r : Expr Span) → At w i r → base + length (ups r) ≡ i → Becomes (Some (s, b)) q p b₀ (λ t e. climbed t (ups r) e) o₀ o

climbed_none : (t : Table Bytes) (us : List Un) (e : E) → length us ≡ 0 → e ≡ climbed t us e
climbed_none t [] e h = refl
climbed_none t (u ∷ us) e h = absurd (omega arith)

pub up_none : {w o₀ : List ℕ} {base root : ℕ} {p q : Place} {b₀ : Bool} → base ≤ root → Over p q o₀ → Up w o₀ base root p q b₀ o₀ q b₀ base
up_none {o₀ = o₀} {p = p} {q = q} {b₀ = b₀} h v = record {
  low = omega arith;
  high = h;
  same = refl;
  over = v;
  kept = λ r a n t e o l l₁ w. subst (λ (z : E). Shown q p b₀ t z o o₀ l l₁) (climbed_none t (ups r) e (omega arith)) w;
}

module _ {w o₀ : List ℕ} {base root : ℕ} {p q : Place} {b₀ : Bool} {o : List ℕ} {s : Place} {b : Bool} {i : ℕ} (u : Up w o₀ base root p q b₀ o s b i) where
  -- the next row was put, or did not fit
  module _ {k x y n : ℕ} (o₁ : List ℕ) (g : Found w (i + 1) k x y n) (a : Option (Place × Bool)) (f : (v : Un) → (k, x, y) ≡ un_head v → Becomes a s p b (λ t e. un v (guarded_if t (is_guard (un_head v).0) e)) o o₁) where
    next : (r : Expr Span) → At w (i + 1) r → base + length (ups r) ≡ i + 1 → Becomes a q p b₀ (λ t e. climbed t (ups r) e) o₀ o₁
    next (lit j z) c h = absurd (omega (arith, u.low))
    next (fixed z) c h = absurd (omega (arith, u.low))
    next (skip ss) c h = absurd (omega (arith, u.low))
    next (bin j l r) c h = absurd (omega (arith, u.low))
    next (un v r) c h = λ t e o₂ l l₁ m.
        let d : At w i r = subst (λ (n : ℕ). At w n r) (omega arith) (at_un c) in
        f v (found_head g c) t (climbed t (ups r) e) o₂ l l₁ (u.kept r d (omega arith) t e o₂ l l₁ m)

    pub up_more : {z : Place} {c : Bool} → i < root → a ≡ Some (z, c) → OverAnswer a p o₁ → length o₁ ≡ length o → Up w o₀ base root p q b₀ o₁ z c (i + 1)
    up_more h e v m = record {
      low = omega (arith, u.low);
      high = omega arith;
      same = m ∙ u.same;
      over = over_told p o₁ e v;
      kept = λ r c d t x o₂ l l₁ y. shown_of p t _ o₂ o₁ l l₁ e (next r c d t x o₂ l l₁ y);
    }

    pub up_full : i < root → a ≡ None → Climbable w base root → (r : Expr Span) → At w root r → Becomes None q p b₀ (λ t e. climbed t (ups r) e) o₀ o₁
    up_full h e z r c t x o₂ l l₁ y j =
        let d : base + length (ups r) ≡ root = rw (at_unique r z.tree c z.at) z.run in
        let v = under r c d (root - (i + 1)) (i + 1) (omega (arith, u.low)) (omega arith) in
        no_room p t _ o₂ o₁ l l₁ e (next v.tree v.at v.run t x o₂ l l₁ y) (v.fits t x p o₂ l j)

  -- at the top of the run
  pub up_all : i ≡ root → Climbable w base root → (r : Expr Span) → At w root r → Becomes (Some (s, b)) q p b₀ (λ t e. climbed t (ups r) e) o₀ o
  up_all e z r c =
      let d : base + length (ups r) ≡ root = rw (at_unique r z.tree c z.at) z.run in
      u.kept r (subst (λ (n : ℕ). At w n r) (sym e) c) (omega arith)

-- ---- a run over the restored tree below it

-- the row below a run has not one child
pub low_kind : {w : List ℕ} {i : ℕ} (r : Expr Span) → At w i r → (j : ℕ) → j + length (ups r) ≡ i → shape_of (kind_at w j) ≡ One → ⊥
low_kind r a j e h = let b = low_at r a j e in low_not r (found_shape (root_found b) b (ap shape_of (sym (root b).kind) ∙ h))

pub climb_restored : (a : Option (Place × Bool)) {q p : Place} {b : Bool} {t : Table Bytes} (g : Bool) (s : Bytes) (r : Expr Span) {o o₁ l l₁ : List ℕ} (o₂ : List ℕ) → Shown q p b t (restore t (resolve s (low r))) o o₁ l l₁ → Becomes a q p b (λ t e. guarded_if t g (climbed t (ups r) e)) o₁ o₂ → RestoredAnswer a p t (guarded_if t g (restore t (resolve s r))) o o₂ l l₁
climb_restored a {p = p} {t = t} g s r {o} {l = l} {l₁ = l₁} o₂ w f = subst (λ (x : E). RestoredAnswer a p t (guarded_if t g x) o o₂ l l₁) (sym (restore_run t s r)) (f t (restore t (resolve s (low r))) o l l₁ w)

-- what is not guarded
pub bare_written : {q p : Place} {b : Bool} {t : Table Bytes} {e : E} {o o' l l' : List ℕ} → Shown q p b t (guarded_if t false e) o o' l l' → Written q p e o o' l l'
bare_written {t = t} {e = e} w = rw (guarded_not t false e refl) at w.written

pub bare_full : {p : Place} (t : Table Bytes) (e : E) {o l : List ℕ} → (Fits p (guarded_if t false e) o l → ⊥) → Fits p e o l → ⊥
bare_full t e n = rw (guarded_not t false e refl) at n
