-- A tree in no row of which the stack can change is restored as it is. Assumes nothing.
use mathlib.Core.Path.{◌≡◌, refl, sym, ap, ap₂, ◌∙◌}
use mathlib.Core.Bool.{Bool, true, false, ◌||◌}
use mathlib.Core.List.{List}
use Prim.Native.Nat.{ℕ, ◌+◌, ◌-◌, ◌≤◌, ◌<◌}
use native.Mathlib.Omega.{arith}
use Rattle.grammar.specs.Basic.{Bytes}
use Rattle.grammar.specs.Tree.{Str, Insens, Ident, Un, PosPred, NegPred, Opt, Rep, RepOnce, Push, RestoreOnErr, RepExact, RepMin, RepMax, RepMinMax, Bin, Seq, Choice, Expr, E, lit, fixed, skip, un, bin, bin_kind, un_head, size}
use Rattle.grammar.specs.Rows.{Span}
use Rattle.grammar.specs.Text.{bytes_at, resolve}
use Rattle.grammar.specs.Table.{Table}
use Rattle.grammar.specs.Stack.{changes}
use Rattle.grammar.specs.Steps.{restore}
use Rattle.rows.specs.Rows.{kind_at, x_at, y_at, At, shape_of}
use Rattle.rows.specs.declared.Shape.TheVariants.{Lit}
use Rattle.rows.proofs.Laws.{root, at_un, at_left_lem, at_right_lem, size_pos}
use Rattle.restorer.specs.Restores.{is_guard, guarded_if, shows_through, Sure}
use Rattle.restorer.proofs.Showing.{changes_un, changes_bin, changes_lit_lem, changes_fixed, changes_skip, restore_lit, restore_fixed, restore_skip, restore_un, restore_bin, guarded_no, guarded_not}

-- row j is no Push, and no name through which the stack can change
pub record Still (t : Table Bytes) (s : Bytes) (w : List ℕ) (j : ℕ) : Type 0 where
  pub push : kind_at w j ≡ 18 → ⊥
  pub name : kind_at w j ≡ 3 → changes t (lit Ident (bytes_at s (x_at w j, y_at w j))) ≡ false

-- so in every table of which the marks are sure
abbrev pub Stills : (rules : List ℕ) (marks : List ℕ) (w : List ℕ) (s : Bytes) → ℕ → Type 0
Stills rules marks w s j = (t : Table Bytes) → Sure t rules s marks → Still t s w j

pub still_other : (rules marks w : List ℕ) (s : Bytes) (j : ℕ) → (kind_at w j ≡ 18 → ⊥) → (kind_at w j ≡ 3 → ⊥) → Stills rules marks w s j
still_other rules marks w s j p n = λ t su. record { push = p; name = λ e. absurd (n e) }

pub still_name : (rules marks w : List ℕ) (s : Bytes) (j : ℕ) (b : Bool) → (kind_at w j ≡ 18 → ⊥) → ((t : Table Bytes) → Sure t rules s marks → b ≡ changes t (lit Ident (bytes_at s (x_at w j, y_at w j)))) → b ≡ false → Stills rules marks w s j
still_name rules marks w s j b p n h = λ t su. record { push = p; name = λ _. sym (n t su) ∙ h }

-- an Ident has a literal
pub ident_shape : {k : ℕ} → k ≡ 3 → shape_of k ≡ Lit
unfolding shape_of
ident_shape e = ap shape_of e

module _ (t : Table Bytes) where
  pub guarded_still : (g : Bool) (e : E) → changes t e ≡ false → guarded_if t g e ≡ e
  guarded_still true e h = guarded_no t true e refl h
  guarded_still false e h = guarded_not t false e refl

  shows_still : (u : Un) → ((un_head u).0 ≡ 18 → ⊥) → shows_through (un_head u).0 false ≡ false
  shows_still PosPred n = refl
  shows_still NegPred n = refl
  shows_still Opt n = refl
  shows_still Rep n = refl
  shows_still RepOnce n = refl
  shows_still (RepExact i) n = refl
  shows_still (RepMin i) n = refl
  shows_still (RepMax i) n = refl
  shows_still (RepMinMax i j) n = refl
  shows_still Push n = absurd (n refl)
  shows_still RestoreOnErr n = refl

  both_still : (b : Bin) → shows_through (bin_kind b) (false || false) ≡ false
  both_still Seq = refl
  both_still Choice = refl

  module _ (s : Bytes) (w : List ℕ) where
    name_still : {i : ℕ} (p : Span) → At w i (lit Ident p) → Still t s w i → changes t (lit Ident (bytes_at s p)) ≡ false
    name_still p a h =
        let c = root a in
        ap₂ (λ (x y : ℕ). changes t (lit Ident (bytes_at s (x, y)))) (sym c.x) (sym c.y) ∙ h.name c.kind

    -- none of the rows of a tree of n rows up to row i
    abbrev AllStill : ℕ → ℕ → Type 0
    AllStill i n = (j : ℕ) → i < j + n → j ≤ i → Still t s w j

    pub changes_still : {i : ℕ} (r : Expr Span) → At w i r → AllStill i (size r) → changes t (resolve s r) ≡ false
    changes_still (lit Str p) a h = changes_lit_lem t Str (bytes_at s p) (λ e. omega (arith, e))
    changes_still (lit Insens p) a h = changes_lit_lem t Insens (bytes_at s p) (λ e. omega (arith, e))
    changes_still {i} (lit Ident p) a h = name_still p a (h i (omega arith) (omega arith))
    changes_still (fixed f) a h = changes_fixed t f
    changes_still (skip ss) a h = changes_skip t _
    changes_still {i} (un u e) a h =
        let c = root a in
        let m : 1 ≤ size e = size_pos e in
        changes_un t u (resolve s e)
        ∙ ap (shows_through (un_head u).0) (changes_still {i = i - 1} e (at_un a) (λ j p q. h j (omega (arith, c.most)) (omega (arith, c.most))))
        ∙ shows_still u (λ k. (h i (omega arith) (omega arith)).push (c.kind ∙ k))
    changes_still (bin b l r) a h =
        let c = root a in
        let m : 1 ≤ size l = size_pos l in
        let n : 1 ≤ size r = size_pos r in
        changes_bin t b (resolve s l) (resolve s r)
        ∙ ap₂ (λ (x y : Bool). shows_through (bin_kind b) (x || y)) (changes_still l (at_left_lem a) (λ j p q. h j (omega (arith, c.most)) (omega (arith, c.most)))) (changes_still r (at_right_lem a) (λ j p q. h j (omega (arith, c.most)) (omega (arith, c.most))))
        ∙ both_still b

    pub restore_still : {i : ℕ} (r : Expr Span) → At w i r → AllStill i (size r) → restore t (resolve s r) ≡ resolve s r
    restore_still (lit k p) a h = restore_lit t k (bytes_at s p)
    restore_still (fixed f) a h = restore_fixed t f
    restore_still (skip ss) a h = restore_skip t _
    restore_still {i} (un u e) a h =
        let c = root a in
        let m : 1 ≤ size e = size_pos e in
        let g : AllStill (i - 1) (size e) = λ j p q. h j (omega (arith, c.most)) (omega (arith, c.most)) in
        restore_un t u (resolve s e)
        ∙ ap (λ (x : E). un u (guarded_if t (is_guard (un_head u).0) x)) (restore_still {i = i - 1} e (at_un a) g)
        ∙ ap (un u) (guarded_still (is_guard (un_head u).0) (resolve s e) (changes_still e (at_un a) g))
    restore_still {i} (bin b l r) a h =
        let c = root a in
        let m : 1 ≤ size l = size_pos l in
        let n : 1 ≤ size r = size_pos r in
        let g : AllStill (i - 1 - size r) (size l) = λ j p q. h j (omega (arith, c.most)) (omega (arith, c.most)) in
        let d : AllStill (i - 1) (size r) = λ j p q. h j (omega (arith, c.most)) (omega (arith, c.most)) in
        restore_bin t b (resolve s l) (resolve s r)
        ∙ ap₂ (λ (x y : E). bin b (guarded_if t (is_guard (bin_kind b)) x) (guarded_if t (is_guard (bin_kind b)) y)) (restore_still l (at_left_lem a) g) (restore_still r (at_right_lem a) d)
        ∙ ap₂ (bin b) (guarded_still (is_guard (bin_kind b)) (resolve s l) (changes_still l (at_left_lem a) g)) (guarded_still (is_guard (bin_kind b)) (resolve s r) (changes_still r (at_right_lem a) d))
