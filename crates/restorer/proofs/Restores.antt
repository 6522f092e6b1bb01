-- A restored tree is written by its children and then its root's row. Assumes nothing.
use Rattle.std.specs.Prelude.{None, Option, Some}
use mathlib.Core.Path.{◌≡◌, refl, sym, ap, ap₂, ◌∙◌, subst}
use mathlib.Core.Bool.{Bool, true, false, ◌||◌}
use mathlib.Core.List.{List}
use Prim.Native.Nat.{ℕ, ◌+◌, ◌-◌, ◌/◌}
use native.Mathlib.Omega.{arith}
use Rattle.grammar.specs.Numbers.{k_pair}
use Rattle.grammar.specs.Basic.{Bytes}
use Rattle.grammar.specs.Tree.{Head, Lit, Un, RestoreOnErr, Bin, Expr, E, lit, fixed, skip, un, bin, lit_kind, un_head, bin_kind}
use Rattle.grammar.specs.Rows.{Span}
use Rattle.grammar.specs.Text.{bytes_at, resolve}
use Rattle.grammar.specs.Table.{Table}
use Rattle.grammar.specs.Stack.{changes}
use Rattle.grammar.specs.Steps.{restore}
use Rattle.rows.specs.Rows.{At, kind_at, size_at, shape_of}
use Rattle.rows.specs.declared.Shape.TheVariants.{Lit as Lits, One, Two}
use Rattle.rows.proofs.Laws.{Found, root}
use Rattle.rows.proofs.Views.{TwoView, shape_in, shape_in_lem, as_lit, as_two, bin_half, pair_left}
use Rattle.writing.specs.Writes.{Areas, Fits}
use Rattle.writing.specs.declared.Place.{Place}
use Rattle.writing.proofs.Trees.{un_tree, bin_tree, fits_left, fits_right, written_room}
use Rattle.restorer.specs.Restores.{is_guard, guarded_if, shows_through, RowIs, Shown, RestoredAnswer, Over, NodeAnswer}
use Rattle.restorer.proofs.Showing.{changes_un, changes_bin, changes_fixed, changes_skip, restore_lit, restore_fixed, restore_skip, restore_bin, guarded_yes, guarded_no, guarded_not}

-- ---- what was written

pub over_of_lem : {q p : Place} {b : Bool} {t : Table Bytes} {e : E} {o o' l l' : List ℕ} → Shown q p b t e o o' l l' → Areas o l → Over p q o'
over_of_lem w a = let r = written_room w.written a in record { low = omega (arith, w.written.rows); high = r.rows; words = r.areas.words }

-- ---- a node over what was written

module _ {q p : Place} {b : Bool} {t : Table Bytes} {e : E} {o o₁ l l₁ : List ℕ} (w : Shown q p b t e o o₁ l l₁) where
  pub node_un : (a : Option (Place × Bool)) (u : Un) (h : Head) (o₂ : List ℕ) → h ≡ un_head u → NodeAnswer a p q h b o₁ o₂ → RestoredAnswer a p t (un u e) o o₂ l l₁
  node_un (Some (s, c)) u h o₂ d n =
      record {
        written = un_tree w.written (Some s) u h (q.rows - p.rows + 1) o₂ d (omega (arith, w.written.rows)) n.row;
        shows = n.shows ∙ ap₂ shows_through (ap (λ (g : Head). g.0) d) w.shows ∙ sym (changes_un t u e);
      }
  node_un None u h o₂ d n = un_tree w.written None u h (q.rows - p.rows + 1) o₂ d (omega (arith, w.written.rows)) n

  -- under a RestoreOnErr, or as it is
  pub child_guarded : (a : Option (Place × Bool)) (g : Bool) (o₂ : List ℕ) → g ≡ true → b ≡ true → NodeAnswer a p q (19, 0, 0) b o₁ o₂ → RestoredAnswer a p t (guarded_if t g e) o o₂ l l₁
  child_guarded a g o₂ h k n = rw (guarded_yes t g e h (sym w.shows ∙ k)) (node_un a RestoreOnErr (19, 0, 0) o₂ refl n)

  pub child_quiet : (g : Bool) → g ≡ true → b ≡ false → Shown q p b t (guarded_if t g e) o o₁ l l₁
  child_quiet g h k = rw (guarded_no t g e h (sym w.shows ∙ k)) w

  pub child_plain : (g : Bool) → g ≡ false → Shown q p b t (guarded_if t g e) o o₁ l l₁
  child_plain g h = rw (guarded_not t g e h) w

  module _ {s : Place} {c : Bool} {f : E} {o₂ l₂ : List ℕ} (v : Shown s q c t f o₁ o₂ l₁ l₂) where
    node_bin : (a : Option (Place × Bool)) (k : Bin) (h : Head) (x : Bool) (o₃ : List ℕ) → h ≡ (bin_kind k, 0, 0) → x ≡ (b || c) → NodeAnswer a p s h x o₂ o₃ → RestoredAnswer a p t (bin k e f) o o₃ l l₂
    node_bin (Some (z, y)) k h x o₃ d i n =
        record {
          written = bin_tree w.written v.written (Some z) k h (s.rows - p.rows + 1) o₃ d (omega (arith, w.written.rows, v.written.rows)) n.row;
          shows = n.shows ∙ ap₂ shows_through (ap (λ (g : Head). g.0) d) (i ∙ ap₂ ◌||◌ w.shows v.shows) ∙ sym (changes_bin t k e f);
        }
    node_bin None k h x o₃ d i n = bin_tree w.written v.written None k h (s.rows - p.rows + 1) o₃ d (omega (arith, w.written.rows, v.written.rows)) n

-- a row goes over two trees
pub two_over : {q s p : Place} {b c : Bool} {t : Table Bytes} {e f : E} {o o₁ o₂ l l₁ l₂ : List ℕ} → Shown q p b t e o o₁ l l₁ → Shown s q c t f o₁ o₂ l₁ l₂ → Areas o l → Over p s o₂
two_over u v a =
    let z = over_of_lem u a in
    let y = over_of_lem v (written_room u.written a).areas in
    record { low = omega (arith, z.low, y.low); high = y.high; words = y.words }

-- ---- by the row that was read

pub row_is : {w : List ℕ} {i k x y : ℕ} {r : Expr Span} → RowIs w i k x y → At w i r → Found w i k x y (size_at w i)
row_is f a = record { within = (root a).inside; kind = f.kind; x = f.first; y = f.second; rows = refl }

pub two_row : {w : List ℕ} {i k x y n : ℕ} {r : Expr Span} → Found w i k x y n → At w i r → shape_of k ≡ Two → RowIs w i k 0 0
two_row f a h = let v = as_two f a h in record { kind = f.kind; first = f.x ∙ ap (λ g. g.1) v.head; second = f.y ∙ ap (λ g. g.2) v.head }

-- two children
module _ {w : List ℕ} {i k : ℕ} {r : Expr Span} (f : RowIs w i k 0 0) (sh : shape_of k ≡ Two) (a : At w i r) where
  abbrev pub two_view : TwoView w i k 0 0 (size_at w i) r
  two_view = as_two (row_is f a) a sh

  -- the left child, as `left_of` says it
  pub two_left : {j : ℕ} → j ≡ i - 1 - size_at w (i - 1) → At w j two_view.left
  two_left e = pair_left two_view e

  pub two_half : kind_at w i / 2 ≡ k_pair
  two_half = bin_half two_view.op (f.kind ∙ two_view.kind)

  module _ (s : Bytes) (t : Table Bytes) (g : Bool) (h : g ≡ is_guard k) where
    abbrev pub two_l : E
    two_l = guarded_if t g (restore t (resolve s two_view.left))

    abbrev pub two_r : E
    two_r = guarded_if t g (restore t (resolve s two_view.right))

    two_is : restore t (resolve s r) ≡ bin two_view.op two_l two_r
    two_is =
        let v = two_view in
        let e : g ≡ is_guard (bin_kind v.op) = h ∙ ap is_guard v.kind in
        ap (λ (z : Expr Span). restore t (resolve s z)) v.is ∙ restore_bin t v.op (resolve s v.left) (resolve s v.right) ∙ ap (λ (z : Bool). bin v.op (guarded_if t z (restore t (resolve s v.left))) (guarded_if t z (restore t (resolve s v.right)))) (sym e)

    pub left_full : {p : Place} {o l : List ℕ} → (Fits p two_l o l → ⊥) → Fits p (restore t (resolve s r)) o l → ⊥
    left_full {p} {o} {l} n z = n (fits_left (subst (λ (e : E). Fits p e o l) two_is z))

    module _ {q p : Place} {b : Bool} {o o₁ l l₁ : List ℕ} (u : Shown q p b t two_l o o₁ l l₁) where
      pub right_full : (Fits q two_r o₁ l₁ → ⊥) → Fits p (restore t (resolve s r)) o l → ⊥
      right_full n z = n (fits_right u.written (subst (λ (e : E). Fits p e o l) two_is z))

      pub two_done : {z : Place} {c x : Bool} {o₂ l₂ : List ℕ} (y : Option (Place × Bool)) (o₃ : List ℕ) → Shown z q c t two_r o₁ o₂ l₁ l₂ → x ≡ (b || c) → NodeAnswer y p z (k, 0, 0) x o₂ o₃ → RestoredAnswer y p t (restore t (resolve s r)) o o₃ l l₂
      two_done {x = x} y o₃ v e n = rw two_is (node_bin u v y two_view.op (k, 0, 0) x o₃ two_view.head e n)

-- no child
module _ {w : List ℕ} {i k x y n : ℕ} {r : Expr Span} (f : Found w i k x y n) (a : At w i r) (s : Bytes) (t : Table Bytes) where
  pub lit_restored : (c : Option (Place × Bool)) (p : Place) (o o' l l' : List ℕ) → shape_of k ≡ Lits → ((j : Lit) → k ≡ lit_kind j → RestoredAnswer c p t (lit j (bytes_at s (x, y))) o o' l l') → RestoredAnswer c p t (restore t (resolve s r)) o o' l l'
  lit_restored c p o o' l l' sh h =
      let v = as_lit f a sh in
      let e : restore t (resolve s r) ≡ lit v.op (bytes_at s (x, y)) = ap (λ (z : Expr Span). restore t (resolve s z)) v.is ∙ restore_lit t v.op (bytes_at s (x, y)) in
      rw e (h v.op v.kind)

  plain_restored : (c : Option (Place × Bool)) (p : Place) (o o' l l' : List ℕ) → restore t (resolve s r) ≡ resolve s r → changes t (resolve s r) ≡ false → (changes t (resolve s r) ≡ false → RestoredAnswer c p t (resolve s r) o o' l l') → RestoredAnswer c p t (restore t (resolve s r)) o o' l l'
  plain_restored c p o o' l l' e q h = rw e (h q)

  -- what is neither a literal nor has a child
  pub plain_row : (c : Option (Place × Bool)) (p : Place) (o o' l l' : List ℕ) → (shape_of k ≡ Two → ⊥) → (shape_of k ≡ Lits → ⊥) → (shape_of k ≡ One → ⊥) → (changes t (resolve s r) ≡ false → RestoredAnswer c p t (resolve s r) o o' l l') → RestoredAnswer c p t (restore t (resolve s r)) o o' l l'
  plain_row c p o o' l l' two lits one h = go r refl
    where
      shape : {q : Expr Span} → r ≡ q → shape_of k ≡ shape_in q
      shape e = ap shape_of (sym f.kind ∙ (root a).kind) ∙ shape_in_lem r ∙ ap shape_in e

      go : (q : Expr Span) → r ≡ q → RestoredAnswer c p t (restore t (resolve s r)) o o' l l'
      go (lit j z) e = absurd (lits (shape e))
      go (fixed g) e = plain_restored c p o o' l l' (rw e (restore_fixed t g)) (rw e (changes_fixed t g)) h
      go (skip ss) e = plain_restored c p o o' l l' (rw e (restore_skip t _)) (rw e (changes_skip t _)) h
      go (un u z) e = absurd (one (shape e))
      go (bin b y z) e = absurd (two (shape e))
