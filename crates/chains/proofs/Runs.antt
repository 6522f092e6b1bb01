-- A run of nodes with one child: the tree below it, its rows, and how it is written over another tree. Assumes nothing.
use Rattle.std.specs.Prelude.{Some}
use mathlib.Core.Path.{◌≡◌, refl, sym, ap, subst, ◌∙◌}
use mathlib.Core.List.{List, [], ◌∷◌}
use mathlib.Core.Logic.{⊎_elim}
use Prim.Native.Nat.{ℕ, zero, suc, ◌+◌, ◌-◌, ◌*◌, ◌/◌, ◌≤◌, ◌<◌}
use native.Mathlib.Omega.{arith}
use lib.ListN.{length, drop}
use Rattle.grammar.specs.Numbers.{row_width}
use Rattle.grammar.specs.Basic.{Bytes}
use Rattle.grammar.specs.Tree.{Un, Expr, E, lit, fixed, skip, un, bin, size}
use Rattle.grammar.specs.Rows.{Span, row}
use Rattle.grammar.specs.Text.{resolve, text_of}
use Rattle.rows.specs.declared.Shape.{Shape}
use Rattle.rows.specs.declared.Shape.TheVariants.{One, Two}
use Rattle.rows.specs.Rows.{At, size_at, shape_of}
use types.Run.{OneOf}
use denote.Enum.Declared.{tag_of}
use Rattle.rows.specs.contracts.Shape as shape
use Rattle.rows.proofs.Laws.{Found, root, at_un}
use Rattle.rows.proofs.Cells.{size_resolve}
use Rattle.rows.proofs.Views.{shape_in, found_shape, found_head, as_one, at_unique}
use Rattle.writing.specs.declared.Place.{Place}
use Rattle.writing.specs.Writes.{stored, Fits}
use Rattle.writing.specs.Keeps.{Kept}
use Rattle.writing.proofs.Puts.{row_set}
use Rattle.writing.proofs.Runs.{length_stored}
use Rattle.writing.proofs.Keeps.{kept_un}
use Rattle.chains.specs.Runs.{wrap, ups, low, Raisable, RaisedAnswer}

-- what the else of `if let Shape::One`, and of `if let Shape::Two`, knows: the shape is one of the others
pub else_one : (s : Shape) → OneOf (0 ∷ 1 ∷ 3 ∷ 4 ∷ []) (tag_of shape.the_type s) → s ≡ One → ⊥
else_one s o e =
    let p : OneOf (0 ∷ 1 ∷ 3 ∷ 4 ∷ []) 2 = subst (λ (s : Shape). OneOf (0 ∷ 1 ∷ 3 ∷ 4 ∷ []) (tag_of shape.the_type s)) e o in
    ⊎_elim (λ e. omega arith) (λ q. ⊎_elim (λ e. omega arith) (λ q. ⊎_elim (λ e. omega arith) (λ e. omega arith) q) q) p

pub else_two : (s : Shape) → OneOf (0 ∷ 1 ∷ 2 ∷ 4 ∷ []) (tag_of shape.the_type s) → s ≡ Two → ⊥
else_two s o e =
    let p : OneOf (0 ∷ 1 ∷ 2 ∷ 4 ∷ []) 3 = subst (λ (s : Shape). OneOf (0 ∷ 1 ∷ 2 ∷ 4 ∷ []) (tag_of shape.the_type s)) e o in
    ⊎_elim (λ e. omega arith) (λ q. ⊎_elim (λ e. omega arith) (λ q. ⊎_elim (λ e. omega arith) (λ e. omega arith) q) q) p

-- ---- the tree below a run

pub low_not : (r : Expr Span) → shape_in (low r) ≡ One → ⊥
low_not (lit k s) e = let z : ◌≡◌ {A = ℕ} 0 1 = cc in omega arith
low_not (fixed f) e = let z : ◌≡◌ {A = ℕ} 0 1 = cc in omega arith
low_not (skip ss) e = let z : ◌≡◌ {A = ℕ} 0 1 = cc in omega arith
low_not (un u r) e = low_not r e
low_not (bin b l r) e = let z : ◌≡◌ {A = ℕ} 0 1 = cc in omega arith

pub low_size : (r : Expr Span) → size (low r) + length (ups r) ≡ size r
low_size (lit k s) = refl
low_size (fixed f) = refl
low_size (skip ss) = omega arith
low_size (un u r) = omega (arith, low_size r)
low_size (bin b l r) = omega arith

-- a tree is its run over the tree below
pub resolve_run : (t : Bytes) (r : Expr Span) → resolve t r ≡ wrap (ups r) (resolve t (low r))
resolve_run t (lit k s) = refl
resolve_run t (fixed f) = refl
resolve_run t (skip ss) = refl
resolve_run t (un u r) = ap (un u) (resolve_run t r)
resolve_run t (bin b l r) = refl

text_wrap : (us : List Un) (e : E) → text_of (wrap us e) ≡ text_of e
text_wrap [] e = refl
text_wrap (u ∷ us) e = text_wrap us e

low_text : (t : Bytes) (r : Expr Span) → text_of (resolve t r) ≡ text_of (resolve t (low r))
low_text t r = ap text_of (resolve_run t r) ∙ text_wrap (ups r) (resolve t (low r))

pub low_at : {w : List ℕ} {i : ℕ} (r : Expr Span) → At w i r → (j : ℕ) → j + length (ups r) ≡ i → At w j (low r)
low_at {w} (lit k s) a j e = subst (λ (n : ℕ). At w n (lit k s)) (omega arith) a
low_at {w} (fixed f) a j e = subst (λ (n : ℕ). At w n (fixed f)) (omega arith) a
low_at {w} (skip ss) a j e = subst (λ (n : ℕ). At w n (skip ss)) (omega arith) a
low_at {w} {i = i} (un u r) a j e = low_at {i = i - 1} r (at_un a) j (omega arith)
low_at {w} (bin b l r) a j e = subst (λ (n : ℕ). At w n (bin b l r)) (omega arith) a

-- its size word is no larger
pub low_most : {w : List ℕ} {i : ℕ} (r : Expr Span) → At w i r → (j : ℕ) → j + length (ups r) ≡ i → size_at w j ≤ size_at w i
low_most r a j e = omega (arith, (root a).rows, (root (low_at r a j e)).rows, low_size r)

pub low_fits : (t : Bytes) (r : Expr Span) {p : Place} {o b : List ℕ} → Fits p (resolve t r) o b → Fits p (resolve t (low r)) o b
low_fits t r f = record { rows = omega (arith, f.rows, low_size r, size_resolve t r, size_resolve t (low r)); text = omega (arith, f.text, ap length (low_text t r)) }

-- ---- a step that leaves nodes with one child alone

module _ (f : E → E) (f-un : (u : Un) (e : E) → f (un u e) ≡ un u (f e)) where
  pub step_wrap : (us : List Un) (e : E) → f (wrap us e) ≡ wrap us (f e)
  step_wrap [] e = refl
  step_wrap (u ∷ us) e = f-un u (wrap us e) ∙ ap (un u) (step_wrap us e)

  pub step_run : (t : Bytes) (r : Expr Span) → f (resolve t r) ≡ wrap (ups r) (f (resolve t (low r)))
  step_run t r = ap f (resolve_run t r) ∙ step_wrap (ups r) (resolve t (low r))

-- ---- down a run

-- the row `base` of the run of the tree r at row `root`
pub record Down (w : List ℕ) (root base : ℕ) (r : Expr Span) : Type 0 where
  pub tree : Expr Span
  pub at : At w base tree
  pub count : base + length (ups r) ≡ root + length (ups tree)

abbrev pub Downs : List ℕ → ℕ → ℕ → Type 0
Downs w root base = (r : Expr Span) → At w root r → Down w root base r

pub down_none : {w : List ℕ} {root : ℕ} → Downs w root root
down_none r a = record { tree = r; at = a; count = refl }

not_one : (r : Expr Span) → (shape_in r ≡ One → ⊥) → ups r ≡ []
not_one (lit k s) h = refl
not_one (fixed f) h = refl
not_one (skip ss) h = refl
not_one (un u r) h = absurd (h refl)
not_one (bin b l r) h = refl

module _ {w : List ℕ} {root base : ℕ} (d : Downs w root base) where
  pub down_end : ((r : Expr Span) → At w base r → shape_in r ≡ One → ⊥) → (r : Expr Span) → At w root r → base + length (ups r) ≡ root
  down_end h r a = let v = d r a in omega (arith, v.count, ap length (not_one v.tree (h v.tree v.at)))

  module _ {k x y n : ℕ} (g : Found w base k x y n) where
    pub down_more : shape_of k ≡ One → Downs w root (base - 1)
    down_more h r a =
        let v = d r a in
        let o = as_one g v.at h in
        record { tree = o.child; at = o.at; count = omega (arith, v.count, ap length (ap ups o.is), o.least, o.most) }

    pub down_stop : (shape_of k ≡ One → ⊥) → (r : Expr Span) → At w base r → shape_in r ≡ One → ⊥
    down_stop h r a e = h (sym (found_shape g a refl) ∙ e)

-- ---- up a run: the rows after `base` up to row i are written from q on

record Node (w : List ℕ) (j k : ℕ) (us : List Un) : Type 0 where
  op : Un
  child : Expr Span
  split : drop k us ≡ op ∷ drop (suc k) us
  at : At w j (un op child)

-- the k-th node of a run stands k rows below its top
node_at : {w : List ℕ} {i : ℕ} (r : Expr Span) → At w i r → (k j : ℕ) → k < length (ups r) → j + k ≡ i → Node w j k (ups r)
node_at (lit k₁ s) a k j h e = absurd (omega arith)
node_at (fixed f) a k j h e = absurd (omega arith)
node_at (skip ss) a k j h e = absurd (omega arith)
node_at (bin b l r) a k j h e = absurd (omega arith)
node_at {w} (un u r) a zero j h e = record { op = u; child = r; split = refl; at = subst (λ (n : ℕ). At w n (un u r)) (omega arith) a }
node_at {i = i} (un u r) a (suc k) j h e = let n = node_at {i = i - 1} r (at_un a) k j (omega arith) (omega arith) in record { op = n.op; child = n.child; split = n.split; at = n.at }

pub record Up (w o₀ : List ℕ) (base root first : ℕ) (q : Place) (o : List ℕ) (at i : ℕ) : Type 0 where
  pub low : base ≤ i
  pub high : i ≤ root
  pub end : at + base ≡ q.rows + i
  pub same : length o ≡ length o₀
  pub kept : (r : Expr Span) → At w root r → base + length (ups r) ≡ root → (p s : Place) → p.rows ≡ first → s.rows ≡ at → s.text ≡ q.text
      → (e : E) (b t t₁ : List ℕ) → Kept q p e b o₀ t t₁ → Kept s p (wrap (drop (root - i) (ups r)) e) b o t t₁

drop_all : (us : List Un) → drop (length us) us ≡ []
drop_all [] = refl
drop_all (u ∷ us) = drop_all us

kept_place : {s q p : Place} {e : E} {o o' t t' : List ℕ} → s.rows ≡ q.rows → s.text ≡ q.text → Kept q p e o o' t t' → Kept s p e o o' t t'
kept_place d h c = record { rows = d ∙ c.rows; text = h ∙ c.text; words = rw d c.words; bytes = rw h c.bytes }

pub up_none : {w o₀ : List ℕ} {base root first : ℕ} {q : Place} → base ≤ root → Up w o₀ base root first q o₀ q.rows base
up_none {w} {o₀} {base} {root} {q} h = record {
  low = omega arith;
  high = h;
  end = refl;
  same = refl;
  kept = λ r a l p s d z x e b t t₁ c.
      let n : root - base ≡ length (ups r) = omega arith in
      rw (n, drop_all (ups r)) (kept_place z x c);
}

module _ {w o₀ : List ℕ} {base root first : ℕ} {q : Place} {o : List ℕ} {at i : ℕ} (u : Up w o₀ base root first q o at i) where
  -- there is room for the row of row i + 1
  pub up_room : {p : Place} → Raisable w base root p q o₀ → i < root → at < length o / row_width
  up_room z m = omega (arith, z.run, z.room, u.end, u.same, m)

  pub up_more : {k x y n : ℕ} {o₁ : List ℕ} → i < root → Found w (i + 1) k x y n → at < length o / row_width → first ≤ at → o₁ ≡ stored o (at * row_width) (row (k, x, y) (at + 1 - first)) → Up w o₀ base root first q o₁ (at + 1) (i + 1)
  up_more {k} {x} {y} {o₁} h g l f z = record {
    low = omega (arith, u.low);
    high = omega arith;
    end = omega (arith, u.end);
    same = ap length z ∙ length_stored o _ _ ∙ u.same;
    kept = λ r a c p s d m v e b t t₁ j.
        let n = node_at r a (root - (i + 1)) (i + 1) (omega (arith, u.low)) (omega arith) in
        let y₀ : Place = record { rows = at; text = q.text } in
        let c₀ = u.kept r a c p y₀ d refl refl e b t t₁ j in
        let e₀ : suc (root - (i + 1)) ≡ root - i = omega arith in
        let s₀ : drop (root - (i + 1)) (ups r) ≡ n.op ∷ drop (root - i) (ups r) = n.split ∙ ap (λ (m : ℕ). n.op ∷ drop m (ups r)) e₀ in
        rw s₀ (kept_un c₀ n.op (k, x, y) (at + 1 - first) (found_head g n.at) (omega (arith, c₀.rows)) (row_set s y₀ (k, x, y) (at + 1 - first) o o₁ l m v z));
  }

  -- at the top of the run
  pub up_all : i ≡ root → {p₀ : Place} (z : Raisable w base root p₀ q o₀) (r : Expr Span) → At w root r → (a p : Place) → p.rows ≡ first → a.rows ≡ at → a.text ≡ q.text
      → RaisedAnswer (Some a) q p (ups r) o₀ o
  up_all h z r b a p d e x f o₁ t t₁ c =
      let n : root - i ≡ 0 = omega arith in
      rw n at (u.kept r b (rw (at_unique r z.tree b z.at) z.run) p a d e x f o₁ t t₁ c)
