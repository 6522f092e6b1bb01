-- Step 2 down a run of nodes with one child, and up again over what was written of the tree below. Assumes nothing.
use Rattle.std.specs.Prelude.{None, Option, Some}
use mathlib.Core.Path.{◌≡◌, refl, sym, ap, subst, ◌∙◌}
use mathlib.Core.List.{List, [], ◌∷◌, ◌++◌}
use Prim.Native.Nat.{ℕ, zero, suc, ◌+◌, ◌-◌, ◌/◌, ◌≤◌, ◌<◌}
use native.Mathlib.Omega.{arith}
use lib.ListN.{length, length-append, drop}
use Rattle.grammar.specs.Numbers.{row_width}
use Rattle.grammar.specs.Basic.{Bytes}
use Rattle.grammar.specs.Tree.{Head, Un, Expr, E, lit, fixed, skip, un, bin, size}
use Rattle.grammar.specs.Rows.{Span}
use Rattle.grammar.specs.Text.{resolve}
use Rattle.grammar.specs.Table.{Table, rule_words, resolve_table}
use Rattle.rows.specs.Rows.{At, Stands}
use Rattle.rows.proofs.Laws.{Found, root, at_un, size_pos}
use Rattle.rows.proofs.Views.{shape_in, found_head}
use Rattle.writing.specs.declared.Place.{Place}
use Rattle.writing.specs.Writes.{Fits, Written, RowPut, RowAnswer}
use Rattle.writing.proofs.Trees.{done_written, full_not, written_out, un_tree, fits_un}
use Rattle.chains.specs.Runs.{wrap}
use Rattle.skipper.specs.Memory.{by_marks}
use Rattle.skipper.specs.Lends.{lists_of}
use Rattle.skipper.specs.Skips.{node_by, node_of, ListAnswer, Settles, Fell, FellLoop, FellFork, FallAnswer, Rising, RisenAnswer, CrownedAnswer}
use Rattle.skipper.specs.declared.Fallen.{Fallen}
use Rattle.skipper.specs.declared.Fallen.TheVariants.{Plain, Looped, Forked}
use Rattle.skipper.specs.declared.Node.TheVariants.{Leaf, Single, Pair}
use Rattle.skipper.proofs.Skipping.{skipped, list_over, list_nothing, settles_none, settles_child, no_child, leaf_skipped, one_view, one_skipped}

-- ---- runs

wrap_last : {L : Type 0} (us : List Un) (u : Un) (e : Expr L) → wrap us (un u e) ≡ wrap (us ++ u ∷ []) e
wrap_last [] u e = refl
wrap_last (v ∷ us) u e = ap (un v) (wrap_last us u e)

resolve_wrap : (s : Bytes) (us : List Un) (r : Expr Span) → resolve s (wrap us r) ≡ wrap us (resolve s r)
resolve_wrap s [] r = refl
resolve_wrap s (u ∷ us) r = ap (un u) (resolve_wrap s us r)

size_wrap : {L : Type 0} (us : List Un) (e : Expr L) → size (wrap us e) ≡ size e + length us
size_wrap [] e = omega arith
size_wrap (u ∷ us) e = omega (arith, size_wrap us e)

pub fits_wrap : (us : List Un) {p : Place} {e : E} {o b : List ℕ} → Fits p (wrap us e) o b → Fits p e o b
fits_wrap [] f = f
fits_wrap (u ∷ us) f = fits_wrap us (fits_un f)

-- ---- down: the way from `root` has come to row `base`

pub record Falls (rules : List ℕ) (u : Bytes) (m w : List ℕ) (s : Bytes) (root base : ℕ) : Type 0 where
  pub stands : Stands w base
  pub fell : (t : Table Span) (r : Expr Span) → rules ≡ rule_words t → At w root r → Settles (resolve_table u t) m (resolve s r) → Fell (resolve_table u t) m w s root base r

pub falls_none : {rules : List ℕ} {u : Bytes} {m w : List ℕ} {s : Bytes} {root : ℕ} → Stands w root → Falls rules u m w s root root
falls_none d = record { stands = d; fell = λ t r h a st. record { nodes = []; tree = r; at = a; is = refl; count = omega arith; settles = st; skips = refl } }

lone : (r : Expr Span) → size r ≤ 1 → node_by (shape_in r) ≡ Leaf
lone (lit k p) h = refl
lone (fixed f) h = refl
lone (skip ss) h = refl
lone (un u e) h = absurd (omega (arith, size_pos e))
lone (bin b l r) h = absurd (omega (arith, size_pos l))

-- nothing is skipped in a run over a tree in which nothing is
plain : {t : Table Bytes} {m w : List ℕ} {s : Bytes} {root base : ℕ} {r : Expr Span} (f : Fell t m w s root base r) → skipped t (resolve s f.tree) ≡ resolve s f.tree → skipped t (resolve s r) ≡ resolve s r
plain {s = s} f h = f.skips ∙ ap (wrap f.nodes) h ∙ sym (ap (resolve s) f.is ∙ resolve_wrap s f.nodes f.tree)

module _ {rules : List ℕ} {u : Bytes} {m w : List ℕ} {s : Bytes} {root₀ base : ℕ} (f : Falls rules u m w s root₀ base) where
  -- a tree at row 0 has one row
  pub falls_first : base ≡ 0 → (t : Table Span) (r : Expr Span) → rules ≡ rule_words t → At w root₀ r → Settles (resolve_table u t) m (resolve s r) → skipped (resolve_table u t) (resolve s r) ≡ resolve s r
  falls_first e t r h a st = let z = f.fell t r h a st in plain z (no_child (resolve_table u t) s z.tree (lone z.tree (omega (arith, (root z.at).most))))

  module _ {k x y n : ℕ} (g : Found w base k x y n) where
    pub falls_leaf : node_of k ≡ Leaf → (t : Table Span) (r : Expr Span) → rules ≡ rule_words t → At w root₀ r → Settles (resolve_table u t) m (resolve s r) → skipped (resolve_table u t) (resolve s r) ≡ resolve s r
    falls_leaf d t r h a st = let z = f.fell t r h a st in plain z (leaf_skipped s (resolve_table u t) g z.at d)

    pub falls_fork : node_of k ≡ Pair → (t : Table Span) (r : Expr Span) → rules ≡ rule_words t → At w root₀ r → Settles (resolve_table u t) m (resolve s r) → FellFork (resolve_table u t) m w s root₀ base k r
    falls_fork d t r h a st = record { fell = f.fell t r h a st; kind = sym g.kind; two = d }

    -- at a node with one child, where the test of a loop answered
    module _ {b : Option ℕ} (l : (t : Table Span) (r : Expr Span) → rules ≡ rule_words t → At w base r → ListAnswer b w s (by_marks (lists_of (resolve_table u t) m)) (resolve s r)) where
      pub falls_loop : {j : ℕ} → b ≡ Some j → (t : Table Span) (r : Expr Span) → rules ≡ rule_words t → At w root₀ r → Settles (resolve_table u t) m (resolve s r) → FellLoop (resolve_table u t) m w s root₀ base j r
      falls_loop d t r h a st = let z = f.fell t r h a st in record { fell = z; list = list_over _ _ _ _ (l t z.tree h z.at) d }

      pub falls_more : node_of k ≡ Single → b ≡ None → Falls rules u m w s root₀ (base - 1)
      falls_more d c = record {
        stands = let v = one_view s [] g f.stands.at d in record { tree = v.child; at = v.at };
        fell = λ t r h a st.
            let z = f.fell t r h a st in
            let e = resolve_table u t in
            let v = one_view s e g z.at d in
            record {
              nodes = z.nodes ++ v.op ∷ [];
              tree = v.child;
              at = v.at;
              is = z.is ∙ ap (wrap z.nodes) v.is ∙ wrap_last z.nodes v.op v.child;
              count = omega (arith, z.count, length-append z.nodes (v.op ∷ []), v.least, v.most);
              settles = settles_child s v z.settles;
              skips = z.skips ∙ ap (wrap z.nodes) (one_skipped s e g z.at d (settles_none _ z.settles (list_nothing _ _ _ _ (l t z.tree h z.at) c))) ∙ wrap_last z.nodes v.op (skipped e (resolve s v.child));
            };
      }

-- ---- up: the rows after `base` up to row i are written from q on

record Node (w : List ℕ) (j k : ℕ) (us : List Un) : Type 0 where
  op : Un
  child : Expr Span
  split : drop k us ≡ op ∷ drop (suc k) us
  at : At w j (un op child)

-- the k-th node of a run stands k rows below its top
node_at : {w : List ℕ} {i : ℕ} (us : List Un) (r : Expr Span) → At w i (wrap us r) → (k j : ℕ) → k < length us → j + k ≡ i → Node w j k us
node_at [] r a k j h e = absurd (omega arith)
node_at {w} (u ∷ us) r a zero j h e = record { op = u; child = wrap us r; split = refl; at = subst (λ (n : ℕ). At w n (un u (wrap us r))) (omega arith) a }
node_at {i = i} (u ∷ us) r a (suc k) j h e = let n = node_at {i = i - 1} us r (at_un a) k j (omega arith) (omega arith) in record { op = n.op; child = n.child; split = n.split; at = n.at }

drop_all : (us : List Un) → drop (length us) us ≡ []
drop_all [] = refl
drop_all (u ∷ us) = drop_all us

-- what stands from p to s once row i is written
pub record Up (w o₀ : List ℕ) (base root : ℕ) (p q : Place) (o : List ℕ) (s : Place) (i : ℕ) : Type 0 where
  pub low : base ≤ i
  pub high : i ≤ root
  pub end : s.rows + base ≡ q.rows + i
  pub same : length o ≡ length o₀
  pub room : s.rows ≤ length o / row_width
  pub kept : (us : List Un) (r : Expr Span) → At w root (wrap us r) → base + length us ≡ root → (e : E) (b t t₁ : List ℕ) → Written q p e b o₀ t t₁ → Written s p (wrap (drop (root - i) us) e) b o t t₁

pub up_none : {w o₀ : List ℕ} {base root : ℕ} {p q : Place} → Rising w base root p q o₀ → Up w o₀ base root p q o₀ q base
up_none {base = base} {root} z = record {
  low = omega arith;
  high = z.order;
  end = refl;
  same = refl;
  room = z.room;
  kept = λ us r a l e b t t₁ c. let n : root - base ≡ length us = omega arith in rw (n, drop_all us) c;
}

row_done : {z : Option Place} {s : Place} (q : Place) (h : Head) (n : ℕ) (o o₁ : List ℕ) → z ≡ Some s → RowAnswer z q h n o o₁ → RowPut s q h n o o₁
row_done q h n o o₁ d r = subst (λ (z : Option Place). RowAnswer z q h n o o₁) d r

row_full : {z : Option Place} (q : Place) (h : Head) (n : ℕ) (o o₁ : List ℕ) → z ≡ None → RowAnswer z q h n o o₁ → q.rows < length o / row_width → ⊥
row_full q h n o o₁ d r = subst (λ (z : Option Place). RowAnswer z q h n o o₁) d r

module _ {w o₀ : List ℕ} {base root₀ : ℕ} {p q : Place} {o : List ℕ} {s : Place} {i : ℕ} (u : Up w o₀ base root₀ p q o s i) where
  module _ {z : Option Place} (k x y : ℕ) (o₁ : List ℕ) (v : RowAnswer z s (k, x, y) (s.rows - p.rows + 1) o o₁) (h : i < root₀) where
    pub up_more : {n : ℕ} {s₁ : Place} → z ≡ Some s₁ → Found w (i + 1) k x y n → length o₁ ≡ length o → Up w o₀ base root₀ p q o₁ s₁ (i + 1)
    up_more {s₁ = s₁} d g e₁ = let j = row_done s (k, x, y) _ o o₁ d v in record {
      low = omega (arith, u.low);
      high = omega arith;
      end = omega (arith, u.end, j.rows);
      same = e₁ ∙ u.same;
      room = omega (arith, j.room, j.rows);
      kept = λ us r a c e b t t₁ l.
          let n = node_at us r a (root₀ - (i + 1)) (i + 1) (omega (arith, u.low)) (omega arith) in
          let c₀ = u.kept us r a c e b t t₁ l in
          let e₀ : suc (root₀ - (i + 1)) ≡ root₀ - i = omega arith in
          let s₀ : drop (root₀ - (i + 1)) us ≡ n.op ∷ drop (root₀ - i) us = n.split ∙ ap (λ (m : ℕ). n.op ∷ drop m us) e₀ in
          rw s₀ (un_tree c₀ (Some s₁) n.op (k, x, y) (s.rows - p.rows + 1) o₁ (found_head g n.at) (omega (arith, c₀.rows)) j);
    }

    pub up_full : z ≡ None → (us : List Un) (r : Expr Span) → At w root₀ (wrap us r) → base + length us ≡ root₀ → RisenAnswer None q p us o₀ o₁
    up_full d us r a c e b t t₁ l f = row_full s (k, x, y) _ o o₁ d v (omega (arith, f.rows, size_wrap us e, l.rows, u.end, u.same, written_out l))

  -- at the top of the run
  pub up_all : i ≡ root₀ → (us : List Un) (r : Expr Span) → At w root₀ (wrap us r) → base + length us ≡ root₀ → RisenAnswer (Some s) q p us o₀ o
  up_all h us r a c e b t t₁ l =
      let n : root₀ - i ≡ 0 = omega arith in
      rw n at (u.kept us r a c e b t t₁ l)

-- ---- a row over what was written, and a run over it

module _ {z : Option Place} (p q : Place) (h : Head) (us : List Un) (o₁ o₂ : List ℕ) (k : RowAnswer z q h (q.rows - p.rows + 1) o₁ o₂) where
  pub crown_full : z ≡ None → CrownedAnswer None q p h us o₁ o₂
  crown_full d e o t t₁ g f = full_not p e o o₂ t t₁ d (g z o₂ k) (fits_wrap us f)

  module _ {s : Place} (d : z ≡ Some s) where
    pub crown_done : (a : Option Place) (o₃ : List ℕ) → RisenAnswer a s p us o₂ o₃ → CrownedAnswer a q p h us o₁ o₃
    crown_done a o₃ r e o t t₁ g = r e o t t₁ (done_written p e o o₂ t t₁ d (g z o₂ k))

    pub crown_rising : {w : List ℕ} {base root : ℕ} → Rising w base root p q o₁ → length o₂ ≡ length o₁ → Rising w base root p s o₂
    crown_rising r l = let j = row_done q h _ o₁ o₂ d k in record {
      order = r.order;
      inside = r.inside;
      after = omega (arith, r.after, j.rows);
      room = omega (arith, j.rows, j.room);
      words = omega (arith, r.words);
    }

-- ---- what a way down answered

module _ {z : Fallen} (t : Table Bytes) (m w : List ℕ) (s : Bytes) (root : ℕ) (r : Expr Span) (h : FallAnswer z t m w s root r) where
  pub fell_plain : z ≡ Plain → skipped t (resolve s r) ≡ resolve s r
  fell_plain d = subst (λ (z : Fallen). FallAnswer z t m w s root r) d h

  pub fell_loop : {base i : ℕ} → z ≡ Looped base i → FellLoop t m w s root base i r
  fell_loop d = subst (λ (z : Fallen). FallAnswer z t m w s root r) d h

  pub fell_fork : {base k : ℕ} → z ≡ Forked base k → FellFork t m w s root base k r
  fell_fork d = subst (λ (z : Fallen). FallAnswer z t m w s root r) d h

module _ {t : Table Bytes} {m w : List ℕ} {s : Bytes} {root base : ℕ} {r : Expr Span} (f : Fell t m w s root base r) where
  pub fell_at : At w root r → At w root (wrap f.nodes f.tree)
  fell_at a = subst (λ (r : Expr Span). At w root r) f.is a

  pub fell_size : size f.tree ≤ size r
  fell_size = omega (arith, ap size f.is, size_wrap f.nodes f.tree)
