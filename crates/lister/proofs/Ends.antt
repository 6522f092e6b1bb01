-- What ends a node of two children, by what was told of them. Assumes nothing.
use Rattle.std.specs.Prelude.{Option}
use mathlib.Core.Path.{◌≡◌, refl, sym, ap, ◌∙◌}
use mathlib.Core.Bool.{Bool, true, false}
use mathlib.Core.List.{List}
use Prim.Native.Nat.{ℕ, ◌+◌, ◌-◌}
use native.Mathlib.Omega.{arith}
use Rattle.grammar.specs.Tree.{E, Expr, Bin, Seq, Choice, bin, bin_kind, size}
use Rattle.grammar.specs.Rows.{Span}
use Rattle.grammar.specs.Text.{resolve}
use Rattle.grammar.specs.Steps.{or_same, list?}
use Rattle.rows.specs.Rows.{At, Tells}
use Rattle.rows.proofs.Cells.{bin_same, tells_yes, tells_no}
use Rattle.writing.specs.declared.Place.{Place}
use Rattle.writing.specs.Writes.{RowAnswer}
use Rattle.writing.specs.Keeps.{KeptAnswer}
use Rattle.lister.specs.Loops.{Loops}
use Rattle.lister.specs.Mends.{Pair, Movable, MendedAnswer}
use Rattle.lister.proofs.Lists.{list_fires, list_idle}
use Rattle.lister.proofs.Pairs.{told, ended, ended_loop}

idle_other : (b : Bin) (e f : E) → (bin_kind b ≡ 8 → ⊥) → or_same list? (bin b e f) ≡ bin b e f
unfolding list?
idle_other Seq e f n = absurd (n refl)
idle_other Choice e f n = refl

-- what the comparison in the area told
abbrev Told : (q s : Place) (o t : List ℕ) → Bool → Type 0
Told q s o t v = (l r : Expr Span) → At o (q.rows - 1) l → At o (s.rows - 1) r → Tells v (Loops (resolve t l) (resolve t r))

module _ {p q s : Place} {e f : E} {o t : List ℕ} (h : Pair p q s e f o t) (v : Bool) (g : Told q s o t v) where
  tells : Tells v (Loops e f)
  tells = told h v g

  -- a loop has more than two rows
  pub movable : v ≡ true → Movable q.rows s.rows o
  movable y =
      let l : Loops e f = tells_yes y tells in
      record { before = omega (arith, ap size l.loop, h.rows₁); some = omega (arith, h.rows₂); room = h.room }

module _ (a : Option Place) {p q s : Place} {o t : List ℕ} (o' : List ℕ) (b : Bin) (e f : E) (kind : ℕ) (k : kind ≡ bin_kind b) (h : Pair p q s e f o t) where
  ends_own : or_same list? (bin b e f) ≡ bin b e f → RowAnswer a s (kind, 0, 0) (s.rows - p.rows + 1) o o' → KeptAnswer a p (or_same list? (bin b e f)) o o' t t
  ends_own z r = rw z (ended h a b o' (rw k at r))

  pub ends_other : (kind ≡ 8 → ⊥) → RowAnswer a s (kind, 0, 0) (s.rows - p.rows + 1) o o' → KeptAnswer a p (or_same list? (bin b e f)) o o' t t
  ends_other n r = ends_own (idle_other b e f (λ g. n (k ∙ g))) r

  module _ (v : Bool) (g : Told q s o t v) (seq : kind ≡ 8) where
    is_seq : b ≡ Seq
    is_seq = bin_same b Seq (sym k ∙ seq)

    pub ends_seq : v ≡ false → RowAnswer a s (kind, 0, 0) (s.rows - p.rows + 1) o o' → KeptAnswer a p (or_same list? (bin b e f)) o o' t t
    ends_seq y r = ends_own (rw (is_seq, list_idle e f (tells_no y (tells h v g)))) r

    pub ends_loop : v ≡ true → MendedAnswer a s q.rows (q.rows - p.rows - 1) (s.rows - p.rows + 1) o o' → KeptAnswer a p (or_same list? (bin b e f)) o o' t t
    ends_loop y r =
        let l : Loops e f = tells_yes y (tells h v g) in
        rw (is_seq, list_fires e f l) (ended_loop l.head l.tail f l.again (rw l.loop at h) a o' r)
