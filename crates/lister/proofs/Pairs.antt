-- Two trees just written: as a table to compare in, and the node that ends them. Assumes nothing.
use Rattle.std.specs.Prelude.{None, Option, Some}
use mathlib.Core.Path.{◌≡◌, sym, ap, subst, ◌∙◌}
use mathlib.Core.Bool.{Bool}
use mathlib.Core.List.{List, ◌++◌, append_assoc}
use Prim.Native.Nat.{ℕ, ◌+◌, ◌-◌, ◌*◌, ◌≤◌}
use native.Mathlib.Omega.{arith}
use lib.ListN.{length, take, drop, length-append, take-append-drop}
use lib.Seq.{take-add, take-take, drop_at, take_at, length-take-le}
use Rattle.grammar.specs.Numbers.{row_width}
use Rattle.grammar.specs.Tree.{E, Expr, Bin, Rep, Seq, bin, un, bin_kind, size}
use Rattle.grammar.specs.Rows.{Span, row, flat}
use Rattle.grammar.specs.Text.{resolve, text_of, packed}
use Rattle.grammar.proofs.Packing.{packed_size}
use Rattle.rows.specs.Rows.{At, Tells, StandsIn}
use Rattle.rows.proofs.Laws.{length_flat, size_pos}
use Rattle.writing.specs.declared.Place.{Place}
use Rattle.writing.specs.Writes.{RowAnswer}
use Rattle.writing.specs.Keeps.{KeptAnswer}
use Rattle.writing.proofs.Runs.{take_stored}
use Rattle.writing.proofs.Keeps.{resolve_packed, within_packed}
use Rattle.lister.specs.Loops.{Loops}
use Rattle.lister.specs.Mends.{Pair, MendedAnswer}
use Rattle.lister.proofs.Lists.{listed}

-- what is known up to n, cut at m
module _ (o x y : List ℕ) (m n : ℕ) (h : m ≤ n) (e : take n o ≡ x ++ y) (l : length x ≡ m) where
  pub front_of : take m o ≡ x
  front_of = sym (take-take m n o h) ∙ ap (take m) e ∙ take_at x y m l

  pub part_of : take (n - m) (drop m o) ≡ y
  part_of =
      let k : n ≡ m + (n - m) = omega arith in
      let a : take n o ≡ x ++ take (n - m) (drop m o) = ap (λ (j : ℕ). take j o) k ∙ take-add m (n - m) o ∙ rw front_of in
      sym (drop_at x _ m l) ∙ ap (drop m) (sym a ∙ e) ∙ drop_at x y m l

module _ {p q s : Place} {e f : E} {o t : List ℕ} (h : Pair p q s e f o t) where
  abbrev both : List ℕ
  both = flat (packed p.text e) ++ flat (packed q.text f)

  front_length : length (take (p.rows * row_width) o) ≡ p.rows * row_width
  front_length = length-take-le (p.rows * row_width) o (omega (arith, h.room, h.rows₁, h.rows₂))

  head_length : length (take p.text t) ≡ p.text
  head_length = length-take-le p.text t (omega (arith, h.end, h.text₁, h.text₂))

  whole : o ≡ take (p.rows * row_width) o ++ (both ++ drop (s.rows * row_width) o)
  whole = sym (take-append-drop (s.rows * row_width) o) ∙ rw h.words (append_assoc (take (p.rows * row_width) o) both (drop (s.rows * row_width) o))

  text : t ≡ take p.text t ++ ((text_of e ++ text_of f) ++ drop s.text t)
  text = sym (take-append-drop s.text t) ∙ rw h.bytes (append_assoc (take p.text t) (text_of e ++ text_of f) (drop s.text t))

  -- the two trees are read where they were written
  pub at_first : At o (q.rows - 1) (packed p.text e)
  at_first = record {
    before = take (p.rows * row_width) o;
    after = flat (packed q.text f) ++ drop (s.rows * row_width) o;
    whole = whole ∙ ap (λ (l : List ℕ). take (p.rows * row_width) o ++ l) (append_assoc (flat (packed p.text e)) (flat (packed q.text f)) (drop (s.rows * row_width) o));
    place = omega (arith, front_length, packed_size p.text e, size_pos e, h.rows₁);
  }

  pub at_second : At o (s.rows - 1) (packed q.text f)
  at_second = record {
    before = take (p.rows * row_width) o ++ flat (packed p.text e);
    after = drop (s.rows * row_width) o;
    whole = whole ∙ simp append_assoc;
    place = simp length-append (omega (arith, front_length, length_flat (packed p.text e), packed_size p.text e, packed_size q.text f, size_pos f, h.rows₁, h.rows₂));
  }

  pub stands_first : StandsIn o (q.rows - 1) (length t)
  stands_first = record { tree = packed p.text e; at = at_first; within = within_packed (length t) p.text e (omega (arith, h.text₁, h.text₂, h.end)) }

  pub stands_second : StandsIn o (s.rows - 1) (length t)
  stands_second = record { tree = packed q.text f; at = at_second; within = within_packed (length t) q.text f (omega (arith, h.text₂, h.end)) }

  back_first : resolve t (packed p.text e) ≡ e
  back_first = resolve_packed t p.text (take p.text t) (text_of f ++ drop s.text t) e (text ∙ ap (λ (l : List ℕ). take p.text t ++ l) (append_assoc (text_of e) (text_of f) (drop s.text t))) head_length

  back_second : resolve t (packed q.text f) ≡ f
  back_second =
      let l : length (take p.text t ++ text_of e) ≡ q.text = length-append (take p.text t) (text_of e) ∙ omega (arith, head_length, h.text₁) in
      resolve_packed t q.text (take p.text t ++ text_of e) (drop s.text t) f (text ∙ simp append_assoc) l

  -- what was told of the area is so of the trees
  pub told : (b : Bool) → ((l r : Expr Span) → At o (q.rows - 1) l → At o (s.rows - 1) r → Tells b (Loops (resolve t l) (resolve t r))) → Tells b (Loops e f)
  told b g =
      subst (λ (z : E). Tells b (Loops z f)) back_first
      (subst (λ (z : E). Tells b (Loops (resolve t (packed p.text e)) z)) back_second (g _ _ at_first at_second))

  -- the node's own row
  pub ended : (a : Option Place) (b : Bin) (o' : List ℕ) → RowAnswer a s (bin_kind b, 0, 0) (s.rows - p.rows + 1) o o' → KeptAnswer a p (bin b e f) o o' t t
  ended None b o' r = r h.room
  ended (Some a) b o' r =
      let l = length-append (text_of e) (text_of f) in
      let z : s.rows - p.rows + 1 ≡ size (packed p.text e) + size (packed (p.text + length (text_of e)) f) + 1 = omega (arith, h.rows₁, h.rows₂, packed_size p.text e, packed_size (p.text + length (text_of e)) f) in
      record {
        rows = omega (arith, r.rows, h.rows₁, h.rows₂);
        text = r.text ∙ omega (arith, h.text₁, h.text₂);
        words = rw r.words (take_stored o _ (s.rows * row_width) (a.rows * row_width) (omega (arith, r.rows)) (omega (arith, r.rows, h.room)) ∙ rw (h.words, z, h.text₁) (simp append_assoc));
        bytes = rw r.text h.bytes;
      }

-- the loop's two rows moved past the tree after it
module _ {p q s : Place} (x y f : E) {o t : List ℕ} (same : x ≡ f) (h : Pair p q s (un Rep (bin Seq x y)) f o t) where
  abbrev P : ℕ
  P = p.text

  abbrev a : List ℕ
  a = flat (packed P x)

  abbrev b : List ℕ
  b = flat (packed (P + length (text_of x)) y)

  abbrev c : List ℕ
  c = flat (packed q.text f)

  abbrev loop_rows : List ℕ
  loop_rows = row (8, 0, 0) (size (packed P x) + size (packed (P + length (text_of x)) y) + 1) ++ row (11, 0, 0) (size (packed P x) + size (packed (P + length (text_of x)) y) + 1 + 1)

  counts : length (take (p.rows * row_width) o ++ (a ++ b)) ≡ (q.rows - 2) * row_width
  counts = simp length-append (omega (arith, front_length h, length_flat (packed P x), packed_size P x, length_flat (packed (P + length (text_of x)) y), packed_size (P + length (text_of x)) y, h.rows₁))

  kept_front : take ((q.rows - 2) * row_width) o ≡ take (p.rows * row_width) o ++ (a ++ b)
  kept_front = front_of o _ (loop_rows ++ c) ((q.rows - 2) * row_width) (s.rows * row_width) (omega (arith, h.rows₂)) (h.words ∙ simp append_assoc) counts

  kept_part : take ((s.rows - q.rows) * row_width) (drop (q.rows * row_width) o) ≡ c
  kept_part =
      let n : (s.rows - q.rows) * row_width ≡ s.rows * row_width - q.rows * row_width = omega arith in
      let l : length (take (p.rows * row_width) o ++ ((a ++ b) ++ loop_rows)) ≡ q.rows * row_width = simp length-append (omega (arith, simp length-append at counts, h.rows₁)) in
      rw n (part_of o (take (p.rows * row_width) o ++ ((a ++ b) ++ loop_rows)) c (q.rows * row_width) (s.rows * row_width) (omega (arith, h.rows₂)) (h.words ∙ simp append_assoc) l)

  pub ended_loop : (z : Option Place) (o' : List ℕ) → MendedAnswer z s q.rows (q.rows - p.rows - 1) (s.rows - p.rows + 1) o o' → KeptAnswer z p (listed x y f) o o' t t
  ended_loop None o' r = r
  ended_loop (Some z) o' r =
      let d = P + length (text_of x) + length (text_of y) in
      let sx = ap size same in
      let k : q.text ≡ d = h.text₁ ∙ omega (arith, length-append (text_of x) (text_of y)) in
      let n₁ : q.rows - p.rows - 1 ≡ size (packed (P + length (text_of x)) y) + size (packed d f) + 1 = omega (arith, h.rows₁, packed_size (P + length (text_of x)) y, packed_size d f) in
      let m₁ : s.rows - p.rows + 1 ≡ size (packed P x) + (size (packed (P + length (text_of x)) y) + size (packed d f) + 1 + 1) + 1 = omega (arith, h.rows₁, h.rows₂, packed_size P x, packed_size (P + length (text_of x)) y, packed_size d f) in
      record {
        rows = omega (arith, r.rows, h.rows₁, h.rows₂);
        text = r.text ∙ simp length-append (omega (arith, h.text₂));
        words = r.words ∙ rw (kept_front, kept_part, n₁, m₁, k) (simp append_assoc);
        bytes = rw r.text (h.bytes ∙ simp append_assoc);
      }
