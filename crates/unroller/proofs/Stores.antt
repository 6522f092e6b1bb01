-- What a run of stores leaves in an area: itself, and what is before it. Assumes nothing.
use mathlib.Core.Path.{◌≡◌, refl, sym, ap, ◌∙◌}
use mathlib.Core.List.{List, [], ◌∷◌, ◌++◌, append_assoc}
use Prim.Native.Nat.{ℕ, zero, suc, ◌+◌, ◌*◌, ◌≤◌, ◌<◌}
use native.Mathlib.Omega.{arith}
use lib.ListN.{length, get_or, take, drop, set, take-append-drop, length-append, length-drop}
use lib.Seq.{sets-eq, take-set-le, drop-set-lt, take_at, drop_at, take-take, get_or-take, drop-drop, length-take-le}
use Rattle.grammar.specs.Numbers.{row_width}
use Rattle.grammar.specs.Tree.{Expr, size}
use Rattle.grammar.specs.Rows.{Span, flat}
use Rattle.grammar.specs.Text.{bytes_at}
use Rattle.rows.specs.Rows.{At}
use Rattle.rows.proofs.Laws.{length_flat, length_part}
use Rattle.writing.specs.Writes.{stored}
use Rattle.writing.proofs.Runs.{length_stored}

-- before, the run, after
pub stored_parts : (o v : List ℕ) (i : ℕ) → i + length v ≤ length o → stored o i v ≡ take i o ++ (v ++ drop (i + length v) o)
unfolding stored
stored_parts o v i h = sets-eq v o i h ∙ append_assoc (take i o) v (drop (i + length v) o)

-- the run itself
pub stored_run : (o v : List ℕ) (i n : ℕ) → length v ≡ n → i + n ≤ length o → bytes_at (stored o i v) (i, n) ≡ v
stored_run o v i n e h =
    let l : length (take i o) ≡ i = length-take-le i o (omega arith) in
    ap (take n) (ap (drop i) (stored_parts o v i (omega arith)) ∙ drop_at (take i o) _ i l) ∙ take_at v _ n e

-- what is before it
pub stored_front : (o v : List ℕ) (i n : ℕ) → n ≤ i → take n (stored o i v) ≡ take n o
unfolding stored
stored_front o [] i n h = refl
stored_front o (a ∷ v) i n h = stored_front (set o i a) v (suc i) n (omega arith) ∙ take-set-le n o i a h

-- what is after it
stored_rest : (o v : List ℕ) (i n : ℕ) → i + length v ≤ n → drop n (stored o i v) ≡ drop n o
unfolding stored
stored_rest o [] i n h = refl
stored_rest o (a ∷ v) i n h = stored_rest (set o i a) v (suc i) n (omega arith) ∙ drop-set-lt n o i a (omega arith)

-- a part of the front
part_front : (w : List ℕ) (x n m : ℕ) → x + n ≤ m → bytes_at (take m w) (x, n) ≡ bytes_at w (x, n)
part_front w zero n m h = take-take n m w (omega arith)
part_front w (suc x) n zero h = absurd (omega arith)
part_front [] (suc x) n (suc m) h = refl
part_front (a ∷ w) (suc x) n (suc m) h = part_front w x n m (omega arith)

pub stored_before : (o v : List ℕ) (i x n : ℕ) → x + n ≤ i → bytes_at (stored o i v) (x, n) ≡ bytes_at o (x, n)
stored_before o v i x n h = sym (part_front (stored o i v) x n i h) ∙ ap (λ (w : List ℕ). bytes_at w (x, n)) (stored_front o v i i (omega arith)) ∙ part_front o x n i h

pub stored_word : (o v : List ℕ) (i k : ℕ) → k < i → get_or (stored o i v) k 0 ≡ get_or o k 0
stored_word o v i k h = sym (get_or-take i (stored o i v) k 0 h) ∙ ap (λ (w : List ℕ). get_or w k 0) (stored_front o v i i (omega arith)) ∙ get_or-take i o k 0 h

-- what stands there, stored again
pub stored_same : (o v : List ℕ) (i n : ℕ) → bytes_at o (i, n) ≡ v → i + n ≤ length o → stored o i v ≡ o
stored_same o v i n e h =
    let l : length v ≡ n = ap length (sym e) ∙ length_part o i n h in
    stored_parts o v i (omega arith)
    ∙ ap (λ (u : List ℕ). take i o ++ (u ++ drop (i + length v) o)) (sym e)
    ∙ rw (l, ← (drop-drop n i o), take-append-drop n (drop i o), take-append-drop i o)

-- a run stored over a shorter one
pub stored_over : (o u v : List ℕ) (i : ℕ) → length u ≤ length v → i + length v ≤ length o → stored (stored o i u) i v ≡ stored o i v
stored_over o u v i h l =
    stored_parts (stored o i u) v i (omega (arith, length_stored o i u))
    ∙ (rw (stored_front o u i i (omega arith), stored_rest o u i (i + length v) (omega arith)) (sym (stored_parts o v i l)))

-- a part of the front, copied behind it, where the area is split
pub stored_split : (o : List ℕ) (i x n : ℕ) → x + n ≤ i → i + n ≤ length o → take i o ++ stored (drop i o) 0 (bytes_at (take i o) (x, n)) ≡ stored o i (bytes_at o (x, n))
stored_split o i x n h l =
    let v = bytes_at o (x, n) in
    let e : length v ≡ n = length_part o x n (omega arith) in
    let z : 0 + length v ≡ length v = omega arith in
    rw (part_front o x n i h, stored_parts (drop i o) v 0 (simp length-drop (omega arith)), z, drop-drop (length v) i o) (sym (stored_parts o v i (omega arith)))

-- a tree whose rows are before the run stands as it did
pub at_front : {o o' : List ℕ} {i : ℕ} {r : Expr Span} → take (i * row_width + row_width) o' ≡ take (i * row_width + row_width) o → At o i r → At o' i r
at_front {o} {o'} {i} {r} e a = record {
  before = a.before;
  after = drop (i * row_width + row_width) o';
  whole =
      let l : length (a.before ++ flat r) ≡ i * row_width + row_width = simp length-append (omega (arith, length_flat r, a.place)) in
      let f : take (i * row_width + row_width) o ≡ a.before ++ flat r = ap (take (i * row_width + row_width)) (a.whole ∙ sym (append_assoc a.before (flat r) a.after)) ∙ take_at (a.before ++ flat r) a.after (i * row_width + row_width) l in
      sym (take-append-drop (i * row_width + row_width) o') ∙ rw (e, f) (append_assoc a.before (flat r) (drop (i * row_width + row_width) o'));
  place = a.place;
}

-- the rows of a tree that stands
pub at_run : {o : List ℕ} {i : ℕ} (j : ℕ) {n : ℕ} {r : Expr Span} → At o i r → n ≡ size r * row_width → j + n ≡ i * row_width + row_width → bytes_at o (j, n) ≡ flat r
at_run {o} {i} j {n} {r} a e h =
    ap (λ (w : List ℕ). bytes_at w (j, n)) a.whole
    ∙ ap (take n) (drop_at a.before (flat r ++ a.after) j (omega (arith, a.place)))
    ∙ take_at (flat r) a.after n (length_flat r ∙ sym e)
