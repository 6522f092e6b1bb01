-- Runs of stores, and the front of an area. Assumes nothing.
use mathlib.Core.Path.{◌≡◌, refl, sym, ap, ◌∙◌}
use mathlib.Core.List.{List, [], ◌∷◌, ◌++◌, append_assoc}
use Prim.Native.Nat.{ℕ, suc, ◌+◌, ◌≤◌, ◌<◌}
use native.Mathlib.Nat.{add-zero, add-suc, suc-add}
use native.Mathlib.Numerals.{add-one}
use native.Mathlib.Omega.{arith}
use lib.ListN.{length, get_or, take, drop, set, length-append, length-take, length-drop}
use lib.Seq.{sets, sets-eq, drop-drop, length-sets, take-suc, take_at, take-take, length-take-le, get_or-drop}
use Rattle.grammar.specs.Text.{bytes_at}
use Rattle.writing.specs.Writes.{stored}

pub length_stored : (o : List ℕ) (i : ℕ) (vs : List ℕ) → length (stored o i vs) ≡ length o
unfolding stored
length_stored o i vs = length-sets o i vs

pub stored_none : (o : List ℕ) (i : ℕ) → stored o i [] ≡ o
unfolding stored
stored_none o i = refl

sets_append : (u v l : List ℕ) (i : ℕ) → sets (sets l i u) (i + length u) v ≡ sets l i (u ++ v)
sets_append [] v l i = ap (λ (n : ℕ). sets l n v) (add-zero i)
sets_append (x ∷ u) v l i =
    ap (λ (n : ℕ). sets (sets (set l i x) (suc i) u) n v) (add-suc i (length u) ∙ sym (suc-add i (length u)))
    ∙ sets_append u v (set l i x) (suc i)

-- a run that goes on where another ended
pub stored_append : (o u v : List ℕ) (i : ℕ) → stored (stored o i u) (i + length u) v ≡ stored o i (u ++ v)
unfolding stored
stored_append o u v i = sets_append u v o i

pub stored_then : (o o₁ o₂ u v : List ℕ) (i j : ℕ) → o₁ ≡ stored o i u → j ≡ i + length u → o₂ ≡ stored o₁ j v → o₂ ≡ stored o i (u ++ v)
stored_then o o₁ o₂ u v i j e f h = h ∙ rw (e, f) (stored_append o u v i)

-- one more byte of a copy
pub copy_more : (s d : List ℕ) (x at i : ℕ) → x + i < length s → set (stored d at (bytes_at s (x, i))) (at + i) (get_or s (x + i) 0) ≡ stored d at (bytes_at s (x, i + 1))
unfolding stored
copy_more s d x at i h =
    let l : i < length (drop x s) = simp length-drop (omega arith) in
    let n : at + length (take i (drop x s)) ≡ at + i = simp (length-take, length-drop) (omega arith) in
    rw (add-one, take-suc (drop x s) i 0 l, get_or-drop, ← (sets_append (take i (drop x s)) (get_or s (x + i) 0 ∷ []) d at), n)

-- a part of an area that is copied over
pub part_stored : (o vs : List ℕ) (i n : ℕ) → length vs ≡ n → i + n ≤ length o → take i o ++ (vs ++ drop n (drop i o)) ≡ stored o i vs
unfolding stored
part_stored o vs i n e h = rw (drop-drop, ← e) (sym (append_assoc (take i o) vs _) ∙ sym (sets-eq vs o i (omega (arith, e, h))))

-- the front of an area up to the end of a run: what was before it, and the run
pub take_stored : (o v : List ℕ) (i n : ℕ) → n ≡ i + length v → n ≤ length o → take n (stored o i v) ≡ take i o ++ v
unfolding stored
take_stored o v i n e h =
    let l : i ≤ length o = omega arith in
    ap (take n) (sets-eq v o i (omega arith)) ∙ take_at (take i o ++ v) _ n (length-append (take i o) v ∙ omega (arith, length-take-le i o l))

-- a shorter front is as it was
pub take_front : (o o₂ u : List ℕ) (m n : ℕ) → m ≤ n → m ≤ length o → take n o₂ ≡ take m o ++ u → take m o₂ ≡ take m o
take_front o o₂ u m n h l e = sym (take-take m n o₂ h) ∙ ap (take m) e ∙ take_at (take m o) u m (length-take-le m o l)
