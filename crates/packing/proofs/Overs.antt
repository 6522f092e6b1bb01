-- A run stored at the front of an area. Assumes nothing.
use mathlib.Core.Path.{◌≡◌, ap, ◌∙◌}
use mathlib.Core.List.{List, ◌++◌}
use Prim.Native.Nat.{ℕ, ◌+◌, ◌≤◌, ◌<◌}
use native.Mathlib.Nat.{zero-add}
use native.Mathlib.Omega.{arith}
use lib.ListN.{length, get_or, set, drop, take}
use lib.Seq.{length-take-le, sets-eq}
use Rattle.grammar.specs.Optimize.{over}
use Rattle.writing.specs.Writes.{stored}
use Rattle.writing.proofs.Runs.{copy_more}

-- one more word of a copy
pub stored_more : (s d : List ℕ) (i : ℕ) → i < length s → set (stored d 0 (take i s)) i (get_or s i 0) ≡ stored d 0 (take (i + 1) s)
stored_more s d i h = rw zero-add at (copy_more s d 0 0 i (rw zero-add h))

-- n words that fit, stored from index 0 on
pub stored_over : (s o : List ℕ) (n : ℕ) → n ≤ length s → n ≤ length o → stored o 0 (take n s) ≡ over (take n s) o
unfolding stored
stored_over s o n h k = sets-eq (take n s) o 0 (omega (arith, length-take-le n s h)) ∙ ap (λ (m : ℕ). take n s ++ drop m o) (zero-add (length (take n s)))
