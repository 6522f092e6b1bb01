-- The invariant: the words passed stand in front. Assumes nothing.
use mathlib.Core.Path.{◌≡◌}
use Prim.Native.Nat.{◌≤◌}
use lib.ListN.{length, take}
use Rattle.writing.specs.Writes.{stored}
use Rattle.packing.proofs.copy_words.Given as goal

abbrev pub invariant-loop-i : goal.invariant-loop-i
invariant-loop-i l = (l.i ≤ l.n) × (length l.dst ≡ length l.initial.dst) × (l.dst ≡ stored l.initial.dst 0 (take l.i l.src))
