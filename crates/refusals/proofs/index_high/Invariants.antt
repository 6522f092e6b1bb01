use mathlib.Core.Path.{◌≡◌}
use Prim.Native.Nat.{ℕ, ◌+◌, ◌*◌, ◌≤◌, ◌<◌}
use lib.ListN.{length, get_or}
use Rattle.refusals.specs.Bytes.{High}
use Rattle.refusals.proofs.index_high.Given as goal

abbrev pub invariant-loop-b : goal.invariant-loop-b
invariant-loop-b l = (length l.marks ≡ length l.initial.marks) × (l.stop ≤ length l.text) × (l.stop ≤ l.b * 64) × (l.b * 64 ≤ l.stop + 63) × High l.text l.stop l.next
    × ((m : ℕ) → l.b ≤ m → m * 64 < length l.text → High l.text (m * 64) (get_or l.marks m 0))
