-- The invariant: while m is 0, the bytes passed are the same. Assumes nothing.
use mathlib.Core.Path.{◌≡◌}
use Prim.Native.Nat.{ℕ, ◌+◌, ◌≤◌, ◌<◌}
use lib.ListN.{get_or}
use Rattle.rows.specs.Rows.{block}
use Rattle.rows.proofs.same_block.Given as goal

abbrev pub invariant-loop-i : goal.invariant-loop-i
invariant-loop-i l = (l.i ≤ block) × (l.m ≡ 0 → (k : ℕ) → k < l.i → get_or l.text1 (l.x + k) 0 ≡ get_or l.text2 (l.y + k) 0)
