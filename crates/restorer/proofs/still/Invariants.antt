-- The rows of the table, one by one. Assumes nothing.
-- no row before row i changes the stack by itself
use mathlib.Core.Path.{◌≡◌}
use Prim.Native.Nat.{ℕ, ◌/◌, ◌≤◌, ◌<◌}
use lib.ListN.{length}
use Rattle.grammar.specs.Numbers.{row_width}
use Rattle.restorer.proofs.Calms.{Calm}
use Rattle.restorer.proofs.still.Given as goal

abbrev pub invariant-loop-i : goal.invariant-loop-i
invariant-loop-i l = (l.count ≡ length l.table.rows.now / row_width) × (l.i ≤ l.count) × ((j : ℕ) → j < l.i → Calm l.table.text.now l.table.rows.now j)
