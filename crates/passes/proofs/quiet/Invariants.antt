-- `quiet` meets its contract: no row that the loop passed is rewritten. Assumes nothing.
-- each row of the tree ends a subtree, and none before row i is rewritten
use Prim.Native.Nat.{ℕ, ◌+◌, ◌/◌, ◌≤◌, ◌<◌}
use lib.ListN.{length}
use Rattle.grammar.specs.Numbers.{row_width}
use Rattle.rows.specs.Rows.{size_at, Stands}
use Rattle.passes.proofs.Stills.{Quiet}
use Rattle.passes.proofs.quiet.Given as goal

abbrev pub invariant-loop-i : goal.invariant-loop-i
invariant-loop-i l = (l.root < l.i + size_at l.table.rows.now l.root) × (l.i ≤ l.root + 1) × (l.root < length l.table.rows.now / row_width) × ((j : ℕ) → j ≤ l.root → l.root < j + size_at l.table.rows.now l.root → Stands l.table.rows.now j) × ((j : ℕ) → j < l.i → l.root < j + size_at l.table.rows.now l.root → Quiet l.step l.kind l.table.text.now l.table.rows.now j)
