-- The rows of the subtree, one by one. Assumes nothing.
-- no row of the tree before row i can change the stack
use Prim.Native.Nat.{ℕ, ◌+◌, ◌/◌, ◌≤◌, ◌<◌}
use lib.ListN.{length}
use Rattle.grammar.specs.Numbers.{row_width}
use Rattle.rows.specs.Rows.{size_at}
use Rattle.restorer.proofs.Stills.{Stills}
use Rattle.restorer.proofs.alters.Given as goal

abbrev pub invariant-loop-i : goal.invariant-loop-i
invariant-loop-i l = (l.root < l.i + size_at l.table.rows.now l.root) × (l.i ≤ l.root + 1) × (l.root < length l.table.rows.now / row_width) × ((j : ℕ) → j < l.i → l.root < j + size_at l.table.rows.now l.root → Stills l.table.rules.now l.marks l.table.rows.now l.table.text.now j)
