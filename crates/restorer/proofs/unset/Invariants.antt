-- The rows of the subtree, one by one. Assumes nothing.
-- no row of the tree before row i is a RestoreOnErr
use mathlib.Core.Path.{◌≡◌}
use Prim.Native.Nat.{ℕ, ◌+◌, ◌/◌, ◌≤◌, ◌<◌}
use lib.ListN.{length}
use Rattle.grammar.specs.Numbers.{row_width}
use Rattle.rows.specs.Rows.{kind_at, size_at}
use Rattle.restorer.proofs.unset.Given as goal

abbrev pub invariant-loop-i : goal.invariant-loop-i
invariant-loop-i l = (l.root < l.i + size_at l.rows l.root) × (l.i ≤ l.root + 1) × (l.root < length l.rows / row_width) × ((j : ℕ) → j < l.i → l.root < j + size_at l.rows l.root → kind_at l.rows j ≡ 19 → ⊥)
