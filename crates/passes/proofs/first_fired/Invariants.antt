-- `first_fired` meets its contract: the step leaves each rule that the loop passed as it is. Assumes nothing.
-- rule i begins at row `begin`, and those before it are left as they are
use mathlib.Core.Path.{◌≡◌}
use Prim.Native.Nat.{◌/◌, ◌≤◌}
use lib.ListN.{length}
use Rattle.grammar.specs.Numbers.{rule_width}
use Rattle.names.specs.Names.{rows_before}
use Rattle.passes.specs.Passes.{LeavesFrom}
use Rattle.passes.proofs.first_fired.Given as goal

abbrev pub invariant-loop-i : goal.invariant-loop-i
invariant-loop-i l = (l.count ≡ length l.table.rules.now / rule_width) × (l.from ≤ l.i) × (l.i ≤ l.count) × (l.begin ≡ rows_before l.table.rules.now l.i) × LeavesFrom l.step l.table.rules.now l.table.rows.now l.table.text.now l.from l.i
