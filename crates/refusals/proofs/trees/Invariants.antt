use Prim.Native.Nat.{◌*◌, ◌/◌, ◌≤◌}
use lib.ListN.{length, drop}
use Rattle.grammar.specs.Numbers.{rule_width, row_width}
use Rattle.refusals.specs.Local.{up_to, IsTable}
use Rattle.refusals.proofs.trees.Given as goal

abbrev pub invariant-loop-i : goal.invariant-loop-i
invariant-loop-i l = (l.i ≤ length l.table.rules.now / rule_width) × (l.from ≤ length l.table.rows.now / row_width)
    × (IsTable (up_to l.most) l.table.rules.now l.table.rows.now → IsTable (up_to l.most) (drop (l.i * rule_width) l.table.rules.now) (drop (l.from * row_width) l.table.rows.now))
    × (IsTable (up_to l.most) (drop (l.i * rule_width) l.table.rules.now) (drop (l.from * row_width) l.table.rows.now) → IsTable (up_to l.most) l.table.rules.now l.table.rows.now)
