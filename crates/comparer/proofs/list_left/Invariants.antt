use mathlib.Core.Path.{◌≡◌}
use Prim.Native.Nat.{◌*◌, ◌≤◌}
use lib.ListN.{length, take}
use Rattle.grammar.specs.Rows.{Span}
use Rattle.grammar.specs.Table.{Table, resolve_table}
use Rattle.comparison.specs.Compare.{left_entries}
use Rattle.comparer.specs.Lists.{Standing, Added}
use Rattle.comparer.proofs.list_left.Given as goal

abbrev pub invariant-loop-i : goal.invariant-loop-i
invariant-loop-i l = (l.n ≤ l.i * 2) × (length l.list ≡ length l.initial.list) × ((t u : Table Span) → Standing t l.left.rules.now l.left.rows.now → Standing u l.right.rules.now l.right.rows.now → Added l.n 0 (left_entries 0 (resolve_table l.left.text.now (take l.i t)) (resolve_table l.right.text.now u)) l.initial.list l.list)
