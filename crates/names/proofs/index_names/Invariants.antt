use mathlib.Core.Path.{◌≡◌}
use Prim.Native.Nat.{◌/◌, ◌≤◌}
use lib.ListN.{length}
use Rattle.grammar.specs.Numbers.{rule_width}
use Rattle.names.specs.Names.{Indexed}
use Rattle.names.proofs.index_names.Given as goal

abbrev pub invariant-loop-i : goal.invariant-loop-i
invariant-loop-i l = (l.i ≤ length l.table.rules.now / rule_width) × (length l.marks ≡ length l.initial.marks) × Indexed l.i l.table.rules.now l.table.text.now l.marks
