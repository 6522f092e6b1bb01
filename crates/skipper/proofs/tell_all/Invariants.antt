use mathlib.Core.Path.{◌≡◌}
use Prim.Native.Nat.{◌/◌}
use lib.ListN.{length}
use Rattle.grammar.specs.Numbers.{rule_width}
use Rattle.skipper.proofs.Ways.{Telling}
use Rattle.skipper.proofs.tell_all.Given as goal

abbrev pub invariant-loop-i : goal.invariant-loop-i
invariant-loop-i l = (l.count ≡ length l.table.rules.now / rule_width) × Telling l.table.rules.now l.table.rows.now l.table.text.now l.initial.marks l.marks l.i
