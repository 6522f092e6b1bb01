use mathlib.Core.Path.{◌≡◌}
use Prim.Native.Nat.{◌/◌}
use lib.ListN.{length}
use Rattle.grammar.specs.Numbers.{rule_width}
use Rattle.skipper.proofs.Tables.{RulesRead}
use Rattle.skipper.proofs.read_rules.Given as goal

abbrev pub invariant-loop-k : goal.invariant-loop-k
invariant-loop-k l = (l.count ≡ length l.table.rules.now / rule_width) × RulesRead l.table.rules.now l.table.rows.now l.table.text.now l.initial.marks l.marks l.k
