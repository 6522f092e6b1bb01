use mathlib.Core.Path.{◌≡◌}
use Prim.Native.Nat.{◌-◌, ◌/◌}
use lib.ListN.{length}
use Rattle.grammar.specs.Numbers.{rule_width}
use Rattle.skipper.proofs.Ways.{Shortening}
use Rattle.skipper.proofs.shorten.Given as goal

abbrev pub invariant-loop-steps : goal.invariant-loop-steps
invariant-loop-steps l = (l.count ≡ length l.table.rules.now / rule_width) × Shortening l.table.rules.now l.table.rows.now l.table.text.now l.initial.marks l.marks l.steps

abbrev pub decreases-loop-steps : goal.decreases-loop-steps
decreases-loop-steps l = l.count - l.steps
