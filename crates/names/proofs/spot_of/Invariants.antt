use mathlib.Core.Path.{◌≡◌}
use Prim.Native.Nat.{ℕ, ◌+◌, ◌*◌, ◌/◌}
use lib.ListN.{length}
use Rattle.grammar.specs.Numbers.{rule_width}
use Rattle.grammar.specs.Text.{bytes_at}
use Rattle.names.specs.Names.{name_of, bucket_of, half_at, Way, Indexed, halves}
use Rattle.names.proofs.Index.{steps_left}
use Rattle.names.proofs.spot_of.Given as goal

abbrev pub invariant-loop-holds : goal.invariant-loop-holds
invariant-loop-holds l = (l.holds ≡ half_at l.marks l.slot) × ((k : ℕ) → Indexed k l.table.rules.now l.table.text.now l.marks → Way (length l.table.rules.now / rule_width) k (name_of l.table.rules.now l.table.text.now) l.marks (bytes_at l.text2 (l.x, l.n)) (bucket_of (length l.table.rules.now / rule_width) (bytes_at l.text2 (l.x, l.n)) * halves + 1) l.slot)

abbrev pub decreases-loop-holds : goal.decreases-loop-holds
decreases-loop-holds l = steps_left (length l.table.rules.now / rule_width) l.holds
