-- `pass` meets its contract: rule by rule, those before the next that may change known. Assumes nothing.
-- rule i begins at row `end`, and those from it up to rule `next` are left as they are
use mathlib.Core.Path.{◌≡◌}
use Prim.Native.Nat.{◌/◌}
use lib.ListN.{length}
use Rattle.grammar.specs.Numbers.{rule_width}
use Rattle.names.specs.Names.{rows_before}
use Rattle.passes.specs.Passes.{LeavesFrom}
use Rattle.passes.proofs.Loops.{Loop}
use Rattle.passes.proofs.pass.Given as goal

abbrev pub invariant-loop-i : goal.invariant-loop-i
invariant-loop-i l = (l.count ≡ length l.table.rules.now / rule_width) × Loop l.step l.given.rules.now l.given.rows.now l.given.text.now l.table.rules.now l.table.rows.now l.table.text.now l.initial.heads l.initial.out l.initial.lits l.heads l.out l.lits l.p l.end l.i × (l.end ≡ rows_before l.table.rules.now l.i) × LeavesFrom l.step l.table.rules.now l.table.rows.now l.table.text.now l.i l.next
