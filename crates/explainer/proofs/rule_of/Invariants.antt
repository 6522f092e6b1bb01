-- The invariant: the row stands behind the rules passed. Assumes nothing.
use Prim.Native.Nat.{◌/◌, ◌≤◌}
use lib.ListN.{length}
use Rattle.grammar.specs.Numbers.{rule_width}
use Rattle.names.specs.Names.{rows_before}
use Rattle.explainer.proofs.rule_of.Given as goal

abbrev pub invariant-loop-i : goal.invariant-loop-i
invariant-loop-i l = (l.i ≤ length l.rules / rule_width) × (rows_before l.rules l.i ≤ l.row)
