-- The invariant: the marks of the rules passed hold their ends, and the sum is the rows of those rules. Assumes nothing.
use mathlib.Core.Path.{◌≡◌}
use Prim.Native.Nat.{suc, ◌/◌, ◌≤◌}
use lib.ListN.{length}
use Rattle.grammar.specs.Numbers.{rule_width}
use Rattle.names.specs.Names.{rows_before, marked, end_word}
use Rattle.names.proofs.mark_ends.Given as goal

abbrev pub invariant-loop-i : goal.invariant-loop-i
invariant-loop-i l = (l.i ≤ length l.rules / rule_width) × (length l.marks ≡ length l.initial.marks) × (l.end ≡ rows_before l.rules l.i) × (l.marks ≡ marked (λ k. rows_before l.rules (suc k)) end_word l.i l.initial.marks)
