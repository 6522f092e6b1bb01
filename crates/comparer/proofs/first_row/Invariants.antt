use mathlib.Core.Path.{◌≡◌}
use Prim.Native.Nat.{◌≤◌}
use Rattle.names.specs.Names.{rows_before}
use Rattle.comparer.proofs.first_row.Given as goal

abbrev pub invariant-loop-i : goal.invariant-loop-i
invariant-loop-i l = (l.before ≡ rows_before l.rules l.i) × (l.before ≤ l.most)
