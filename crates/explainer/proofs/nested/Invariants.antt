-- The invariant: of the rows passed none nests. Assumes nothing.
use Prim.Native.Nat.{◌+◌, ◌≤◌}
use Rattle.explainer.proofs.Scans.{FlatRows}
use Rattle.explainer.proofs.nested.Given as goal

abbrev pub invariant-loop-i : goal.invariant-loop-i
invariant-loop-i l = (l.initial.i ≤ l.i) × (l.i ≤ l.root + 1) × FlatRows l.rows l.initial.i l.i
