-- The invariant: the marks passed are written. Assumes nothing.
use mathlib.Core.Path.{◌≡◌}
use Prim.Native.Nat.{◌≤◌}
use lib.ListN.{length}
use Rattle.names.specs.Names.{marked}
use Rattle.names.proofs.fill.Given as goal

abbrev pub invariant-loop-i : goal.invariant-loop-i
invariant-loop-i l = (l.i ≤ l.count) × (length l.marks ≡ length l.initial.marks) × (l.marks ≡ marked (λ _. l.v) l.j l.i l.initial.marks)
