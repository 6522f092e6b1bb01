use mathlib.Core.Path.{◌≡◌}
use Prim.Native.Nat.{◌≤◌}
use lib.ListN.{length}
use Rattle.grammar.specs.Text.{bytes_at}
use Rattle.writing.specs.Writes.{stored}
use Rattle.unroller.proofs.copy_on.Given as goal

abbrev pub invariant-loop-i : goal.invariant-loop-i
invariant-loop-i l = (l.i ≤ l.n) × (length l.lits ≡ length l.initial.lits) × (l.lits ≡ stored l.initial.lits l.at (bytes_at l.initial.lits (l.x, l.i)))
