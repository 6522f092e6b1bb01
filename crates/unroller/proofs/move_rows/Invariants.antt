use mathlib.Core.Path.{◌≡◌}
use Prim.Native.Nat.{◌*◌, ◌≤◌}
use lib.ListN.{length}
use Rattle.grammar.specs.Numbers.{row_width}
use Rattle.writing.specs.Writes.{stored}
use Rattle.unroller.specs.Copies.{moved}
use Rattle.unroller.proofs.move_rows.Given as goal

abbrev pub invariant-loop-k : goal.invariant-loop-k
invariant-loop-k l = (l.k ≤ l.n) × (length l.out ≡ length l.initial.out) × (l.out ≡ stored l.initial.out (l.j * row_width) (moved l.d l.initial.out l.i l.k))
