use mathlib.Core.Path.{◌≡◌}
use Prim.Native.Nat.{◌≤◌}
use lib.ListN.{length}
use Rattle.grammar.specs.Text.{bytes_at}
use Rattle.writing.specs.Writes.{stored}
use Rattle.writing.proofs.copy_bytes.Given as goal

abbrev pub invariant-loop-i : goal.invariant-loop-i
invariant-loop-i l = (l.i ≤ l.n) × (length l.dst ≡ length l.initial.dst) × (l.dst ≡ stored l.initial.dst l.at (bytes_at l.src (l.x, l.i)))
