-- The invariant: the hash so far, carried on over the bytes that are left, is the hash of the whole. Assumes nothing.
use mathlib.Core.Path.{◌≡◌}
use Prim.Native.Nat.{◌+◌, ◌-◌, ◌%◌, ◌^◌, ◌≤◌, ◌<◌}
use Rattle.grammar.specs.Text.{bytes_at}
use Rattle.names.specs.Names.{hash_from}
use Rattle.names.proofs.hash_bytes.Given as goal

abbrev pub invariant-loop-i : goal.invariant-loop-i
invariant-loop-i l = (l.i ≤ l.n) × (l.h < 2 ^ 32) × (hash_from l.h (bytes_at l.text (l.x + l.i, l.n - l.i)) ≡ hash_from (l.seed % 2 ^ 32) (bytes_at l.text (l.x, l.n)))
