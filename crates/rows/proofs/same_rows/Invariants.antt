use mathlib.Core.Path.{◌≡◌}
use Prim.Native.Nat.{ℕ, ◌+◌, ◌≤◌, ◌<◌}
use Rattle.rows.specs.Rows.{cell_at}
use Rattle.rows.proofs.same_rows.Given as goal

abbrev pub invariant-loop-k : goal.invariant-loop-k
invariant-loop-k l = (l.k ≤ l.n) × ((m : ℕ) → m < l.k → cell_at l.one.text.now l.one.rows.now (l.i + m) ≡ cell_at l.other.text.now l.other.rows.now (l.j + m))
