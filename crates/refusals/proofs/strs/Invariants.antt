use mathlib.Core.Path.{◌≡◌}
use Prim.Native.Nat.{ℕ, ◌≤◌, ◌<◌}
use Rattle.rows.specs.Rows.{kind_at}
use Rattle.refusals.proofs.strs.Given as goal

abbrev pub invariant-loop-j : goal.invariant-loop-j
invariant-loop-j l = (m : ℕ) → l.from ≤ m → m < l.j → kind_at l.rows m ≡ 0
