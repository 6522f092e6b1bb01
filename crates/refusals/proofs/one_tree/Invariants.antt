use Prim.Native.Nat.{ℕ, ◌<◌}
use Rattle.refusals.specs.Local.{RowFits}
use Rattle.refusals.proofs.one_tree.Given as goal

abbrev pub invariant-loop-i : goal.invariant-loop-i
invariant-loop-i l = (j : ℕ) → j < l.i → RowFits l.most l.rows j
