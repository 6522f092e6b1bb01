-- The invariant: what was summed and the sum over the rows left are the sum over all. Assumes nothing.
use mathlib.Core.Path.{◌≡◌}
use Prim.Native.Nat.{ℕ, ◌+◌, ◌*◌, ◌^◌, ◌≤◌}
use lib.ListN.{drop}
use Rattle.grammar.specs.Numbers.{row_width}
use Rattle.packing.specs.Packing.{sum_four}
use Rattle.packing.proofs.sum_four.Given as goal

abbrev pub invariant-loop-i : goal.invariant-loop-i
invariant-loop-i g l = (l.sum ≤ l.i * 2 ^ 32) × ((f : ℕ → ℕ → ℕ → ℕ) → ((a b c r : ℕ) → goal.F-post g l.size a b c r → r ≡ f a b c) → l.sum + sum_four f (drop (l.i * row_width) l.words) ≡ sum_four f l.words)
