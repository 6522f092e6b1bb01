-- The invariant: what passes among the rows left is what passes among all. Assumes nothing.
use mathlib.Core.Path.{◌≡◌}
use mathlib.Core.Bool.{Bool}
use Prim.Native.Nat.{ℕ, ◌*◌}
use lib.ListN.{drop}
use Rattle.grammar.specs.Numbers.{row_width}
use Rattle.refusals.specs.Bytes.{any_four}
use Rattle.refusals.proofs.any_four.Given as goal

abbrev pub invariant-loop-i : goal.invariant-loop-i
invariant-loop-i g l = (p : ℕ → ℕ → ℕ → Bool) → ((a b c : ℕ) (r : Bool) → goal.F-post g l.test a b c r → r ≡ p a b c) → any_four p l.words ≡ any_four p (drop (l.i * row_width) l.words)
