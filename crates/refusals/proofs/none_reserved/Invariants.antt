use mathlib.Core.Path.{◌≡◌}
use mathlib.Core.Bool.{false}
use Prim.Native.Nat.{ℕ, ◌<◌}
use Rattle.grammar.specs.Basic.{member}
use Rattle.grammar.specs.Refusals.{reserved}
use Rattle.names.specs.Names.{name_of}
use Rattle.refusals.proofs.none_reserved.Given as goal

abbrev pub invariant-loop-i : goal.invariant-loop-i
invariant-loop-i l = (j : ℕ) → j < l.i → member (name_of l.table.rules.now l.table.text.now j) reserved ≡ false
