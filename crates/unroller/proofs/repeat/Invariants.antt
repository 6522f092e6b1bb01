use mathlib.Core.Path.{◌≡◌}
use Prim.Native.Nat.{◌≤◌}
use lib.ListN.{length, replicate}
use Rattle.grammar.specs.Tree.{E}
use Rattle.unroller.specs.Items.{item_of}
use Rattle.unroller.specs.Copies.{Source, Laid}
use Rattle.unroller.proofs.repeat.Given as goal

abbrev pub invariant-loop-i : goal.invariant-loop-i
invariant-loop-i l = (l.i ≤ l.n) × (length l.out ≡ length l.initial.out) × (length l.lits ≡ length l.initial.lits) × ((e : E) → Source l.p l.q e l.initial.out l.initial.lits → Laid l.s l.initial.s (replicate l.i (item_of l.item e)) l.initial.out l.out l.initial.lits l.lits)
