-- `left_of` meets its contract: the row lies in the table, and its right side's size word leaves room for the left side. Assumes nothing.
use Prim.Native.Nat.{ℕ, ◌+◌, ◌-◌, ◌/◌, ◌≤◌, ◌<◌}
use mathlib.Core.Path.{◌≡◌}
use mathlib.Core.List.{List}
use native.Mathlib.Omega.{arith}
use lib.ListN.{length}
use Rattle.grammar.specs.Numbers.{row_width, k_pair}
use Rattle.rows.specs.Rows.{kind_at, size_at, Stands}
use Rattle.rows.proofs.Laws.{root}
use Rattle.rows.proofs.Views.{as_pair}
use Rattle.rows.proofs.left_of.Goals as goal

here : {w : List ℕ} {i : ℕ} → Stands w i → kind_at w i / 2 ≡ k_pair → (i < length w / row_width) × (1 ≤ i) × (2 + size_at w (i - 1) ≤ i + 1)
here t e = let v = as_pair t.at e in ((root t.at).inside, omega (arith, v.least_left, v.most), omega (arith, v.least_left, v.most, (root v.at_right).rows))

pub overflow_sub-right : goal.overflow_sub-right
overflow_sub-right c = omega (arith, here c.requires.stands c.requires.i_value)

pub size_at-requires : goal.size_at-requires
size_at-requires c = omega (arith, here c.requires.stands c.requires.i_value)

pub overflow_sub-result : goal.overflow_sub-result
overflow_sub-result c = omega (arith, here c.requires.stands c.requires.i_value, c.size_at.ensures)

pub returns : goal.returns
returns c = omega (arith, c.size_at.ensures)
