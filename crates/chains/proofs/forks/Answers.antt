-- `forks` meets its contract: the row's kind word is in the table. Assumes nothing.
use Prim.Native.Nat.{◌/◌}
use native.Mathlib.Omega.{arith}
use Rattle.rows.specs.Rows.{kind_at}
use Rattle.rows.proofs.Laws.{root}
use Rattle.rows.proofs.Cells.{tells_eqb}
use Rattle.chains.proofs.forks.Goals as goal

pub overflow_mul-result : goal.overflow_mul-result
overflow_mul-result c = omega (arith, (root c.requires.at).inside)

pub offset_bounds-rows-i : goal.offset_bounds-rows-i
offset_bounds-rows-i c = omega (arith, (root c.requires.at).inside)

pub bounds-rows-i : goal.bounds-rows-i
bounds-rows-i c = omega (arith, (root c.requires.at).inside)

pub returns : goal.returns
unfolding kind_at
returns c = let s = c.args in tells_eqb (kind_at s.rows.now s.i / 2) 4
