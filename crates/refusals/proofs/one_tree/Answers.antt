use Prim.Native.Nat.{◌/◌}
use native.Mathlib.Omega.{arith}
use lib.ListN.{length}
use Rattle.grammar.specs.Numbers.{row_width}
use Rattle.rows.specs.Rows.{size_at}
use Rattle.rows.proofs.Cells.{tells_no}
use Rattle.refusals.proofs.Piles.{of_tree, tree_tells}
use Rattle.refusals.proofs.one_tree.Goals as goal

pub returns-then-count-eq0 : goal.returns-then-count-eq0
returns-then-count-eq0 c = λ t. let f = of_tree _ _ c.requires.1 (length c.args.rows.now / row_width) (omega arith) t in omega (arith, f.some_row)

pub returns-then-not-row_fits : goal.returns-then-not-row_fits
returns-then-not-row_fits c = λ t. let f = of_tree _ _ c.requires.1 (length c.args.rows.now / row_width) (omega arith) t in tells_no c.if-not-row_fits.true c.row_fits.ensures (f.rows _ c.loop-i-test.true)

pub returns : goal.returns
unfolding size_at
returns c = tree_tells _ _ c.requires.1 (length c.args.rows.now / row_width) c.size_at.result (omega arith) (λ j h. c.loop-i.invariant j (omega arith)) (omega arith) c.size_at.ensures
