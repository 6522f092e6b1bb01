use Prim.Native.Nat.{ℕ, ◌/◌, ◌<◌}
use mathlib.Core.List.{List}
use lib.ListN.{length}
use native.Mathlib.Omega.{arith}
use Rattle.grammar.specs.Numbers.{row_width}
use Rattle.rows.specs.Rows.{Stands, kind_at}
use Rattle.rows.proofs.Laws.{root, found_row}
use Rattle.rows.proofs.Cells.{tells_yes, tells_no}
use Rattle.rows.proofs.Views.{as_one}
use Rattle.chains.proofs.Runs.{Downs, down_none, down_more, down_stop, down_end}
use Rattle.chains.proofs.below.Goals as goal

there : {w : List ℕ} {i base : ℕ} → Stands w i → Downs w i base → base < length w / row_width
there s d = (root (d s.tree s.at).at).inside

pub loop-base-init : goal.loop-base-init
loop-base-init c = down_none

pub overflow_mul-base : goal.overflow_mul-base
overflow_mul-base c = omega (arith, there c.requires c.loop-base.invariant, c.well_formed)

pub offset_bounds-rows-base : goal.offset_bounds-rows-base
offset_bounds-rows-base c = omega (arith, there c.requires c.loop-base.invariant, c.well_formed)

pub bounds-rows-base : goal.bounds-rows-base
bounds-rows-base c = omega (arith, there c.requires c.loop-base.invariant)

pub overflow_sub-base : goal.overflow_sub-base
unfolding kind_at
overflow_sub-base c = let s = c.requires in
    let v = c.loop-base.invariant in
    let o = as_one (found_row _ _ (there s v)) (v s.tree s.at).at (tells_yes c.loop-base-test.true c.one_below.ensures) in
    omega (arith, o.least, o.most)

pub loop-base-smaller : goal.loop-base-smaller
unfolding kind_at
loop-base-smaller c = let s = c.requires in
    let v = c.loop-base.invariant in
    let o = as_one (found_row _ _ (there s v)) (v s.tree s.at).at (tells_yes c.loop-base-test.true c.one_below.ensures) in
    omega (arith, o.least, o.most)

pub loop-base-preserved : goal.loop-base-preserved
unfolding kind_at
loop-base-preserved c = let v = c.loop-base.invariant in down_more v (found_row _ _ (there c.requires v)) (tells_yes c.loop-base-test.true c.one_below.ensures)

pub returns : goal.returns
unfolding kind_at
returns c = let v = c.loop-base.invariant in down_end v (down_stop v (found_row _ _ (there c.requires v)) (tells_no c.loop-base-test.false c.one_below.ensures))
