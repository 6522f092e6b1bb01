use mathlib.Core.Path.{refl, sym, ◌∙◌}
use native.Mathlib.Omega.{arith}
use Rattle.rows.proofs.Laws.{row_found, row_there, root}
use Rattle.chains.proofs.Runs.{up_none, up_room, up_more, up_all}
use Rattle.chains.proofs.raise.Goals as goal

pub loop-i-init : goal.loop-i-init
loop-i-init c = up_none (omega (arith, c.requires.run))

pub shape_of-out-in_err-row : goal.shape_of-out-in_err-row
shape_of-out-in_err-row c = c.loop-i.invariant.same

pub returns-in_err-row : goal.returns-in_err-row
returns-in_err-row c = absurd (row_there _ _ (omega (arith, (root c.requires.at).inside, c.loop-i-test.true)) (sym c.row_at.ensures ∙ c.in_err-row.was))

pub overflow_add-at : goal.overflow_add-at
overflow_add-at c = omega (arith, up_room c.loop-i.invariant c.requires c.loop-i-test.true, c.loop-i.invariant.same, c.requires.words)

pub overflow_sub-at : goal.overflow_sub-at
overflow_sub-at c = let u = c.loop-i.invariant in omega (arith, u.low, u.end, c.requires.order)

pub overflow_cast-at : goal.overflow_cast-at
overflow_cast-at c = omega (arith, up_room c.loop-i.invariant c.requires c.loop-i-test.true, c.loop-i.invariant.same, c.requires.words)

pub set_row-requires : goal.set_row-requires
set_row-requires c = up_room c.loop-i.invariant c.requires c.loop-i-test.true

pub overflow_add-at-in-loop-i : goal.overflow_add-at-in-loop-i
overflow_add-at-in-loop-i c = omega (arith, up_room c.loop-i.invariant c.requires c.loop-i-test.true, c.loop-i.invariant.same, c.requires.words)

pub loop-i-preserved : goal.loop-i-preserved
loop-i-preserved c = let u = c.loop-i.invariant in up_more u c.loop-i-test.true (row_found (sym c.row_at.ensures ∙ c.in_ok-row.was)) (up_room c.loop-i.invariant c.requires c.loop-i-test.true) (omega (arith, u.low, u.end, c.requires.order)) c.set_row.ensures

pub shape_of-out : goal.shape_of-out
shape_of-out c = c.loop-i.invariant.same

pub returns : goal.returns
returns c = let u = c.loop-i.invariant in λ r a. up_all u (omega (arith, u.high, c.loop-i-test.false)) c.requires r a _ _ refl refl refl
