use mathlib.Core.Path.{refl, sym, ◌∙◌}
use native.Mathlib.Omega.{arith}
use Rattle.rows.proofs.Laws.{read_size, row_found, root_there, size_pos}
use Rattle.chains.proofs.Closes.{last_at, turn_none, turn_all, turns_more, same_words, left_at, first_least, first_most, read_most}
use Rattle.chains.proofs.close.Goals as goal

pub overflow_sub-start : goal.overflow_sub-start
overflow_sub-start c = omega (arith, c.requires.closable.forest.place, size_pos c.requires.closable.tree)

pub returns-in_err-last : goal.returns-in_err-last
returns-in_err-last c = absurd (root_there (last_at c.requires.closable.forest) (sym c.row_at.ensures ∙ c.in_err-last.was))

pub overflow_sub-first : goal.overflow_sub-first
overflow_sub-first c = omega (arith, read_size (sym c.row_at.ensures ∙ c.in_ok-last.was) (last_at c.requires.closable.forest), c.requires.closable.forest.place)

pub overflow_add-end : goal.overflow_add-end
overflow_add-end c = omega (arith, c.requires.closable.room)

pub loop-at-init : goal.loop-at-init
loop-at-init c = λ b before xs r e f n. turn_none f (read_size (sym c.row_at.ensures ∙ c.in_ok-last.was) (last_at f))

pub overflow_sub-first-in-loop-at : goal.overflow_sub-first-in-loop-at
overflow_sub-first-in-loop-at c = first_least c.requires.bin c.requires.closable c.loop-at.invariant c.loop-at-test.true

pub shape_of-out-in_err-left : goal.shape_of-out-in_err-left
shape_of-out-in_err-left c = same_words c.requires.bin c.requires.closable c.loop-at.invariant

pub returns-in_err-left : goal.returns-in_err-left
returns-in_err-left c = absurd (root_there (left_at c.requires.bin c.requires.closable c.loop-at.invariant c.loop-at-test.true) (sym c.row_at-in-loop-at.ensures ∙ c.in_err-left.was))

pub overflow_sub-first-in-loop-at-2 : goal.overflow_sub-first-in-loop-at-2
overflow_sub-first-in-loop-at-2 c = read_most c.requires.bin c.requires.closable c.loop-at.invariant c.loop-at-test.true (row_found (sym c.row_at-in-loop-at.ensures ∙ c.in_ok-left.was))

pub overflow_add-at : goal.overflow_add-at
overflow_add-at c = omega (arith, c.requires.closable.room, c.loop-at-test.true)

pub overflow_sub-at : goal.overflow_sub-at
overflow_sub-at c = omega (arith, first_most c.requires.bin c.requires.closable c.loop-at.invariant c.loop-at-test.true)

pub overflow_cast-at : goal.overflow_cast-at
overflow_cast-at c = omega (arith, c.requires.closable.room, c.requires.closable.words, c.loop-at-test.true)

pub set_row-requires : goal.set_row-requires
set_row-requires c = omega (arith, c.requires.closable.room, c.loop-at-test.true, same_words c.requires.bin c.requires.closable c.loop-at.invariant)

pub loop-at-preserved : goal.loop-at-preserved
loop-at-preserved c = turns_more c.requires.bin c.requires.closable c.loop-at.invariant c.loop-at-test.true (row_found (sym c.row_at-in-loop-at.ensures ∙ c.in_ok-left.was)) c.set_row.ensures

pub shape_of-out : goal.shape_of-out
shape_of-out c = same_words c.requires.bin c.requires.closable c.loop-at.invariant

pub returns : goal.returns
returns c = λ b before xs r e f n. turn_all f (c.loop-at.invariant b before xs r e f n) _ _ refl (omega (arith, c.loop-at-test.false)) (omega arith) refl
