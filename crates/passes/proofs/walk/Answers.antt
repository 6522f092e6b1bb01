-- `walk` meets its contract: each step by its number. Assumes nothing.
-- the function's entry
use native.Mathlib.Omega.{arith}
use mathlib.Core.Path.{refl, sym, ◌∙◌}
use Rattle.rows.proofs.Laws.{root_there}
use Rattle.passes.proofs.Walks.{ready_for, counted_for, given_for, settling_for, settles_for, marked_for, known_for, lent_for, look_for, kept_by, exact_by, other_step}
use Rattle.passes.proofs.Growth.{step_one, step_two, step_three, step_four, step_five, step_six, step_seven}
use Rattle.passes.proofs.walk.Goals as goal

pub returns-in_err-row_at : goal.returns-in_err-row_at
returns-in_err-row_at c = λ gs r g a. absurd (root_there a (sym c.row_at.ensures ∙ c.in_err-row_at.was))

pub rotate-requires-clause-inside : goal.rotate-requires-clause-inside
rotate-requires-clause-inside c = c.requires.inside

pub rotate-requires-clause-ready : goal.rotate-requires-clause-ready
rotate-requires-clause-ready c = ready_for c.requires.stands c.requires.prepared 1 c.in-1.is refl

pub rotate-requires-clause-areas : goal.rotate-requires-clause-areas
rotate-requires-clause-areas c = c.requires.room.areas

pub skip-requires-clause-given : goal.skip-requires-clause-given
skip-requires-clause-given c = given_for c.requires.stands c.requires.prepared c.in-2.is

pub skip-requires-clause-inside : goal.skip-requires-clause-inside
skip-requires-clause-inside c = c.requires.inside

pub skip-requires-clause-stands : goal.skip-requires-clause-stands
skip-requires-clause-stands c = c.requires.stands

pub skip-requires-clause-settling : goal.skip-requires-clause-settling
skip-requires-clause-settling c = settling_for c.requires.stands c.requires.prepared c.in-2.is

pub skip-requires-clause-room : goal.skip-requires-clause-room
skip-requires-clause-room c = c.requires.room

pub unroll-requires-clause-inside : goal.unroll-requires-clause-inside
unroll-requires-clause-inside c = c.requires.inside

pub unroll-requires-clause-counted : goal.unroll-requires-clause-counted
unroll-requires-clause-counted c = counted_for c.requires.stands c.requires.prepared c.in-3.is

pub unroll-requires-clause-room : goal.unroll-requires-clause-room
unroll-requires-clause-room c = c.requires.room

pub concatenate-requires-clause-inside : goal.concatenate-requires-clause-inside
concatenate-requires-clause-inside c = c.requires.inside

pub concatenate-requires-clause-ready : goal.concatenate-requires-clause-ready
concatenate-requires-clause-ready c = ready_for c.requires.stands c.requires.prepared 4 c.in-4.is refl

pub concatenate-requires-clause-areas : goal.concatenate-requires-clause-areas
concatenate-requires-clause-areas c = c.requires.room.areas

pub factor-requires-clause-inside : goal.factor-requires-clause-inside
factor-requires-clause-inside c = c.requires.inside

pub factor-requires-clause-ready : goal.factor-requires-clause-ready
factor-requires-clause-ready c = ready_for c.requires.stands c.requires.prepared 5 c.in-5.is refl

pub factor-requires-clause-areas : goal.factor-requires-clause-areas
factor-requires-clause-areas c = c.requires.room.areas

pub list-requires-clause-inside : goal.list-requires-clause-inside
list-requires-clause-inside c = c.requires.inside

pub list-requires-clause-ready : goal.list-requires-clause-ready
list-requires-clause-ready c = ready_for c.requires.stands c.requires.prepared 6 c.in-6.is refl

pub list-requires-clause-areas : goal.list-requires-clause-areas
list-requires-clause-areas c = c.requires.room.areas

pub restore-requires-clause-marked : goal.restore-requires-clause-marked
restore-requires-clause-marked c = marked_for c.requires.stands c.requires.prepared c.in-7.is

pub restore-requires-clause-settles : goal.restore-requires-clause-settles
restore-requires-clause-settles c = known_for c.requires.stands c.requires.prepared c.in-7.is

pub restore-requires-clause-stands : goal.restore-requires-clause-stands
restore-requires-clause-stands c = c.requires.stands

pub restore-requires-clause-room : goal.restore-requires-clause-room
restore-requires-clause-room c = c.requires.room

pub returns-in-1 : goal.returns-in-1
returns-in-1 c = λ gs r g a.
    kept_by c.rotate.result _ 1 _ _ _ _ _ _ _ _ c.in-1.is (step_one _ _ _) (c.rotate.ensures r a)

pub returns-in-2 : goal.returns-in-2
returns-in-2 c = λ gs r g a.
    exact_by c.skip.result _ 2 _ _ _ _ _ _ _ _ c.in-2.is (step_two _ _ _) (c.skip.ensures gs r (record { heads = sym g.rules; trees = sym g.rows }) a (settles_for c.requires.stands c.requires.prepared c.in-2.is gs g r a))

pub returns-in-3 : goal.returns-in-3
returns-in-3 c = λ gs r g a.
    exact_by c.unroll.result _ 3 _ _ _ _ _ _ _ _ c.in-3.is (step_three _ _ _) (c.unroll.ensures r a)

pub returns-in-4 : goal.returns-in-4
returns-in-4 c = λ gs r g a.
    kept_by c.concatenate.result _ 4 _ _ _ _ _ _ _ _ c.in-4.is (step_four _ _ _) (c.concatenate.ensures r a)

pub returns-in-5 : goal.returns-in-5
returns-in-5 c = λ gs r g a.
    kept_by c.factor.result _ 5 _ _ _ _ _ _ _ _ c.in-5.is (step_five _ _ _) (c.factor.ensures r a)

pub returns-in-6 : goal.returns-in-6
returns-in-6 c = λ gs r g a.
    kept_by c.list.result _ 6 _ _ _ _ _ _ _ _ c.in-6.is (step_six _ _ _) (c.list.ensures r a)

pub returns-in-7 : goal.returns-in-7
returns-in-7 c = λ gs r g a.
    exact_by c.restore.result _ 7 _ _ _ _ _ _ _ _ c.in-7.is (step_seven _ _ _ ∙ look_for c.requires.stands c.requires.prepared c.in-7.is gs _) (c.restore.ensures gs r (lent_for c.requires.stands c.requires.prepared c.in-7.is gs g) a)

pub returns-in_default : goal.returns-in_default
returns-in_default c = λ gs r g a.
    exact_by c.copy.result _ _ _ _ _ _ _ _ _ _ refl (other_step _ (λ e. omega (arith, e)) (λ e. omega (arith, e)) (λ e. omega (arith, e)) (λ e. omega (arith, e)) (λ e. omega (arith, e)) (λ e. omega (arith, e)) (λ e. omega (arith, e)) _ _ _) (c.copy.ensures r a)
