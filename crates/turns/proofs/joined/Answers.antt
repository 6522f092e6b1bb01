use mathlib.Core.Path.{refl}
use Rattle.turns.proofs.Runs.{seven_of_lem}
use Rattle.turns.proofs.joined.Goals as goal

pub returns : goal.returns
returns c = seven_of_lem c.rows_of.ensures c.rows_of-2.ensures c.rows_of-3.ensures c.rows_of-4.ensures c.rows_of-5.ensures c.rows_of-6.ensures c.in_ok-place.was

pub returns-in_err-place : goal.returns-in_err-place
returns-in_err-place c = rw (c.from_residual.ensures, c.in_err-place.was) refl
