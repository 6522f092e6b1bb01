use native.Mathlib.Omega.{arith}
use Rattle.rows.proofs.Laws.{strs_inside}
use Rattle.writing.proofs.Copies.{strs_copied}
use Rattle.writing.proofs.copy_strs.Goals as goal

pub copy_rows-requires-clause-n_in_bounds : goal.copy_rows-requires-clause-n_in_bounds
copy_rows-requires-clause-n_in_bounds c = omega (arith, strs_inside c.requires.stand_strs.at)

pub copy_rows-requires-clause-inside : goal.copy_rows-requires-clause-inside
copy_rows-requires-clause-inside c = c.requires.inside

pub copy_rows-requires-clause-room : goal.copy_rows-requires-clause-room
copy_rows-requires-clause-room c = c.requires.room

pub returns : goal.returns
returns c = λ ss a n. strs_copied _ c.copy_rows.result _ _ _ _ _ _ ss a n c.copy_rows.ensures
