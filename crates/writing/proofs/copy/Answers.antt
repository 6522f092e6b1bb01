-- the row that was read, and its tree
use mathlib.Core.Path.{sym, ◌∙◌}
use native.Mathlib.Omega.{arith}
use Rattle.rows.proofs.Laws.{root_there, read_size, read_fits}
use Rattle.writing.proofs.Copies.{tree_copied}
use Rattle.writing.proofs.copy.Goals as goal

pub returns-in_err-row : goal.returns-in_err-row
returns-in_err-row c = λ r a. absurd (root_there a (sym c.row_at.ensures ∙ c.in_err-row.was))

pub overflow_add-root : goal.overflow_add-root
overflow_add-root c = omega (arith, read_fits (sym c.row_at.ensures ∙ c.in_ok-row.was) c.requires.stands.at)

pub overflow_sub-root : goal.overflow_sub-root
overflow_sub-root c = omega (arith, read_fits (sym c.row_at.ensures ∙ c.in_ok-row.was) c.requires.stands.at)

pub copy_rows-requires-clause-n_in_bounds : goal.copy_rows-requires-clause-n_in_bounds
copy_rows-requires-clause-n_in_bounds c = omega (arith, read_fits (sym c.row_at.ensures ∙ c.in_ok-row.was) c.requires.stands.at)

pub copy_rows-requires-clause-inside : goal.copy_rows-requires-clause-inside
copy_rows-requires-clause-inside c = c.requires.inside

pub copy_rows-requires-clause-room : goal.copy_rows-requires-clause-room
copy_rows-requires-clause-room c = c.requires.room

pub returns : goal.returns
returns c = λ r a. tree_copied _ c.copy_rows.result _ _ _ _ _ _ r a (read_size (sym c.row_at.ensures ∙ c.in_ok-row.was) a) c.copy_rows.ensures
