-- the two roots that were read
use mathlib.Core.Path.{sym, ◌∙◌}
use native.Mathlib.Omega.{arith}
use Rattle.rows.proofs.Laws.{root_there, read_size, read_fits}
use Rattle.rows.proofs.Cells.{trees_size, trees_tell}
use Rattle.rows.proofs.Insides.{within_run}
use Rattle.rows.proofs.same_tree.Goals as goal

pub returns-in_default : goal.returns-in_default
returns-in_default c = λ r s a. absurd (root_there a (sym c.row_at.ensures ∙ c.in_default.is))

pub returns-in_default-row_at : goal.returns-in_default-row_at
returns-in_default-row_at c = λ r s a b. absurd (root_there b (sym c.row_at-2.ensures ∙ c.in_default-row_at.is))

pub returns-then-first-second : goal.returns-then-first-second
returns-then-first-second c = λ r s a b e. c.if-first-second.true (read_size (sym c.row_at.ensures ∙ c.in-Some.is) a ∙ trees_size _ _ a b e ∙ sym (read_size (sym c.row_at-2.ensures ∙ c.in-Some-row_at.is) b))

pub overflow_add-i : goal.overflow_add-i
overflow_add-i c = omega (arith, read_fits (sym c.row_at.ensures ∙ c.in-Some.is) c.requires.stands_in.at)

pub overflow_sub-i : goal.overflow_sub-i
overflow_sub-i c = omega (arith, read_fits (sym c.row_at.ensures ∙ c.in-Some.is) c.requires.stands_in.at)

pub overflow_add-j : goal.overflow_add-j
overflow_add-j c = omega (arith, read_fits (sym c.row_at-2.ensures ∙ c.in-Some-row_at.is) c.requires.stands_in_2.at)

pub overflow_sub-j : goal.overflow_sub-j
overflow_sub-j c = omega (arith, read_fits (sym c.row_at-2.ensures ∙ c.in-Some-row_at.is) c.requires.stands_in_2.at, c.if-first-second.false)

pub same_rows-requires-clause-n_in_bounds : goal.same_rows-requires-clause-n_in_bounds
same_rows-requires-clause-n_in_bounds c = (
  omega (arith, read_fits (sym c.row_at.ensures ∙ c.in-Some.is) c.requires.stands_in.at),
  omega (arith, read_fits (sym c.row_at-2.ensures ∙ c.in-Some-row_at.is) c.requires.stands_in_2.at, c.if-first-second.false),
)

pub same_rows-requires-clause-by_index : goal.same_rows-requires-clause-by_index
same_rows-requires-clause-by_index c = let a = c.requires.stands_in in
    within_run _ _ a.at a.within (read_size (sym c.row_at.ensures ∙ c.in-Some.is) a.at)

pub same_rows-requires-clause-by_index_2 : goal.same_rows-requires-clause-by_index_2
same_rows-requires-clause-by_index_2 c = let b = c.requires.stands_in_2 in
    within_run _ _ b.at b.within (c.if-first-second.false ∙ read_size (sym c.row_at-2.ensures ∙ c.in-Some-row_at.is) b.at)

pub returns : goal.returns
returns c =
    λ r s a b. trees_tell _ _ a b _ c.same_rows.result (read_size (sym c.row_at.ensures ∙ c.in-Some.is) a) (c.if-first-second.false ∙ read_size (sym c.row_at-2.ensures ∙ c.in-Some-row_at.is) b) c.same_rows.ensures
