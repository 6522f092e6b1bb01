-- the function's entry, and the two rows that were read
use mathlib.Core.Path.{sym, ap, ◌∙◌}
use Rattle.rows.specs.Rows.{shape_of}
use Rattle.rows.proofs.Laws.{row_found, row_there}
use Rattle.rows.proofs.Cells.{lit_inside, rows_kind, rows_y, lits_tell, numbers_tell}
use Rattle.rows.proofs.same_row.Goals as goal

pub returns-in_default : goal.returns-in_default
returns-in_default c = λ _. row_there _ _ c.requires.i_in_bounds.0 (sym c.row_at.ensures ∙ c.in_default.is)

pub returns-in_default-row_at : goal.returns-in_default-row_at
returns-in_default-row_at c = λ _. row_there _ _ c.requires.i_in_bounds.1 (sym c.row_at-2.ensures ∙ c.in_default-row_at.is)

pub returns-then-first-second : goal.returns-then-first-second
returns-then-first-second c = let first = row_found (sym c.row_at.ensures ∙ c.in-Some.is) in
    let second = row_found (sym c.row_at-2.ensures ∙ c.in-Some-row_at.is) in
    λ e. c.if-first-second.true (rows_kind _ _ first second e)

pub returns-then-first-second-2 : goal.returns-then-first-second-2
returns-then-first-second-2 c = let first = row_found (sym c.row_at.ensures ∙ c.in-Some.is) in
    let second = row_found (sym c.row_at-2.ensures ∙ c.in-Some-row_at.is) in
    λ e. c.if-first-second-2.true (rows_y _ _ first second c.requires.lit_inside c.requires.lit_inside_2 c.if-first-second.false e)

pub same_bytes-requires : goal.same_bytes-requires
same_bytes-requires c = let first = row_found (sym c.row_at.ensures ∙ c.in-Some.is) in
    let second = row_found (sym c.row_at-2.ensures ∙ c.in-Some-row_at.is) in
    let s = sym c.shape_of.ensures ∙ c.in-Lit.is in (
      lit_inside _ c.requires.lit_inside first s,
      rw c.if-first-second-2.false (lit_inside _ c.requires.lit_inside_2 second (ap shape_of (sym c.if-first-second.false) ∙ s)),
    )

pub returns-in-Lit : goal.returns-in-Lit
returns-in-Lit c = let first = row_found (sym c.row_at.ensures ∙ c.in-Some.is) in
    let second = row_found (sym c.row_at-2.ensures ∙ c.in-Some-row_at.is) in
    let s = sym c.shape_of.ensures ∙ c.in-Lit.is in
    lits_tell _ _ first second c.same_bytes.result c.if-first-second.false c.if-first-second-2.false s c.same_bytes.ensures

pub returns-in_default-shape_of : goal.returns-in_default-shape_of
returns-in_default-shape_of c = let first = row_found (sym c.row_at.ensures ∙ c.in-Some.is) in
    let second = row_found (sym c.row_at-2.ensures ∙ c.in-Some-row_at.is) in
    numbers_tell _ _ first second c.if-first-second.false c.if-first-second-2.false (λ s. c.in_default-shape_of.not-Lit (c.shape_of.ensures ∙ s))
