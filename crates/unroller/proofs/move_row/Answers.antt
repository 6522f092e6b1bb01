-- `move_row` meets its contract. Assumes nothing.
use mathlib.Core.Path.{sym, ap, ◌∙◌}
use native.Mathlib.Omega.{arith}
use Prim.Native.Nat.{◌*◌}
use Rattle.grammar.specs.Numbers.{row_width}
use Rattle.writing.specs.Writes.{stored}
use Rattle.rows.proofs.Laws.{row_found}
use Rattle.unroller.proofs.Moves.{row_some, lit_fits, lit_moved, other_moved}
use Rattle.unroller.proofs.move_row.Goals as goal
use Rattle.unroller.proofs.move_row.Goals.{in-Lit, in_default}

pub unwrap-row-requires : goal.unwrap-row-requires
unwrap-row-requires c = row_some _ _ c.row_at.ensures c.requires.i_in_bounds.0

pub overflow_add-x : goal.overflow_add-x
overflow_add-x c = omega (arith, lit_fits c.args.d (row_found (sym c.row_at.ensures ∙ c.unwrap-row.ensures)) c.requires.movable (sym c.shape_of.ensures ∙ c.in-Lit.is))

pub returns : goal.returns
returns c = let f = row_found (sym c.row_at.ensures ∙ c.unwrap-row.ensures) in
    c.set_row.ensures ∙ ap (stored c.args.out.now (c.args.j * row_width)) (elim c.match-shape_of.branch [
      | in-Lit w ↦ rw w.x-is (lit_moved c.args.d f (sym c.shape_of.ensures ∙ w.in-Lit.is))
      | in_default w ↦ rw w.x-is (other_moved c.args.d f (λ s. w.in_default.not-Lit (c.shape_of.ensures ∙ s)))
    ])
