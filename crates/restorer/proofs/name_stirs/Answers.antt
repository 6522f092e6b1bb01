-- The words of a name's row say where it stands. Assumes nothing.
use native.Mathlib.Omega.{arith}
use Rattle.restorer.proofs.Stills.{ident_shape}
use Rattle.restorer.proofs.name_stirs.Goals as goal

pub changes_stack-requires : goal.changes_stack-requires
changes_stack-requires c = omega (arith, c.requires.inside _ c.requires.i_in_bounds (ident_shape c.requires.i_value), c.x_at-x.ensures, c.y_at-n.ensures)
