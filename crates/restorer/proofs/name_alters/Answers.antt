-- The words of a name's row say where it stands. Assumes nothing.
use native.Mathlib.Omega.{arith}
use Rattle.restorer.proofs.Stills.{ident_shape}
use Rattle.restorer.proofs.name_alters.Goals as goal

pub through-requires-clause-n_in_bounds : goal.through-requires-clause-n_in_bounds
through-requires-clause-n_in_bounds c = omega (arith, c.requires.known.inside _ c.requires.i_in_bounds (ident_shape c.requires.i_value), c.x_at-x.ensures, c.y_at-n.ensures)
