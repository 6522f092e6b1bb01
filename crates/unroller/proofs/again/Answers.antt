use mathlib.Core.Path.{refl}
use Rattle.unroller.proofs.Agains.{again_movable, again_written}
use Rattle.unroller.proofs.again.Goals as goal

pub move_rows-requires-clause-by_index : goal.move_rows-requires-clause-by_index
move_rows-requires-clause-by_index c = again_movable c.requires

pub returns : goal.returns
returns c = λ e s. again_written c.requires refl refl c.move_rows.ensures c.copy_on.ensures s
