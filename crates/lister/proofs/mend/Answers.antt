-- `mend` meets its contract. Assumes nothing.
use Rattle.lister.proofs.Moves.{mended}
use Rattle.lister.proofs.mend.Goals as goal

pub returns : goal.returns
returns c = mended c.put_row.result c.args.s c.args.from c.args.n c.args.m _ _ _ _ _ c.requires.movable c.move_down.ensures c.set_row.ensures c.set_row-2.ensures c.put_row.ensures
