use Rattle.names.proofs.Index.{set_is}
use Rattle.names.proofs.set_half.Goals as goal

pub returns : goal.returns
returns c = let a = c.args in set_is a.marks.now a.h a.v _ c.with_half.ensures
