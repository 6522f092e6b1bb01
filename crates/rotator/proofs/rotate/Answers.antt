-- `rotate` meets its contract: the walk outside any chain. Assumes nothing.
use Rattle.rotator.proofs.Kepts.{alone_kept}
use Rattle.rotator.proofs.rotate.Goals as goal

pub returns : goal.returns
returns c = λ r a. alone_kept c.walk.result _ _ _ _ _ _ (c.walk.ensures r a)
