use Rattle.refusals.proofs.Tells.{one_tells}
use Rattle.refusals.proofs.one_fits.Goals as goal

pub returns : goal.returns
returns c = one_tells _ _ _ c.if-i-eq0.false
