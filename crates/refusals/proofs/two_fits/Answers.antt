use Rattle.refusals.proofs.Tells.{two_no, two_tells}
use Rattle.refusals.proofs.two_fits.Goals as goal

pub returns-then-i-right : goal.returns-then-i-right
returns-then-i-right c = two_no _ _ _ c.if-i-right.true

pub returns : goal.returns
returns c = two_tells _ _ _ c.if-i-right.false
