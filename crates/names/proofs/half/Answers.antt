use Rattle.names.proofs.Index.{half_low, half_high}
use Rattle.names.proofs.half.Goals as goal

pub returns-then-h-eq0 : goal.returns-then-h-eq0
returns-then-h-eq0 c = let a = c.args in (half_low a.marks.now a.h _ c.if-h-eq0.true c.lower.ensures.0, c.lower.ensures.1)

pub returns-else-h-eq0 : goal.returns-else-h-eq0
returns-else-h-eq0 c = let a = c.args in (half_high a.marks.now a.h _ c.if-h-eq0.false c.upper.ensures.0, c.upper.ensures.1)
