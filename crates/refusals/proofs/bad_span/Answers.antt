use Rattle.refusals.proofs.Highs.{span_low, span_decides}
use Rattle.refusals.proofs.bad_span.Goals as goal

pub returns-then-first-end : goal.returns-then-first-end
returns-then-first-end c = span_decides _ _ _ c.if-text-end.false _ c.high_from.ensures

pub returns-else-first-end : goal.returns-else-first-end
returns-else-first-end c = span_low _ _ _ c.if-text-end.false _ c.if-first-end.false c.requires.high
