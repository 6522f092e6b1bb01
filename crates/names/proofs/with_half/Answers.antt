use native.Mathlib.Omega.{arith}
use Rattle.names.proofs.Index.{word_low, word_high}
use Rattle.names.proofs.with_half.Goals as goal

pub returns-then-h-eq0 : goal.returns-then-h-eq0
returns-then-h-eq0 c = let a = c.args in word_low a.w a.h a.v _ c.if-h-eq0.true (omega (arith, c.halves.ensures, c.upper.ensures))

pub returns-else-h-eq0 : goal.returns-else-h-eq0
returns-else-h-eq0 c = let a = c.args in word_high a.w a.h a.v _ c.if-h-eq0.false (omega (arith, c.halves-else-h-eq0.ensures, c.lower.ensures))
