-- `still` meets its contract: a step whose rewrite finds nothing at any row leaves the tree as it is. Assumes nothing.
use Rattle.passes.proofs.Stills.{step_idle}
use Rattle.passes.proofs.still.Goals as goal

pub returns-then-spares : goal.returns-then-spares
returns-then-spares c = λ h look r a. c.spares.ensures.0 c.if-spares.true look _

pub returns-else-spares : goal.returns-else-spares
returns-else-spares c = λ h look r a. let t = c.spares.ensures.1 c.if-spares.false in step_idle look _ _ r a _ t.0 t.1 (c.quiet.ensures h look r a)
