-- `one_below` meets its contract: by the shape. Assumes nothing.
use mathlib.Core.Path.{sym, ◌∙◌}
use Rattle.chains.proofs.one_below.Goals as goal

pub returns-in-One : goal.returns-in-One
returns-in-One c = sym c.shape_of.ensures ∙ c.in-One.is
