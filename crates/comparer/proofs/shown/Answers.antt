use mathlib.Core.Path.{◌∙◌}
use Rattle.comparer.proofs.Showing.{part_inside, part_bytes}
use Rattle.comparer.proofs.shown.Goals as goal

pub part-requires : goal.part-requires
part-requires c = part_inside _ _ _ _ _ c.asked-text.ensures c.in-Some.ensures

pub returns-in-Some : goal.returns-in-Some
returns-in-Some c = c.part.ensures ∙ part_bytes _ _ _ _ _ c.asked-text.ensures c.in-Some.ensures

pub returns-in-None : goal.returns-in-None
returns-in-None c = c.part-in-None.ensures ∙ part_bytes _ _ _ _ _ c.asked-text.ensures c.in-None.ensures
