-- `stepped` meets its contract: a copy of what the step leaves as it is, or a walk. Assumes nothing.
-- the function's entry
use mathlib.Core.Path.{refl}
use Rattle.passes.proofs.Walks.{exact_by}
use Rattle.passes.proofs.stepped.Goals as goal

pub returns-then-known : goal.returns-then-known
returns-then-known c = λ gs r g a.
    exact_by c.copy.result _ _ _ _ _ _ _ _ _ _ refl (c.requires.leaves c.if-known.true _ r a) (c.copy.ensures r a)

pub walk-requires-clause-inside : goal.walk-requires-clause-inside
walk-requires-clause-inside c = c.requires.inside

pub walk-requires-clause-stands : goal.walk-requires-clause-stands
walk-requires-clause-stands c = c.requires.stands

pub walk-requires-clause-room : goal.walk-requires-clause-room
walk-requires-clause-room c = c.requires.room

pub walk-requires-clause-prepared : goal.walk-requires-clause-prepared
walk-requires-clause-prepared c = c.requires.prepared
