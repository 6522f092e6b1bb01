-- `untried` meets its contract. Assumes nothing.
use Rattle.factorizer.proofs.Plans.{alone_plan, untried_plan, less_parts, told_parts}
use Rattle.factorizer.proofs.untried.Goals as goal

pub returns-in_default : goal.returns-in_default
returns-in_default c = λ tight t x e a p. alone_plan tight _ t x a (less_parts _ x c.in_default.is (c.sides_of.ensures x a)) p

pub returns : goal.returns
returns c = λ tight t x e a p. untried_plan tight _ t (told_parts _ x c.in-Some.is (c.sides_of.ensures x a)) p
