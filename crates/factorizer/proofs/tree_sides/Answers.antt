-- `tree_sides` meets its contract. Assumes nothing.
use Rattle.factorizer.proofs.Plans.{pair_node}
use Rattle.factorizer.proofs.tree_sides.Goals as goal

pub returns-in-Some : goal.returns-in-Some
returns-in-Some c = λ e a. pair_node (a.pair _ c.in-Some.is)
