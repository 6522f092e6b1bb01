use Rattle.grammar.specs.Tree.{Opt, Rep}
use Rattle.unroller.proofs.Lays.{item_is, finished}
use Rattle.unroller.proofs.finish.Goals as goal

pub returns-in-Maybe : goal.returns-in-Maybe
returns-in-Maybe c = λ e o t u w. item_is e c.in-Maybe.is (finished Opt w c.over.ensures)

pub returns-in-Many : goal.returns-in-Many
returns-in-Many c = λ e o t u w. item_is e c.in-Many.is (finished Rep w c.over-in-Many.ensures)
