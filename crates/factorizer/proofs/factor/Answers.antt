-- `factor` meets its contract: the tree of one row, in a rule of that type. Assumes nothing.
use Rattle.factorizer.proofs.Factors.{factor_rule}
use Rattle.factorizer.proofs.Plans.{tree_one}
use Rattle.factorizer.proofs.factor.Goals as goal

pub at-requires-clause-inside : goal.at-requires-clause-inside
at-requires-clause-inside c = c.requires.inside

pub at-requires-clause-tree_ready : goal.at-requires-clause-tree_ready
at-requires-clause-tree_ready c = record { tree = c.requires.ready.tree; at = tree_one c.requires.ready.at; fits = c.requires.ready.fits }

pub at-requires-clause-areas : goal.at-requires-clause-areas
at-requires-clause-areas c = c.requires.areas

pub returns : goal.returns
returns c = λ r a. rw (factor_rule c.args.rule _ _ c.tight_rule-tight.ensures) (c.at.ensures r (tree_one a))
