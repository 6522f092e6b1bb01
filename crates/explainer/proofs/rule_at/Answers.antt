-- `rule_at` meets its contract: the Ident's literal lies in the text. Assumes nothing.
use Rattle.explainer.proofs.Places.{ident_inside}
use Rattle.explainer.proofs.rule_at.Goals as goal

pub find_rule-requires-clause-n_in_bounds : goal.find_rule-requires-clause-n_in_bounds
find_rule-requires-clause-n_in_bounds c = ident_inside _ c.requires.inside c.requires.i_in_bounds.0 c.requires.i_in_bounds.1 c.x_at.ensures c.y_at.ensures
