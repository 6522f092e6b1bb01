use Rattle.grammar.specs.Tree.{Ident}
use Rattle.rows.proofs.Laws.{found_row}
use Rattle.rows.proofs.Cells.{in_text, lit_shape}
use Rattle.skipper.proofs.rule_at.Goals as goal

pub find_rule-requires-clause-n_in_bounds : goal.find_rule-requires-clause-n_in_bounds
find_rule-requires-clause-n_in_bounds c = rw (c.x_at.ensures, c.y_at.ensures) (in_text _ c.requires.inside (found_row _ _ c.requires.root_in_bounds) (rw c.requires.root_value (lit_shape Ident)))
