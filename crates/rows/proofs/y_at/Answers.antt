use Rattle.rows.specs.Rows.{y_at}
use borrow.Author.Rules.{rules}
use Rattle.rows.proofs.y_at.Goals as goal

pub returns : goal.returns
unfolding y_at
returns c = search rules
