use Rattle.rows.specs.Rows.{x_at}
use borrow.Author.Rules.{rules}
use Rattle.rows.proofs.x_at.Goals as goal

pub returns : goal.returns
unfolding x_at
returns c = search rules
