use Rattle.rows.specs.Rows.{kind_at}
use borrow.Author.Rules.{rules}
use Rattle.rows.proofs.kind_at.Goals as goal

pub returns : goal.returns
unfolding kind_at
returns c = search rules
