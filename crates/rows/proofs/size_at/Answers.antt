use Rattle.rows.specs.Rows.{size_at}
use borrow.Author.Rules.{rules}
use Rattle.rows.proofs.size_at.Goals as goal

pub returns : goal.returns
unfolding size_at
returns c = search rules
