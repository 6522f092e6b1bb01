use Rattle.rows.specs.Rows.{row_at, kind_at, x_at, y_at, size_at}
use borrow.Author.Tests.{lt-ltb, le-ltb}
use Rattle.rows.proofs.row_at.Goals as goal

pub returns-then-i-rows : goal.returns-then-i-rows
unfolding row_at kind_at x_at y_at size_at
returns-then-i-rows c = simp (lt-ltb _ _ c.if-i-rows.true)

pub returns-else-i-rows : goal.returns-else-i-rows
unfolding row_at
returns-else-i-rows c = simp (le-ltb _ _ c.if-i-rows.false)
