-- `sides_of` meets its contract, by the kind of the row. Assumes nothing.
use native.Mathlib.Omega.{arith}
use Rattle.rows.proofs.Laws.{root}
use Rattle.rows.proofs.Cells.{tells_yes, tells_no}
use Rattle.rows.proofs.Views.{as_pair, not_pair}
use Rattle.factorizer.proofs.Plans.{two_node, not_two}
use Rattle.factorizer.proofs.sides_of.Goals as goal

pub returns-then-not-forks : goal.returns-then-not-forks
returns-then-not-forks c = λ e a. not_two e (not_pair a (tells_no c.if-not-forks.true c.forks.ensures))

pub kind_at-requires : goal.kind_at-requires
kind_at-requires c = (root c.requires.at).inside

pub overflow_sub-result : goal.overflow_sub-result
overflow_sub-result c = let v = as_pair c.requires.at (tells_yes c.if-not-forks.false c.forks.ensures) in omega (arith, v.least_left, v.most)

pub returns : goal.returns
returns c = λ e a. rw c.kind_at.ensures (two_node (as_pair a (tells_yes c.if-not-forks.false c.forks.ensures)) c.left_of.ensures)
