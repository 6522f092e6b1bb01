use borrow.Author.Count.{below_none, below_more}
use native.Mathlib.Omega.{arith}
use Rattle.rows.proofs.Cells.{tells_yes, tells_no}
use borrow.Author.Rules.{rules}
use Rattle.rows.proofs.same_rows.Goals as goal

pub loop-k-init : goal.loop-k-init
loop-k-init c = (search rules, below_none _)

pub same_row-requires-clause-lit_inside : goal.same_row-requires-clause-lit_inside
same_row-requires-clause-lit_inside c = c.requires.by_index _ c.loop-k-test.true

pub same_row-requires-clause-lit_inside_2 : goal.same_row-requires-clause-lit_inside_2
same_row-requires-clause-lit_inside_2 c = c.requires.by_index_2 _ c.loop-k-test.true

pub returns-then-not-same_row : goal.returns-then-not-same_row
returns-then-not-same_row c = λ h. tells_no c.if-not-same_row.true c.same_row.ensures (h _ c.loop-k-test.true)

pub loop-k-preserved : goal.loop-k-preserved
loop-k-preserved c = (omega arith, below_more _ _ c.loop-k.invariant.1 (tells_yes c.if-not-same_row.false c.same_row.ensures))

pub returns : goal.returns
returns c = λ k l. c.loop-k.invariant.1 k (omega arith)
