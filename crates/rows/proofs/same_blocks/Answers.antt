use native.Mathlib.Omega.{arith}
use borrow.Author.Count.{below_none}
use Rattle.rows.proofs.Laws.{below_block}
use Rattle.rows.specs.Rows.{block}
use Rattle.rows.proofs.same_blocks.Goals as goal

pub loop-i-init : goal.loop-i-init
loop-i-init c = (omega arith, below_none _)

pub returns-then-not-same_block : goal.returns-then-not-same_block
returns-then-not-same_block c = (omega arith, c.loop-i.invariant.1)

pub loop-i-preserved : goal.loop-i-preserved
loop-i-preserved c = let a = c.args in let l = c.loop-i in (omega arith, below_block a.text1.now a.text2.now a.x a.y l.i block l.invariant.1 (c.same_block.ensures c.if-not-same_block.false))

pub returns : goal.returns
returns c = c.loop-i.invariant
