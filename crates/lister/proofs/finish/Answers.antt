use native.Mathlib.Omega.{arith}
use Rattle.rows.proofs.Laws.{size_pos}
use Rattle.lister.proofs.Pairs.{stands_first, stands_second}
use Rattle.lister.proofs.Ends.{movable, ends_other, ends_loop, ends_seq}
use Rattle.lister.proofs.finish.Goals as goal
use Rattle.lister.proofs.finish.Goals.{else-kind-eq-SEQ-via-then-kind-eq-SEQ+else-loops, else-kind-eq-SEQ-via-else-kind-eq-SEQ}

pub overflow_sub-q : goal.overflow_sub-q
overflow_sub-q c = omega (arith, c.requires.pair.rows₁, size_pos c.requires.left)

pub overflow_sub-s : goal.overflow_sub-s
overflow_sub-s c = omega (arith, c.requires.pair.rows₂, size_pos c.requires.right)

pub loops-requires-clause-stands_in : goal.loops-requires-clause-stands_in
loops-requires-clause-stands_in c = stands_first c.requires.pair

pub loops-requires-clause-stands_in_2 : goal.loops-requires-clause-stands_in_2
loops-requires-clause-stands_in_2 c = stands_second c.requires.pair

pub overflow_sub-n-then-loops : goal.overflow_sub-n-then-loops
overflow_sub-n-then-loops c = omega (arith, c.requires.pair.rows₁, size_pos c.requires.left)

pub mend-requires-clause-movable : goal.mend-requires-clause-movable
mend-requires-clause-movable c = movable c.requires.pair c.loops.result c.loops.ensures c.if-loops.true

pub returns-then-loops : goal.returns-then-loops
returns-then-loops c = λ b e f k h. ends_loop c.mend.result c.mend.new.out b e f c.args.kind k h c.loops.result c.loops.ensures c.if-kind-eq-SEQ.true c.if-loops.true c.mend.ensures

pub returns : goal.returns
returns c = λ b e f k h.
    let a = c.put_over.result in
    let o = c.put_over.new.out in
    elim c.else-kind-eq-SEQ.branch [ else-kind-eq-SEQ-via-then-kind-eq-SEQ+else-loops w ↦ ends_seq a o b e f c.args.kind k h w.loops.result w.loops.ensures w.if-kind-eq-SEQ.true w.if-loops.false c.put_over.ensures | else-kind-eq-SEQ-via-else-kind-eq-SEQ w ↦ ends_other a o b e f c.args.kind k h w.if-kind-eq-SEQ.false c.put_over.ensures ]
