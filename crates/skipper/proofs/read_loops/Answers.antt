use Rattle.std.proofs.lemmas.Result.{err_from_is_err_and}
use Rattle.skipper.proofs.Leaf.{given_steady}
use Rattle.skipper.proofs.Settles.{row_in, rows_met, rows_next, rows_end}
use Rattle.skipper.proofs.read_loops.Goals as goal

pub read_loop-requires-clause-given : goal.read_loop-requires-clause-given
read_loop-requires-clause-given c = let inv = c.loop-i.invariant in
    given_steady c.requires.given inv.steady inv.long

pub read_loop-requires-clause-stands : goal.read_loop-requires-clause-stands
read_loop-requires-clause-stands c = let inv = c.loop-i.invariant in
    let q = row_in c.requires.tree_rows inv c.loop-i-test.true c.requires.tree_rows.tree c.requires.tree_rows.at in
    record { tree = q.tree; at = q.at }

pub returns-in_err-read_loop-clause-loops_of : goal.returns-in_err-read_loop-clause-loops_of
returns-in_err-read_loop-clause-loops_of c = let p = err_from_is_err_and c.from_residual.result c.from_residual.ensures.1 in
    rw (p.1, p.2) (rows_met c.requires.tree_rows c.loop-i.invariant c.loop-i-test.true c.read_loop.ensures.loops_of c.in_err-read_loop.was)

pub loop-i-preserved : goal.loop-i-preserved
loop-i-preserved c = rows_next c.requires.tree_rows c.loop-i.invariant c.loop-i-test.true c.read_loop.ensures.loops_of c.read_loop.ensures.steady c.read_loop.auto.marks c.in_ok-read_loop.was

pub returns-clause-loops_of : goal.returns-clause-loops_of
returns-clause-loops_of c = rows_end c.requires.tree_rows c.loop-i.invariant c.loop-i-test.false
