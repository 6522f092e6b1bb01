-- `read_atomic` meets its contract. Assumes nothing.
use mathlib.Core.Path.{refl}
use Rattle.skipper.proofs.Tables.{atomic_no, atomic_yes, rule_tree, tree_rows}
use Rattle.skipper.proofs.read_atomic.Goals as goal

pub returns-then-table-at-ne-ATOMIC-clause-loops_of : goal.returns-then-table-at-ne-ATOMIC-clause-loops_of
returns-then-table-at-ne-ATOMIC-clause-loops_of c = λ u r l h. atomic_no l c.args.k r h _ c.if-table-at-ne-ATOMIC.true

pub read_loops-requires-clause-tree_rows : goal.read_loops-requires-clause-tree_rows
read_loops-requires-clause-tree_rows c = tree_rows c.requires.given c.requires.k_in_bounds refl refl

pub returns-clause-loops_of : goal.returns-clause-loops_of
returns-clause-loops_of c = λ u r l h. atomic_yes l c.args.k r h _ c.if-table-at-ne-ATOMIC.false (c.read_loops.ensures.loops_of u r.body l (rule_tree l c.args.k r h c.requires.k_in_bounds c.requires.given.ended))
