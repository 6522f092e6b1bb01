-- `skip_tree` and `skip_fork` meet their contracts. Assumes nothing.
use Prim.Native.Nat.{◌+◌, ◌-◌, ◌*◌}
use Rattle.rows.specs.Rows.{size_at}
use Rattle.skipper.proofs.Forks.{Walked, Forking}
use Rattle.skipper.proofs.+skip_fork_skip_tree.Given as goal

abbrev pub decreases-skip_fork : goal.decreases-skip_fork
decreases-skip_fork l = 2 * size_at l.table.now.rows.now l.base

abbrev pub invariant-skip_fork-loop-child : goal.invariant-skip_fork-loop-child
invariant-skip_fork-loop-child l = Forking (Walked l.given.rules.now l.given.rows.now l.given.text.now l.marks l.table.rows.now l.table.text.now) l.initial.child l.base l.p l.initial.out l.initial.lits l.out l.lits l.child l.next l.q

abbrev pub decreases-skip_fork-loop-child : goal.decreases-skip_fork-loop-child
decreases-skip_fork-loop-child l = l.base - l.child

abbrev pub decreases-skip_tree : goal.decreases-skip_tree
decreases-skip_tree l = 2 * size_at l.table.now.rows.now l.root + 1
