-- `read_in`, `read_leaf` and `read_rule` meet their contracts. Assumes nothing.
use Prim.Native.Nat.{◌+◌, ◌*◌, ◌/◌}
use lib.ListN.{length}
use Rattle.grammar.specs.Numbers.{rule_width}
use Rattle.explainer.specs.Reading.{unread}
use Rattle.explainer.proofs.Walks.{Walked}
use Rattle.explainer.proofs.+read_in_read_leaf_read_rule.Given as goal

abbrev pub decreases-read_in : goal.decreases-read_in
decreases-read_in l = unread (length l.table.now.rules.now / rule_width) l.marks.now * 4 + 2

abbrev pub invariant-read_in-loop-left : goal.invariant-read_in-loop-left
invariant-read_in-loop-left l = Walked l.table.rules.now l.table.rows.now l.table.text.now l.initial.marks l.initial.list l.i l.root l.depth l.marks l.list l.at

abbrev pub decreases-read_in-loop-left : goal.decreases-read_in-loop-left
decreases-read_in-loop-left l = l.at

abbrev pub decreases-read_leaf : goal.decreases-read_leaf
decreases-read_leaf l = unread (length l.table.now.rules.now / rule_width) l.marks.now * 4 + 1

abbrev pub decreases-read_rule : goal.decreases-read_rule
decreases-read_rule l = unread (length l.table.now.rules.now / rule_width) l.marks.now * 4
