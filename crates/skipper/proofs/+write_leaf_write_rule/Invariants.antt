-- The strings of a list. The measure: the rules that may still be gone through, then the rows of the tree. The invariant of the loop: what is still to come gives the rest of the strings. Assumes nothing.
use Prim.Native.Nat.{◌+◌, ◌*◌, ◌^◌}
use Rattle.rows.specs.Rows.{size_at}
use Rattle.skipper.proofs.Onward.{Going}
use Rattle.skipper.proofs.+write_leaf_write_rule.Given as goal

abbrev pub decreases-write_leaf : goal.decreases-write_leaf
decreases-write_leaf l = l.fuel * 2 ^ 64 + size_at l.table.now.rows.now l.root

abbrev pub decreases-write_rule : goal.decreases-write_rule
decreases-write_rule l = l.fuel * 2 ^ 64 + size_at l.table.now.rows.now l.root

abbrev pub invariant-write_rule-loop-leaf : goal.invariant-write_rule-loop-leaf
invariant-write_rule-loop-leaf l = Going l.table.rules.now l.table.rows.now l.table.text.now l.table.rows.now l.table.text.now l.root l.fuel l.initial.q l.initial.out l.initial.lits l.at l.fuel_left l.q l.out l.lits

abbrev pub decreases-write_rule-loop-leaf : goal.decreases-write_rule-loop-leaf
decreases-write_rule-loop-leaf l = l.fuel_left * 2 ^ 64 + size_at l.table.rows.now l.at
