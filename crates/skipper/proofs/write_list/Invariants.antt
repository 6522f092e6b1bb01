-- `write_list` meets its contract: in each turn what is still to come gives the rest of the strings. Assumes nothing.
use Rattle.rows.specs.Rows.{size_at}
use Rattle.skipper.proofs.Onward.{Going}
use Rattle.skipper.proofs.write_list.Given as goal

abbrev pub invariant-loop-leaf : goal.invariant-loop-leaf
invariant-loop-leaf l = Going l.given.rules.now l.given.rows.now l.given.text.now l.table.rows.now l.table.text.now l.root l.fuel l.initial.q l.initial.out l.initial.lits l.at l.fuel l.q l.out l.lits

abbrev pub decreases-loop-leaf : goal.decreases-loop-leaf
decreases-loop-leaf l = size_at l.table.rows.now l.at
