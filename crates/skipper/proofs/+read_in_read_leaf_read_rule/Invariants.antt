-- `read_in`, `read_leaf` and `read_rule` meet their contracts. Assumes nothing.
use Prim.Native.Nat.{◌+◌, ◌*◌, ◌^◌}
use Rattle.rows.specs.Rows.{size_at}
use Rattle.skipper.specs.Lends.{zeros}
use Rattle.skipper.proofs.+read_in_read_leaf_read_rule.Given as goal

abbrev pub decreases-read_in : goal.decreases-read_in
decreases-read_in l = zeros l.marks.now * 2 ^ 64 + 1 + size_at l.table.now.rows.now l.root

abbrev pub decreases-read_leaf : goal.decreases-read_leaf
decreases-read_leaf l = zeros l.marks.now * 2 ^ 64 + 1

abbrev pub decreases-read_rule : goal.decreases-read_rule
decreases-read_rule l = zeros l.marks.now * 2 ^ 64
