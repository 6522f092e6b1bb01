use Rattle.writing.proofs.Pendings.{Moving}
use Rattle.writing.proofs.copy_rows.Given as goal

abbrev pub invariant-loop-k : goal.invariant-loop-k
invariant-loop-k l = Moving l.g l.initial.g.at l.table.text.now l.table.rows.now l.i l.first l.k l.initial.out l.out l.initial.lits l.lits
