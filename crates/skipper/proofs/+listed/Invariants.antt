-- `listed` meets its contract. Assumes nothing.
use Rattle.rows.specs.Rows.{size_at}
use Rattle.skipper.proofs.+listed.Given as goal

abbrev pub decreases-listed : goal.decreases-listed
decreases-listed l = size_at l.table.now.rows.now l.root
