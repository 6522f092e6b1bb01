-- `crown` meets its contract. Assumes nothing.
use Rattle.skipper.proofs.Falls.{crown_full, crown_done}
use Rattle.skipper.proofs.crown.Goals as goal

pub returns-in_err-s : goal.returns-in_err-s
returns-in_err-s c = rw c.from_residual.ensures (λ us r a l. crown_full c.args.p _ _ us _ _ c.put_over.ensures c.in_err-s.was)

pub returns : goal.returns
returns c = λ us r a l. crown_done _ _ _ us _ _ c.put_over.ensures c.in_ok-s.was c.rise.result _ (c.rise.ensures us r a l)
