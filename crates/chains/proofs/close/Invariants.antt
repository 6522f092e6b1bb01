-- `close` meets its contract. In each turn the trees from `first` on are joined by the rows up to `at`; the measure is the rows that are left. Assumes nothing.
use Rattle.chains.proofs.Closes.{Turns}
use Rattle.chains.proofs.close.Given as goal

abbrev pub invariant-loop-at : goal.invariant-loop-at
invariant-loop-at l = Turns l.initial.out l.s.rows l.kind l.n l.out l.at l.first
