-- What is below is guarded where the row guards, and the row goes over it. Assumes nothing.
use Rattle.restorer.proofs.Climbs.{over_full, over_done}
use Rattle.restorer.proofs.over.Goals as goal

pub returns-in_err-s-clause-becomes : goal.returns-in_err-s-clause-becomes
returns-in_err-s-clause-becomes c = rw c.from_residual.ensures (λ u d t e o l l₁ w. over_full u d _ c.guards.ensures t e (c.in_err-s.ensures.becomes t e o l l₁ w))

pub returns-clause-becomes : goal.returns-clause-becomes
returns-clause-becomes c = let n = c.node in
    λ u d t e o l l₁ w. over_done u d _ c.guards.ensures t e n.result n.new.out (c.in_ok-s.ensures.becomes t e o l l₁ w) n.ensures
