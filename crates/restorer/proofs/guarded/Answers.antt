-- Guarded, or as it is. Assumes nothing.
use Rattle.restorer.proofs.Restores.{child_guarded, child_quiet, child_plain}
use Rattle.restorer.proofs.guarded.Goals as goal
use Rattle.restorer.proofs.guarded.Goals.{else-guard-via-then-guard+else-b, else-guard-via-else-guard}

pub returns-then-b-clause-becomes : goal.returns-then-b-clause-becomes
returns-then-b-clause-becomes c = let n = c.node in
    λ t e o l l₁ w. child_guarded w n.result _ n.new.out c.if-guard.true c.if-b.true n.ensures

pub returns-clause-becomes : goal.returns-clause-becomes
returns-clause-becomes c = λ t e o l l₁ w. elim c.else-guard.branch [
  | else-guard-via-then-guard+else-b v ↦ child_quiet w _ v.if-guard.true v.if-b.false
  | else-guard-via-else-guard v ↦ child_plain w _ v.if-guard.false
]
