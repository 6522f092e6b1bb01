use Rattle.skipper.proofs.Skipping.{skip_atomic, skip_other}
use Rattle.skipper.proofs.skip.Goals as goal

pub returns-then-rule_type-eq-ATOMIC : goal.returns-then-rule_type-eq-ATOMIC
returns-then-rule_type-eq-ATOMIC c = λ u r l a st. rw (skip_atomic _ _ _ c.if-rule_type-eq-ATOMIC.true) (c.skip_tree.ensures u r l a (st c.if-rule_type-eq-ATOMIC.true))

pub returns-else-rule_type-eq-ATOMIC : goal.returns-else-rule_type-eq-ATOMIC
returns-else-rule_type-eq-ATOMIC c = λ u r l a st. rw (skip_other _ _ _ c.if-rule_type-eq-ATOMIC.false) (c.copy.ensures r a)
