-- `concatenate` meets its contract: the walk in an Atomic rule, else a copy. Assumes nothing.
use mathlib.Core.Path.{sym}
use Rattle.chains.proofs.Walks.{kept_same}
use Rattle.concatenator.proofs.Nodes.{concat_atomic, concat_other}
use Rattle.concatenator.proofs.concatenate.Goals as goal

pub returns-then-rule-eq-ATOMIC : goal.returns-then-rule-eq-ATOMIC
returns-then-rule-eq-ATOMIC c = λ r a. kept_same c.bottom_up.result _ _ _ _ _ (concat_atomic _ c.if-rule-eq-ATOMIC.true _) (c.bottom_up.ensures r a)

pub returns-else-rule-eq-ATOMIC : goal.returns-else-rule-eq-ATOMIC
returns-else-rule-eq-ATOMIC c = λ r a. kept_same c.keep.result _ _ _ _ _ (sym (concat_other _ c.if-rule-eq-ATOMIC.false _)) (c.keep.ensures r a)
