-- `chain_at` meets its contract, by the test of the two rows. Assumes nothing.
use mathlib.Core.Path.{sym}
use Rattle.rotator.proofs.Kepts.{own_chain, no_chain}
use Rattle.rotator.proofs.chain_at.Goals as goal

pub returns-then-base-root : goal.returns-then-base-root
returns-then-base-root c = sym (own_chain _ _ _ c.if-base-root.true)

pub returns-else-base-root : goal.returns-else-base-root
returns-else-base-root c = sym (no_chain _ _ _ c.if-base-root.false)
