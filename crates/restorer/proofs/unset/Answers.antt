use native.Mathlib.Omega.{arith}
use Rattle.rows.proofs.Laws.{root}
use Rattle.restorer.proofs.unset.Goals as goal

pub overflow_add-i : goal.overflow_add-i
overflow_add-i c = omega (arith, (root c.requires.at).inside)

pub size_at-requires : goal.size_at-requires
size_at-requires c = (root c.requires.at).inside

pub overflow_step-i : goal.overflow_step-i
overflow_step-i c = let t = root c.requires.at in omega (arith, t.rows, t.most, c.size_at.ensures)

pub overflow_add-i-end : goal.overflow_add-i-end
overflow_add-i-end c = omega (arith, (root c.requires.at).inside)

pub loop-i-init : goal.loop-i-init
loop-i-init c = let t = root c.requires.at in let e = c.size_at.ensures in (omega (arith, t.rows, t.most, e), omega (arith, t.rows, t.least, e), t.inside, λ j p q. absurd (omega (arith, e)))

pub returns : goal.returns
returns c = λ e r a j p q. c.loop-i.invariant.3 j (omega arith) (omega (arith, (root a).rows))
