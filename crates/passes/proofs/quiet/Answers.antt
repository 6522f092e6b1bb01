use mathlib.Core.Bool.{false≢true}
use native.Mathlib.Omega.{arith}
use borrow.Author.Count.{below_more}
use Rattle.rows.proofs.Laws.{root}
use Rattle.scans.proofs.Laws.{rows_stand}
use Rattle.passes.proofs.quiet.Goals as goal

pub overflow_add-i-end : goal.overflow_add-i-end
overflow_add-i-end c = omega (arith, (root c.requires.stands.at).inside)

pub loop-i-init : goal.loop-i-init
loop-i-init c = let r = root c.requires.stands.at in
    (omega (arith, c.requires.root_value), omega (arith, c.requires.root_value, r.rows, r.least), r.inside, (λ j p q. rows_stand c.requires.stands.tree c.requires.stands.at j (omega (arith, r.rows)) p), λ j q s. absurd (omega (arith, c.requires.root_value)))

pub fires-requires-clause-inside : goal.fires-requires-clause-inside
fires-requires-clause-inside c = c.requires.inside

pub fires-requires-clause-stands : goal.fires-requires-clause-stands
fires-requires-clause-stands c = c.loop-i.invariant.3 _ (omega arith) (omega arith)

pub returns-then-fires : goal.returns-then-fires
returns-then-fires c = λ h. absurd (false≢true h)

pub loop-i-preserved : goal.loop-i-preserved
loop-i-preserved c = let v = c.loop-i.invariant in (omega arith, omega arith, v.2, v.3, below_more _ _ v.4 (λ q. c.fires.ensures c.if-fires.false))

pub returns : goal.returns
returns c = λ e look r a j p q x b. c.loop-i.invariant.4 j (omega arith) (omega (arith, (root a).rows)) look x b
