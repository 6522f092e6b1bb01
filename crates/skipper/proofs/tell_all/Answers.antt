use mathlib.Core.Path.{refl, ◌∙◌}
use native.Mathlib.Omega.{arith}
use Rattle.skipper.proofs.Leaf.{given_steady, length_table, count}
use Rattle.skipper.proofs.Ways.{relisted_none, relisted_more}
use Rattle.skipper.proofs.tell_all.Goals as goal

pub loop-i-init : goal.loop-i-init
loop-i-init c = (refl, record { high = omega arith; long = refl; relisted = relisted_none _; targets = λ t l. record { to = λ j b. absurd (omega arith) } })

pub tell-others-requires-clause-given : goal.tell-others-requires-clause-given
tell-others-requires-clause-given c = let inv = c.loop-i.invariant in
    given_steady c.requires inv.1.relisted.steady inv.1.long

pub loop-i-preserved : goal.loop-i-preserved
loop-i-preserved c = let inv = c.loop-i.invariant in (
  inv.0,
  record {
    high = omega (arith, c.loop-i-test.true, inv.0);
    long = c.tell-others.auto.marks ∙ inv.1.long;
    relisted = relisted_more inv.1.relisted c.tell-others.ensures.relisted;
    targets = λ t l. c.tell-others.ensures.targets_of t l (inv.1.targets t l);
  },
)

pub returns-clause-targets : goal.returns-clause-targets
returns-clause-targets c = let inv = c.loop-i.invariant in
    λ t l. record { to = λ i b. (inv.1.targets t l).to i (omega (arith, c.loop-i-test.false, inv.0, length_table c.args.table.now.text.now t, count t l.heads)) }
