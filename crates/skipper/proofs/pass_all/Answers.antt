use mathlib.Core.Path.{refl, ◌∙◌}
use native.Mathlib.Omega.{arith}
use Rattle.skipper.proofs.Ways.{relisted_none, relisted_more, leading_within, leading_on}
use Rattle.skipper.proofs.pass_all.Goals as goal

pub loop-i-init : goal.loop-i-init
loop-i-init c = record { high = omega arith; long = refl; relisted = relisted_none _; targets = λ t e h. h }

pub pass_on-requires-clause-memory_word_in_bounds_2 : goal.pass_on-requires-clause-memory_word_in_bounds_2
pass_on-requires-clause-memory_word_in_bounds_2 c = let inv = c.loop-i.invariant in
    omega (arith, c.requires.mark_width_in_bounds, inv.long, leading_within _ (leading_on c.requires.leading inv.targets) c.loop-i-test.true)

pub loop-i-preserved : goal.loop-i-preserved
loop-i-preserved c = let inv = c.loop-i.invariant in
    record {
      high = omega (arith, c.loop-i-test.true);
      long = c.pass_on.auto.marks ∙ inv.long;
      relisted = relisted_more inv.relisted c.pass_on.ensures.relisted;
      targets = λ t e h. c.pass_on.ensures.targets t (omega (arith, c.loop-i-test.true)) (inv.targets t e h);
    }
