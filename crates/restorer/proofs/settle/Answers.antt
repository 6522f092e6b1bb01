use mathlib.Core.Path.{refl}
use Rattle.restorer.proofs.Ends.{rows_fit, settling_start, settling_next, settling_end}
use Rattle.restorer.proofs.settle.Goals as goal

pub mark_ends-requires-clause-rule_width_bound : goal.mark_ends-requires-clause-rule_width_bound
mark_ends-requires-clause-rule_width_bound c = rows_fit c.requires.marked c.requires.rows_len_bound

pub loop-i-init : goal.loop-i-init
loop-i-init c = settling_start c.requires.marked c.requires.rows_len_bound c.requires.rule_width_in_bounds c.mark_ends.ensures refl c.forget.ensures

pub returns-clause-settles : goal.returns-clause-settles
returns-clause-settles c = settling_end c.loop-i.invariant c.loop-i-test.false

pub loop-i-preserved : goal.loop-i-preserved
loop-i-preserved c = let r = c.settle_rule in settling_next c.loop-i.invariant c.loop-i-test.true r.ensures.steady r.ensures.stacked r.auto.marks r.auto.stack r.ensures.rule_settled
