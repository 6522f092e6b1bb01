-- A search that reaches no change has settled all it saw; one that does has left on its stack the rules that lead there. Assumes nothing.
use Rattle.restorer.proofs.Settles.{ends_settled}
use Rattle.restorer.proofs.Looks.{rule_yes}
use Rattle.restorer.proofs.Marks.{below_resolved}
use Rattle.restorer.proofs.settle_rule.Goals as goal

pub returns-then-marks-i-ne-UNSEEN-clause-rule_settled : goal.returns-then-marks-i-ne-UNSEEN-clause-rule_settled
returns-then-marks-i-ne-UNSEEN-clause-rule_settled c = λ u l h. ends_settled h (below_resolved l _ _ c.requires.i_in_bounds) c.if-marks-i-ne-UNSEEN.true

pub returns-clause-rule_settled : goal.returns-clause-rule_settled
returns-clause-rule_settled c = let a = c.look in
    let d = c.close.ensures in
    rule_yes c.requires.searching c.requires.i_in_bounds a.ensures.ran a.ensures.looked c.in-Reached.is d.by_index
