-- the numbers of rules are small
use mathlib.Core.Path.{refl}
use native.Mathlib.Omega.{arith}
use Rattle.skipper.proofs.Ways.{gives_small, rule_itself, relisted_set, targets_kept, targets_told}
use Rattle.skipper.proofs.tell.Goals as goal

pub returns-then-marks-i-lt-LIST-clause-targets_of : goal.returns-then-marks-i-lt-LIST-clause-targets_of
returns-then-marks-i-lt-LIST-clause-targets_of c = λ t l h. targets_kept c.if-marks-i-lt-LIST.true (rule_itself l c.args.table.now.text.now c.requires.i_in_bounds) h

pub overflow_cast-marks : goal.overflow_cast-marks
overflow_cast-marks c = omega (arith, gives_small c.requires.given (c.named_by-j.ensures c.requires.given.table c.requires.given.lent))

pub overflow_add-marks : goal.overflow_add-marks
overflow_add-marks c = omega (arith, gives_small c.requires.given (c.named_by-j.ensures c.requires.given.table c.requires.given.lent))

pub returns-clause-relisted : goal.returns-clause-relisted
returns-clause-relisted c = relisted_set _ _ _ (omega (arith, c.requires.i_in_bounds, c.requires.given.index.long)) (omega arith) c.if-marks-i-lt-LIST.false

pub returns-clause-targets_of : goal.returns-clause-targets_of
returns-clause-targets_of c = λ t l h. targets_told (omega (arith, c.requires.i_in_bounds, c.requires.given.index.long)) refl (c.named_by-j.ensures t l) h
