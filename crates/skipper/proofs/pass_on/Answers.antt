-- `pass_on` meets its contract. Assumes nothing.
use mathlib.Core.Path.{refl}
use Rattle.skipper.proofs.Ways.{passed_relisted, passed_targets}
use Rattle.skipper.proofs.pass_on.Goals as goal

pub returns-then-w-ge-LIST-clause-relisted : goal.returns-then-w-ge-LIST-clause-relisted
returns-then-w-ge-LIST-clause-relisted c = passed_relisted _ _ _ _ c.told-k.ensures refl c.if-w-ge-LIST.true c.requires.memory_word_in_bounds

pub returns-then-w-ge-LIST-clause-targets : goal.returns-then-w-ge-LIST-clause-targets
returns-then-w-ge-LIST-clause-targets c = passed_targets _ _ _ _ c.told-k.ensures refl c.if-w-ge-LIST.true c.requires.memory_word_in_bounds
