-- `put_out` meets its contract. Assumes nothing.
use mathlib.Core.Path.{◌∙◌}
use Rattle.packing.proofs.Overs.{stored_over}
use Rattle.packing.proofs.put_out.Goals as goal

pub returns-clause-out_rules_after : goal.returns-clause-out_rules_after
returns-clause-out_rules_after c = c.copy_words.ensures

pub returns-clause-out_rows_after : goal.returns-clause-out_rows_after
returns-clause-out_rows_after c = c.copy_words-2.ensures

pub returns-clause-out_text_after : goal.returns-clause-out_text_after
returns-clause-out_text_after c = c.copy_bytes.ensures ∙ stored_over _ _ _ c.requires.text c.requires.out_text
