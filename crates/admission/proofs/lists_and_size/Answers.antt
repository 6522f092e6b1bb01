-- `lists_and_size` meets its contract. Assumes nothing.
use Rattle.admission.proofs.Trying.{passed_given, passed_few, tried_again, tried_large, tried_fine}
use Rattle.admission.proofs.lists_and_size.Goals as goal

pub read_lists-requires : goal.read_lists-requires
read_lists-requires c = passed_given c.requires

pub returns-in-Err : goal.returns-in-Err
returns-in-Err c = tried_again c.requires _ c.in-Err.is c.read_lists.ensures.lists_answer

pub text_size-requires : goal.text_size-requires
text_size-requires c = passed_few c.requires

pub returns-then-text_size-gt-FULL_TEXT : goal.returns-then-text_size-gt-FULL_TEXT
returns-then-text_size-gt-FULL_TEXT c = tried_large c.requires _ c.in-Ok.is c.read_lists.ensures.lists_answer c.read_lists.ensures.given c.text_size.ensures c.if-text_size-gt-FULL_TEXT.true

pub returns-else-text_size-gt-FULL_TEXT : goal.returns-else-text_size-gt-FULL_TEXT
returns-else-text_size-gt-FULL_TEXT c = tried_fine c.requires _ c.in-Ok.is c.read_lists.ensures.lists_answer c.read_lists.ensures.given c.text_size.ensures c.if-text_size-gt-FULL_TEXT.false
