-- A name that changes the stack, or one whose rule the marks settle. Assumes nothing.
use mathlib.Core.Path.{sym, ◌∙◌}
use Rattle.restorer.proofs.Showing.{stack_shows}
use Rattle.restorer.proofs.through.Goals as goal

pub returns-then-changes_stack : goal.returns-then-changes_stack
returns-then-changes_stack c = λ u su. stack_shows u _ (sym c.changes_stack.ensures ∙ c.if-changes_stack.true)
