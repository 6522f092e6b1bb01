use borrow.Author.Tests.{eq-eqb}
use Rattle.comparer.proofs.Adding.{added_none}
use Rattle.comparer.proofs.list_type.Goals as goal

pub returns-then-left_rules-i : goal.returns-then-left_rules-i
returns-then-left_rules-i c = let e = c.if-left_rules-i.true in rw (eq-eqb _ _ e) (added_none _ _)
