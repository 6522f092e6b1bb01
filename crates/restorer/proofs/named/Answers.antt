-- A name that changes the stack, one of no rule, or one whose rule has a memory. Assumes nothing.
use native.Mathlib.Omega.{arith}
use Rattle.restorer.proofs.Marks.{below_resolved}
use Rattle.restorer.proofs.Stills.{ident_shape}
use Rattle.restorer.proofs.Visits.{words_at, finds_below, ident_goes, asks_goes, asks_unseen, stack_name, ident_nothing, ident_asks}
use Rattle.restorer.proofs.named.Goals as goal

pub changes_stack-requires : goal.changes_stack-requires
changes_stack-requires c = omega (arith, c.requires.given.marked.inside _ c.requires.i_in_bounds (ident_shape c.requires.i_value), c.x_at-x.ensures, c.y_at-n.ensures)

pub returns-then-changes_stack-clause-visited : goal.returns-then-changes_stack-clause-visited
returns-then-changes_stack-clause-visited c = λ u r l b h. stack_name (words_at _ _ c.requires.i_in_bounds) c.requires.i_value _ _ _ _ r c.x_at-x.ensures c.y_at-n.ensures c.changes_stack.ensures c.if-changes_stack.true b h

pub find_rule-requires-clause-n_in_bounds : goal.find_rule-requires-clause-n_in_bounds
find_rule-requires-clause-n_in_bounds c = omega (arith, c.requires.given.marked.inside _ c.requires.i_in_bounds (ident_shape c.requires.i_value), c.x_at-x.ensures, c.y_at-n.ensures)

pub returns-in_default-clause-goes_on : goal.returns-in_default-clause-goes_on
returns-in_default-clause-goes_on c = ident_goes (words_at _ _ c.requires.i_in_bounds) c.requires.i_value

pub returns-in_default-clause-visited : goal.returns-in_default-clause-visited
returns-in_default-clause-visited c = λ u r l b h. ident_nothing (words_at _ _ c.requires.i_in_bounds) c.requires.i_value _ u l _ _ _ r c.x_at-x.ensures c.y_at-n.ensures c.changes_stack.ensures c.if-changes_stack.false c.find_rule.ensures b c.in_default.is h

pub returns-clause-unseen : goal.returns-clause-unseen
returns-clause-unseen c = let k = finds_below _ _ _ _ _ c.find_rule.ensures c.in-Some.is in
    asks_unseen _ _ _ _ _ k c.recall.ensures

pub returns-clause-goes_on : goal.returns-clause-goes_on
returns-clause-goes_on c =
    asks_goes (words_at _ _ c.requires.i_in_bounds) c.requires.i_value _ _ _ c.recall.ensures

pub returns-clause-visited : goal.returns-clause-visited
returns-clause-visited c = let k = finds_below _ _ _ _ _ c.find_rule.ensures c.in-Some.is in
    λ u r l b h. ident_asks (words_at _ _ c.requires.i_in_bounds) c.requires.i_value _ u l _ _ _ r c.x_at-x.ensures c.y_at-n.ensures c.changes_stack.ensures c.if-changes_stack.false c.find_rule.ensures b c.in-Some.is (below_resolved l _ _ k) h _ c.recall.ensures
