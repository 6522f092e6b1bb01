use mathlib.Core.Path.{sym}
use native.Mathlib.Omega.{arith}
use Rattle.grammar.specs.Text.{resolve}
use Rattle.rows.specs.Rows.{cells}
use Rattle.rows.proofs.Cells.{length_cells, size_resolve}
use Rattle.comparison.proofs.Rows.{first_most}
use Rattle.comparer.proofs.Sides.{side_rule, side_stands, side_first, side_most, root_at, rule_type}
use Rattle.comparer.proofs.Commons.{common_same, common_differ}
use Rattle.comparer.proofs.list_common.Goals as goal

pub overflow_sub-a : goal.overflow_sub-a
overflow_sub-a c = side_first c.requires.side c.requires.i_in_bounds.0

pub overflow_sub-b : goal.overflow_sub-b
overflow_sub-b c = side_first c.requires.side_2 c.requires.i_in_bounds.1

pub first_difference-requires-clause-stands_in : goal.first_difference-requires-clause-stands_in
first_difference-requires-clause-stands_in c = side_stands c.requires.side c.requires.i_in_bounds.0

pub first_difference-requires-clause-stands_in_2 : goal.first_difference-requires-clause-stands_in_2
first_difference-requires-clause-stands_in_2 c = side_stands c.requires.side_2 c.requires.i_in_bounds.1

pub returns-in-None : goal.returns-in-None
returns-in-None c = let r = c.requires in
    λ x y p q. common_same _ _ _ _ (rule_type p) (rule_type q) c.list_type-m.ensures (c.in-None.ensures x.body y.body (root_at r.side r.i_in_bounds.0 p) (root_at r.side_2 r.i_in_bounds.1 q))

pub returns-in-Some : goal.returns-in-Some
returns-in-Some c = let r = c.requires in
    let o = c.put.ensures in
    λ x y p q. common_differ _ _ _ _ (rule_type p) (rule_type q) c.list_type-m.ensures (c.in-Some.ensures x.body y.body (root_at r.side r.i_in_bounds.0 p) (root_at r.side_2 r.i_in_bounds.1 q)) o.0 o.1

pub overflow_cast-k : goal.overflow_cast-k
overflow_cast-k c = let r = c.requires in
    let x = side_rule r.side r.i_in_bounds.0 in
    let y = side_rule r.side_2 r.i_in_bounds.1 in
    let t = c.args.left.now.text.now in
    let b = first_most (cells (resolve t x.rule.body)) _ c.in-Some.k (sym (c.in-Some.ensures x.rule.body y.rule.body (root_at r.side r.i_in_bounds.0 x.is) (root_at r.side_2 r.i_in_bounds.1 y.is))) in
    omega (arith, b, length_cells (resolve t x.rule.body), size_resolve t x.rule.body, side_most r.side r.i_in_bounds.0 x.is)
