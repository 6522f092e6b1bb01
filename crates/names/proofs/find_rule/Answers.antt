use Prim.Native.Nat.{◌/◌}
use native.Mathlib.Omega.{arith}
use lib.ListN.{length}
use Rattle.grammar.specs.Numbers.{rule_width}
use Rattle.rows.proofs.Cells.{tells_yes, tells_no}
use Rattle.names.proofs.Index.{found, nothing}
use Rattle.names.proofs.find_rule.Goals as goal

pub returns-then-count-eq0 : goal.returns-then-count-eq0
returns-then-count-eq0 c = λ j l. absurd (omega (arith, c.if-count-eq0.true))

pub spot_of-i-requires-clause-names_inside : goal.spot_of-i-requires-clause-names_inside
spot_of-i-requires-clause-names_inside c = c.requires.all_indexed.inside

pub spot_of-i-requires-clause-walkable : goal.spot_of-i-requires-clause-walkable
spot_of-i-requires-clause-walkable c = record { up_to = _; indexed = c.requires.all_indexed.indexed }

pub spot_of-i-requires-clause-rule_width_nonzero : goal.spot_of-i-requires-clause-rule_width_nonzero
spot_of-i-requires-clause-rule_width_nonzero c = omega (arith, c.if-count-eq0.false)

pub spot_of-i-requires-clause-n_in_bounds : goal.spot_of-i-requires-clause-n_in_bounds
spot_of-i-requires-clause-n_in_bounds c = c.requires.n_in_bounds

pub returns-then-i-count : goal.returns-then-i-count
returns-then-i-count c = nothing c.requires.all_indexed _ (c.spot_of-i.ensures.by_index (length c.args.table.now.rules.now / rule_width) c.requires.all_indexed.indexed) c.spot_of-i.ensures.holds_value (λ l _. omega (arith, c.if-i-count.true))

pub has_name-requires-clause-names_inside : goal.has_name-requires-clause-names_inside
has_name-requires-clause-names_inside c = c.requires.all_indexed.inside

pub has_name-requires-clause-i_in_bounds : goal.has_name-requires-clause-i_in_bounds
has_name-requires-clause-i_in_bounds c = omega (arith, c.if-i-count.false, c.spot_of-i.ensures.holds_value, (c.spot_of-i.ensures.by_index (length c.args.table.now.rules.now / rule_width) c.requires.all_indexed.indexed).last)

pub has_name-requires-clause-n_in_bounds : goal.has_name-requires-clause-n_in_bounds
has_name-requires-clause-n_in_bounds c = c.requires.n_in_bounds

pub returns-then-has_name : goal.returns-then-has_name
returns-then-has_name c = found c.requires.all_indexed _ (c.spot_of-i.ensures.by_index (length c.args.table.now.rules.now / rule_width) c.requires.all_indexed.indexed) c.spot_of-i.ensures.holds_value (omega (arith, c.if-i-count.false, c.spot_of-i.ensures.holds_value, (c.spot_of-i.ensures.by_index (length c.args.table.now.rules.now / rule_width) c.requires.all_indexed.indexed).last)) (tells_yes c.if-has_name.true c.has_name.ensures)

pub returns-else-has_name : goal.returns-else-has_name
returns-else-has_name c = nothing c.requires.all_indexed _ (c.spot_of-i.ensures.by_index (length c.args.table.now.rules.now / rule_width) c.requires.all_indexed.indexed) c.spot_of-i.ensures.holds_value (λ _. tells_no c.if-has_name.false c.has_name.ensures)
