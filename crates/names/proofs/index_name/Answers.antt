use mathlib.Core.Path.{refl}
use mathlib.Core.Bool.{true≢false}
use native.Mathlib.Omega.{arith}
use Rattle.names.proofs.Index.{ends_inside, ends_named, index_first}
use Rattle.names.proofs.index_name.Goals as goal

pub spot_of-s-requires-clause-names_inside : goal.spot_of-s-requires-clause-names_inside
spot_of-s-requires-clause-names_inside c = c.requires.names_inside

pub spot_of-s-requires-clause-walkable : goal.spot_of-s-requires-clause-walkable
spot_of-s-requires-clause-walkable c = record { up_to = c.args.i; indexed = c.requires.indexed }

pub spot_of-s-requires-clause-rule_width_nonzero : goal.spot_of-s-requires-clause-rule_width_nonzero
spot_of-s-requires-clause-rule_width_nonzero c = omega (arith, c.requires.i_in_bounds.0)

pub spot_of-s-requires-clause-n_in_bounds : goal.spot_of-s-requires-clause-n_in_bounds
spot_of-s-requires-clause-n_in_bounds c = omega (arith, c.requires.names_inside c.args.i c.requires.i_in_bounds.0)

pub beside-requires-clause-names_inside : goal.beside-requires-clause-names_inside
beside-requires-clause-names_inside c = c.requires.names_inside

pub beside-requires-clause-i_in_bounds : goal.beside-requires-clause-i_in_bounds
beside-requires-clause-i_in_bounds c = c.requires.i_in_bounds

pub beside-requires-clause-indexed : goal.beside-requires-clause-indexed
beside-requires-clause-indexed c = c.requires.indexed

pub beside-requires-clause-ends : goal.beside-requires-clause-ends
beside-requires-clause-ends c = ends_named c.args.table.now.rules.now c.args.table.now.text.now c.args.marks.now c.args.i c.args.i _ refl refl (c.spot_of-s.ensures.by_index c.args.i c.requires.indexed)

pub beside-requires-clause-j_value : goal.beside-requires-clause-j_value
beside-requires-clause-j_value c = (c.spot_of-s.ensures.holds_value, c.if-j-table.true)

pub returns-then-j-table : goal.returns-then-j-table
returns-then-j-table c = c.beside.ensures

pub set_half-requires : goal.set_half-requires
set_half-requires c = (ends_inside (omega (arith, c.requires.i_in_bounds.0)) c.requires.indexed (c.spot_of-s.ensures.by_index c.args.i c.requires.indexed), omega (arith, c.requires.i_in_bounds.0, c.requires.indexed.few))

pub returns : goal.returns
returns c = record { yes = λ _. index_first c.requires.indexed c.requires.i_in_bounds.0 (ends_named c.args.table.now.rules.now c.args.table.now.text.now c.args.marks.now c.args.i c.args.i _ refl refl (c.spot_of-s.ensures.by_index c.args.i c.requires.indexed)) (omega (arith, c.spot_of-s.ensures.holds_value, c.if-j-table.false, (c.spot_of-s.ensures.by_index c.args.i c.requires.indexed).last)) c.set_half.ensures; no = λ e. absurd (true≢false e) }
