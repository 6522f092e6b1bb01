use Prim.Native.Nat.{◌/◌}
use native.Mathlib.Omega.{arith}
use lib.ListN.{length}
use Rattle.grammar.specs.Numbers.{rule_width}
use Rattle.names.proofs.Index.{found_known}
use Rattle.names.proofs.find_known.Goals as goal

pub spot_of-requires-clause-names_inside : goal.spot_of-requires-clause-names_inside
spot_of-requires-clause-names_inside c = c.requires.all_indexed.inside

pub spot_of-requires-clause-walkable : goal.spot_of-requires-clause-walkable
spot_of-requires-clause-walkable c = record { up_to = _; indexed = c.requires.all_indexed.indexed }

pub spot_of-requires-clause-rule_width_nonzero : goal.spot_of-requires-clause-rule_width_nonzero
spot_of-requires-clause-rule_width_nonzero c = omega (arith, c.requires.name.is.below)

pub spot_of-requires-clause-n_in_bounds : goal.spot_of-requires-clause-n_in_bounds
spot_of-requires-clause-n_in_bounds c = c.requires.n_in_bounds

pub returns : goal.returns
returns c = found_known c.requires.all_indexed _ (c.spot_of.ensures.by_index (length c.args.table.now.rules.now / rule_width) c.requires.all_indexed.indexed) c.spot_of.ensures.holds_value c.requires.name.is
