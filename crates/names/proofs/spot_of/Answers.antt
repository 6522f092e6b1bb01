use native.Mathlib.Omega.{arith}
use Rattle.names.proofs.Index.{way_start, node_there, next_way, next_less}
use Rattle.names.proofs.spot_of.Goals as goal

pub bucket_of-requires-clause-n_in_bounds : goal.bucket_of-requires-clause-n_in_bounds
bucket_of-requires-clause-n_in_bounds c = c.requires.n_in_bounds

pub bucket_of-requires-clause-count_nonzero : goal.bucket_of-requires-clause-count_nonzero
bucket_of-requires-clause-count_nonzero c = c.requires.rule_width_nonzero

pub half-holds-requires : goal.half-holds-requires
half-holds-requires c = omega (arith, c.bucket_of.ensures.1, c.requires.walkable.indexed.long)

pub loop-holds-init : goal.loop-holds-init
loop-holds-init c = (c.half-holds.ensures.0, λ k h. way_start c.bucket_of.ensures.0)

pub go_on-s-requires-clause-names_inside : goal.go_on-s-requires-clause-names_inside
go_on-s-requires-clause-names_inside c =
    c.requires.names_inside

pub go_on-s-requires-clause-k_in_bounds : goal.go_on-s-requires-clause-k_in_bounds
go_on-s-requires-clause-k_in_bounds c = let l = c.loop-holds in
    (node_there c.requires.rule_width_nonzero l.invariant.1 l.invariant.0 c.loop-holds-test.true c.requires.walkable, c.requires.walkable.indexed.long)

pub go_on-s-requires-clause-n_in_bounds : goal.go_on-s-requires-clause-n_in_bounds
go_on-s-requires-clause-n_in_bounds c =
    c.requires.n_in_bounds

pub loop-holds-smaller : goal.loop-holds-smaller
loop-holds-smaller c = let l = c.loop-holds in next_less c.requires.rule_width_nonzero l.invariant.1 l.invariant.0 c.loop-holds-test.true c.go_on-s.ensures.0 c.requires.walkable c.go_on-s.ensures.1

pub loop-holds-preserved : goal.loop-holds-preserved
loop-holds-preserved c = let l = c.loop-holds in (c.go_on-s.ensures.1, next_way c.requires.rule_width_nonzero l.invariant.1 l.invariant.0 c.loop-holds-test.true c.go_on-s.ensures.0)

pub returns-clause-holds_value : goal.returns-clause-holds_value
returns-clause-holds_value c = c.loop-holds.invariant.0

pub returns-clause-by_index : goal.returns-clause-by_index
returns-clause-by_index c = λ k h. record { way = c.loop-holds.invariant.1 k h; last = omega (arith, c.loop-holds.invariant.0, c.loop-holds-test.false) }
