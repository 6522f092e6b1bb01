use mathlib.Core.Path.{sym, ◌∙◌}
use native.Mathlib.Omega.{arith}
use Rattle.rows.proofs.Laws.{root}
use Rattle.skipper.proofs.Leaf.{read_found_lem}
use Rattle.skipper.proofs.Falls.{falls_first, falls_leaf, falls_loop, falls_more}
use Rattle.skipper.proofs.fall.Goals as goal

pub kind_at-kind-requires : goal.kind_at-kind-requires
kind_at-kind-requires c = (root c.loop-base.invariant.stands.at).inside

pub returns-in-Leaf : goal.returns-in-Leaf
returns-in-Leaf c = let h = c.loop-base.invariant in falls_leaf h (read_found_lem h.stands.at c.kind_at-kind.ensures) (sym c.node_of.ensures ∙ c.in-Leaf.is)

pub returns-in-Some : goal.returns-in-Some
returns-in-Some c = let h = c.loop-base.invariant in falls_loop h (read_found_lem h.stands.at c.kind_at-kind.ensures) c.list_at.ensures c.in-Some.is

pub loop-base-preserved : goal.loop-base-preserved
loop-base-preserved c = let h = c.loop-base.invariant in falls_more h (read_found_lem h.stands.at c.kind_at-kind.ensures) c.list_at.ensures (sym c.node_of.ensures ∙ c.in-Single.is) c.in_default.is

pub returns : goal.returns
returns c = falls_first c.loop-base.invariant (omega (arith, c.loop-base-test.false))
