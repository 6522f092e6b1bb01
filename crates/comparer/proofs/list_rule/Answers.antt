use mathlib.Core.Path.{◌≡◌}
use Prim.Native.Nat.{suc, ◌-◌}
use native.Mathlib.Omega.{arith}
use Rattle.comparison.specs.Compare.{only_left}
use Rattle.comparer.specs.Pairs.{memory_at}
use Rattle.comparer.proofs.Adding.{added_one}
use Rattle.comparer.proofs.Lookups.{alone, together, partner_there}
use Rattle.comparer.proofs.list_rule.Goals as goal

pub returns-then-partner-eq0 : goal.returns-then-partner-eq0
returns-then-partner-eq0 c = let o = c.put.ensures in
    λ x u r t. rw (alone c.requires.paired c.requires.i_in_bounds.0 r u t c.if-partner-eq0.true) (added_one (only_left c.args.i) o.0 o.1)

pub returns : goal.returns
returns c = let partner = memory_at c.args.left_marks.now c.args.i in
    let e : partner ≡ suc (partner - 1) = omega (arith, c.if-partner-eq0.false) in
    λ x u r t.
    let y = partner_there c.requires.paired c.requires.i_in_bounds.0 r u t e in
    rw (together c.requires.paired c.requires.i_in_bounds.0 r u t e y.is) (c.list_common.ensures x y.rule r (record { table = u; stands = t; is = y.is }))
