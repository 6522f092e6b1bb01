use lib.ListN.{length}
use Prim.Native.Nat.{◌/◌}
use Rattle.grammar.specs.Numbers.{rule_width}
use Rattle.comparer.proofs.Pairing.{kept_self, kept_then, kept_forgotten, kept_index, paired_none, paired_next, one_left, one_right}
use native.Mathlib.Omega.{arith}
use Rattle.comparer.proofs.pair.Goals as goal

pub loop-i-init : goal.loop-i-init
loop-i-init c = let m = c.args.right_marks.now in
    let r = c.requires.all_indexed in
    (paired_none c.args.left_marks.now m c.forget.ensures r.long, kept_self _, kept_self _, kept_index (kept_forgotten m (length c.args.right.now.rules.now / rule_width) c.forget.ensures) r)

pub loop-i-preserved : goal.loop-i-preserved
loop-i-preserved c = let v = c.loop-i.invariant in
    let one = c.pair_one.ensures in (
      paired_next one v.3 (omega (arith, v.1.long, c.loop-i-test.true, c.requires.mark_width_in_bounds)) v.0,
      kept_then v.1 (one_left one),
      kept_then v.2 (one_right one),
      kept_index (one_right one) v.3,
    )

pub returns-clause-kept : goal.returns-clause-kept
returns-clause-kept c = let v = c.loop-i.invariant in
    (v.1, kept_then (kept_forgotten c.args.right_marks.now (length c.args.right.now.rules.now / rule_width) c.forget.ensures) v.2)
