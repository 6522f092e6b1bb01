use mathlib.Core.Path.{◌≡◌, refl}
use Prim.Native.Nat.{◌+◌, ◌/◌}
use native.Mathlib.Numerals.{add-one}
use native.Mathlib.Omega.{arith}
use lib.ListN.{length, length-set}
use Rattle.grammar.specs.Numbers.{rule_width}
use Rattle.names.specs.Names.{end_word}
use Rattle.names.proofs.Marks.{before_grows, before_step, marked_step}
use Rattle.names.proofs.mark_ends.Goals as goal

pub loop-i-init : goal.loop-i-init
loop-i-init c = (omega arith, refl, refl, refl)

pub overflow_add-end-in-loop-i : goal.overflow_add-end-in-loop-i
overflow_add-end-in-loop-i c = let r = c.args.rules.now in
    let l = c.loop-i in
    omega (arith, before_step r l.i l.end l.invariant.2, before_grows r (l.i + 1) (length r / rule_width) (omega arith))

pub loop-i-preserved : goal.loop-i-preserved
loop-i-preserved c = let l = c.loop-i in
    let e = before_step _ l.i l.end l.invariant.2 in
    (omega arith, simp length-set l.invariant.1, e, marked_step _ end_word l.i _ _ _ _ l.invariant.3 refl (rw add-one at e))

pub shape_of-marks : goal.shape_of-marks
shape_of-marks c = c.loop-i.invariant.1

pub returns : goal.returns
returns c = let e : c.loop-i.i ≡ length c.args.rules.now / rule_width = omega arith in rw (← e) c.loop-i.invariant.3
