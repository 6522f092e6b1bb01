use mathlib.Core.Path.{◌≡◌, refl, ◌∙◌}
use Prim.Native.Nat.{◌≤◌, ◌<◌}
use native.Mathlib.Omega.{arith}
use lib.ListN.{length, length-set}
use Rattle.writing.specs.Writes.{stored}
use Rattle.packing.proofs.Overs.{stored_more, stored_over}
use Rattle.packing.proofs.copy_words.Goals as goal

pub loop-i-init : goal.loop-i-init
unfolding stored
loop-i-init c = (omega arith, refl, refl)

pub loop-i-preserved : goal.loop-i-preserved
loop-i-preserved c = let l = c.loop-i in
    let h : l.i < length c.args.src.now = omega arith in
    (omega arith, simp length-set l.invariant.1, rw l.invariant.2 (stored_more _ _ _ h))

pub returns : goal.returns
returns c = let a = c.args in
    let e : c.loop-i.i ≡ a.n = omega arith in
    let h : a.n ≤ length a.src.now = omega arith in
    let k : a.n ≤ length a.dst.now = omega arith in
    (rw e at c.loop-i.invariant.2) ∙ stored_over _ _ _ h k
