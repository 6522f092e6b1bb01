use mathlib.Core.Path.{◌≡◌, refl}
use Prim.Native.Nat.{◌+◌, ◌<◌}
use native.Mathlib.Omega.{arith}
use lib.ListN.{length, length-set}
use Rattle.writing.specs.Writes.{stored}
use Rattle.lister.proofs.Moves.{move_more}
use Rattle.lister.proofs.move_down.Goals as goal

pub loop-i-init : goal.loop-i-init
unfolding stored
loop-i-init c = (omega arith, refl, refl)

pub loop-i-preserved : goal.loop-i-preserved
loop-i-preserved c = let l = c.loop-i in
    let h : c.args.from + l.i < length c.args.out.now = omega arith in
    (omega arith, simp length-set l.invariant.1, rw l.invariant.2 (move_more _ _ _ _ (omega arith) h))
