use mathlib.Core.Path.{◌≡◌, refl}
use Prim.Native.Nat.{◌+◌, ◌<◌}
use native.Mathlib.Omega.{arith}
use lib.ListN.{length, length-set}
use Rattle.writing.specs.Writes.{stored}
use Rattle.writing.proofs.Runs.{copy_more}
use Rattle.writing.proofs.copy_bytes.Goals as goal

pub loop-i-init : goal.loop-i-init
unfolding stored
loop-i-init c = (omega arith, refl, refl)

pub loop-i-preserved : goal.loop-i-preserved
loop-i-preserved c = let l = c.loop-i in
    let a = c.args in
    let h : a.x + l.i < length a.src.now = omega arith in
    (omega arith, simp length-set l.invariant.1, rw l.invariant.2 (copy_more _ _ _ _ _ h))
