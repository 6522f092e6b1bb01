use mathlib.Core.Path.{◌≡◌, refl}
use Prim.Native.Nat.{◌+◌, ◌<◌}
use native.Mathlib.Omega.{arith}
use lib.ListN.{length, length-set}
use Rattle.grammar.specs.Text.{bytes_at}
use Rattle.writing.specs.Writes.{stored}
use Rattle.writing.proofs.Runs.{copy_more}
use Rattle.unroller.proofs.Stores.{stored_word}
use Rattle.unroller.proofs.copy_on.Goals as goal

pub loop-i-init : goal.loop-i-init
unfolding stored
loop-i-init c = (omega arith, refl, refl)

pub loop-i-preserved : goal.loop-i-preserved
loop-i-preserved c = let l = c.loop-i in
    let h : c.args.x + l.i < length c.args.lits.now = omega arith in
    (omega arith, simp length-set l.invariant.1, rw (l.invariant.2, stored_word c.args.lits.now (bytes_at c.args.lits.now (c.args.x, l.i)) c.args.at (c.args.x + l.i) (omega arith)) (copy_more c.args.lits.now c.args.lits.now c.args.x c.args.at l.i h))
