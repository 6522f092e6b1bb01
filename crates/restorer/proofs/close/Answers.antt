use mathlib.Core.Path.{refl}
use Prim.Native.Nat.{◌-◌}
use native.Mathlib.Omega.{arith}
use lib.ListN.{length-set}
use Rattle.restorer.proofs.Marks.{closes_none, closing_next, steady_none, steady_more, steady_set}
use Rattle.restorer.proofs.close.Goals as goal

pub loop-p-init : goal.loop-p-init
loop-p-init c = record { low = c.requires.within.low; high = omega arith; long = refl; steady = steady_none _; closes = λ n k. closes_none k }

pub loop-p-preserved : goal.loop-p-preserved
loop-p-preserved c = let l = c.loop-p in record { low = omega arith; high = omega arith; long = simp length-set l.invariant.long; steady = steady_more l.invariant.steady (steady_set _ _ _); closes = closing_next (omega arith) refl (omega (arith, c.requires.within.marks (l.p - 1) (omega arith), l.invariant.long)) c.requires.lt_to.0 c.requires.lt_to.1 l.invariant.closes }
