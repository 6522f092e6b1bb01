use mathlib.Core.Path.{◌≡◌, refl, ap, ◌∙◌}
use Prim.Native.Nat.{ℕ}
use native.Mathlib.Omega.{arith}
use lib.ListN.{length-set}
use Rattle.names.specs.Names.{marked}
use Rattle.names.proofs.Marks.{marked_step}
use Rattle.names.proofs.fill.Goals as goal

pub loop-i-init : goal.loop-i-init
loop-i-init c = (omega arith, refl, refl)

pub loop-i-preserved : goal.loop-i-preserved
loop-i-preserved c = let l = c.loop-i in (omega arith, simp length-set l.invariant.1, marked_step _ c.args.j l.i _ _ _ _ l.invariant.2 refl refl)

pub shape_of-marks : goal.shape_of-marks
shape_of-marks c = c.loop-i.invariant.1

pub returns : goal.returns
returns c = let a = c.args in let e : c.loop-i.i ≡ a.count = omega (arith, c.loop-i-test.false) in c.loop-i.invariant.2 ∙ ap (λ (n : ℕ). marked (λ _. a.v) a.j n a.marks.now) e
