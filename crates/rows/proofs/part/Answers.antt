use mathlib.Core.Path.{◌≡◌}
use Prim.Native.Nat.{◌+◌, ◌-◌}
use native.Mathlib.Omega.{arith}
use Rattle.rows.proofs.part.Goals as goal

pub returns : goal.returns
returns c = let s = c.args in let e : s.x + s.n - s.x ≡ s.n = omega arith in rw e
