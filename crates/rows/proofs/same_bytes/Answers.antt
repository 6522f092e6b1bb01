use native.Mathlib.Omega.{arith}
use Rattle.rows.proofs.Laws.{unlike_tells}
use Rattle.rows.proofs.same_bytes.Goals as goal

pub returns : goal.returns
returns c = let a = c.args in unlike_tells a.text1.now a.text2.now a.x a.y a.n _ (omega arith) (omega arith) c.first_unlike.ensures
