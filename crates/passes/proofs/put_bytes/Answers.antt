-- `put_bytes` meets its contract. Assumes nothing.
use native.Mathlib.Omega.{arith}
use mathlib.Core.Path.{refl}
use Rattle.rows.proofs.Laws.{length_part}
use Rattle.passes.proofs.put_bytes.Goals as goal

pub returns-then-lits-from : goal.returns-then-lits-from
returns-then-lits-from c = λ f. omega (arith, f, length_part c.args.text.now c.args.x c.args.n c.requires.0)

pub returns : goal.returns
returns c = let l = length_part c.args.text.now c.args.x c.args.n c.requires.0 in
    record { fits = omega (arith, l); rows = refl; text = omega (arith, l); bytes = c.copy_bytes.ensures }
