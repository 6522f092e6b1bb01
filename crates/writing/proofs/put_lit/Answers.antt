use native.Mathlib.Omega.{arith}
use Rattle.rows.proofs.Laws.{length_part}
use Rattle.writing.proofs.Puts.{lit_put}
use Rattle.writing.proofs.put_lit.Goals as goal

pub returns-then-lits-at : goal.returns-then-lits-at
returns-then-lits-at c = λ f. omega (arith, f.text, length_part c.args.text.now c.args.x c.args.n c.requires.n_in_bounds)

pub returns : goal.returns
returns c = lit_put c.put_row.result _ _ _ _ _ _ _ _ (length_part c.args.text.now c.args.x c.args.n c.requires.n_in_bounds) (omega arith) c.copy_bytes.ensures c.put_row.ensures
