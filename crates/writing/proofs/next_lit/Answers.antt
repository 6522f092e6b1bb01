use native.Mathlib.Omega.{arith}
use Rattle.writing.proofs.Pendings.{lit_full, lit_joins, lit_begins}
use Rattle.writing.proofs.next_lit.Goals as goal

pub returns-then-lits-end : goal.returns-then-lits-end
returns-then-lits-end c = λ o bs t p. lit_full p _ _ c.requires.n_in_bounds c.if-lits-end.true

pub returns-then-x-g : goal.returns-then-x-g
returns-then-x-g c = λ o bs t p. lit_joins p _ _ c.requires.n_in_bounds (omega (arith, c.if-lits-end.false)) c.if-x-g.true

pub returns : goal.returns
returns c = λ o bs t p. lit_begins p _ _ c.requires.n_in_bounds _ (omega (arith, c.if-lits-end.false)) c.copy_bytes.ensures
