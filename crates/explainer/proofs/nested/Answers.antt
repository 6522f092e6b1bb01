-- `nested` meets its contract, row by row. Assumes nothing.
use mathlib.Core.Path.{sym, ◌∙◌}
use native.Mathlib.Omega.{arith}
use Rattle.rows.proofs.Laws.{root}
use Rattle.explainer.proofs.Scans.{flat_more, flat_all, first_row, row_there, row_tells}
use Rattle.explainer.proofs.nested.Goals as goal

pub overflow_add-end : goal.overflow_add-end
overflow_add-end c = omega (arith, (root c.requires.at).inside)

pub size_at-requires : goal.size_at-requires
size_at-requires c = (root c.requires.at).inside

pub overflow_step-i : goal.overflow_step-i
overflow_step-i c = let r = root c.requires.at in omega (arith, c.size_at.ensures, r.rows, r.most)

pub nests-requires : goal.nests-requires
nests-requires c = row_there c.size_at.ensures (omega arith) (omega arith) c.requires

pub returns-then-nests : goal.returns-then-nests
returns-then-nests c = λ t r a. row_tells c.size_at.ensures (omega arith) (omega arith) c.requires t r a (λ s. sym (c.nests.ensures t s.tree s.at) ∙ c.if-nests.true)

pub loop-i-preserved : goal.loop-i-preserved
loop-i-preserved c = (omega arith, omega arith, flat_more c.loop-i.invariant.2 (λ t q a. sym (c.nests.ensures t q a) ∙ c.if-nests.false))

pub returns : goal.returns
returns c = λ t r a. sym (flat_all t r a (first_row _ c.size_at.ensures a) (omega arith) c.loop-i.invariant.2)
