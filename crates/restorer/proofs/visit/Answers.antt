-- A row that is no Ident says it by its kind. Assumes nothing.
use native.Mathlib.Omega.{arith}
use Rattle.rows.proofs.Laws.{root}
use Rattle.restorer.proofs.Visits.{words_at, row_goes, row_visited, row_unseen}
use Rattle.restorer.proofs.visit.Goals as goal

pub kind_at-kind-requires : goal.kind_at-kind-requires
kind_at-kind-requires c = (root c.requires.stands.at).inside

pub size_at-requires : goal.size_at-requires
size_at-requires c = (root c.requires.stands.at).inside

pub step_from-requires : goal.step_from-requires
step_from-requires c = let a = root c.requires.stands.at in omega (arith, c.size_at.ensures, a.rows, a.most, a.inside, c.well_formed.1.0.0)

pub returns-then-kind-ne-IDENT-clause-unseen : goal.returns-then-kind-ne-IDENT-clause-unseen
returns-then-kind-ne-IDENT-clause-unseen c = row_unseen (words_at _ _ (root c.requires.stands.at).inside) c.kind_at-kind.ensures c.if-kind-ne-IDENT.true c.step_from.ensures c.size_at.ensures _ _

pub returns-then-kind-ne-IDENT-clause-goes_on : goal.returns-then-kind-ne-IDENT-clause-goes_on
returns-then-kind-ne-IDENT-clause-goes_on c = row_goes (words_at _ _ (root c.requires.stands.at).inside) c.kind_at-kind.ensures c.if-kind-ne-IDENT.true c.step_from.ensures c.size_at.ensures

pub returns-then-kind-ne-IDENT-clause-visited : goal.returns-then-kind-ne-IDENT-clause-visited
returns-then-kind-ne-IDENT-clause-visited c = λ u r l b h. row_visited (words_at _ _ (root c.requires.stands.at).inside) c.kind_at-kind.ensures c.if-kind-ne-IDENT.true c.step_from.ensures c.size_at.ensures _ _ _ r b h

pub named-requires-clause-i_in_bounds : goal.named-requires-clause-i_in_bounds
named-requires-clause-i_in_bounds c = (root c.requires.stands.at).inside
