-- `is_any` meets its contract, by the kind and the literal of the row. Assumes nothing.
use mathlib.Core.Path.{ap, ◌∙◌}
use mathlib.Core.Option.{Option}
use borrow.Author.Tests.{ne_eqb}
use Rattle.grammar.specs.Basic.{Bytes}
use Rattle.grammar.specs.Tree.{Ident}
use Rattle.rows.proofs.Laws.{root}
use Rattle.rows.proofs.Cells.{lit_shape}
use Rattle.rows.proofs.Views.{as_lit, lit_some, lit_none}
use Rattle.skipper.proofs.Leaf.{read_found_lem}
use Rattle.explanation.specs.Explain.{of_right}
use Rattle.explainer.proofs.Places.{ident_inside}
use Rattle.explainer.proofs.is_any.Goals as goal

pub kind_at-requires : goal.kind_at-requires
kind_at-requires c = (root c.requires.1.at).inside

pub x_at-requires : goal.x_at-requires
x_at-requires c = (root c.requires.1.at).inside

pub y_at-requires : goal.y_at-requires
y_at-requires c = (root c.requires.1.at).inside

pub is_any-requires : goal.is_any-requires
is_any-requires c = ident_inside _ c.requires.0 (root c.requires.1.at).inside (rw c.kind_at.ensures at c.if-kind_at-eq-IDENT.true) c.x_at.ensures c.y_at.ensures

pub returns-then-kind_at-eq-IDENT-clause-a_value : goal.returns-then-kind_at-eq-IDENT-clause-a_value
returns-then-kind_at-eq-IDENT-clause-a_value c = λ r a x.
    let z = c.if-kind_at-eq-IDENT.true in
    ap (λ (o : Option Bytes). of_right o x) (lit_some _ 3 z (as_lit (read_found_lem a c.kind_at.ensures) a (rw z (lit_shape Ident)))) ∙ rw (c.is_any.ensures, c.x_at.ensures, c.y_at.ensures)

pub returns-then-kind_at-eq-IDENT-clause-i_value : goal.returns-then-kind_at-eq-IDENT-clause-i_value
returns-then-kind_at-eq-IDENT-clause-i_value c = λ _. (as_lit (read_found_lem c.requires.1.at c.kind_at.ensures) c.requires.1.at (rw c.if-kind_at-eq-IDENT.true (lit_shape Ident))).rows

pub returns-else-kind_at-eq-IDENT-clause-a_value : goal.returns-else-kind_at-eq-IDENT-clause-a_value
returns-else-kind_at-eq-IDENT-clause-a_value c = λ r a x.
    let n = c.if-kind_at-eq-IDENT.false in
    ap (λ (o : Option Bytes). of_right o x) (lit_none _ 3 (read_found_lem a c.kind_at.ensures) a n) ∙ rw (ne_eqb _ _ n)
