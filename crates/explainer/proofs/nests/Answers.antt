-- `nests` meets its contract, by the kinds of the row and of its left side. Assumes nothing.
use mathlib.Core.Path.{sym, ◌∙◌}
use borrow.Author.Tests.{ne_eqb}
use Rattle.rows.proofs.Laws.{root}
use Rattle.rows.proofs.Views.{as_pair, pair_left}
use Rattle.explainer.proofs.Scans.{lone_flat, pair_nests}
use Rattle.explainer.proofs.nests.Goals as goal

pub kind_at-kind-requires : goal.kind_at-kind-requires
kind_at-kind-requires c = (root c.requires.at).inside

pub kind_at-requires : goal.kind_at-requires
kind_at-requires c = (root (pair_left (as_pair c.requires.at (rw c.kind_at-kind.ensures at c.if-kind-eq-PAIR.true)) c.left_of.ensures)).inside

pub returns-then-kind-eq-PAIR : goal.returns-then-kind-eq-PAIR
returns-then-kind-eq-PAIR c = λ t r a.
    let v = as_pair a (rw c.kind_at-kind.ensures at c.if-kind-eq-PAIR.true) in
    rw (c.kind_at.ensures, c.kind_at-kind.ensures) (pair_nests t v (pair_left v c.left_of.ensures))

pub returns-else-kind-eq-PAIR : goal.returns-else-kind-eq-PAIR
returns-else-kind-eq-PAIR c = λ t r a. ne_eqb _ _ c.if-kind-eq-PAIR.false ∙ sym (lone_flat t r a (rw c.kind_at-kind.ensures at c.if-kind-eq-PAIR.false))
