-- A rule that is settled, or a tree in which nothing shows. Assumes nothing.
use native.Mathlib.Omega.{arith}
use Rattle.grammar.specs.Table.{resolve_table}
use Rattle.rows.proofs.Laws.{root}
use Rattle.restorer.proofs.Showing.{sure, known}
use Rattle.restorer.proofs.Unsets.{restore_no}
use borrow.Author.Tests.{not-true}
use Rattle.std.specs.Prelude.{Some}
use mathlib.Core.Path.{ap, ◌∙◌}
use Rattle.restorer.proofs.stays.Goals as goal

pub settled-requires-clause-root_bound : goal.settled-requires-clause-root_bound
settled-requires-clause-root_bound c = omega (arith, (root c.requires.stands.at).inside, c.well_formed.1.1.0)

pub alters-requires-clause-known : goal.alters-requires-clause-known
alters-requires-clause-known c = known c.requires.marked c.requires.settles

pub returns-in-Some-false : goal.returns-in-Some-false
returns-in-Some-false c = λ e u r l a. restore_no _ _ (c.settled.ensures (c.in-Some-false.is ∙ ap Some c.in-Some-false.field-0-test)) c.requires.settles u l r a (c.unset.ensures c.if-unset.true r a)

pub returns-in_default : goal.returns-in_default
returns-in_default c = λ e u r l a. c.alters.ensures (not-true _ e) (resolve_table c.args.table.now.text.now u) r (sure c.args.table.now.text.now u l c.args.marks.now (c.requires.settles.settled u l)) a
