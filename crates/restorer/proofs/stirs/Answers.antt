use mathlib.Core.Path.{sym, ◌∙◌}
use borrow.Author.Tests.{ne_eqb}
use Rattle.restorer.proofs.Showing.{changes_lit_lem}
use Rattle.restorer.proofs.stirs.Goals as goal

pub returns-else-kind-eq-IDENT : goal.returns-else-kind-eq-IDENT
returns-else-kind-eq-IDENT c = λ u k su h. ne_eqb _ _ c.if-kind-eq-IDENT.false ∙ sym (changes_lit_lem u k _ (λ i. c.if-kind-eq-IDENT.false (h ∙ i)))
