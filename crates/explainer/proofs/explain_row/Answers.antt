-- `explain_row` meets its contract. Assumes nothing.
use mathlib.Core.Path.{refl, sym, ap, ◌∙◌}
use native.Mathlib.Omega.{arith}
use Rattle.explanation.specs.Explain.{Answer, answer_told}
use Rattle.explainer.proofs.Parts.{plain_told}
use Rattle.explainer.proofs.Rowed.{site_of, sited, all_rows, row_stands, no_rep, rep_some, nests, not_atomic_lem, atomic, past}
use Rattle.explainer.proofs.explain_row.Goals as goal
use Rattle.explainer.proofs.explain_row.Goals.{then-row-table-via-then-row-table, then-row-table-via-else-row-table+then-kind_at-ne-REP}

pub returns-then-row-table : goal.returns-then-row-table
returns-then-row-table c = λ t l.
    elim c.then-row-table.branch [
      | then-row-table-via-then-row-table w ↦ plain_told _ c.plain.ensures (past l c.args.table.now.text.now c.args.row w.if-row-table.true) refl
      | then-row-table-via-else-row-table+then-kind_at-ne-REP w ↦
          let h = sited c.args.table.now.rules.now _ c.args.row (omega (arith, w.if-row-table.false, all_rows l)) in
          plain_told _ c.plain.ensures (no_rep l h c.args.table.now.text.now (row_stands l h).at (rw w.kind_at.ensures at w.if-kind_at-ne-REP.true)) refl
    ]

pub rule_of-i-requires-clause-row_bound : goal.rule_of-i-requires-clause-row_bound
rule_of-i-requires-clause-row_bound c = omega (arith, c.if-row-table.false, all_rows c.requires.ready.given.lent)

pub nested-requires : goal.nested-requires
nested-requires c = row_stands c.requires.ready.given.lent (site_of c.rule_of-i.ensures)

pub returns-then-nested : goal.returns-then-nested
returns-then-nested c = λ t l.
    let site = site_of c.rule_of-i.ensures in
    let a = (row_stands l site).at in
    plain_told _ c.plain-then-nested.ensures (nests l site c.args.table.now.text.now a (rw c.kind_at.ensures at c.if-kind_at-ne-REP.false) (sym (c.nested.ensures c.args.table.now.text.now _ a) ∙ c.if-nested.true)) refl

pub returns-then-table-i-ne-ATOMIC : goal.returns-then-table-i-ne-ATOMIC
returns-then-table-i-ne-ATOMIC c = λ t l.
    let site = site_of c.rule_of-i.ensures in
    let a = (row_stands l site).at in
    plain_told _ c.plain-then-table-i-ne-ATOMIC.ensures (not_atomic_lem l site c.args.table.now.text.now a (rw c.kind_at.ensures at c.if-kind_at-ne-REP.false) (sym (c.nested.ensures c.args.table.now.text.now _ a) ∙ c.if-nested.false) c.if-table-i-ne-ATOMIC.true) refl

pub read_loop-requires-clause-stands : goal.read_loop-requires-clause-stands
read_loop-requires-clause-stands c = (row_stands c.requires.ready.given.lent (site_of c.rule_of-i.ensures), rw c.kind_at.ensures at c.if-kind_at-ne-REP.false, c.rule_of-i.ensures.0)

pub returns : goal.returns
returns c = λ t l.
    let site = site_of c.rule_of-i.ensures in
    let a = (row_stands l site).at in
    let z = rw c.kind_at.ensures at c.if-kind_at-ne-REP.false in
    c.read_loop.ensures t _ _ l a (rep_some l site c.args.table.now.text.now a z)
    ∙ ap (λ (w : Answer). answer_told w c.args.list.now) (sym (atomic l site c.args.table.now.text.now a z (sym (c.nested.ensures c.args.table.now.text.now _ a) ∙ c.if-nested.false) c.if-table-i-ne-ATOMIC.false))
