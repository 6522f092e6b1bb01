-- `check` meets its contract. Assumes nothing.
use mathlib.Core.Path.{sym, ◌∙◌}
use native.Mathlib.Omega.{arith}
use Rattle.rows.proofs.Cells.{tells_yes, tells_no}
use Rattle.refusals.proofs.Verdicts.{counts, refused_2, refused_3, refused_4, inside_names, few_rows, checked}
use Rattle.refusals.proofs.check.Goals as goal

pub returns-then-bad_counts : goal.returns-then-bad_counts
returns-then-bad_counts c = refused_2 _ _ _ _ (sym c.bad_counts.ensures ∙ c.if-bad_counts.true)

pub returns-then-not-trees : goal.returns-then-not-trees
returns-then-not-trees c = refused_3 _ _ _ (sym c.bad_counts.ensures ∙ c.if-bad_counts.false) _ (tells_no c.if-not-trees.true c.trees.ensures)

pub returns-then-bad_text : goal.returns-then-bad_text
returns-then-bad_text c = refused_4 _ _ _ (sym c.bad_counts.ensures ∙ c.if-bad_counts.false) (tells_yes c.if-not-trees.false c.trees.ensures) _ _ c.bad_text.ensures c.if-bad_text.true

pub check_names-requires-clause-names_inside : goal.check_names-requires-clause-names_inside
check_names-requires-clause-names_inside c = let b = sym c.bad_counts.ensures ∙ c.if-bad_counts.false in
    let t = tells_yes c.if-not-trees.false c.trees.ensures in
    inside_names c.args.table.now.rules.now c.args.table.now.rows.now c.args.table.now.text.now b t _ c.bad_text.ensures c.if-bad_text.false

pub check_names-requires-clause-mark_width_in_bounds : goal.check_names-requires-clause-mark_width_in_bounds
check_names-requires-clause-mark_width_in_bounds c = let b = sym c.bad_counts.ensures ∙ c.if-bad_counts.false in
    let k = counts c.args.table.now.rules.now c.args.table.now.rows.now c.args.table.now.text.now b in
    let t = tells_yes c.if-not-trees.false c.trees.ensures in
    (omega (arith, k.rules_most, c.requires, c.bad_text.auto), omega (arith, k.rules_most), k.text_most, few_rows c.args.table.now.rules.now c.args.table.now.rows.now c.args.table.now.text.now b t)

pub returns : goal.returns
returns c = let b = sym c.bad_counts.ensures ∙ c.if-bad_counts.false in
    let t = tells_yes c.if-not-trees.false c.trees.ensures in
    checked _ _ _ b t _ c.bad_text.ensures c.if-bad_text.false _ _ c.check_names.ensures
