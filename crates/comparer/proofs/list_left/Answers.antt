use mathlib.Core.Path.{refl, ap, ◌∙◌, subst}
use native.Mathlib.Omega.{arith}
use lib.ListN.{length}
use lib.Seq.{take_all}
use Rattle.grammar.specs.Rows.{Span}
use Rattle.grammar.specs.Text.{bytes_at}
use Rattle.grammar.specs.Table.{Table, resolve_rule, resolve_table}
use Rattle.names.proofs.Finding.{there, rule_count}
use Rattle.comparison.specs.Compare.{lookup, left_entries}
use Rattle.comparison.proofs.Most.{entries_most}
use Rattle.comparer.specs.Lists.{Added}
use Rattle.comparer.proofs.Adding.{added_none, added_then, added_length}
use Rattle.comparer.proofs.Lookups.{left_next}
use Rattle.comparer.proofs.Sides.{side_rule}
use Rattle.comparer.proofs.list_left.Goals as goal

pub loop-i-init : goal.loop-i-init
loop-i-init c = (omega arith, refl, λ t u a b. added_none 0 _)

pub loop-i-preserved : goal.loop-i-preserved
loop-i-preserved c = let l = c.loop-i in
    let v = l.invariant in
    let t = c.loop-i-test.true in
    let o = c.list_rule-n in
    let x = side_rule c.requires.side {i = l.i} (omega (arith, t)) in
    let d = o.ensures x.rule c.requires.side_2.table x.is c.requires.side_2.stands in (
      omega (arith, v.0, d.count, entries_most l.i (resolve_rule c.args.left.now.text.now x.rule) (lookup 0 (resolve_table c.args.right.now.text.now c.requires.side_2.table) (bytes_at c.args.left.now.text.now x.rule.name))),
      added_length d ∙ v.1,
      λ tt uu st su.
          let y = there tt l.i (omega (arith, t, rule_count tt, ap length st.heads)) in
          rw (left_next c.args.left.now.text.now tt (resolve_table c.args.right.now.text.now uu) l.i y.rule y.is) (added_then (v.2 tt uu st su) (o.ensures y.rule uu (record { table = tt; stands = st; is = y.is }) su)),
    )

pub returns : goal.returns
returns c = let l = c.loop-i in
    λ t u st su. subst (λ (x : Table Span). Added l.n 0 (left_entries 0 (resolve_table c.args.left.now.text.now x) (resolve_table c.args.right.now.text.now u)) c.args.list.now l.list) (take_all l.i t (omega (arith, c.loop-i-test.false, rule_count t, ap length st.heads))) (l.invariant.2 t u st su)
