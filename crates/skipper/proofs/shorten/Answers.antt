use mathlib.Core.Path.{refl, sym, ◌∙◌}
use native.Mathlib.Omega.{arith}
use Rattle.grammar.specs.Table.{resolve_table}
use Rattle.skipper.proofs.Leaf.{length_table, count}
use Rattle.skipper.proofs.Ways.{relisted_none, relisted_more}
use Rattle.skipper.proofs.shorten.Goals as goal

pub loop-steps-init : goal.loop-steps-init
loop-steps-init c = (refl, record { least = omega arith; long = refl; relisted = relisted_none _; targets = c.tell_all.ensures.targets })

pub pass_all-requires-clause-leading : goal.pass_all-requires-clause-leading
pass_all-requires-clause-leading c = let inv = c.loop-steps.invariant in
    record { table = resolve_table c.args.table.now.text.now c.requires.table; long = omega (arith, inv.0, length_table c.args.table.now.text.now c.requires.table, count c.requires.table c.requires.lent.heads); targets = inv.1.targets c.requires.table c.requires.lent }

pub loop-steps-preserved : goal.loop-steps-preserved
loop-steps-preserved c = let inv = c.loop-steps.invariant in (
  inv.0,
  record {
    least = omega (arith, inv.1.least);
    long = c.pass_all.auto.marks ∙ inv.1.long;
    relisted = relisted_more inv.1.relisted c.pass_all.ensures.relisted;
    targets = λ t l. c.pass_all.ensures.targets (resolve_table c.args.table.now.text.now t) (inv.0 ∙ count t l.heads ∙ sym (length_table c.args.table.now.text.now t)) (inv.1.targets t l);
  },
)
