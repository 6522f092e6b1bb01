-- the expression of rule i
use mathlib.Core.Path.{refl}
use native.Mathlib.Omega.{arith}
use Rattle.skipper.proofs.Leaf.{kind_found, rule_end, rule_inside}
use Rattle.skipper.proofs.Ways.{rule_itself, rule_or}
use Rattle.skipper.proofs.named_by.Goals as goal

pub overflow_sub-root : goal.overflow_sub-root
overflow_sub-root c = omega (arith, rule_end c.requires.given.lent c.args.i c.requires.i_in_bounds c.requires.given.ended)

pub kind_at-requires : goal.kind_at-requires
kind_at-requires c = rule_inside c.requires.given.lent c.args.i c.requires.i_in_bounds c.requires.given.ended

pub returns-then-kind_at-ne-IDENT : goal.returns-then-kind_at-ne-IDENT
returns-then-kind_at-ne-IDENT c = λ t l. rule_itself l c.args.table.now.text.now c.requires.i_in_bounds

pub rule_at-requires-clause-root_in_bounds : goal.rule_at-requires-clause-root_in_bounds
rule_at-requires-clause-root_in_bounds c = rule_inside c.requires.given.lent c.args.i c.requires.i_in_bounds c.requires.given.ended

pub returns : goal.returns
returns c = rw c.unwrap_or.ensures (λ t l. rule_or l c.args.table.now.text.now c.requires.i_in_bounds c.requires.given.ended refl (kind_found (rule_inside c.requires.given.lent c.args.i c.requires.i_in_bounds c.requires.given.ended) c.kind_at.ensures) c.if-kind_at-ne-IDENT.false c.rule_at.result c.rule_at.ensures)
