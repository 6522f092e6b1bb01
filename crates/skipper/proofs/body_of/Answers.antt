-- the rule that was found, and the one that it is told
use mathlib.Core.Path.{refl}
use native.Mathlib.Omega.{arith}
use Rattle.grammar.specs.Tree.{Ident}
use Rattle.rows.proofs.Laws.{found_row}
use Rattle.rows.proofs.Cells.{in_text, lit_shape}
use Rattle.skipper.proofs.Leaf.{rule_end}
use Rattle.skipper.proofs.Ways.{name_at, told_within, told_body}
use Rattle.skipper.proofs.body_of.Goals as goal

pub find_known-i-requires-clause-n_in_bounds : goal.find_known-i-requires-clause-n_in_bounds
find_known-i-requires-clause-n_in_bounds c = rw (c.x_at-x.ensures, c.y_at-y.ensures) (in_text _ c.requires.inside (found_row _ _ c.requires.root_in_bounds) (rw c.requires.root_value (lit_shape Ident)))

pub bounds-marks-k : goal.bounds-marks-k
bounds-marks-k c = omega (arith, told_within c.requires.named.led (name_at c.args.table.now.rows.now c.args.table.now.text.now c.args.root c.x_at-x.ensures c.y_at-y.ensures c.find_known-i.ensures) c.told-k.ensures, c.requires.named.led.given.index.long)

pub overflow_sub-result : goal.overflow_sub-result
overflow_sub-result c = let d = c.requires.named.led in omega (arith, rule_end d.given.lent c.told-k.result (told_within d (name_at c.args.table.now.rows.now c.args.table.now.text.now c.args.root c.x_at-x.ensures c.y_at-y.ensures c.find_known-i.ensures) c.told-k.ensures) d.given.ended)

pub returns : goal.returns
returns c = λ w t l h. told_body l c.args.given.now.text.now h _ (name_at c.args.table.now.rows.now c.args.table.now.text.now c.args.root c.x_at-x.ensures c.y_at-y.ensures c.find_known-i.ensures) c.told-k.ensures c.requires.named.led.given.ended refl
