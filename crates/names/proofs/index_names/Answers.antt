use mathlib.Core.Path.{◌≡◌, refl, ◌∙◌}
use Prim.Native.Nat.{◌/◌}
use native.Mathlib.Omega.{arith}
use lib.ListN.{length}
use Rattle.grammar.specs.Numbers.{rule_width}
use mathlib.Core.Bool.{true≢false}
use Rattle.names.proofs.Index.{indexed_all}
use borrow.Author.Rules.{rules}
use Rattle.names.proofs.index_names.Goals as goal

pub clear-requires : goal.clear-requires
clear-requires c = (c.requires.mark_width_in_bounds, c.requires.rule_width_len_bound.0)

pub loop-i-init : goal.loop-i-init
loop-i-init c = (omega arith, refl, c.clear.ensures)

pub index_name-requires-clause-names_inside : goal.index_name-requires-clause-names_inside
index_name-requires-clause-names_inside c =
    c.requires.names_inside

pub index_name-requires-clause-i_in_bounds : goal.index_name-requires-clause-i_in_bounds
index_name-requires-clause-i_in_bounds c =
    (omega (arith, c.loop-i-test.true), c.requires.rule_width_len_bound.1)

pub index_name-requires-clause-indexed : goal.index_name-requires-clause-indexed
index_name-requires-clause-indexed c = let l = c.loop-i in
    l.invariant.2

pub shape_of-marks-then-not-index_name : goal.shape_of-marks-then-not-index_name
shape_of-marks-then-not-index_name c = c.index_name.auto.marks ∙ c.loop-i.invariant.1 ∙ c.clear.auto.marks

pub returns-then-not-index_name : goal.returns-then-not-index_name
returns-then-not-index_name c = record { yes = λ e. search rules; no = λ _. c.index_name.ensures.no c.if-not-index_name.true }

pub loop-i-preserved : goal.loop-i-preserved
loop-i-preserved c = let l = c.loop-i in (omega (arith, c.loop-i-test.true), c.index_name.auto.marks ∙ l.invariant.1, c.index_name.ensures.yes c.if-not-index_name.false)

pub shape_of-marks : goal.shape_of-marks
shape_of-marks c = c.loop-i.invariant.1 ∙ c.clear.auto.marks

pub returns : goal.returns
returns c = let l = c.loop-i in let e : l.i ≡ length c.args.table.now.rules.now / rule_width = omega (arith, c.loop-i-test.false, l.invariant.0) in record { yes = λ _. indexed_all c.requires.names_inside (rw e at l.invariant.2); no = λ e. absurd (true≢false e) }
