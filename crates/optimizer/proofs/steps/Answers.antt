-- the function's entry, from before the call, and the call, from after its first area is back
use mathlib.Core.Path.{sym}
use lib.ListN.{drop}
use lib.Seq.{length-take-le}
use Rattle.grammar.specs.Table.{resolve_table}
use Rattle.grammar.specs.Refusals.{max_text, full_rules, full_rows}
use Rattle.turns.specs.Chain.{all_seven}
use Rattle.optimizer.proofs.Calls.{cut_works, put_back}
use Rattle.optimizer.proofs.Finishing.{answer_longer}
use Rattle.optimizer.proofs.steps.Goals as goal

pub slice_bounds-all_steps-end : goal.slice_bounds-all_steps-end
slice_bounds-all_steps-end c = c.requires.at_least.rules

pub slice_bounds-all_steps-end-2 : goal.slice_bounds-all_steps-end-2
slice_bounds-all_steps-end-2 c = sym (length-take-le full_rules c.args.a_rules.now c.requires.at_least.rules)

pub slice_bounds-all_steps-end-3 : goal.slice_bounds-all_steps-end-3
slice_bounds-all_steps-end-3 c = c.requires.at_least.rows

pub slice_bounds-all_steps-end-4 : goal.slice_bounds-all_steps-end-4
slice_bounds-all_steps-end-4 c = sym (length-take-le full_rows c.args.a_rows.now c.requires.at_least.rows)

pub slice_bounds-all_steps-end-5 : goal.slice_bounds-all_steps-end-5
slice_bounds-all_steps-end-5 c = c.requires.at_least.text

pub slice_bounds-all_steps-end-6 : goal.slice_bounds-all_steps-end-6
slice_bounds-all_steps-end-6 c = sym (length-take-le max_text c.args.a_text.now c.requires.at_least.text)

pub slice_bounds-all_steps-end-7 : goal.slice_bounds-all_steps-end-7
slice_bounds-all_steps-end-7 c = c.requires.at_least_2.rules

pub slice_bounds-all_steps-end-8 : goal.slice_bounds-all_steps-end-8
slice_bounds-all_steps-end-8 c = sym (length-take-le full_rules c.args.b_rules.now c.requires.at_least_2.rules)

pub slice_bounds-all_steps-end-9 : goal.slice_bounds-all_steps-end-9
slice_bounds-all_steps-end-9 c = c.requires.at_least_2.rows

pub slice_bounds-all_steps-end-10 : goal.slice_bounds-all_steps-end-10
slice_bounds-all_steps-end-10 c = sym (length-take-le full_rows c.args.b_rows.now c.requires.at_least_2.rows)

pub slice_bounds-all_steps-end-11 : goal.slice_bounds-all_steps-end-11
slice_bounds-all_steps-end-11 c = c.requires.at_least_2.text

pub slice_bounds-all_steps-end-12 : goal.slice_bounds-all_steps-end-12
slice_bounds-all_steps-end-12 c = sym (length-take-le max_text c.args.b_text.now c.requires.at_least_2.text)

pub all_steps-requires-clause-ready : goal.all_steps-requires-clause-ready
all_steps-requires-clause-ready c = c.requires.ready

pub all_steps-requires-clause-works : goal.all_steps-requires-clause-works
all_steps-requires-clause-works c = cut_works c.requires.at_least c.requires.at_least_2

pub shape_of-marks : goal.shape_of-marks
shape_of-marks c = c.all_steps.auto.marks

pub shape_of-a_rules : goal.shape_of-a_rules
shape_of-a_rules c = put_back full_rules c.all_steps.new.a_rules c.args.a_rules.now c.requires.at_least.rules c.all_steps.auto.a_rules

pub shape_of-a_rows : goal.shape_of-a_rows
shape_of-a_rows c = put_back full_rows c.all_steps.new.a_rows c.args.a_rows.now c.requires.at_least.rows c.all_steps.auto.a_rows

pub shape_of-a_text : goal.shape_of-a_text
shape_of-a_text c = put_back max_text c.all_steps.new.a_text c.args.a_text.now c.requires.at_least.text c.all_steps.auto.a_text

pub shape_of-b_rules : goal.shape_of-b_rules
shape_of-b_rules c = put_back full_rules c.all_steps.new.b_rules c.args.b_rules.now c.requires.at_least_2.rules c.all_steps.auto.b_rules

pub shape_of-b_rows : goal.shape_of-b_rows
shape_of-b_rows c = put_back full_rows c.all_steps.new.b_rows c.args.b_rows.now c.requires.at_least_2.rows c.all_steps.auto.b_rows

pub shape_of-b_text : goal.shape_of-b_text
shape_of-b_text c = put_back max_text c.all_steps.new.b_text c.args.b_text.now c.requires.at_least_2.text c.all_steps.auto.b_text

pub returns : goal.returns
returns c = λ t l. answer_longer c.all_steps.result (all_seven (resolve_table c.args.table.now.text.now t)) c.all_steps.new.a_rules c.all_steps.new.a_rows c.all_steps.new.a_text (drop full_rules c.args.a_rules.now) (drop full_rows c.args.a_rows.now) (drop max_text c.args.a_text.now) (c.all_steps.ensures t l)
