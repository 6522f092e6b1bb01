-- the tests, from before the steps; the steps, from where their answer is known
use mathlib.Core.Path.{refl, sym, ap, ◌∙◌}
use Rattle.std.proofs.lemmas.Result.{err_from_is_err_and}
use Rattle.grammar.specs.Numbers.{number_in}
use Rattle.grammar.specs.declared.Refusal.TheVariants.{Full}
use Rattle.grammar.specs.Table.{resolve_table}
use Rattle.grammar.specs.Optimize.{answer}
use Rattle.refusals.specs.Check.{lent}
use Rattle.turns.proofs.Runs.{ready_lent}
use Rattle.optimizer.proofs.Calls.{none_short, whole_call}
use Rattle.optimizer.proofs.Finishing.{seven_done, seven_full, or_some, or_none, refused_told, steps_large, refusal_seen, ran_small, ran_covers, finished_seen, rows_before, rows_few, read_fits, rules_after}
use Rattle.optimizer.proofs.optimize.Goals as goal

pub refusal-requires : goal.refusal-requires
refusal-requires c = λ h. (none_short (lent c.args.out_rules.now c.args.out_rows.now c.args.out_text.now) (lent c.args.a_rules.now c.args.a_rows.now c.args.a_text.now) (lent c.args.b_rules.now c.args.b_rows.now c.args.b_text.now) c.args.marks.now (sym c.any_short-short.ensures ∙ h)).marked

pub returns-in_err-refusal : goal.returns-in_err-refusal
returns-in_err-refusal c =
    let p = err_from_is_err_and c.from_residual.result c.from_residual.ensures.1 in
    rw (p.1, p.2) (refusal_seen _ refl refl refl refl (refused_told c.in_err-refusal.was c.refusal.ensures.refuses) ∙ whole_call (lent c.args.table.now.rules.now c.args.table.now.rows.now c.args.table.now.text.now) (lent c.args.out_rules.now c.args.out_rows.now c.args.out_text.now) (lent c.args.a_rules.now c.args.a_rows.now c.args.a_text.now) (lent c.args.b_rules.now c.args.b_rows.now c.args.b_text.now) c.args.marks.now c.any_short-short.ensures)

pub steps-requires-clause-ready : goal.steps-requires-clause-ready
steps-requires-clause-ready c = c.refusal.ensures.ready (ap number_in c.in_ok-refusal.was)

pub steps-requires-clause-at_least : goal.steps-requires-clause-at_least
steps-requires-clause-at_least c = (none_short (lent c.args.out_rules.now c.args.out_rows.now c.args.out_text.now) (lent c.args.a_rules.now c.args.a_rows.now c.args.a_text.now) (lent c.args.b_rules.now c.args.b_rows.now c.args.b_text.now) c.args.marks.now (sym c.any_short-short.ensures ∙ c.refusal.ensures.sizes (ap number_in c.in_ok-refusal.was))).one

pub steps-requires-clause-at_least_2 : goal.steps-requires-clause-at_least_2
steps-requires-clause-at_least_2 c = (none_short (lent c.args.out_rules.now c.args.out_rows.now c.args.out_text.now) (lent c.args.a_rules.now c.args.a_rows.now c.args.a_text.now) (lent c.args.b_rules.now c.args.b_rows.now c.args.b_text.now) c.args.marks.now (sym c.any_short-short.ensures ∙ c.refusal.ensures.sizes (ap number_in c.in_ok-refusal.was))).other

pub returns-in_err-done : goal.returns-in_err-done
returns-in_err-done c =
    let z = ap number_in c.in_ok-refusal.was in
    let r = c.refusal.ensures.ready z in
    let q = or_none c.steps.result _ (sym c.ok_or.ensures.value ∙ c.in_err-done.was) in
    let p = err_from_is_err_and c.from_residual-in_err-done.result c.from_residual-in_err-done.ensures.1 in
    rw (p.1, p.2, q.1) (refusal_seen {r = Full} _ refl refl refl refl (c.refusal.ensures.rest z r.given.table r.given.lent ∙ steps_large _ (seven_full _ _ _ _ q.0 (c.steps.ensures r.given.table (ready_lent r)))) ∙ whole_call (lent c.args.table.now.rules.now c.args.table.now.rows.now c.args.table.now.text.now) (lent c.args.out_rules.now c.args.out_rows.now c.args.out_text.now) (lent c.args.a_rules.now c.args.a_rows.now c.args.a_text.now) (lent c.args.b_rules.now c.args.b_rows.now c.args.b_text.now) c.args.marks.now c.any_short-short.ensures)

pub put_out-requires : goal.put_out-requires
put_out-requires c =
    let r = c.refusal.ensures.ready (ap number_in c.in_ok-refusal.was) in
    let done = or_some c.steps.result _ (sym c.ok_or.ensures.value ∙ c.in_ok-done.was) in
    ran_covers (none_short (lent c.args.out_rules.now c.args.out_rows.now c.args.out_text.now) (lent c.args.a_rules.now c.args.a_rows.now c.args.a_text.now) (lent c.args.b_rules.now c.args.b_rows.now c.args.b_text.now) c.args.marks.now (sym c.any_short-short.ensures ∙ c.refusal.ensures.sizes (ap number_in c.in_ok-refusal.was))).out r.few (rules_after r) (seven_done _ _ _ _ done (c.steps.ensures r.given.table (ready_lent r)))

pub finished-requires : goal.finished-requires
finished-requires c =
    let r = c.refusal.ensures.ready (ap number_in c.in_ok-refusal.was) in
    let done = or_some c.steps.result _ (sym c.ok_or.ensures.value ∙ c.in_ok-done.was) in
    ran_small _ (resolve_table c.args.table.now.text.now r.given.table) r.few (rows_few r) (seven_done _ _ _ _ done (c.steps.ensures r.given.table (ready_lent r)))

pub returns : goal.returns
returns c =
    let z = ap number_in c.in_ok-refusal.was in
    let r = c.refusal.ensures.ready z in
    let done = or_some c.steps.result _ (sym c.ok_or.ensures.value ∙ c.in_ok-done.was) in
    finished_seen _ _ _ _ c.finished.ensures (read_fits r) (rows_before r) (rules_after r) (seven_done _ _ _ _ done (c.steps.ensures r.given.table (ready_lent r))) c.put_out.ensures.out_rules_after c.put_out.ensures.out_rows_after c.put_out.ensures.out_text_after
    ∙ ap (answer _) (sym (c.refusal.ensures.rest z r.given.table r.given.lent))
    ∙ whole_call (lent c.args.table.now.rules.now c.args.table.now.rows.now c.args.table.now.text.now) (lent c.args.out_rules.now c.args.out_rows.now c.args.out_text.now) (lent c.args.a_rules.now c.args.a_rows.now c.args.a_text.now) (lent c.args.b_rules.now c.args.b_rows.now c.args.b_text.now) c.args.marks.now c.any_short-short.ensures
