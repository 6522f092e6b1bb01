use mathlib.Core.Path.{◌∙◌}
use native.Mathlib.Omega.{arith}
use Rattle.writing.proofs.Keeps.{kept_full}
use Rattle.chains.specs.Runs.{low}
use Rattle.chains.proofs.Walks.{same_areas, leaf_kept}
use Rattle.factorizer.specs.Factors.{factored}
use Rattle.factorizer.proofs.Factors.{factored_un}
use Rattle.factorizer.proofs.Walks.{factored_leaf}
use Rattle.factorizer.proofs.Plans.{tree_one, base_tree, less_parts, told_parts, less_one, less_two, planned_at, own, first_less, second_less, first_ready, second_ready, firsts, seconds, alone, both_order, both_kept, both_done, raise_ready, raised}
use Rattle.factorizer.proofs.+at.Goals as goal

pub tree_sides-requires : goal.tree_sides-requires
tree_sides-requires t c = record { tree = low c.requires.tree_ready.tree; at = base_tree _ c.base_of-base.ensures c.requires.tree_ready.at }

pub keep-requires-clause-ready : goal.keep-requires-clause-ready
keep-requires-clause-ready t c =
    let d = c.requires.tree_ready in
    let n = less_parts _ (low d.tree) c.in_default.is (c.tree_sides.ensures (low d.tree) (base_tree _ c.base_of-base.ensures d.at)) in
    record { tree = d.tree; at = d.at.one (less_one _ d.at n); fits = d.fits }

pub returns-in_default : goal.returns-in_default
returns-in_default t c = λ e a.
    let n = less_parts _ (low e) c.in_default.is (c.tree_sides.ensures (low e) (base_tree _ c.base_of-base.ensures a)) in
    leaf_kept (factored c.args.tight) (factored_un c.args.tight) c.args.table.now.text.now (factored_leaf c.args.tight c.args.table.now.text.now) e (less_two (low e) n) c.keep.result _ _ _ _ _ (c.keep.ensures e (a.one (less_one _ a n)))

pub plan_of-plan-requires-clause-stands : goal.plan_of-plan-requires-clause-stands
plan_of-plan-requires-clause-stands t c =
    let d = c.requires.tree_ready in
    let v = told_parts _ (low d.tree) c.in-Some.is (c.tree_sides.ensures (low d.tree) (base_tree _ c.base_of-base.ensures d.at)) in
    record { tree = v.left; at = v.at_left }

pub plan_of-plan-requires-clause-stands_2 : goal.plan_of-plan-requires-clause-stands_2
plan_of-plan-requires-clause-stands_2 t c =
    let d = c.requires.tree_ready in
    let v = told_parts _ (low d.tree) c.in-Some.is (c.tree_sides.ensures (low d.tree) (base_tree _ c.base_of-base.ensures d.at)) in
    record { tree = v.right; at = v.at_right }

pub at-requires : goal.at-requires
at-requires t c =
    let n = planned_at c.requires.tree_ready c.base_of-base.ensures c.in-Some.is c.tree_sides.ensures c.plan_of-plan.ensures in
    (omega (arith, c.decreases, first_less n), (c.requires.inside, (first_ready n, c.requires.areas)))

pub returns-in_err-q : goal.returns-in_err-q
returns-in_err-q t c =
    let n = planned_at c.requires.tree_ready c.base_of-base.ensures c.in-Some.is c.tree_sides.ensures c.plan_of-plan.ensures in
    absurd (kept_full _ _ _ _ _ _ c.in_err-q.was (c.at.ensures _ (tree_one (own n).at_first)))

pub run_over-requires : goal.run_over-requires
run_over-requires t c =
    let n = planned_at c.requires.tree_ready c.base_of-base.ensures c.in-Some.is c.tree_sides.ensures c.plan_of-plan.ensures in
    raise_ready n (alone n (firsts n c.in_ok-q.was c.at.ensures) c.in_default-kind.is) c.at.auto.out c.requires.areas

pub returns-in_default-kind : goal.returns-in_default-kind
returns-in_default-kind t c =
    let n = planned_at c.requires.tree_ready c.base_of-base.ensures c.in-Some.is c.tree_sides.ensures c.plan_of-plan.ensures in
    raised n (alone n (firsts n c.in_ok-q.was c.at.ensures) c.in_default-kind.is) c.run_over.result c.run_over.new.out c.run_over.ensures

pub at-requires-2 : goal.at-requires-2
at-requires-2 t c =
    let n = planned_at c.requires.tree_ready c.base_of-base.ensures c.in-Some.is c.tree_sides.ensures c.plan_of-plan.ensures in
    let f = firsts n c.in_ok-q.was c.at.ensures in
    let x = c.at.auto in
    (omega (arith, c.decreases, second_less n), (c.requires.inside, (second_ready n f c.in-Some-kind.is x.out x.lits, same_areas c.requires.areas x.out x.lits)))

pub returns-in_err-s : goal.returns-in_err-s
returns-in_err-s t c =
    let n = planned_at c.requires.tree_ready c.base_of-base.ensures c.in-Some.is c.tree_sides.ensures c.plan_of-plan.ensures in
    absurd (kept_full _ _ _ _ _ _ c.in_err-s.was (c.at-2.ensures _ (own n).at_second))

pub over-requires-clause-rows_le_rows : goal.over-requires-clause-rows_le_rows
over-requires-clause-rows_le_rows t c =
    let n = planned_at c.requires.tree_ready c.base_of-base.ensures c.in-Some.is c.tree_sides.ensures c.plan_of-plan.ensures in
    let f = firsts n c.in_ok-q.was c.at.ensures in
    let g = seconds n c.in_ok-s.was c.at-2.ensures in
    let x = c.at.auto in
    both_order n f c.in-Some-kind.is x.out x.lits g c.at-2.auto.out

pub returns-in_err-e : goal.returns-in_err-e
returns-in_err-e t c =
    let n = planned_at c.requires.tree_ready c.base_of-base.ensures c.in-Some.is c.tree_sides.ensures c.plan_of-plan.ensures in
    let f = firsts n c.in_ok-q.was c.at.ensures in
    let g = seconds n c.in_ok-s.was c.at-2.ensures in
    let x = c.at.auto in
    absurd (kept_full _ _ _ _ _ _ c.in_err-e.was (both_kept n f c.in-Some-kind.is x.out x.lits g c.at-2.auto.out c.over.result c.over.new.out c.over.ensures _ n.ready.at))

pub run_over-requires-2 : goal.run_over-requires-2
run_over-requires-2 t c =
    let n = planned_at c.requires.tree_ready c.base_of-base.ensures c.in-Some.is c.tree_sides.ensures c.plan_of-plan.ensures in
    let f = firsts n c.in_ok-q.was c.at.ensures in
    let g = seconds n c.in_ok-s.was c.at-2.ensures in
    let x = c.at.auto in
    raise_ready n (both_done n f c.in-Some-kind.is x.out x.lits g c.at-2.auto.out c.in_ok-e.was c.over.ensures) (c.over.auto.out ∙ c.at-2.auto.out ∙ x.out) c.requires.areas

pub returns : goal.returns
returns t c =
    let n = planned_at c.requires.tree_ready c.base_of-base.ensures c.in-Some.is c.tree_sides.ensures c.plan_of-plan.ensures in
    let f = firsts n c.in_ok-q.was c.at.ensures in
    let g = seconds n c.in_ok-s.was c.at-2.ensures in
    let x = c.at.auto in
    raised n (both_done n f c.in-Some-kind.is x.out x.lits g c.at-2.auto.out c.in_ok-e.was c.over.ensures) c.run_over-2.result c.run_over-2.new.out c.run_over-2.ensures
