use native.Mathlib.Omega.{arith}
use Rattle.restorer.proofs.Marks.{rule_there, rule_at, rule_tree}
use Rattle.restorer.proofs.Looks.{look_room, look_less, look_opens, look_ran, look_says}
use Rattle.restorer.proofs.Runs.{walk_start, walk_given, walk_top, asked, walk_next, walk_less, walk_met, walk_past, walk_told, walk_end}
use mathlib.Core.Path.{refl}
use Rattle.restorer.proofs.+look_walk.Goals as goal

pub look-enter-requires-clause-top_in_bounds : goal.look-enter-requires-clause-top_in_bounds
look-enter-requires-clause-top_in_bounds t c = let r = look_room c.requires.searching c.requires.i_in_bounds c.requires.i_value in
    (omega (arith, r, c.requires.searching.long), omega (arith, r, c.requires.searching.few))

pub look-walk-a-requires : goal.look-walk-a-requires
look-walk-a-requires t c = let d = c.requires.searching.given in
    let e = c.enter.ensures in (
      omega (arith, c.decreases, look_less c.requires.searching c.requires.i_in_bounds c.requires.i_value e.marks_after e.stack_after),
      (look_opens c.requires.searching c.requires.i_in_bounds c.requires.i_value e.marks_after e.stack_after, rule_tree d.marked.lent c.args.marks.now c.args.i (rule_there d.marked.lent c.args.i c.requires.i_in_bounds) c.requires.i_in_bounds d.ended _ _ refl refl),
    )

pub look-returns-clause-ran : goal.look-returns-clause-ran
look-returns-clause-ran t c =
    let e = c.enter.ensures in
    let w = c.walk-a in
    let v = c.leave in
    look_ran c.requires.searching c.requires.i_in_bounds c.requires.i_value e.marks_after e.stack_after w.result w.ensures.ran v.result v.ensures.steady v.ensures.leaves

pub look-returns-clause-looked : goal.look-returns-clause-looked
look-returns-clause-looked t c = let d = c.requires.searching.given in
    let i = c.args.i in
    let e = c.enter.ensures in
    let w = c.walk-a in
    let v = c.leave in
    λ u l k. let r = rule_there l i c.requires.i_in_bounds in look_says c.requires.searching c.requires.i_in_bounds c.requires.i_value e.marks_after e.stack_after w.result w.ensures.ran v.result v.ensures.steady v.ensures.leaves u l r k (w.ensures.walked u r.rule.body l (rule_at l c.args.marks.now i r c.requires.i_in_bounds d.ended _ _ refl refl))

pub walk-loop-i-init : goal.walk-loop-i-init
walk-loop-i-init t c = walk_start c.requires.searching c.requires.tree_rows

pub walk-visit-requires-clause-given : goal.walk-visit-requires-clause-given
walk-visit-requires-clause-given t c = let inv = c.loop-i.invariant in
    (walk_given inv c.requires.searching).given

pub walk-visit-requires-clause-stands : goal.walk-visit-requires-clause-stands
walk-visit-requires-clause-stands t c = let inv = c.loop-i.invariant in
    let q = walk_top inv c.loop-i-test.true in
    record { tree = q.tree; at = q.at }

pub walk-returns-in-Changes-clause-walked : goal.walk-returns-in-Changes-clause-walked
walk-returns-in-Changes-clause-walked t c = let inv = c.loop-i.invariant in
    let v = c.visit.ensures in
    walk_met inv c.loop-i-test.true v.goes_on v.visited c.in-Changes.is

pub walk-loop-i-smaller-in-Next : goal.walk-loop-i-smaller-in-Next
walk-loop-i-smaller-in-Next t c = let inv = c.loop-i.invariant in
    let v = c.visit.ensures in walk_less inv c.loop-i-test.true v.goes_on v.visited c.in-Next.is

pub walk-loop-i-preserved-in-Next : goal.walk-loop-i-preserved-in-Next
walk-loop-i-preserved-in-Next t c = let inv = c.loop-i.invariant in
    let v = c.visit.ensures in walk_next inv c.loop-i-test.true v.goes_on v.visited c.in-Next.is c.min-low.ensures

pub walk-look-requires : goal.walk-look-requires
walk-look-requires t c = let inv = c.loop-i.invariant in
    (omega (arith, c.decreases, inv.ran.fewer), (walk_given inv c.requires.searching, asked _ _ _ c.in-Into.is c.visit.ensures.unseen))

pub walk-returns-in-Reached-clause-walked : goal.walk-returns-in-Reached-clause-walked
walk-returns-in-Reached-clause-walked t c = let inv = c.loop-i.invariant in
    let v = c.visit.ensures in
    let o = c.look in
    walk_told inv c.loop-i-test.true v.goes_on v.visited c.in-Into.is o.ensures.ran o.ensures.looked c.in-Reached.is

pub walk-loop-i-preserved : goal.walk-loop-i-preserved
walk-loop-i-preserved t c = let inv = c.loop-i.invariant in
    let v = c.visit.ensures in
    let o = c.look in walk_past inv c.loop-i-test.true v.goes_on v.visited c.in-Into.is o.ensures.ran o.ensures.looked c.in-Silent.is c.min-low-in-Silent.ensures o.auto.marks o.auto.stack

pub walk-returns-clause-walked : goal.walk-returns-clause-walked
walk-returns-clause-walked t c = walk_end c.loop-i.invariant c.loop-i-test.false
