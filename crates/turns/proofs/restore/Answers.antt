-- the function's entry, from where the place is known; that, from after the scan; and the scan, from after the marks are settled
use mathlib.Core.Path.{sym}
use native.Mathlib.Omega.{arith}
use lib.Seq.{length-take-le}
use Rattle.grammar.specs.Table.{packed_from}
use Rattle.turns.proofs.Sizes.{sized_areas, sized_same, full_stays}
use Rattle.turns.proofs.Turns.{stands_within, stands_holds, stands_covers, stands_few, stands_small, stands_marked, stands_other, restore_passing, held_rows, unrestored_stood, restored_stood}
use borrow.Author.Rules.{rules}
use Rattle.turns.proofs.restore.Goals as goal

pub returns-in_err-p : goal.returns-in_err-p
returns-in_err-p c = rw c.from_residual.ensures (λ t large h n. full_stays _ h c.in_err-p.was)

pub overflow_mul-words : goal.overflow_mul-words
overflow_mul-words c = let k = c.requires.stands in
    let a = (stands_within k c.in_ok-p.was).1 in
    search (rules, a, k.works.one.rows)

pub slice_bounds-h-end : goal.slice_bounds-h-end
slice_bounds-h-end c = sym (length-take-le _ _ (stands_within c.requires.stands c.in_ok-p.was).0)

pub slice_bounds-r-end : goal.slice_bounds-r-end
slice_bounds-r-end c = sym (length-take-le _ _ (stands_within c.requires.stands c.in_ok-p.was).1)

pub slice_bounds-t-end : goal.slice_bounds-t-end
slice_bounds-t-end c = sym (length-take-le _ _ (stands_within c.requires.stands c.in_ok-p.was).2)

pub still-requires : goal.still-requires
still-requires c = (stands_holds c.requires.stands c.in_ok-p.was).inside

pub put_out-requires : goal.put_out-requires
put_out-requires c = stands_covers c.requires.stands c.in_ok-p.was

pub shape_of-heads2-then-still : goal.shape_of-heads2-then-still
shape_of-heads2-then-still c = c.put_out.auto.out_rules

pub shape_of-rows2-then-still : goal.shape_of-rows2-then-still
shape_of-rows2-then-still c = c.put_out.auto.out_rows

pub shape_of-text2-then-still : goal.shape_of-text2-then-still
shape_of-text2-then-still c = c.put_out.auto.out_text

pub returns-then-still : goal.returns-then-still
returns-then-still c = let e = c.in_ok-p.was in
    let z = c.requires.stands.works in
    λ t large h n. unrestored_stood e h n _ _ _ (sized_same c.put_out.auto.out_rules c.put_out.auto.out_rows c.put_out.auto.out_text z.other) c.put_out.ensures.out_rules_after c.put_out.ensures.out_rows_after c.put_out.ensures.out_text_after (c.still.ensures c.if-still.true (packed_from 0 t) (held_rows e h n).rows)

pub settle-requires-clause-marked : goal.settle-requires-clause-marked
settle-requires-clause-marked c = let e = c.in_ok-p.was in
    stands_marked c.requires.stands e (c.requires.index _ e)

pub settle-requires-clause-rows_len_bound : goal.settle-requires-clause-rows_len_bound
settle-requires-clause-rows_len_bound c = let e = c.in_ok-p.was in
    let z = stands_small c.requires.stands e in
    z.0

pub settle-requires-clause-rule_width_in_bounds : goal.settle-requires-clause-rule_width_in_bounds
settle-requires-clause-rule_width_in_bounds c = let e = c.in_ok-p.was in
    let z = stands_small c.requires.stands e in
    z.1

pub pass-requires-clause-passing : goal.pass-requires-clause-passing
pass-requires-clause-passing c = restore_passing (stands_other c.requires.stands c.settle.auto.stack) c.in_ok-p.was c.settle.ensures.given.marked c.settle.ensures.settles

pub pass-requires-clause-leaves_from : goal.pass-requires-clause-leaves_from
pass-requires-clause-leaves_from c =
    λ j b. absurd (omega (arith, b))

pub pass-requires-clause-rules_in_bounds : goal.pass-requires-clause-rules_in_bounds
pass-requires-clause-rules_in_bounds c = stands_few (stands_other c.requires.stands c.settle.auto.stack) c.in_ok-p.was

pub pass-requires-clause-areas : goal.pass-requires-clause-areas
pass-requires-clause-areas c = sized_areas (stands_other c.requires.stands c.settle.auto.stack).works.other

pub returns : goal.returns
returns c = let e = c.in_ok-p.was in
    let z = (stands_other c.requires.stands c.settle.auto.stack).works in
    λ t large h n.
    let m = held_rows e h n in
    restored_stood e h n c.pass.result z.one z.other (sized_same c.pass.auto.heads c.pass.auto.out c.pass.auto.lits z.other) (c.pass.ensures (packed_from 0 t) (packed_from 0 t) (record { rules = m.rules; rows = m.rows }) m)
