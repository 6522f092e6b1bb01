-- the function's entry, from where the place is known, and that, from after the scan
use mathlib.Core.Path.{refl, sym}
use native.Mathlib.Omega.{arith}
use lib.Seq.{length-take-le}
use Rattle.passes.proofs.Calms.{leaves_all}
use Rattle.turns.proofs.Sizes.{sized_areas, sized_same, full_stays}
use Rattle.turns.proofs.Turns.{stands_within, stands_held, stands_covers, stands_few, turn_passing, held_rows, still_stood, turned_stood}
use borrow.Author.Rules.{rules}
use Rattle.turns.proofs.turn.Goals as goal

pub returns-in_err-p : goal.returns-in_err-p
returns-in_err-p c = rw c.from_residual.ensures (λ gs t large g h n. full_stays _ h c.in_err-p.was)

pub overflow_mul-words : goal.overflow_mul-words
overflow_mul-words c = let k = c.requires.stands in
    let a = (stands_within k c.in_ok-p.was).1 in
    search (rules, a, k.works.one.rows)

pub slice_bounds-h-end : goal.slice_bounds-h-end
slice_bounds-h-end c = sym (length-take-le _ _ (stands_within c.requires.stands c.in_ok-p.was).0)

pub slice_bounds-r-end : goal.slice_bounds-r-end
slice_bounds-r-end c = sym (length-take-le _ _ (stands_within c.requires.stands c.in_ok-p.was).1)

pub slice_bounds-t-end : goal.slice_bounds-t-end
slice_bounds-t-end c = sym (length-take-le _ _ (stands_within c.requires.stands c.in_ok-p.was).2)

pub first_fired-stay-requires-clause-held : goal.first_fired-stay-requires-clause-held
first_fired-stay-requires-clause-held c = stands_held c.requires.stands c.in_ok-p.was

pub first_fired-stay-requires-clause-from_in_bounds : goal.first_fired-stay-requires-clause-from_in_bounds
first_fired-stay-requires-clause-from_in_bounds c = (omega arith, refl)

pub put_out-requires : goal.put_out-requires
put_out-requires c = stands_covers c.requires.stands c.in_ok-p.was

pub shape_of-heads2-then-stay-count : goal.shape_of-heads2-then-stay-count
shape_of-heads2-then-stay-count c = c.put_out.auto.out_rules

pub shape_of-rows2-then-stay-count : goal.shape_of-rows2-then-stay-count
shape_of-rows2-then-stay-count c = c.put_out.auto.out_rows

pub shape_of-text2-then-stay-count : goal.shape_of-text2-then-stay-count
shape_of-text2-then-stay-count c = c.put_out.auto.out_text

pub returns-then-stay-count : goal.returns-then-stay-count
returns-then-stay-count c = let e = c.in_ok-p.was in
    let z = c.requires.stands.works in
    λ gs t large g h n. still_stood e h n _ _ _ _ (sized_same c.put_out.auto.out_rules c.put_out.auto.out_rows c.put_out.auto.out_text z.other) c.put_out.ensures.out_rules_after c.put_out.ensures.out_rows_after c.put_out.ensures.out_text_after (leaves_all c.args.step _ (held_rows e h n) (omega (arith, c.if-stay-count.true, length-take-le c.args.count c.args.heads.now (stands_within c.requires.stands e).0)) c.first_fired-stay.ensures.2)

pub pass-requires-clause-passing : goal.pass-requires-clause-passing
pass-requires-clause-passing c = let e = c.in_ok-p.was in
    turn_passing c.requires e

pub pass-requires-clause-leaves_from : goal.pass-requires-clause-leaves_from
pass-requires-clause-leaves_from c =
    c.first_fired-stay.ensures.2

pub pass-requires-clause-rules_in_bounds : goal.pass-requires-clause-rules_in_bounds
pass-requires-clause-rules_in_bounds c = let e = c.in_ok-p.was in
    stands_few c.requires.stands e

pub pass-requires-clause-areas : goal.pass-requires-clause-areas
pass-requires-clause-areas c =
    sized_areas c.requires.stands.works.other

pub shape_of-heads2 : goal.shape_of-heads2
shape_of-heads2 c = c.pass.auto.heads

pub shape_of-rows2 : goal.shape_of-rows2
shape_of-rows2 c = c.pass.auto.out

pub shape_of-text2 : goal.shape_of-text2
shape_of-text2 c = c.pass.auto.lits

pub returns : goal.returns
returns c = let e = c.in_ok-p.was in
    let z = c.requires.stands.works in
    λ gs t large g h n. turned_stood e h n c.pass.result _ z.one z.other (sized_same c.pass.auto.heads c.pass.auto.out c.pass.auto.lits z.other) (c.pass.ensures gs _ g (held_rows e h n))
