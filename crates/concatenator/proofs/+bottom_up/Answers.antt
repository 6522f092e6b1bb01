use mathlib.Core.Path.{refl, ◌∙◌}
use Rattle.std.specs.Prelude.{Some}
use native.Mathlib.Omega.{arith}
use Rattle.rows.proofs.Cells.{tells_yes, tells_no}
use Rattle.writing.proofs.Keeps.{kept_some}
use Rattle.chains.proofs.Walks.{same_areas, leaf_below, leaf_kept}
use Rattle.chains.proofs.Nodes.{base_stands, stands_inside, fork, own, forked, left_ready, left_falls, right_falls, base_some, right_ready, both_of, raise_ready, raised}
use Rattle.grammar.specs.Table.{Atomic}
use Rattle.grammar.specs.Steps.{concatenate}
use Rattle.concatenator.proofs.Concats.{concat_un}
use Rattle.concatenator.proofs.Nodes.{concat_leaf, concat_step, two_order, two_kept}
use Rattle.concatenator.proofs.+bottom_up.Goals as goal

pub forks-requires : goal.forks-requires
forks-requires t c = base_stands c.requires.ready c.below-base.ensures

pub returns-then-not-forks : goal.returns-then-not-forks
returns-then-not-forks t c = λ r a. leaf_kept (concatenate Atomic) concat_un c.args.table.now.text.now (concat_leaf c.args.table.now.text.now) r (leaf_below _ r a (c.below-base.ensures r a) (tells_no c.if-not-forks.true c.forks.ensures)) c.keep.result _ _ _ _ _ (c.keep.ensures r a)

pub left_of-left-requires-clause-stands : goal.left_of-left-requires-clause-stands
left_of-left-requires-clause-stands t c = base_stands c.requires.ready c.below-base.ensures

pub bottom_up-requires : goal.bottom_up-requires
bottom_up-requires t c =
    let f = fork c.requires.ready c.below-base.ensures (tells_yes c.if-not-forks.false c.forks.ensures) c.left_of-left.ensures in
    (omega (arith, c.decreases, left_falls f), (c.requires.inside, (left_ready f, c.requires.areas)))

pub unwrap-q-requires : goal.unwrap-q-requires
unwrap-q-requires t c =
    let f = fork c.requires.ready c.below-base.ensures (tells_yes c.if-not-forks.false c.forks.ensures) c.left_of-left.ensures in
    kept_some _ _ _ _ _ _ _ (c.bottom_up.ensures _ (own f).at_left)

pub overflow_sub-base : goal.overflow_sub-base
overflow_sub-base t c =
    base_some (fork c.requires.ready c.below-base.ensures (tells_yes c.if-not-forks.false c.forks.ensures) c.left_of-left.ensures)

pub bottom_up-requires-2 : goal.bottom_up-requires-2
bottom_up-requires-2 t c =
    let f = fork c.requires.ready c.below-base.ensures (tells_yes c.if-not-forks.false c.forks.ensures) c.left_of-left.ensures in
    let x = c.bottom_up.auto in
    (omega (arith, c.decreases, right_falls f), (c.requires.inside, (right_ready concat_step f c.unwrap-q.ensures c.bottom_up.ensures x.out x.lits, same_areas c.requires.areas x.out x.lits)))

pub unwrap-s-requires : goal.unwrap-s-requires
unwrap-s-requires t c =
    let f = fork c.requires.ready c.below-base.ensures (tells_yes c.if-not-forks.false c.forks.ensures) c.left_of-left.ensures in
    kept_some _ _ _ _ _ _ _ (c.bottom_up-2.ensures _ (own f).view.at_right)

pub kind_at-requires : goal.kind_at-requires
kind_at-requires t c = stands_inside (base_stands c.requires.ready c.below-base.ensures)

pub finish-e-requires : goal.finish-e-requires
finish-e-requires t c =
    let f = fork c.requires.ready c.below-base.ensures (tells_yes c.if-not-forks.false c.forks.ensures) c.left_of-left.ensures in
    let x = c.bottom_up.auto in
    let y = c.bottom_up-2.auto in
    two_order (own f).view (both_of concat_step f c.unwrap-q.ensures c.bottom_up.ensures x.out x.lits c.unwrap-s.ensures c.bottom_up-2.ensures y.out y.lits (own f)) (same_areas c.requires.areas (y.out ∙ x.out) (y.lits ∙ x.lits))

pub raise-requires : goal.raise-requires
raise-requires t c =
    let f = fork c.requires.ready c.below-base.ensures (tells_yes c.if-not-forks.false c.forks.ensures) c.left_of-left.ensures in
    let x = c.bottom_up.auto in
    let y = c.bottom_up-2.auto in
    raise_ready concat_step f {a = Some c.finish-e.result} c.bottom_up-2.new.lits refl
    (λ r a. two_kept (forked f r a).view (both_of concat_step f c.unwrap-q.ensures c.bottom_up.ensures x.out x.lits c.unwrap-s.ensures c.bottom_up-2.ensures y.out y.lits (forked f r a)) c.kind_at.ensures c.finish-e.ensures)
    (c.finish-e.auto.out ∙ y.out ∙ x.out) c.requires.areas

pub returns : goal.returns
returns t c =
    let f = fork c.requires.ready c.below-base.ensures (tells_yes c.if-not-forks.false c.forks.ensures) c.left_of-left.ensures in
    let x = c.bottom_up.auto in
    let y = c.bottom_up-2.auto in
    λ r a. raised concat_step f {a = Some c.finish-e.result} c.bottom_up-2.new.lits refl
    (λ r a. two_kept (forked f r a).view (both_of concat_step f c.unwrap-q.ensures c.bottom_up.ensures x.out x.lits c.unwrap-s.ensures c.bottom_up-2.ensures y.out y.lits (forked f r a)) c.kind_at.ensures c.finish-e.ensures)
    r a c.raise.result c.raise.new.out (c.raise.ensures r a)
