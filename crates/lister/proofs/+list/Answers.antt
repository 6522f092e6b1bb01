use mathlib.Core.Path.{◌∙◌}
use native.Mathlib.Omega.{arith}
use Rattle.rows.proofs.Cells.{tells_yes, tells_no}
use Rattle.writing.proofs.Keeps.{kept_some}
use Rattle.chains.proofs.Walks.{same_areas, leaf_below, leaf_kept}
use Rattle.chains.proofs.Nodes.{base_stands, stands_inside, fork, own, forked, left_ready, left_falls, right_falls, base_some, right_ready, both_of, raise_ready, raised}
use Rattle.grammar.specs.Steps.{list}
use Rattle.lister.proofs.Lists.{list_un}
use Rattle.lister.proofs.Walks.{list_leaf, list_step, two_pair, two_kept}
use Rattle.lister.proofs.+list.Goals as goal

pub forks-requires : goal.forks-requires
forks-requires t c = base_stands c.requires.ready c.below-base.ensures

pub returns-then-not-forks : goal.returns-then-not-forks
returns-then-not-forks t c = λ r a. leaf_kept list list_un c.args.table.now.text.now (list_leaf c.args.table.now.text.now) r (leaf_below _ r a (c.below-base.ensures r a) (tells_no c.if-not-forks.true c.forks.ensures)) c.keep.result _ _ _ _ _ (c.keep.ensures r a)

pub left_of-left-requires-clause-stands : goal.left_of-left-requires-clause-stands
left_of-left-requires-clause-stands t c = base_stands c.requires.ready c.below-base.ensures

pub list-requires : goal.list-requires
list-requires t c =
    let f = fork c.requires.ready c.below-base.ensures (tells_yes c.if-not-forks.false c.forks.ensures) c.left_of-left.ensures in
    (omega (arith, c.decreases, left_falls f), (c.requires.inside, (left_ready f, c.requires.areas)))

pub unwrap-q-requires : goal.unwrap-q-requires
unwrap-q-requires t c =
    let f = fork c.requires.ready c.below-base.ensures (tells_yes c.if-not-forks.false c.forks.ensures) c.left_of-left.ensures in
    kept_some _ _ _ _ _ _ _ (c.list.ensures _ (own f).at_left)

pub overflow_sub-base : goal.overflow_sub-base
overflow_sub-base t c =
    base_some (fork c.requires.ready c.below-base.ensures (tells_yes c.if-not-forks.false c.forks.ensures) c.left_of-left.ensures)

pub list-requires-2 : goal.list-requires-2
list-requires-2 t c =
    let f = fork c.requires.ready c.below-base.ensures (tells_yes c.if-not-forks.false c.forks.ensures) c.left_of-left.ensures in
    let x = c.list.auto in
    (omega (arith, c.decreases, right_falls f), (c.requires.inside, (right_ready list_step f c.unwrap-q.ensures c.list.ensures x.out x.lits, same_areas c.requires.areas x.out x.lits)))

pub unwrap-s-requires : goal.unwrap-s-requires
unwrap-s-requires t c =
    let f = fork c.requires.ready c.below-base.ensures (tells_yes c.if-not-forks.false c.forks.ensures) c.left_of-left.ensures in
    kept_some _ _ _ _ _ _ _ (c.list-2.ensures _ (own f).view.at_right)

pub kind_at-requires : goal.kind_at-requires
kind_at-requires t c = stands_inside (base_stands c.requires.ready c.below-base.ensures)

pub finish-requires : goal.finish-requires
finish-requires t c =
    let f = fork c.requires.ready c.below-base.ensures (tells_yes c.if-not-forks.false c.forks.ensures) c.left_of-left.ensures in
    let x = c.list.auto in
    let y = c.list-2.auto in
    record { left = _; right = _; pair = two_pair (own f).view (both_of list_step f c.unwrap-q.ensures c.list.ensures x.out x.lits c.unwrap-s.ensures c.list-2.ensures y.out y.lits (own f)); areas = same_areas c.requires.areas (y.out ∙ x.out) (y.lits ∙ x.lits) }

pub unwrap-e-requires : goal.unwrap-e-requires
unwrap-e-requires t c =
    let f = fork c.requires.ready c.below-base.ensures (tells_yes c.if-not-forks.false c.forks.ensures) c.left_of-left.ensures in
    let x = c.list.auto in
    let y = c.list-2.auto in
    kept_some _ _ _ _ _ _ _ (two_kept (own f).view (both_of list_step f c.unwrap-q.ensures c.list.ensures x.out x.lits c.unwrap-s.ensures c.list-2.ensures y.out y.lits (own f)) c.kind_at.ensures c.finish.result c.finish.new.out c.finish.ensures)

pub raise-requires : goal.raise-requires
raise-requires t c =
    let f = fork c.requires.ready c.below-base.ensures (tells_yes c.if-not-forks.false c.forks.ensures) c.left_of-left.ensures in
    let x = c.list.auto in
    let y = c.list-2.auto in
    raise_ready list_step f c.list-2.new.lits c.unwrap-e.ensures
    (λ r a. two_kept (forked f r a).view (both_of list_step f c.unwrap-q.ensures c.list.ensures x.out x.lits c.unwrap-s.ensures c.list-2.ensures y.out y.lits (forked f r a)) c.kind_at.ensures c.finish.result c.finish.new.out c.finish.ensures)
    (c.finish.auto.out ∙ y.out ∙ x.out) c.requires.areas

pub returns : goal.returns
returns t c =
    let f = fork c.requires.ready c.below-base.ensures (tells_yes c.if-not-forks.false c.forks.ensures) c.left_of-left.ensures in
    let x = c.list.auto in
    let y = c.list-2.auto in
    λ r a. raised list_step f c.list-2.new.lits c.unwrap-e.ensures
    (λ r a. two_kept (forked f r a).view (both_of list_step f c.unwrap-q.ensures c.list.ensures x.out x.lits c.unwrap-s.ensures c.list-2.ensures y.out y.lits (forked f r a)) c.kind_at.ensures c.finish.result c.finish.new.out c.finish.ensures)
    r a c.raise.result c.raise.new.out (c.raise.ensures r a)
