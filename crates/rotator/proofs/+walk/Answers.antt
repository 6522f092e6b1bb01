use mathlib.Core.Path.{sym, ◌∙◌}
use native.Mathlib.Omega.{arith}
use Rattle.rows.proofs.Cells.{tells_yes, tells_no}
use Rattle.writing.proofs.Keeps.{kept_some}
use Rattle.chains.proofs.Walks.{same_areas, leaf_below}
use Rattle.chains.proofs.Nodes.{base_stands, stands_inside, fork, own, left_ready, left_falls, right_falls, base_some, raise_ready, raised}
use Rattle.rotator.proofs.Kepts.{all_some, leaf_all, of_kind, not_kind}
use Rattle.rotator.proofs.Walks.{rotate_step, is_bin, right_ready, both_of, alone, in_chain, end_least, end_fits, closable, closed}
use Rattle.rotator.proofs.+walk.Goals as goal

pub forks-requires : goal.forks-requires
forks-requires t c = base_stands c.requires.ready c.below-base.ensures

pub returns-then-not-forks : goal.returns-then-not-forks
returns-then-not-forks t c = λ r a. leaf_all c.args.table.now.text.now c.args.kind r (leaf_below _ r a (c.below-base.ensures r a) (tells_no c.if-not-forks.true c.forks.ensures)) c.keep.result _ _ _ _ _ (c.keep.ensures r a)

pub kind_at-k-requires : goal.kind_at-k-requires
kind_at-k-requires t c = stands_inside (base_stands c.requires.ready c.below-base.ensures)

pub left_of-left-requires-clause-stands : goal.left_of-left-requires-clause-stands
left_of-left-requires-clause-stands t c = base_stands c.requires.ready c.below-base.ensures

pub walk-requires : goal.walk-requires
walk-requires t c =
    let f = fork c.requires.ready c.below-base.ensures (tells_yes c.if-not-forks.false c.forks.ensures) c.left_of-left.ensures in
    (omega (arith, c.decreases, left_falls f), (c.requires.inside, (left_ready f, c.requires.areas)))

pub unwrap-q-requires : goal.unwrap-q-requires
unwrap-q-requires t c =
    let f = fork c.requires.ready c.below-base.ensures (tells_yes c.if-not-forks.false c.forks.ensures) c.left_of-left.ensures in
    all_some _ _ _ _ _ _ _ (c.walk.ensures _ (own f).at_left)

pub overflow_sub-base : goal.overflow_sub-base
overflow_sub-base t c =
    base_some (fork c.requires.ready c.below-base.ensures (tells_yes c.if-not-forks.false c.forks.ensures) c.left_of-left.ensures)

pub walk-requires-2 : goal.walk-requires-2
walk-requires-2 t c =
    let f = fork c.requires.ready c.below-base.ensures (tells_yes c.if-not-forks.false c.forks.ensures) c.left_of-left.ensures in
    let x = c.walk.auto in
    (omega (arith, c.decreases, right_falls f), (c.requires.inside, (right_ready f c.kind_at-k.ensures c.unwrap-q.ensures c.walk.ensures x.out x.lits, same_areas c.requires.areas x.out x.lits)))

pub unwrap-s-requires : goal.unwrap-s-requires
unwrap-s-requires t c =
    let f = fork c.requires.ready c.below-base.ensures (tells_yes c.if-not-forks.false c.forks.ensures) c.left_of-left.ensures in
    all_some _ _ _ _ _ _ _ (c.walk-2.ensures _ (own f).view.at_right)

pub returns-then-in_chain : goal.returns-then-in_chain
returns-then-in_chain t c =
    let f = fork c.requires.ready c.below-base.ensures (tells_yes c.if-not-forks.false c.forks.ensures) c.left_of-left.ensures in
    let g = both_of f c.kind_at-k.ensures c.unwrap-q.ensures c.walk.ensures c.unwrap-s.ensures c.walk-2.ensures in
    in_chain f c.kind_at-k.ensures g c.args.kind (sym c.chain_at.ensures ∙ of_kind _ _ (sym c.eq-in_chain.ensures ∙ c.if-in_chain.true))

pub size_at-requires : goal.size_at-requires
size_at-requires t c = stands_inside (base_stands c.requires.ready c.below-base.ensures)

pub overflow_add-end : goal.overflow_add-end
overflow_add-end t c =
    let f = fork c.requires.ready c.below-base.ensures (tells_yes c.if-not-forks.false c.forks.ensures) c.left_of-left.ensures in
    omega (arith, end_fits f, c.size_at.ensures, c.requires.areas.words)

pub overflow_sub-end : goal.overflow_sub-end
overflow_sub-end t c =
    let f = fork c.requires.ready c.below-base.ensures (tells_yes c.if-not-forks.false c.forks.ensures) c.left_of-left.ensures in
    let g = both_of f c.kind_at-k.ensures c.unwrap-q.ensures c.walk.ensures c.unwrap-s.ensures c.walk-2.ensures in
    end_least f c.kind_at-k.ensures g c.size_at.ensures

pub close-requires-clause-bin : goal.close-requires-clause-bin
close-requires-clause-bin t c =
    is_bin (fork c.requires.ready c.below-base.ensures (tells_yes c.if-not-forks.false c.forks.ensures) c.left_of-left.ensures) c.kind_at-k.ensures

pub close-requires-clause-closable : goal.close-requires-clause-closable
close-requires-clause-closable t c =
    let f = fork c.requires.ready c.below-base.ensures (tells_yes c.if-not-forks.false c.forks.ensures) c.left_of-left.ensures in
    let g = both_of f c.kind_at-k.ensures c.unwrap-q.ensures c.walk.ensures c.unwrap-s.ensures c.walk-2.ensures in
    closable f c.kind_at-k.ensures g c.size_at.ensures (c.walk-2.auto.out ∙ c.walk.auto.out) c.requires.areas

pub unwrap-e-requires : goal.unwrap-e-requires
unwrap-e-requires t c =
    let f = fork c.requires.ready c.below-base.ensures (tells_yes c.if-not-forks.false c.forks.ensures) c.left_of-left.ensures in
    let g = both_of f c.kind_at-k.ensures c.unwrap-q.ensures c.walk.ensures c.unwrap-s.ensures c.walk-2.ensures in
    kept_some _ _ _ _ _ _ _ (closed f c.kind_at-k.ensures g c.size_at.ensures (c.walk-2.auto.out ∙ c.walk.auto.out) c.close.result c.close.new.out c.close.ensures _ f.ready.at)

pub raise-requires : goal.raise-requires
raise-requires t c =
    let f = fork c.requires.ready c.below-base.ensures (tells_yes c.if-not-forks.false c.forks.ensures) c.left_of-left.ensures in
    let g = both_of f c.kind_at-k.ensures c.unwrap-q.ensures c.walk.ensures c.unwrap-s.ensures c.walk-2.ensures in
    let lo = c.walk-2.auto.out ∙ c.walk.auto.out in
    raise_ready rotate_step f c.walk-2.new.lits c.unwrap-e.ensures (closed f c.kind_at-k.ensures g c.size_at.ensures lo c.close.result c.close.new.out c.close.ensures) (c.close.auto.out ∙ lo) c.requires.areas

pub returns : goal.returns
returns t c =
    let f = fork c.requires.ready c.below-base.ensures (tells_yes c.if-not-forks.false c.forks.ensures) c.left_of-left.ensures in
    let g = both_of f c.kind_at-k.ensures c.unwrap-q.ensures c.walk.ensures c.unwrap-s.ensures c.walk-2.ensures in
    let lo = c.walk-2.auto.out ∙ c.walk.auto.out in
    alone f c.kind_at-k.ensures c.args.kind (λ d. not_kind _ _ (sym c.eq-in_chain.ensures ∙ c.if-in_chain.false) (c.chain_at.ensures ∙ d)) c.raise.result c.raise.new.out c.walk-2.new.lits
    (λ r a. raised rotate_step f c.walk-2.new.lits c.unwrap-e.ensures (closed f c.kind_at-k.ensures g c.size_at.ensures lo c.close.result c.close.new.out c.close.ensures) r a c.raise.result c.raise.new.out (c.raise.ensures r a))
