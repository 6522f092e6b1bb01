use mathlib.Core.Path.{◌≡◌, ap, ◌∙◌}
use mathlib.Core.List.{[]}
use Prim.Native.Nat.{◌+◌, ◌-◌}
use native.Mathlib.Omega.{arith}
use Rattle.grammar.specs.Text.{resolve}
use Rattle.grammar.specs.Table.{resolve_table}
use Rattle.rows.proofs.Laws.{root}
use Rattle.writing.proofs.Trees.{done_written}
use Rattle.chains.specs.Runs.{wrap}
use Rattle.skipper.proofs.Leaf.{left_stands, left_below}
use Rattle.skipper.proofs.Skipping.{skipped, loop_skips, settles_list, fork_view, fork_half, fork_skipped, settles_first, settles_second}
use Rattle.skipper.proofs.Forks.{forking_none, forking_less, forking_more, forking_all, forking_child, forking_room, forking_full, forking_rising, forking_done}
use Rattle.skipper.proofs.Falls.{fits_wrap, fell_plain, fell_loop, fell_fork, fell_at, fell_size}
use Rattle.skipper.proofs.Words.{led_by}
use Rattle.skipper.proofs.+skip_fork_skip_tree.Goals as goal

pub skip_fork-left_of-child-requires-clause-stands : goal.skip_fork-left_of-child-requires-clause-stands
skip_fork-left_of-child-requires-clause-stands t c = record { tree = c.requires.settling.tree; at = c.requires.settling.at }

pub skip_fork-left_of-child-requires-clause-i_value : goal.skip_fork-left_of-child-requires-clause-i_value
skip_fork-left_of-child-requires-clause-i_value t c = fork_half c.args.table.now.text.now [] c.requires.settling.at c.requires.kind_value

pub skip_fork-overflow_sub-next : goal.skip_fork-overflow_sub-next
skip_fork-overflow_sub-next t c = let v = fork_view c.args.table.now.text.now [] c.requires.settling.at c.requires.kind_value in omega (arith, v.most, v.least_left)

pub skip_fork-loop-child-init : goal.skip_fork-loop-child-init
skip_fork-loop-child-init t c = let v = fork_view c.args.table.now.text.now [] c.requires.settling.at c.requires.kind_value in let e : c.args.base - 1 + 1 ≡ c.args.base = omega (arith, v.most, v.least_left) in forking_none _ e

pub skip_fork-loop-child-preserved : goal.skip_fork-loop-child-preserved
skip_fork-loop-child-preserved t c = forking_more c.loop-child.invariant c.loop-child-test.true c.skip_tree.auto.out c.skip_tree.auto.lits (λ u x l a st. done_written _ _ _ _ _ _ c.in_ok-q.was (c.skip_tree.ensures u x l a st))

pub skip_fork-crown-requires : goal.skip_fork-crown-requires
skip_fork-crown-requires t c = let v = fork_view c.args.table.now.text.now [] c.requires.settling.at c.requires.kind_value in
    let e = c.left_of-child.ensures in
    let z = forking_all c.loop-child.invariant c.loop-child-test.false (left_below v e) in
    forking_rising (z.first c.requires.settling.table v.left c.requires.settling.lent (left_stands v e) (settles_first _ v c.requires.settling.settles)) (z.second c.requires.settling.table v.right c.requires.settling.lent v.at_right (settles_second _ v c.requires.settling.settles)) c.requires.room.areas c.requires.base_le_root

pub skip_tree-fall-requires-clause-stands : goal.skip_tree-fall-requires-clause-stands
skip_tree-fall-requires-clause-stands t c = record { tree = c.requires.settling.tree; at = c.requires.settling.at }

pub skip_tree-copy-requires-clause-stands : goal.skip_tree-copy-requires-clause-stands
skip_tree-copy-requires-clause-stands t c = record { tree = c.requires.settling.tree; at = c.requires.settling.at }

pub skip_tree-skip_loop-requires-clause-skipped : goal.skip_tree-skip_loop-requires-clause-skipped
skip_tree-skip_loop-requires-clause-skipped t c = let k = fell_loop _ _ _ _ _ _ (c.fall.ensures c.requires.settling.table c.requires.settling.tree c.requires.settling.lent.heads c.requires.settling.at c.requires.settling.settles) c.in-Looped.is in
    let h = settles_list _ k.fell.settles k.list.list in
    record { table = c.requires.settling.table; lent = c.requires.settling.lent; tree = k.list.tree; at = k.list.at; list = h.list; reads = h.reads }

pub skip_tree-skip_fork-requires : goal.skip_tree-skip_fork-requires
skip_tree-skip_fork-requires t c = let k = fell_fork _ _ _ _ _ _ (c.fall.ensures c.requires.settling.table c.requires.settling.tree c.requires.settling.lent.heads c.requires.settling.at c.requires.settling.settles) c.in-Forked.is in (
  omega (arith, c.decreases, (root k.fell.at).rows, (root c.requires.settling.at).rows, fell_size k.fell),
  (c.requires.given, (c.requires.inside, (record { table = c.requires.settling.table; lent = c.requires.settling.lent; tree = k.fell.tree; at = k.fell.at; settles = k.fell.settles }, ((k.kind, k.two), ((omega (arith, k.fell.count), (root c.requires.settling.at).inside), c.requires.room))))),
)

pub skip_tree-returns-in-Plain : goal.skip_tree-returns-in-Plain
skip_tree-returns-in-Plain t c = λ u r l a st. rw (fell_plain _ _ _ _ _ _ (c.fall.ensures u r l.heads a st) c.in-Plain.is) (c.copy.ensures r a)

pub skip_tree-returns-in-Looped : goal.skip_tree-returns-in-Looped
skip_tree-returns-in-Looped t c = λ u r l a st.
    let k = fell_loop _ _ _ _ _ _ (c.fall.ensures u r l.heads a st) c.in-Looped.is in
    let h = settles_list _ k.fell.settles k.list.list in
    rw (k.fell.skips ∙ ap (wrap k.fell.nodes) (loop_skips _ _ k.list.is h.reads)) (c.skip_loop.ensures u k.fell.nodes k.fell.tree k.list.tree h.list l (fell_at k.fell a) k.fell.count k.list.at h.reads)

pub skip_tree-returns-in-Forked : goal.skip_tree-returns-in-Forked
skip_tree-returns-in-Forked t c = λ u r l a st.
    let k = fell_fork _ _ _ _ _ _ (c.fall.ensures u r l.heads a st) c.in-Forked.is in
    rw k.fell.skips (c.skip_fork.ensures u k.fell.nodes k.fell.tree l k.fell.at k.fell.settles (fell_at k.fell a) k.fell.count)

pub skip_fork-skip_tree-requires : goal.skip_fork-skip_tree-requires
skip_fork-skip_tree-requires t c = let y = c.args.table.now.text.now in
    let v = fork_view c.args.table.now.text.now [] c.requires.settling.at c.requires.kind_value in
    let j = left_stands v c.left_of-child.ensures in
    let k = forking_child c.loop-child.invariant y v j c.requires.settling.settles c.loop-child-test.true in (
      omega (arith, c.decreases, (root k.at).rows, (root c.requires.settling.at).rows, k.least),
      (c.requires.given, (c.requires.inside, (record { table = c.requires.settling.table; lent = c.requires.settling.lent; tree = k.tree; at = k.at; settles = k.settles }, forking_room c.loop-child.invariant y v j c.requires.settling.settles c.loop-child-test.true (λ q o₁ b₁ z. z c.requires.settling.table v.left c.requires.settling.lent j (settles_first _ v c.requires.settling.settles)) c.requires.room))),
    )

pub skip_fork-returns-in_err-q : goal.skip_fork-returns-in_err-q
skip_fork-returns-in_err-q t c = rw c.from_residual.ensures (λ u us r l a st i e f.
    let y = c.args.table.now.text.now in
    let x = resolve_table c.args.given.now.text.now u in
    let v = fork_view y x a c.requires.kind_value in
    let j = left_stands v c.left_of-child.ensures in
    let g = rw (fork_skipped y x a c.requires.kind_value) at (fits_wrap us f) in
    forking_full c.loop-child.invariant y v j st c.loop-child-test.true (λ q o₁ b₁ z. z u v.left l j (settles_first _ v st)) c.skip_tree.new.out c.skip_tree.new.lits (λ x k w. c.skip_tree.ensures u x l k w) c.in_err-q.was g)

pub skip_fork-loop-child-smaller : goal.skip_fork-loop-child-smaller
skip_fork-loop-child-smaller t c = let v = fork_view c.args.table.now.text.now [] c.requires.settling.at c.requires.kind_value in let h = c.loop-child-test.true in omega (arith, forking_less c.loop-child.invariant (left_below v c.left_of-child.ensures) h, h)

pub skip_fork-returns : goal.skip_fork-returns
skip_fork-returns t c = λ u us r l a st i e.
    let y = c.args.table.now.text.now in
    let x = resolve_table c.args.given.now.text.now u in
    let v = fork_view y x a c.requires.kind_value in
    let j = c.left_of-child.ensures in
    let z = forking_all c.loop-child.invariant c.loop-child-test.false (left_below v j) in
    c.crown.ensures us r i e (skipped x (resolve y r)) _ _ _ (λ b o' d. forking_done (fork_skipped y x a c.requires.kind_value) (z.first u v.left l (left_stands v j) (settles_first _ v st)) (z.second u v.right l v.at_right (settles_second _ v st)) b _ o' v.kind d)

pub skip_tree-skip_loop-requires-clause-led : goal.skip_tree-skip_loop-requires-clause-led
skip_tree-skip_loop-requires-clause-led t c = led_by c.requires.given c.requires.settling.lent c.requires.settling.settles.targets

pub skip_tree-skip_loop-requires-clause-base_le_root : goal.skip_tree-skip_loop-requires-clause-base_le_root
skip_tree-skip_loop-requires-clause-base_le_root t c = let k = fell_loop _ _ _ _ _ _ (c.fall.ensures c.requires.settling.table c.requires.settling.tree c.requires.settling.lent.heads c.requires.settling.at c.requires.settling.settles) c.in-Looped.is in
    (omega (arith, k.fell.count), (root c.requires.settling.at).inside)
