use mathlib.Core.Path.{sym, ◌∙◌}
use mathlib.Core.Bool.{false≢true}
use Rattle.rows.proofs.Cells.{tells_yes, tells_no}
use Rattle.factorizer.proofs.Splits.{told_split, told_other, stands_in, plain_heads, plain_tail, plain_first, plain_other}
use Rattle.factorizer.proofs.case_of.Goals as goal
use Rattle.factorizer.proofs.case_of.Goals.{else-tight-via-then-tight+else-same_tree-2, else-tight-via-else-tight}

pub same_tree-requires-clause-stands_in : goal.same_tree-requires-clause-stands_in
same_tree-requires-clause-stands_in c = let l = c.in-Some-Some.ensures c.args.table.now.text.now _ c.requires.stands.at in stands_in c.requires.inside l.at_head

pub same_tree-requires-clause-stands_in_2 : goal.same_tree-requires-clause-stands_in_2
same_tree-requires-clause-stands_in_2 c = let r = c.in-Some-Some.ensures' c.args.table.now.text.now _ c.requires.stands_2.at in stands_in c.requires.inside r.at_head

pub same_tree-requires-then-tight-clause-stands_in : goal.same_tree-requires-then-tight-clause-stands_in
same_tree-requires-then-tight-clause-stands_in c = let l = c.in-Some-None.ensures c.args.table.now.text.now _ c.requires.stands.at in stands_in c.requires.inside l.at_head

pub same_tree-requires-then-tight-clause-stands_in_2 : goal.same_tree-requires-then-tight-clause-stands_in_2
same_tree-requires-then-tight-clause-stands_in_2 c = stands_in c.requires.inside c.requires.stands_2.at

pub same_tree-requires-in-None-Some-clause-stands_in : goal.same_tree-requires-in-None-Some-clause-stands_in
same_tree-requires-in-None-Some-clause-stands_in c = stands_in c.requires.inside c.requires.stands.at

pub same_tree-requires-in-None-Some-clause-stands_in_2 : goal.same_tree-requires-in-None-Some-clause-stands_in_2
same_tree-requires-in-None-Some-clause-stands_in_2 c = let r = told_split c.args.table.now.rows.now c.args.table.now.text.now _ c.in-None-Some.is-1 (c.split-2.ensures c.args.table.now.text.now _ c.requires.stands_2.at) in stands_in c.requires.inside r.at_head

pub returns-then-same_tree : goal.returns-then-same_tree
returns-then-same_tree c = λ x y a b.
    let t = c.args.table.now.text.now in
    let l = c.in-Some-Some.ensures t x a in
    let r = c.in-Some-Some.ensures' t y b in
    record { row = _; left = l; right = r; same = tells_yes c.if-same_tree.true (c.same_tree.ensures _ _ l.at_head r.at_head) }

pub returns-else-same_tree : goal.returns-else-same_tree
returns-else-same_tree c = λ x y a b.
    let t = c.args.table.now.text.now in
    let l = c.in-Some-Some.ensures t x a in
    let r = c.in-Some-Some.ensures' t y b in
    plain_heads c.args.tight _ t x y l r (tells_no c.if-same_tree.false (c.same_tree.ensures _ _ l.at_head r.at_head))

pub returns-then-same_tree-2 : goal.returns-then-same_tree-2
returns-then-same_tree-2 c = λ x y a b.
    let t = c.args.table.now.text.now in
    let l = c.in-Some-None.ensures t x a in
    record { rule = c.if-tight.true; left = l; right = c.in-Some-None.ensures' t y b; same = tells_yes c.if-same_tree-2.true (c.same_tree-then-tight.ensures _ y l.at_head b) }

pub returns-else-tight : goal.returns-else-tight
returns-else-tight c = λ x y a b.
    let t = c.args.table.now.text.now in
    let l = c.in-Some-None.ensures t x a in
    plain_tail c.args.tight _ t x y l (c.in-Some-None.ensures' t y b)
    (elim c.else-tight.branch [ else-tight-via-then-tight+else-same_tree-2 w ↦ λ _. tells_no w.if-same_tree-2.false (w.same_tree-then-tight.ensures _ y l.at_head b) | else-tight-via-else-tight w ↦ λ e. absurd (false≢true (sym w.if-tight.false ∙ e)) ])

pub returns-then-same_tree-3 : goal.returns-then-same_tree-3
returns-then-same_tree-3 c = λ x y a b.
    let t = c.args.table.now.text.now in
    let r = told_split c.args.table.now.rows.now t y c.in-None-Some.is-1 (c.split-2.ensures t y b) in
    record { row = _; next = _; left = told_other c.args.table.now.rows.now t x c.in-None-Some.is-0 (c.split.ensures t x a); right = r; same = tells_yes c.if-same_tree-3.true (c.same_tree-in-None-Some.ensures x _ a r.at_head) }

pub returns-else-same_tree-3 : goal.returns-else-same_tree-3
returns-else-same_tree-3 c = λ x y a b.
    let t = c.args.table.now.text.now in
    let r = told_split c.args.table.now.rows.now t y c.in-None-Some.is-1 (c.split-2.ensures t y b) in
    plain_first c.args.tight _ t x y (told_other c.args.table.now.rows.now t x c.in-None-Some.is-0 (c.split.ensures t x a)) r (tells_no c.if-same_tree-3.false (c.same_tree-in-None-Some.ensures x _ a r.at_head))

pub returns-in-None-None : goal.returns-in-None-None
returns-in-None-None c = λ x y a b.
    let t = c.args.table.now.text.now in
    plain_other c.args.tight c.args.table.now.rows.now t x y (told_other c.args.table.now.rows.now t x c.in-None-None.is-0 (c.split.ensures t x a)) (told_other c.args.table.now.rows.now t y c.in-None-None.is-1 (c.split-2.ensures t y b))
