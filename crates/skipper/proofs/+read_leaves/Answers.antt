use native.Mathlib.Omega.{arith}
use Rattle.grammar.specs.Basic.{Bytes}
use Rattle.grammar.specs.Tree.{E}
use Rattle.grammar.specs.Lists.{Reading, read_in}
use Rattle.grammar.specs.Steps.{rotate}
use Rattle.rows.proofs.Laws.{root}
use Rattle.skipper.proofs.Memories.{in_mono}
use Rattle.std.proofs.lemmas.Result.{err_from_is_err_and}
use Rattle.skipper.proofs.Leaf.{unlisted, given_steady, read_found_lem, choice_view, choice_left, choice_stop, choice_then}
use Rattle.skipper.proofs.Looping.{rotated_step, rotated_leaf}
use Rattle.skipper.proofs.+read_leaves.Goals as goal

abbrev rotated_in : (Bytes → Reading) → E → Reading
rotated_in look e = read_in look (rotate e)

pub kind_at-requires : goal.kind_at-requires
kind_at-requires t c = (root c.requires.stands.at).inside

pub returns-then-kind_at-ne-CHOICE-clause-reads_of : goal.returns-then-kind_at-ne-CHOICE-clause-reads_of
returns-then-kind_at-ne-CHOICE-clause-reads_of t c = λ u r l a. rotated_leaf _ (read_found_lem a c.kind_at.ensures) a c.if-kind_at-ne-CHOICE.true (c.read_leaf.ensures.reads_of u r l a)

pub read_leaves-requires : goal.read_leaves-requires
read_leaves-requires t c = let a = c.requires.stands.at in
    let v = choice_view (read_found_lem a c.kind_at.ensures) a c.if-kind_at-ne-CHOICE.false in
    let b = choice_left (read_found_lem a c.kind_at.ensures) a c.if-kind_at-ne-CHOICE.false c.left_of.ensures in
    (omega (arith, c.decreases, (root b).rows, v.rows), (c.requires.given, record { tree = v.left; at = b }))

pub returns-in_err-read_leaves-clause-reads_of : goal.returns-in_err-read_leaves-clause-reads_of
returns-in_err-read_leaves-clause-reads_of t c = let p = err_from_is_err_and c.from_residual.result c.from_residual.ensures.1 in
    rw (p.1, p.2) (λ u r l a. choice_stop rotated_in rotated_in (λ e. in_mono (rotate e)) rotated_step _ u (read_found_lem a c.kind_at.ensures) a c.if-kind_at-ne-CHOICE.false c.left_of.ensures (unlisted _) (λ q b. rw c.in_err-read_leaves.was at (c.read_leaves.ensures.reads_of u q l b)))

pub overflow_sub-root : goal.overflow_sub-root
overflow_sub-root t c = let a = c.requires.stands.at in let v = choice_view (read_found_lem a c.kind_at.ensures) a c.if-kind_at-ne-CHOICE.false in omega (arith, v.most, v.least_left)

pub read_leaves-requires-2 : goal.read_leaves-requires-2
read_leaves-requires-2 t c = let a = c.requires.stands.at in
    let v = choice_view (read_found_lem a c.kind_at.ensures) a c.if-kind_at-ne-CHOICE.false in
    let e = c.read_leaves.ensures.steady in
    (omega (arith, c.decreases, (root v.at_right).rows, v.rows, v.least_left), (given_steady c.requires.given e c.read_leaves.auto.marks, record { tree = v.right; at = v.at_right }))

pub returns-clause-reads_of : goal.returns-clause-reads_of
returns-clause-reads_of t c = λ u r l a. choice_then rotated_in rotated_in (λ e. in_mono (rotate e)) rotated_step _ u (read_found_lem a c.kind_at.ensures) a c.if-kind_at-ne-CHOICE.false c.left_of.ensures (λ q b. rw c.in_ok-read_leaves.was at (c.read_leaves.ensures.reads_of u q l b)) (λ q b. c.read_leaves-2.ensures.reads_of u q l b)
