use mathlib.Core.Path.{sym}
use native.Mathlib.Omega.{arith}
use Rattle.rows.proofs.Laws.{root}
use Rattle.rows.proofs.Insides.{within_run}
use Rattle.comparer.proofs.Differing.{size_read, differ_there, differ_nowhere}
use Rattle.comparer.proofs.first_difference.Goals as goal

pub size_at-n-requires : goal.size_at-n-requires
size_at-n-requires c = (root c.requires.stands_in.at).inside

pub size_at-m-requires : goal.size_at-m-requires
size_at-m-requires c = (root c.requires.stands_in_2.at).inside

pub overflow_add-i : goal.overflow_add-i
overflow_add-i c = omega (arith, (root c.requires.stands_in.at).inside)

pub overflow_sub-i : goal.overflow_sub-i
overflow_sub-i c = let a = c.requires.stands_in.at in omega (arith, size_read a c.size_at-n.ensures, (root a).most)

pub overflow_add-j : goal.overflow_add-j
overflow_add-j c = omega (arith, (root c.requires.stands_in_2.at).inside)

pub overflow_sub-j : goal.overflow_sub-j
overflow_sub-j c = let a = c.requires.stands_in_2.at in omega (arith, size_read a c.size_at-m.ensures, (root a).most)

pub same_run-k-requires-clause-n_in_bounds : goal.same_run-k-requires-clause-n_in_bounds
same_run-k-requires-clause-n_in_bounds c = let a = c.requires.stands_in.at in
    let b = c.requires.stands_in_2.at in
    (omega (arith, size_read a c.size_at-n.ensures, (root a).most, (root a).inside), omega (arith, size_read b c.size_at-m.ensures, (root b).most, (root b).inside))

pub same_run-k-requires-clause-by_index : goal.same_run-k-requires-clause-by_index
same_run-k-requires-clause-by_index c = let s = c.requires.stands_in in λ k h. within_run _ _ s.at s.within (size_read s.at c.size_at-n.ensures) k (omega (arith, h))

pub same_run-k-requires-clause-by_index_2 : goal.same_run-k-requires-clause-by_index_2
same_run-k-requires-clause-by_index_2 c = let s = c.requires.stands_in_2 in λ k h. within_run _ _ s.at s.within (size_read s.at c.size_at-m.ensures) k (omega (arith, h))

pub returns-then-n-m : goal.returns-then-n-m
returns-then-n-m c = λ r s x z. sym (differ_nowhere c.args.one.now.text.now c.args.other.now.text.now x z (size_read x c.size_at-n.ensures) (size_read z c.size_at-m.ensures) c.same_run-k.ensures (omega arith) (omega arith) (omega arith) (omega arith) (omega arith))

pub returns-else-k-least : goal.returns-else-k-least
returns-else-k-least c = λ r s x z. sym (differ_there c.args.one.now.text.now c.args.other.now.text.now x z (size_read x c.size_at-n.ensures) (size_read z c.size_at-m.ensures) c.same_run-k.ensures (omega arith) (omega arith) (λ a b. omega arith) (λ a b. omega arith))
