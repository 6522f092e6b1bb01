-- DEMAND 3. Assumes nothing.
use mathlib.Core.Path.{◌≡◌, sym, subst}
use mathlib.Core.Bool.{false}
use mathlib.Core.List.{List}
use mathlib.Core.Option.{some}
use mathlib.Core.Logic.{◌↔◌}
use Prim.Native.Nat.{ℕ}
use Rattle.grammar.specs.Basic.{Bytes, same_bytes}
use Rattle.grammar.specs.Tree.{E}
use Rattle.grammar.specs.Table.{Table, Words, find}
use Rattle.grammar.specs.Reading.{input_kinds}
use Rattle.grammar.specs.Lists.{ANY}
use Rattle.grammar.specs.Steps.{each, rotate, skip_to, unroll, concatenate, factor, list, restore}
use Rattle.grammar.specs.Refusals.{names}
use Rattle.grammar.specs.Optimize.{stages, pairs, Result, result, answer, optimize}
use Rattle.grammar.proofs.TopDown.{each_names}
use Rattle.grammar.proofs.Words.{AllowedTable, table_is}
use Rattle.meaning.specs.Outcome.{Res, Out}
use Rattle.meaning.specs.Demand3.{StandFor, all_kinds, returned, after, Nowhere, crossed, Premises, SameOutcomes, Demand3}
use Rattle.meaning.proofs.Same.{Same}
use Rattle.meaning.proofs.Lift.{Keeps, ◌then◌, All, anything, each_keeps}
use Rattle.meaning.proofs.Rotate.{rotate_same}
use Rattle.meaning.proofs.Skip.{name_same, skip_keeps}
use Rattle.meaning.proofs.Unroll.{Counted, unroll_same}
use Rattle.meaning.proofs.Concatenate.{concatenate_same}
use Rattle.meaning.proofs.Factor.{factor_same}
use Rattle.meaning.proofs.Restore.{restore_same}
use Rattle.meaning.proofs.Counts.{counted, counted_after}
use Rattle.meaning.proofs.Accepted.{Plain, accepted_plain, Accepted, accepted}
use Rattle.meaning.proofs.Returned.{given_allowed, each_allowed, words_stand}

-- The first five steps, and restore, keep every outcome of every expression

always : (f : ℕ → E → E) → ((t : Table Bytes) (s : Bytes) (y : ℕ) (e : E) → Same t s e (f y e)) → (t : Table Bytes) (s : Bytes) → Keeps t (each f t) s
always f h t s = each_keeps f (λ e. Unit {0}) (λ t s y e x. h t s y e) t s (anything t)

pub five_keeps : (t : Table Bytes) → Plain t → All Counted t → (s : Bytes) → Keeps t (after 5 t) s
unfolding after
five_keeps t plain c s =
    always (λ _. rotate) (λ t s y e. rotate_same e) t s
    then skip_keeps t plain s
    then each_keeps (λ _. unroll) Counted (λ t s y e x. unroll_same e x) _ s (counted_after t c)
    then always concatenate (λ t s y e. concatenate_same y e) _ s
    then always factor (λ t s y e. factor_same y e) _ s

restore_keeps : (t : Table Bytes) (s : Bytes) → Keeps (after 6 t) (after 7 t) s
unfolding after
restore_keeps t s = always (λ _. restore (after 6 t)) (λ u s y e. restore_same (after 6 t) e) (after 6 t) s

-- For every rule, from every expression

five_names : (t : Table Bytes) → names (after 5 t) ≡ names t
unfolding after
five_names t = simp each_names

seven_names : (t : Table Bytes) → names (after 7 t) ≡ names t
unfolding after
seven_names t = simp each_names

same_outcomes : (t u : Table Bytes) → Plain t → names u ≡ names t → ((s : Bytes) → Keeps t u s) → SameOutcomes t u
same_outcomes t u plain n h = record { rules = n; outcomes = λ s _ x e f l k p r. rule x (plain x e l) l k (h s) }
  where
    rule : {s : Bytes} {e f : E} {p : ℕ} {r : Res} (x : Bytes) → same_bytes x ANY ≡ false → find t x ≡ some e → find u x ≡ some f → Keeps t u s → Out t s e p r ↔ Out u s f p r
    rule x a l k v = (λ d. (name_same a k).to (v.to ((name_same a l).from d)), λ d. (name_same a l).to (v.from ((name_same a k).from d)))

seven_allowed : (t : Table Bytes) → AllowedTable all_kinds t → AllowedTable all_kinds (after 7 t)
unfolding after
seven_allowed t h =
    each_allowed (λ _. restore (after 6 t)) (after 6 t) (each_allowed (λ _. list) (after 5 t) (each_allowed factor (after 4 t) (each_allowed concatenate (after 3 t) (each_allowed (λ _. unroll) (after 2 t) (each_allowed (skip_to t) (after 1 t) (each_allowed (λ _. rotate) t h))))))

-- with the one premise that its proof uses
pub demand3_counts : (in' out a b : Words) (marks : List ℕ) (t : Table Bytes) → (optimize in' out a b marks).number ≡ 0 → StandFor input_kinds in' t → Nowhere crossed t → Demand3 t (optimize in' out a b marks)
unfolding optimize
demand3_counts in' out a b marks t zero w counts =
    let done : Accepted t (result in' out a b marks) = subst (λ (u : Table Bytes). Accepted u (result in' out a b marks)) w.means (accepted in' out a b marks w.spans w.read zero) in
    let kinds : AllowedTable all_kinds t = subst (AllowedTable all_kinds) w.means (given_allowed in'.text w.spans (table_is input_kinds in'.rules in'.rows w.spans w.read).allowed) in
    let plain : Plain t = accepted_plain t done.named in
    let five : (s : Bytes) → Keeps t (after 5 t) s = five_keeps t plain (counted t done.counts counts) in
    record {
      five = same_outcomes t (after 5 t) plain (five_names t) five;
      words = subst (λ (r : Result). StandFor all_kinds (returned (answer out r)) (after 7 t)) (sym done.ends) (words_stand out (pairs (stages t)) (after 7 t) (seven_allowed t kinds));
      seven = λ h. same_outcomes t (after 7 t) plain (seven_names t) (λ s. subst (λ (u : Table Bytes). Keeps t u s) (sym h) (five s) then restore_keeps t s);
    }

-- DEMAND 3: for all words that are accepted and whose table meets the premises
pub demand3 : (in' out a b : Words) (marks : List ℕ) (t : Table Bytes) → (optimize in' out a b marks).number ≡ 0 → StandFor input_kinds in' t → Premises t → Demand3 t (optimize in' out a b marks)
demand3 in' out a b marks t zero w premises = demand3_counts in' out a b marks t zero w premises.counts
