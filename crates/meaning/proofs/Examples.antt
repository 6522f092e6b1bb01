-- The matcher at work: the sentences of "Matching, for demand 3", each at a small input. Assumes nothing.
use mathlib.Core.Path.{◌≡◌, refl}
use mathlib.Core.List.{List, [], ◌∷◌, ◌++◌, map}
use mathlib.Core.Option.{none, some}
use Prim.Native.Nat.{ℕ, zero, suc}
use native.Mathlib.Omega.{arith}
use Rattle.grammar.specs.Basic.{Bytes, same_bytes}
use Rattle.grammar.specs.Tree.{Insens, Range, PosPred, NegPred, RepOnce, RepExact, RepMin, RepMax, RepMinMax, E, lit, fixed, skip, un}
use Rattle.grammar.specs.Table.{Table, Atomic}
use Rattle.grammar.specs.Lists.{ANY}
use Rattle.grammar.proofs.Notation.{a, b, c, x, y, ◌~◌, ◌or◌, str, id, opt, rep, push, rule}
use Rattle.meaning.specs.Outcome.{Res, fail, ok, Out}
use Rattle.meaning.proofs.Matcher.{run, run_sound, outcome}

-- a = "a", b = "b", and x, which begins with itself
abbrev table : Table Bytes
table = rule a Atomic (str a) ∷ rule b Atomic (str b) ∷ rule x Atomic (id x or (id x ~ str a)) ∷ []

-- an expression, an input, and what it gives at position 0
abbrev Case : Type 0
Case = E × Bytes × Res

abbrev cases : List Case
cases =
    -- literals, one byte, a rule
    (str (a ++ b), a ++ b, ok 2)
    ∷ (str (a ++ b), a ++ c, fail)
    ∷ (str (a ++ b), a, fail)
    -- "ASCII letters in either case": 65 is A, and 64 and 96, which differ by as much, are no letters
    ∷ (lit Insens (65 ∷ 98 ∷ []), 97 ∷ 66 ∷ [], ok 2)
    ∷ (lit Insens (64 ∷ []), 96 ∷ [], fail)
    ∷ (fixed (Range 97 98), b, ok 1)
    -- "a Range with first above last matches nothing"
    ∷ (fixed (Range 98 97), b, fail)
    ∷ (id ANY, c, ok 1)
    ∷ (id ANY, [], fail)
    ∷ (id b, b, ok 1)
    -- predicates, Seq, ordered Choice, Opt
    ∷ (un PosPred (id a) ~ str (a ++ b), a ++ b, ok 2)
    ∷ (un NegPred (id a), a, fail)
    ∷ (id a or str (a ++ b), a ++ b, ok 1)
    ∷ (opt (id a) ~ id b, b, ok 1)
    -- repeats: greedy, "fewer than the minimum fails, and nothing is tried past the maximum"
    ∷ (rep (id a) ~ id a, a ++ a, fail)
    ∷ (un RepOnce (id a), b, fail)
    ∷ (un (RepExact 2) (id a), a ++ a ++ a, ok 2)
    ∷ (un (RepMin 2) (id a), a ++ a ++ a, ok 3)
    ∷ (un (RepMin 2) (id a), a, fail)
    ∷ (un (RepMax 2) (id a), a ++ a ++ a, ok 2)
    ∷ (un (RepMinMax 2 3) (id a), a, fail)
    ∷ (un (RepMinMax 3 2) (id a), a ++ a, fail)
    -- Skip: to the first of its strings, "with k = 0 to the end of input"
    ∷ (skip (c ∷ b ∷ []), a ++ a ++ b, ok 2)
    ∷ (skip [], a ++ a ++ b, ok 3)
    -- W12: (a~b)*~a fails on `ab`; "the listed form succeeds at 1"
    ∷ (rep (id a ~ id b) ~ id a, a ++ b, fail)
    ∷ (id a ~ rep (id b ~ id a), a ++ b, ok 1)
    ∷ []

runs : map (λ (q : Case). run 12 table q.1 q.0 0) cases ≡ map (λ (q : Case). some q.2) cases
unfolding same_bytes
runs = refl

-- W12 as outcomes
pub w12 : Out table (a ++ b) (rep (id a ~ id b) ~ id a) 0 fail × Out table (a ++ b) (id a ~ rep (id b ~ id a)) 0 (ok 1)
unfolding same_bytes
w12 = (run_sound table (a ++ b) 12 _ 0 fail refl, run_sound table (a ++ b) 12 _ 0 (ok 1) refl)

-- "Otherwise there is none": an empty success under Rep, a rule that begins with itself, a Push, a name of no rule

unending : {t : Table Bytes} {s : Bytes} {e : E} {p : ℕ} {r : Res} → ((n : ℕ) → run n t s e p ≡ none) → Out t s e p r → ⊥
unending {t} {s} {e} {p} {r} h d =
    let q = (outcome t s e p r).0 d in
    let z : ◌≡◌ {A = ℕ} 0 1 = cc (h q.0, q.1) in
    omega arith

empty_loop : (s : Bytes) (p n : ℕ) → run n table s (rep (str [])) p ≡ none
empty_loop s p zero = refl
empty_loop s p (suc zero) = refl
empty_loop s p (suc (suc n)) = empty_loop s p (suc n)

left_recursion : (s : Bytes) (p n : ℕ) → run n table s (id x) p ≡ none
unfolding same_bytes
left_recursion s p zero = refl
left_recursion s p (suc zero) = refl
left_recursion s p (suc (suc n)) = rw (left_recursion s p n)

no_push : (s : Bytes) (p n : ℕ) → run n table s (push (id a)) p ≡ none
no_push s p zero = refl
no_push s p (suc n) = refl

no_rule : (s : Bytes) (p n : ℕ) → run n table s (id y) p ≡ none
unfolding same_bytes
no_rule s p zero = refl
no_rule s p (suc n) = refl

pub none_at_all : (s : Bytes) (p : ℕ) (r : Res) → (Out table s (rep (str [])) p r → ⊥) × (Out table s (id x) p r → ⊥) × (Out table s (push (id a)) p r → ⊥) × (Out table s (id y) p r → ⊥)
none_at_all s p r = (unending (empty_loop s p), unending (left_recursion s p), unending (no_push s p), unending (no_rule s p))
