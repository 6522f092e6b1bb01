-- Why demand 3 says what it says: without a premise that the proof uses, some table's outcomes change. The premises that it does not use
-- are named at `Premises`; `demand3_counts` (Theorem) does without them. Assumes nothing.
use mathlib.Core.Path.{◌≡◌, refl}
use mathlib.Core.Bool.{false, not}
use mathlib.Core.List.{[], ◌∷◌, ◌++◌}
use mathlib.Core.Option.{some}
use Prim.Native.Nat.{ℕ}
use native.Mathlib.Omega.{arith}
use Rattle.grammar.specs.Basic.{Bytes, any}
use Rattle.grammar.specs.Tree.{RepExact, RepMinMax, E, skip, un}
use Rattle.grammar.specs.Table.{Table, Atomic, words_of, find}
use Rattle.grammar.specs.Lists.{ANY}
use Rattle.grammar.specs.Steps.{is_tight}
use Rattle.grammar.proofs.Notation.{call, a, b, r, x, ◌~◌, str, id, rep, until, rule, sole}
use Rattle.meaning.specs.Outcome.{Res, fail, ok}
use Rattle.meaning.specs.Demand3.{after, Nowhere, unknown, is_push, is_peek, Premises, Ascii, SameOutcomes}
use Rattle.meaning.proofs.Matcher.{run, run_sound, det}

-- two tables whose rules of one name, at the beginning of one input, give different results
changed : (t u : Table Bytes) (s x : Bytes) (e f : E) (n : ℕ) (q r : Res) → Ascii s → find t x ≡ some e → find u x ≡ some f → run n t s e 0 ≡ some q → run n u s f 0 ≡ some r → (q ≡ r → ⊥) → SameOutcomes t u → ⊥
changed t u s x e f n q r ascii l k before later differ h =
    differ (det ((h.outcomes s ascii x e f l k 0 q).0 (run_sound t s n e 0 q before)) (run_sound u s n f 0 r later))

fail_ok : {m : ℕ} → fail ≡ ok m → ⊥
fail_ok h = let z : ◌≡◌ {A = ℕ} 0 1 = cc in omega arith

zero_one : ok 0 ≡ ok 1 → ⊥
zero_one h = let z : ◌≡◌ {A = ℕ} 0 1 = cc in omega arith

-- "No minimum above its maximum": r = "a"{3,2} is accepted and meets the other premises; on `aa` it fails, and "aa" succeeds at 2
abbrev crossing : Table Bytes
crossing = sole Atomic (un (RepMinMax 3 2) (str a))

pub record Others (t : Table Bytes) : Type 0 where
  pub types : any (λ r. not (is_tight r.type)) t ≡ false
  pub known : Nowhere (unknown t) t
  pub no_push : Nowhere is_push t
  pub no_peek : Nowhere is_peek t

pub counts_needed : ((call (words_of crossing)).number ≡ 0) × Others crossing × (SameOutcomes crossing (after 5 crossing) → ⊥)
unfolding call after
counts_needed =
    (refl, record { types = refl; known = refl; no_push = refl; no_peek = refl }, changed crossing (after 5 crossing) (a ++ a) r (un (RepMinMax 3 2) (str a)) (str (a ++ a)) 9 fail (ok 2) refl refl refl refl refl fail_ok)

-- "Accepted", refusal 5: a rule named ANY would be read for a skip list, where matching takes one byte
abbrev named_any : Table Bytes
named_any = rule ANY Atomic (str a) ∷ sole Atomic (until (id ANY))

pub names_needed : ((call (words_of named_any)).number ≡ 5) × Premises named_any × (SameOutcomes named_any (after 5 named_any) → ⊥)
unfolding call after
names_needed =
    (refl, record { types = refl; known = refl; no_push = refl; no_peek = refl; counts = refl }, changed named_any (after 5 named_any) b r (until (id ANY)) (skip (a ∷ [])) 9 (ok 0) (ok 1) refl refl refl refl refl zero_one)

-- "Accepted", refusal 6: of no items there is no Seq
abbrev no_times : Table Bytes
no_times = sole Atomic (un (RepExact 0) (str a))

pub zeros_needed : ((call (words_of no_times)).number ≡ 6) × Premises no_times × (SameOutcomes no_times (after 5 no_times) → ⊥)
unfolding call after
zeros_needed =
    (refl, record { types = refl; known = refl; no_push = refl; no_peek = refl; counts = refl }, changed no_times (after 5 no_times) a r (un (RepExact 0) (str a)) (skip []) 9 (ok 0) (ok 1) refl refl refl refl refl zero_one)

-- "Where listing fires nowhere": W12 as a table. On `ab` (a~b)*~a fails, and a~(b~a)* succeeds at 1
abbrev w12 : Table Bytes
w12 = rule a Atomic (str a) ∷ rule b Atomic (str b) ∷ sole Atomic (rep (id a ~ id b) ~ id a)

pub listing_matters : ((call (words_of w12)).number ≡ 0) × Premises w12 × (SameOutcomes w12 (after 7 w12) → ⊥)
unfolding call after
listing_matters =
    (refl, record { types = refl; known = refl; no_push = refl; no_peek = refl; counts = refl }, changed w12 (after 7 w12) (a ++ b) r (rep (id a ~ id b) ~ id a) (id a ~ rep (id b ~ id a)) 9 fail (ok 1) refl refl refl refl refl fail_ok)
