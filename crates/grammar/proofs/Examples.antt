-- The checked examples W1 to W10 of 01: one table, one theorem. Assumes nothing.
use mathlib.Core.Path.{◌≡◌, refl}
use mathlib.Core.List.{List, [], ◌∷◌, ◌++◌, map}
use Prim.Native.Nat.{ℕ}
use Rattle.grammar.specs.Basic.{Bytes}
use Rattle.grammar.specs.Tree.{E, Range, RepMax, RepMin, RepMinMax, fixed, skip, un}
use Rattle.grammar.specs.Table.{Atomic, CompoundAtomic, Normal, Table, Words}
use Rattle.grammar.specs.Optimize.{over_words}
use Rattle.grammar.proofs.Notation.{Example, ◌or◌, ◌~◌, a, b, c, d, found, full, gives, id, opt, push, r, refuses, rep, restored, rule, sole, str, until, wanted, whole, x}

w1_report : List ℕ
w1_report = 5 ∷ 5 ∷ 5 ∷ 5 ∷ 5 ∷ 5 ∷ 5 ∷ 1 ∷ 1 ∷ 1 ∷ 1 ∷ 1 ∷ 1 ∷ 1 ∷ []

-- text rabc, rule 0,1,2,5, rows 0,1,1,1; 0,2,1,1; 8,0,0,3; 0,3,1,1; 8,0,0,5
abbrev pub w1_in : Words
w1_in =
    record {
      rules = 0 ∷ 1 ∷ 2 ∷ 5 ∷ [];
      rows = (0 ∷ 1 ∷ 1 ∷ 1 ∷ []) ++ (0 ∷ 2 ∷ 1 ∷ 1 ∷ []) ++ (8 ∷ 0 ∷ 0 ∷ 3 ∷ []) ++ (0 ∷ 3 ∷ 1 ∷ 1 ∷ []) ++ (8 ∷ 0 ∷ 0 ∷ 5 ∷ []);
      text = 114 ∷ 97 ∷ 98 ∷ 99 ∷ [];
    }

abbrev pub w1_out : Words
w1_out = record { rules = 0 ∷ 1 ∷ 2 ∷ 1 ∷ []; rows = 0 ∷ 1 ∷ 3 ∷ 1 ∷ []; text = 114 ∷ 97 ∷ 98 ∷ 99 ∷ [] }

w1 : Example
unfolding w1_report
w1 = whole w1_in (record { number = 0; rules = 1; rows = 1; text = 4; report = w1_report; out = over_words w1_out full })

abbrev pub w2_in : Table Bytes
w2_in = sole CompoundAtomic ((str a ~ str b) ~ str c)

-- the same with type 3
w2 : Example
w2 = gives w2_in (sole CompoundAtomic (str a ~ (str b ~ str c)))

w3 : Example
w3 = gives (sole Atomic (until (str a or str b))) (sole Atomic (skip (a ∷ b ∷ [])))

-- looked up as given, not as rotated
w4 : Example
w4 = gives (rule x Normal ((str a or str b) or str c) ∷ sole Atomic (until (id x))) (rule x Normal (str a or (str b or str c)) ∷ sole Atomic (until (id x)))

w5a : Example
w5a = refuses (rule x Normal (str a or id x) ∷ sole Atomic (until (id x))) 7

w5b_in : Table Bytes
w5b_in = rule x Normal (fixed (Range 97 98) or id x) ∷ sole Atomic (until (id x))

w5b : Example
unfolding w5b_in
w5b = gives w5b_in w5b_in

w5c : Example
w5c = gives (sole Atomic (until (id r))) (sole Atomic (until (id r)))

abbrev pub w6a_in : Table Bytes
w6a_in = sole Normal (un (RepMin 0) (id a))

w6a : Example
w6a = gives w6a_in (sole Normal (rep (id a)))

w6b : Example
w6b = gives (sole Normal (un (RepMinMax 3 2) (id a))) (sole Normal (id a ~ id a))

w6c : Example
w6c = gives (sole Normal (un (RepMax 2) (id a))) (sole Normal (opt (id a) ~ opt (id a)))

-- (a ~ b) | a
seven : E
seven = (id a ~ id b) or id a

w7a : Example
unfolding seven
w7a = gives (sole Normal seven) (sole Normal seven)

w7b : Example
unfolding seven
w7b = gives (sole CompoundAtomic seven) (sole CompoundAtomic (id a ~ opt (id b)))

-- (a ~ b)*
loop : E
loop = rep (id a ~ id b)

w8a : Example
unfolding loop
w8a = gives (sole Normal (loop ~ id a)) (sole Normal (id a ~ rep (id b ~ id a)))

-- read as ((a ~ b)* ~ a) ~ c, which rotates
w8b : Example
unfolding loop
w8b = gives (sole Normal ((loop ~ id a) ~ id c)) (sole Normal (loop ~ (id a ~ id c)))

-- read as (a ~ b)* ~ (a ~ c)
w8c : Example
unfolding loop
w8c = gives (sole Normal (loop ~ (id a ~ id c))) (sole Normal (loop ~ (id a ~ id c)))

w9 : Example
w9 = gives (sole Normal (opt (push (id a) or id b))) (sole Normal (opt (restored (push (id a)) or id b)))

ten : E
ten = (id a ~ id b) or ((id a ~ id c) or id d)

w10a : Example
unfolding ten
w10a = gives (sole Normal ten) (sole Normal ten)

w10b : Example
w10b = gives (sole Normal (id d or ((id a ~ id b) or (id a ~ id c)))) (sole Normal (id d or (id a ~ (id b or id c))))

unfoldable pub examples : List Example
unfolding w1 w2 w3 w4 w5a w5b w5c w6a w6b w6c w7a w7b w8a w8b w8c w9 w10a w10b
examples = w1 ∷ w2 ∷ w3 ∷ w4 ∷ w5a ∷ w5b ∷ w5c ∷ w6a ∷ w6b ∷ w6c ∷ w7a ∷ w7b ∷ w8a ∷ w8b ∷ w8c ∷ w9 ∷ w10a ∷ w10b ∷ []

pub examples_hold : map found examples ≡ map wanted examples
unfolding found wanted examples
examples_hold = refl
