-- What a wrong definition would pass: the order of the refusals, and the "Easy slips" of 01. One table, one theorem. Assumes nothing.
use mathlib.Core.Path.{◌≡◌, refl}
use mathlib.Core.List.{List, [], ◌∷◌, ◌++◌, map}
use Prim.Native.Nat.{ℕ, zero, suc, ◌+◌, ◌≤◌, ◌<◌}
use lib.ListN.{replicate}
use lib.Dec.{eqb-suc-zero, lit<}
use borrow.Author.Tests.{lt-ltb}
use native.Mathlib.Omega.{arith}
use Rattle.grammar.specs.Basic.{Bytes}
use Rattle.grammar.specs.Tree.{E, Insens, Range, RepExact, RepMax, RepMinMax, fixed, lit, size, skip, un}
use Rattle.grammar.specs.Table.{Atomic, Normal, Table, Words, row_count}
use Rattle.grammar.specs.Lists.{ANY}
use Rattle.grammar.specs.Stack.{DROP, POP}
use Rattle.grammar.specs.Steps.{rotate, skip_to, unroll, unrolled}
use Rattle.grammar.specs.Refusals.{max_rows, too_large}
use Rattle.grammar.specs.Optimize.{Result, finish, finished, of_table, of_words, optimize, refused, stages}
use Rattle.grammar.proofs.Notation.{Example, ◌or◌, ◌~◌, a, b, c, d, found, full, gives, id, makes, numbered, opt, push, r, refuses, rep, restored, rule, sole, str, until, wanted, x, y, z}
use Rattle.grammar.proofs.Sizes.{nest_size, weigh}
use Rattle.grammar.proofs.TopDown.{size_pos}

-- the input words of a sole rule of n rows over the text rab
of : ℕ → ℕ → List ℕ → Words
of type n rows = record { rules = 0 ∷ 1 ∷ type ∷ n ∷ []; rows = rows; text = 114 ∷ 97 ∷ 98 ∷ [] }

row4 : ℕ → ℕ → ℕ → ℕ → List ℕ
row4 k x' y' n = k ∷ x' ∷ y' ∷ n ∷ []

-- Names a, aa and aaa, and one literal of 40,000 bytes twice, at one place: its packed text is too large
large : ℕ → List ℕ → Words
unfolding row4
large n first = record { rules = 3 ∷ 1 ∷ 0 ∷ n ∷ 3 ∷ 2 ∷ 2 ∷ 5 ∷ 3 ∷ 3 ∷ 0 ∷ 1 ∷ []; rows = first ++ (row4 3 3 1 1 ++ row4 7 0 0 2 ++ row4 3 0 3 1 ++ row4 8 0 0 4 ++ row4 11 0 0 5) ++ row4 0 3 40000 1; text = 65 ∷ 78 ∷ 89 ∷ replicate 40010 97 }

-- Refusals, one by one and two at once: the lower one is given

words : List Example
unfolding of row4 large
words =
    -- 2 with 3: three words; a size wrong besides
    numbered (of 0 1 (0 ∷ 1 ∷ 1 ∷ [])) 2
    ∷ numbered (record { rules = 0 ∷ []; rows = row4 20 0 0 1; text = [] }) 2
    ∷ numbered (record { rules = replicate 1028 0; rows = []; text = [] }) 2
    ∷ numbered (record { rules = []; rows = []; text = replicate 65537 0 }) 2
    -- 3: a type above 4, a kind above 18, an unused word, rows left over
    ∷ numbered (of 5 1 (row4 0 1 1 1)) 3
    ∷ numbered (of 0 2 (row4 0 1 1 1 ++ row4 19 0 0 2)) 3
    ∷ numbered (of 0 1 (row4 4 7 1 1)) 3
    ∷ numbered (of 0 1 (row4 0 1 1 1 ++ row4 0 1 1 1)) 3
    ∷ numbered (record { rules = []; rows = row4 0 0 0 1; text = [] }) 3
    -- a rule that claims more rows than are left; no rows at all; two trees
    ∷ numbered (of 0 2 (row4 0 1 1 1)) 3
    ∷ numbered (of 0 0 []) 3
    ∷ numbered (of 0 2 (row4 0 1 1 1 ++ row4 0 1 1 1)) 3
    -- size words wrong by one, either way
    ∷ numbered (of 0 2 (row4 0 1 1 1 ++ row4 10 0 0 3)) 3
    ∷ numbered (of 0 2 (row4 0 1 1 1 ++ row4 10 0 0 1)) 3
    ∷ numbered (of 0 1 (row4 0 1 1 2)) 3
    -- a Skip child that isn't Str; a Skip without strings is fine
    ∷ numbered (of 0 2 (row4 1 1 1 1 ++ row4 17 1 0 2)) 3
    ∷ makes (of 0 1 (row4 17 0 0 1)) (sole Normal (skip []))
    -- 3 with 4: a size wrong in one row, a literal past the text in another
    ∷ numbered (of 0 2 (row4 0 3 1 1 ++ row4 10 0 0 3)) 3
    -- 4: past the text, by one and by a sum that 32 bits would wrap; a byte above 127; a Range word
    ∷ numbered (of 0 1 (row4 0 1 3 1)) 4
    ∷ numbered (of 0 1 (row4 0 4294967295 2 1)) 4
    ∷ numbered (of 0 1 (row4 0 4 0 1)) 4
    ∷ makes (of 0 1 (row4 0 3 0 1)) (sole Normal (str []))
    ∷ numbered (record { rules = 0 ∷ 1 ∷ 0 ∷ 1 ∷ []; rows = row4 0 1 1 1; text = 114 ∷ 128 ∷ [] }) 4
    ∷ makes (record { rules = 0 ∷ 1 ∷ 0 ∷ 1 ∷ []; rows = row4 0 1 1 1; text = 114 ∷ 127 ∷ 128 ∷ [] }) (sole Normal (str (127 ∷ [])))
    ∷ numbered (of 0 1 (row4 2 97 128 1)) 4
    ∷ makes (of 0 1 (row4 2 127 0 1)) (sole Normal (fixed (Range 127 0)))
    -- 4 with 5: a literal past the text in the first of two rules with one name
    ∷ numbered (record { rules = 0 ∷ 1 ∷ 0 ∷ 1 ∷ 0 ∷ 1 ∷ 0 ∷ 1 ∷ []; rows = row4 0 9 1 1 ++ row4 0 0 1 1; text = 114 ∷ [] }) 4
    -- literals at one offset that differ, and equal ones at different offsets, in a Choice that factors by equal heads
    ∷ makes (of 0 7 (row4 0 1 1 1 ++ row4 3 0 1 1 ++ row4 8 0 0 3 ++ row4 0 1 2 1 ++ row4 3 0 1 1 ++ row4 8 0 0 3 ++ row4 9 0 0 7)) (sole Normal ((str a ~ id r) or (str (97 ∷ 98 ∷ []) ~ id r)))
    ∷ makes (record { rules = 0 ∷ 1 ∷ 0 ∷ 7 ∷ []; rows = row4 0 1 1 1 ++ row4 3 0 1 1 ++ row4 8 0 0 3 ++ row4 0 2 1 1 ++ row4 3 0 1 1 ++ row4 8 0 0 3 ++ row4 9 0 0 7; text = 114 ∷ 97 ∷ 97 ∷ [] }) (sole Normal (str a ~ (id r or id r)))
    -- 7 with 8 of the input: a = LONG | a, and aa = (!a ~ ANY)*; without the second a, 8 alone
    ∷ numbered (large 3 (row4 0 3 40000 1 ++ row4 3 3 1 1 ++ row4 9 0 0 3)) 7
    ∷ numbered (large 1 (row4 0 3 40000 1)) 8
    -- no rules at all: the answer is empty
    ∷ makes (record { rules = []; rows = []; text = 200 ∷ [] }) []
    ∷ []

-- a | (a ~ z) is a, which is not tried again at its root though it is a Choice that would factor: it shows through a one-item count
head : E
head = (id b ~ id c) or (id b ~ id d)

-- x0 = x1 | x1, .. , x_n = "a": 2 ^ n strings
name : ℕ → Bytes
name n = 120 ∷ n ∷ []

doubling : ℕ → Table Bytes
unfolding name
doubling zero = rule (name 0) Normal (str a) ∷ []
doubling (suc n) = rule (name (suc n)) Normal (id (name n) or id (name n)) ∷ doubling n

tables : List Example
unfolding head doubling name
tables =
    -- 5 with 6, and each reserved name
    refuses (rule r Normal (str a) ∷ rule r Normal (un (RepMax 0) (str a)) ∷ []) 5
    ∷ refuses (rule ANY Normal (str a) ∷ []) 5
    ∷ refuses (rule DROP Normal (str a) ∷ []) 5
    ∷ refuses (rule POP Normal (str a) ∷ []) 5
    -- 6 with 7, and each of its three
    ∷ refuses (rule x Normal (str a or id x) ∷ rule r Atomic (until (id x) ~ un (RepMax 0) (str a)) ∷ []) 6
    ∷ refuses (sole Normal (un (RepExact 0) (str a))) 6
    ∷ refuses (sole Normal (un (RepMinMax 0 0) (str a))) 6
    -- 7 with 8, of the input and after unroll
    ∷ refuses (rule x Normal (str a or id x) ∷ rule r Atomic (until (id x) ~ un (RepExact 5000) (str a)) ∷ []) 7
    ∷ refuses (sole Normal (un (RepExact 5000) (str a))) 8
    -- rules that refer to each other: met again, or never reached
    ∷ refuses (rule x Normal (str a or id y) ∷ rule y Normal (str b or id x) ∷ sole Atomic (until (id y))) 7
    ∷ gives (rule x Normal (str a or id y) ∷ rule y Normal (str b ~ id x) ∷ sole Atomic (until (id y))) (rule x Normal (str a or id y) ∷ rule y Normal (str b ~ id x) ∷ sole Atomic (until (id y)))
    -- a list that is read twice is no rule met again
    ∷ gives (rule x Normal (id b or str c) ∷ rule b Normal (str a) ∷ sole Atomic (until (id x or id b))) (rule x Normal (id b or str c) ∷ rule b Normal (str a) ∷ sole Atomic (skip (a ∷ c ∷ a ∷ [])))
    -- the loop's own expression is read after rotation
    ∷ gives (sole Atomic (until ((str a or str b) or str c))) (sole Atomic (skip (a ∷ b ∷ c ∷ [])))
    -- a doubling list that ends in none
    ∷ gives (rule r Atomic (until (id (name 8) or fixed (Range 97 98))) ∷ doubling 8) (rule r Atomic (until (id (name 8) or fixed (Range 97 98))) ∷ doubling 8)
    -- Str next to Insens is not joined
    ∷ gives (sole Atomic (str a ~ lit Insens b)) (sole Atomic (str a ~ lit Insens b))
    ∷ gives (sole Atomic (lit Insens a ~ lit Insens b)) (sole Atomic (lit Insens (97 ∷ 98 ∷ [])))
    -- factor is not tried again at its own result's root
    ∷ gives (sole Normal (un (RepExact 1) head or (un (RepExact 1) head ~ id z))) (sole Normal head)
    ∷ gives (sole Normal ((id a ~ head) or (id a ~ (head ~ id x)))) (sole Normal (id a ~ head))
    -- list from the bottom
    ∷ gives (sole Normal (rep (id a ~ rep (id a ~ id c)) ~ id a)) (sole Normal (id a ~ rep (rep (id a ~ id c) ~ id a)))
    ∷ gives (sole Normal (rep (opt (rep (id a ~ id c) ~ id a) ~ id b) ~ opt (id a ~ rep (id c ~ id a)))) (sole Normal (opt (id a ~ rep (id c ~ id a)) ~ rep (id b ~ opt (id a ~ rep (id c ~ id a)))))
    -- x = y ~ PUSH("a"), y = x ~ "b", z = y?: the child of z is wrapped
    ∷ gives (rule x Normal (id y ~ push (str a)) ∷ rule y Normal (id x ~ str b) ∷ rule z Normal (opt (id y)) ∷ []) (rule x Normal (id y ~ push (str a)) ∷ rule y Normal (id x ~ str b) ∷ rule z Normal (opt (restored (id y))) ∷ [])
    -- and so it is through DROP; below a mark nothing is looked at
    ∷ gives (sole Normal (rep (opt (id DROP)))) (sole Normal (rep (opt (restored (id DROP)))))
    ∷ []

unfoldable pub slips : List Example
unfolding words tables
slips = words ++ tables

pub slips_hold : map found slips ≡ map wanted slips
unfolding found wanted slips
slips_hold = refl

-- 1 with 2: an area one element short, and the input too long
short_first : (optimize (record { rules = 0 ∷ []; rows = []; text = [] }) full full full (replicate 1023 0)).number ≡ 1
unfolding optimize
short_first = refl

-- W11: a sole Normal rule r, RepExact n of "a": its rows at the end, or its number
rows_or : Result → ℕ
rows_or (refused n) = n
rows_or (finished report t) = row_count t

w11 : ℕ → ℕ
unfolding of_words rows_or
w11 n = rows_or (of_words (record { rules = 0 ∷ 1 ∷ 0 ∷ 2 ∷ []; rows = 0 ∷ 1 ∷ 1 ∷ 1 ∷ 13 ∷ n ∷ 0 ∷ 2 ∷ []; text = 114 ∷ 97 ∷ [] }))

w11_holds : (w11 2048 ∷ w11 2049 ∷ []) ≡ 4095 ∷ 8 ∷ []
unfolding w11
w11_holds = refl

-- Nested counts: RepExact n of RepExact n of "a" is refused 8 for every n past full size, without writing it out

counted : ℕ → E
counted n = un (RepExact n) (un (RepExact n) (str a))

weigh_least : (n : ℕ) (e : E) → n ≤ weigh (replicate n e)
weigh_least zero e = omega arith
weigh_least (suc n) e = omega (arith, weigh_least n e, size_pos e)

nested_counts : (n : ℕ) → max_rows < n → of_table (sole Normal (counted (suc n))) ≡ refused 8
unfolding of_table finish stages rotate skip_to unroll too_large counted
nested_counts n h =
    let once : E = unrolled (RepExact (suc n)) (str a) in
    let big : max_rows < size (unrolled (RepExact (suc n)) once) + 0 = omega (arith, nest_size once (replicate n once), weigh_least (suc n) once) in
    simp (eqb-suc-zero n, lt-ltb _ _ big)

-- 4,294,967,295 rows of 4,294,967,295 rows would wrap to one
nested_largest : of_table (sole Normal (counted 4294967295)) ≡ refused 8
nested_largest = nested_counts 4294967294 (lit< tt)
