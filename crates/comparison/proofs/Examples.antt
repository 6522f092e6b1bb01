-- Examples of the list and of the literal that is shown: one table, one theorem. Assumes nothing.
use mathlib.Core.Path.{◌≡◌, refl}
use mathlib.Core.List.{List, [], ◌∷◌, map}
use Prim.Native.Nat.{ℕ}
use lib.ListN.{replicate}
use Rattle.grammar.specs.Basic.{Bytes}
use Rattle.grammar.specs.Table.{Atomic, Normal, Table, Words, words_of}
use Rattle.grammar.specs.Tree.{Insens, lit, skip}
use Rattle.grammar.specs.Refusals.{full_marks}
use Rattle.grammar.proofs.Notation.{◌~◌, ◌or◌, a, b, c, id, r, rule, str, x, y}
use Rattle.refusals.specs.Check.{lent}
use Rattle.comparison.specs.Shown.{Shown, nothing, shown}
use Rattle.comparison.specs.Compare.{Entry, only_left, other_type, other_tree, only_right, Compared, compare, compare_words, full_list, listed, refused}

-- an example: two tables and their list; words and the whole answer; words and the literal at a side, rule and row
pub data Example : Type 0 where
  lists : (left right : Table Bytes) → List Entry → Example
  whole : (left right : Words) (list marks : List ℕ) → Compared → Example
  shows : (left right : Words) (side rule row : ℕ) → Shown → Example

pub data Seen : Type 0 where
  entries : List Entry → Seen
  answer : Compared → Seen
  literal : Shown → Seen

unfoldable pub found : Example → Seen
unfolding compare compare_words shown
found (lists l t es) = entries (compare l t)
found (whole l t list marks n) = answer (compare_words l t list marks marks)
found (shows l t side rule row n) = literal (shown l t side rule row)

abbrev pub wanted : Example → Seen
wanted (lists l t es) = entries es
wanted (whole l t list marks n) = answer n
wanted (shows l t side rule row n) = literal n

-- a list and marks of full size, with any number in each word
abbrev list : List ℕ
list = replicate full_list 2779096485

abbrev marks : List ℕ
marks = replicate full_marks 0

-- r = "ab" over three texts: at another offset; with another last byte
abbrev pub here_ab : Words
here_ab = record { rules = 0 ∷ 1 ∷ 2 ∷ 1 ∷ []; rows = 0 ∷ 1 ∷ 2 ∷ 1 ∷ []; text = 114 ∷ 97 ∷ 98 ∷ [] }

abbrev pub there_ab : Words
there_ab = record { rules = 3 ∷ 1 ∷ 2 ∷ 1 ∷ []; rows = 0 ∷ 0 ∷ 2 ∷ 1 ∷ []; text = 97 ∷ 98 ∷ 122 ∷ 114 ∷ [] }

abbrev pub there_ac : Words
there_ac = record { rules = 3 ∷ 1 ∷ 2 ∷ 1 ∷ []; rows = 0 ∷ 0 ∷ 2 ∷ 1 ∷ []; text = 97 ∷ 99 ∷ 122 ∷ 114 ∷ [] }

abbrev no_table : Words
no_table = record { rules = 0 ∷ 1 ∷ 2 ∷ 2 ∷ []; rows = 0 ∷ 1 ∷ 2 ∷ 1 ∷ []; text = 114 ∷ 97 ∷ 98 ∷ [] }

abbrev odd : Words
odd = record { rules = 0 ∷ []; rows = []; text = [] }

-- r = "ab" ~ x and x = "c"; rules that count more rows than there are
abbrev pub two_rules : Words
two_rules = words_of (rule r Normal (str (97 ∷ 98 ∷ []) ~ id x) ∷ rule x Normal (str c) ∷ [])

abbrev long_rules : Words
long_rules = record { rules = 0 ∷ 1 ∷ 2 ∷ 4294967295 ∷ 0 ∷ 1 ∷ 2 ∷ 4294967295 ∷ 0 ∷ 1 ∷ 2 ∷ 4294967295 ∷ []; rows = 0 ∷ 1 ∷ 2 ∷ 1 ∷ []; text = 114 ∷ 97 ∷ 98 ∷ [] }

abbrev pub at : (offset length : ℕ) → Shown
at x n = record { found = 1; offset = x; length' = n }

unfoldable pub examples : List Example
examples =
    -- equal up to order; empty tables
    lists (rule r Normal (str a) ∷ rule x Atomic (str b) ∷ []) (rule x Atomic (str b) ∷ rule r Normal (str a) ∷ []) []
    ∷ lists [] [] []
    -- found only left, found only right: the left ones first, though the right one is the first of its table
    ∷ lists (rule r Normal (str a) ∷ []) [] (only_left 0 ∷ [])
    ∷ lists [] (rule r Normal (str a) ∷ []) (only_right 0 ∷ [])
    ∷ lists (rule r Normal (str a) ∷ rule x Normal (str a) ∷ []) (rule y Normal (str a) ∷ rule r Normal (str a) ∷ []) (only_left 1 ∷ only_right 0 ∷ [])
    -- another type, another tree, both; in two rules, each with its numbers
    ∷ lists (rule r Normal (str a) ∷ []) (rule r Atomic (str a) ∷ []) (other_type 0 0 ∷ [])
    ∷ lists (rule r Normal (str a) ∷ []) (rule r Atomic (str b) ∷ []) (other_type 0 0 ∷ other_tree 0 0 0 ∷ [])
    ∷ lists (rule r Normal (str a) ∷ rule x Normal (str a) ∷ []) (rule x Atomic (str a) ∷ rule r Normal (str b) ∷ []) (other_tree 0 1 0 ∷ other_type 1 0 ∷ [])
    -- the first differing row in postfix order, whatever the sizes: a literal's kind, the second literal, the root
    ∷ lists (rule r Normal (str a) ∷ []) (rule r Normal (lit Insens a) ∷ []) (other_tree 0 0 0 ∷ [])
    ∷ lists (rule r Normal (str a ~ (str b ~ str c)) ∷ []) (rule r Normal ((str a ~ str c) ~ str c) ∷ []) (other_tree 0 0 1 ∷ [])
    ∷ lists (rule r Normal (str a ~ (str b ~ str c)) ∷ []) (rule r Normal ((str a ~ str b) ~ str c) ∷ []) (other_tree 0 0 2 ∷ [])
    ∷ lists (rule r Normal (str a ~ str b) ∷ []) (rule r Normal (str a or str b) ∷ []) (other_tree 0 0 2 ∷ [])
    -- a prefix, either way
    ∷ lists (rule r Normal (str a) ∷ []) (rule r Normal (str a ~ str b) ∷ []) (other_tree 0 0 1 ∷ [])
    ∷ lists (rule r Normal (str a ~ str b) ∷ []) (rule r Normal (str a) ∷ []) (other_tree 0 0 1 ∷ [])
    -- the strings of two Skips shared out otherwise: the first Skip's number
    ∷ lists (rule r Normal (str a ~ (skip (b ∷ []) ~ skip (c ∷ []))) ∷ []) (rule r Normal (skip (a ∷ b ∷ []) ~ (str c ~ skip [])) ∷ []) (other_tree 0 0 2 ∷ [])
    -- offsets are no difference; a literal's last byte is
    ∷ whole here_ab there_ab list marks (listed [] list)
    ∷ whole here_ab there_ac list marks (listed (other_tree 0 0 0 ∷ []) list)
    -- refusals: a short list before all else, then the left table's, then the right one's
    ∷ whole no_table odd (replicate 2047 0) marks (refused 1 0 (replicate 2047 0))
    ∷ whole no_table odd list (replicate 1023 0) (refused 1 0 list)
    ∷ whole no_table odd list marks (refused 3 0 list)
    ∷ whole here_ab odd list marks (refused 2 1 list)
    -- a literal: of each side, in its own text; a name's too; in the second rule
    ∷ shows here_ab there_ab 0 0 0 (at 1 2)
    ∷ shows here_ab there_ab 1 0 0 (at 0 2)
    ∷ shows two_rules odd 0 0 1 (at 3 1)
    ∷ shows two_rules odd 0 1 0 (at 5 1)
    -- none: a row that is no literal, the row after the rule's last, though there is one; no such rule, no such side; no whole rule
    ∷ shows two_rules odd 0 0 2 nothing
    ∷ shows two_rules odd 0 0 3 nothing
    ∷ shows two_rules odd 0 2 0 nothing
    ∷ shows two_rules two_rules 2 0 0 nothing
    ∷ shows two_rules odd 1 0 0 nothing
    -- a row that is there, of a rule that counts too many; one past them, the counts added as whole numbers; one that ends past the text
    ∷ shows long_rules odd 0 0 0 (at 1 2)
    ∷ shows long_rules odd 0 0 1 nothing
    ∷ shows long_rules odd 0 2 2 nothing
    ∷ shows (lent (0 ∷ 0 ∷ 0 ∷ 1 ∷ []) (0 ∷ 1 ∷ 4294967295 ∷ 1 ∷ []) (97 ∷ [])) odd 0 0 0 nothing
    ∷ []

pub examples_hold : map found examples ≡ map wanted examples
unfolding found examples
examples_hold = refl
