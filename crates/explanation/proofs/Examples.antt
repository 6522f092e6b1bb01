-- Examples of the answers: one table, one theorem. Assumes nothing.
use mathlib.Core.Path.{◌≡◌, refl}
use mathlib.Core.List.{List, [], ◌∷◌, map}
use Prim.Native.Nat.{ℕ, zero, suc, ◌+◌}
use lib.ListN.{replicate}
use Rattle.grammar.specs.Basic.{Bytes}
use Rattle.grammar.specs.Table.{Atomic, Normal, Table, Words, words_of}
use Rattle.grammar.specs.Tree.{Insens, NegPred, Range, Rep, fixed, lit, skip, un}
use Rattle.grammar.specs.Lists.{ANY}
use Rattle.grammar.specs.Refusals.{full_marks}
use Rattle.grammar.proofs.Notation.{◌~◌, ◌or◌, a, b, c, id, r, rule, str, until, x, y, z}
use Rattle.explanation.specs.Ends.{reads, unknown, other, again}
use Rattle.explanation.specs.Explain.{Answer, not_rep, regroup, not_atomic, not_seq, not_neg_pred, not_any, ends, explain, Explained, told, plain, refused, explain_words, full_list}

-- an example: a table, a row and its answer; words and the whole answer
pub data Example : Type 0 where
  asks : Table Bytes → ℕ → Answer → Example
  whole : Words → ℕ → (list marks : List ℕ) → Explained → Example

pub data Seen : Type 0 where
  answer : Answer → Seen
  all : Explained → Seen

unfoldable pub found : Example → Seen
unfolding explain explain_words
found (asks t row w) = answer (explain t row)
found (whole w row list marks e) = all (explain_words w row list marks)

abbrev pub wanted : Example → Seen
wanted (asks t row w) = answer w
wanted (whole w row list marks e) = all e

-- rule 0 loops over rule 1, each next one names the one after it, and rule 255 names rule 1
abbrev link : (k n : ℕ) → Table Bytes
link k zero = rule (k ∷ []) Normal (id (1 ∷ [])) ∷ []
link k (suc n) = rule (k ∷ []) Normal (id ((k + 1) ∷ [])) ∷ link (k + 1) n

abbrev numbers : (k n : ℕ) → List ℕ
numbers k zero = []
numbers k (suc n) = k ∷ numbers (k + 1) n

abbrev long : Table Bytes
long = rule (0 ∷ []) Atomic (until (id (1 ∷ []))) ∷ link 1 254

abbrev list : List ℕ
list = replicate full_list 2779096485

abbrev marks : List ℕ
marks = replicate full_marks 0

unfoldable pub examples : List Example
examples =
    -- W3: it becomes a Skip; so does a loop over nothing but a name of a list
    asks (rule r Atomic (until (str a or str b)) ∷ []) 6 (ends reads)
    ∷ asks (rule r Atomic (until (id x)) ∷ rule x Normal (str a or str b) ∷ []) 4 (ends reads)
    -- not a Rep, in a Skip, past the table
    ∷ asks (rule r Atomic (until (str a)) ∷ []) 3 not_rep
    ∷ asks (rule r Atomic (skip (a ∷ b ∷ [])) ∷ []) 1 not_rep
    ∷ asks (rule r Atomic (until (str a)) ∷ []) 5 not_rep
    ∷ asks [] 0 not_rep
    -- regroup first, whatever the rule and the list
    ∷ asks (rule r Normal (un Rep ((str a ~ str b) ~ str c)) ∷ []) 5 regroup
    ∷ asks (rule r Atomic (until ((str a or str b) or str c)) ∷ []) 8 regroup
    -- the rule is not Atomic; then part by part
    ∷ asks (rule r Normal (until (id y)) ∷ []) 4 not_atomic
    ∷ asks (rule r Atomic (un Rep (str a)) ∷ []) 1 not_seq
    ∷ asks (rule r Atomic (un Rep (str a ~ str b)) ∷ []) 3 not_neg_pred
    ∷ asks (rule r Atomic (un Rep (un NegPred (str a) ~ str ANY)) ∷ []) 4 not_any
    ∷ asks (rule r Atomic (un Rep (un NegPred (str a) ~ id x)) ∷ []) 4 not_any
    -- W4: x is nested to the left, and the reading ends at the inner Choice
    ∷ asks (rule r Atomic (until (id x)) ∷ rule x Normal ((str a or str b) or str c) ∷ []) 4 (ends (other 1 7))
    -- W5's three: a rule met again; a Range on the left before it; a rule that is its own loop, which no name has opened
    ∷ asks (rule r Atomic (until (id x)) ∷ rule x Normal (str a or id x) ∷ []) 4 (ends (again 1 6 1 (1 ∷ [])))
    ∷ asks (rule r Atomic (until (id x)) ∷ rule x Normal (fixed (Range 97 98) or id x) ∷ []) 4 (ends (other 1 5))
    ∷ asks (rule r Atomic (until (id r)) ∷ []) 4 (ends (other 0 4))
    -- the other ways to end: an unknown name, a literal in any case; the first one counts
    ∷ asks (rule r Atomic (until (str a or id y)) ∷ []) 6 (ends (unknown 0 1))
    ∷ asks (rule r Atomic (until (lit Insens a or id y)) ∷ []) 6 (ends (other 0 0))
    ∷ asks (rule r Atomic (until (id y or lit Insens a)) ∷ []) 6 (ends (unknown 0 0))
    -- an unknown name behind a list that doubles; a rule that two others name is not met again
    ∷ asks (rule r Atomic (until (id x or id a)) ∷ rule x Normal (id y or id y) ∷ rule y Normal (id z or id z) ∷ rule z Normal (str a) ∷ []) 6 (ends (unknown 0 1))
    ∷ asks (rule r Atomic (until (id x or id y)) ∷ rule x Normal (id z) ∷ rule y Normal (id z) ∷ rule z Normal (str a) ∷ []) 6 (ends reads)
    -- a loop inside a loop: the outer one's list is a Rep, the inner one becomes a Skip
    ∷ asks (rule r Atomic (until (until (str a))) ∷ []) 8 (ends (other 0 4))
    ∷ asks (rule r Atomic (until (until (str a))) ∷ []) 4 (ends reads)
    -- the way there counts from the outermost: 255 rules
    ∷ asks long 4 (ends (again 255 259 1 (numbers 1 255)))
    -- the whole answer: a short list before all else, then the table's refusals, then the row
    ∷ whole (words_of (rule r Atomic (until (str a)) ∷ rule r Atomic (str a) ∷ [])) 9 (replicate 255 0) marks (refused 1 (replicate 255 0))
    ∷ whole (words_of (rule r Atomic (until (str a)) ∷ rule r Atomic (str a) ∷ [])) 9 list marks (refused 5 list)
    ∷ whole (words_of (rule r Atomic (until (str a)) ∷ [])) 4 list marks (plain 0 list)
    ∷ whole (words_of (rule r Atomic (until (str a)) ∷ [])) 9 list marks (plain 1 list)
    ∷ whole (words_of (rule r Atomic (until (str a or id y)) ∷ [])) 6 list marks (told 7 0 1 0 [] list)
    ∷ whole (words_of (rule r Atomic (until (id x)) ∷ rule x Normal (str a or id x) ∷ [])) 4 list marks (told 9 1 6 1 (1 ∷ []) list)
    ∷ []

pub examples_hold : map found examples ≡ map wanted examples
unfolding found examples
examples_hold = refl
