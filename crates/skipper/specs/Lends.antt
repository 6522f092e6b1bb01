-- A table that is lent as words, with a mark of four words for each rule. Word 1 of a mark is the rule's memory. Assumes nothing.
use Rattle.std.specs.Prelude.{◌≡◌, cond, ⊤, List, [], ◌∷◌, ℕ, suc, ◌+◌, ◌*◌, ◌≤◌, length, get_or, eqb, leb, Result, Ok, Err}
use Rattle.std.proofs.Math.Option.{Option, none, some}
use Rattle.grammar.specs.Numbers.{mark_width}
use Rattle.grammar.specs.Basic.{Bytes, same_bytes}
use Rattle.grammar.specs.Rows.{Span}
use Rattle.grammar.specs.Table.{Table, rule_words, row_words, resolve_table}
use Rattle.grammar.specs.Lists.{Reading}
use Rattle.rows.specs.Rows.{Inside}
use Rattle.names.specs.Names.{AllIndexed, Ended, memory_word, ways_word, end_word}
use Rattle.skipper.specs.declared.Unlisted.{Unlisted}
use Rattle.skipper.specs.declared.Unlisted.TheVariants.{Again, Absent}
use Rattle.skipper.specs.Memory.{Marks, Known, Reads}

-- the number of the rule with that name, where the first is numbered i
abbrev pub index_from : ℕ → Table Bytes → Bytes → Option ℕ
index_from i [] x = none
index_from i (r ∷ rs) x = cond (same_bytes r.name x) (some i) (index_from (suc i) rs x)

-- a name of no rule has no list
abbrev pub state_at : List ℕ → Option ℕ → ℕ
state_at m none = 2
state_at m (some i) = get_or m (i * mark_width + memory_word) 0

-- the marks m as a memory of names
unfoldable pub marks_of : Table Bytes → List ℕ → Marks
unfolding same_bytes
marks_of t m x = state_at m (index_from 0 t x)

-- once all lists are read, a memory above 3 is a list too
abbrev pub capped : ℕ → ℕ
capped w = cond (leb 3 w) 3 w

-- the marks m as a memory of names, from then on
unfoldable pub lists_of : Table Bytes → List ℕ → Marks
unfolding marks_of
lists_of t m x = capped (marks_of t m x)

-- the words are those of the table t
pub record Lent (rules rows : List ℕ) (t : Table Span) : Type 0 where
  pub heads : rules ≡ rule_words t
  pub trees : rows ≡ row_words t

-- some table is lent, with its marks
pub record Given (rules rows : List ℕ) (text : Bytes) (marks : List ℕ) : Type 0 where
  pub table : Table Span
  pub lent : Lent rules rows table
  pub inside : Inside rows (length text)
  pub index : AllIndexed rules text marks
  pub ended : Ended rules marks

-- how many of these are 0: a memory that is written has fewer
abbrev pub zeros : List ℕ → ℕ
zeros [] = 0
zeros (w ∷ m) = cond (eqb w 0) 1 0 + zeros m

-- a reading changes nothing but memories, and forgets nothing
pub record Steady (m m' : List ℕ) : Type 0 where
  pub fewer : zeros m' ≤ zeros m
  pub slots : (i : ℕ) → get_or m' (i * mark_width) 0 ≡ get_or m (i * mark_width) 0
  pub ways : (i : ℕ) → get_or m' (i * mark_width + ways_word) 0 ≡ get_or m (i * mark_width + ways_word) 0
  pub end : (i : ℕ) → get_or m' (i * mark_width + end_word) 0 ≡ get_or m (i * mark_width + end_word) 0

-- the memory that a reading leaves: of a list, or of why there is none
abbrev pub memory_of : Result ⊤ Unlisted → ℕ
memory_of (Ok v) = 3
memory_of (Err Again) = 1
memory_of (Err Absent) = 2

-- a is the mark of the reading f, of the table t with the text s, which changed the marks m to m'
pub record ReadsOf (s : Bytes) (t : Table Span) (m m' : List ℕ) (a : ℕ) (f : (Bytes → Reading) → Reading) : Type 0 where
  pub read : Known (resolve_table s t) (marks_of (resolve_table s t) m) → Reads (resolve_table s t) (marks_of (resolve_table s t) m) (marks_of (resolve_table s t) m') a f
