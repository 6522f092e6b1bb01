-- A table that is lent as words, with a mark of four words for each rule. Assumes nothing.
use Rattle.std.specs.Prelude.{◌≡◌, List, ℕ, ◌+◌, ◌-◌, ◌*◌, length, get_or}
use Rattle.grammar.specs.Numbers.{mark_width}
use Rattle.grammar.specs.Basic.{Bytes}
use Rattle.grammar.specs.Tree.{Expr, size}
use Rattle.grammar.specs.Rows.{Span}
use Rattle.grammar.specs.Table.{Table, rule_words, row_words, resolve_table}
use Rattle.rows.specs.Rows.{Inside, At}
use Rattle.names.specs.Names.{AllIndexed, Ended, ways_word, end_word}
use Rattle.restorer.specs.Search.{Settled}

-- the words are those of the table t
pub record Lent (t : Table Span) (rules rows : List ℕ) : Type 0 where
  pub heads : rule_words t ≡ rules
  pub trees : row_words t ≡ rows

-- some table is lent, and its rules have marks
pub record Marked (rules rows : List ℕ) (text : Bytes) (marks : List ℕ) : Type 0 where
  pub table : Table Span
  pub lent : Lent table rules rows
  pub inside : Inside rows (length text)
  pub index : AllIndexed rules text marks

-- with the ends of their rows
pub record Given (rules rows : List ℕ) (text : Bytes) (marks : List ℕ) : Type 0 where
  pub marked : Marked rules rows text marks
  pub ended : Ended rules marks

-- nothing but memories is changed
pub record Steady (m m' : List ℕ) : Type 0 where
  pub slots : (i : ℕ) → get_or m' (i * mark_width) 0 ≡ get_or m (i * mark_width) 0
  pub ways : (i : ℕ) → get_or m' (i * mark_width + ways_word) 0 ≡ get_or m (i * mark_width + ways_word) 0
  pub end : (i : ℕ) → get_or m' (i * mark_width + end_word) 0 ≡ get_or m (i * mark_width + end_word) 0

-- the rows from `from` to `end` are one tree
pub record TreeRows (w : List ℕ) (from end : ℕ) : Type 0 where
  pub tree : Expr Span
  pub at : At w (end - 1) tree
  pub rows : from + size tree ≡ end

-- the marks settle the table that is lent, and say where its rules end
pub record Settles (rules rows : List ℕ) (text : Bytes) (marks : List ℕ) : Type 0 where
  pub settled : (t : Table Span) → Lent t rules rows → Settled (resolve_table text t) marks
  pub ended : Ended rules marks
