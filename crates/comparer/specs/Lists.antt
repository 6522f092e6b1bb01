-- Where two trees differ, entries in the lent list, and the whole answer as the caller sees it. Assumes nothing.
use Rattle.std.specs.Prelude.{◌≡◌, cond, List, [], ◌∷◌, ◌++◌, ℕ, zero, suc, ◌+◌, ◌*◌, ◌≤◌, ◌<◌, eqb, length, None, Option as Option', Some, ⊤, Result, Ok, Err}
use Rattle.std.proofs.Math.Option.{Option, none, some}
use Rattle.std.proofs.Math.ListN.{get_elem?}
use Rattle.grammar.specs.Basic.{Bytes}
use Rattle.grammar.specs.Numbers.{number_of}
use Rattle.grammar.specs.Refusals.{full_rules, full_rows, full_marks}
use Rattle.grammar.specs.Rows.{Span}
use Rattle.grammar.specs.Table.{Rule, Table, Words, rule_words, row_words}
use Rattle.rows.specs.Rows.{Inside, cell_at}
use Rattle.names.specs.Names.{NamesInside, Ended}
use Rattle.writing.specs.Writes.{stored}
use Rattle.refusals.specs.Check.{lowest, Passed}
use Rattle.comparison.specs.Compare as compare
use Rattle.comparison.specs.Compare.{Entry, only_right, entry_width, list_words, full_list}
use Rattle.comparer.specs.Pairs.{memory_at}
use Rattle.comparer.specs.declared.Refused.{Refused}
use Rattle.comparer.specs.declared.Side.{Side}
use Rattle.comparer.specs.declared.Side.TheVariants.{Left, Right}
use Rattle.comparer.specs.declared.Sort.{Sort}
use Rattle.comparer.specs.declared.Sort.TheVariants.{OnlyLeft, OtherType, OtherTree, OnlyRight}

-- of n rows of one table from i and of another from j, r are the same before the first that is not
pub record SameRun (t : Bytes) (w : List ℕ) (i : ℕ) (u : Bytes) (v : List ℕ) (j n r : ℕ) : Type 0 where
  pub most : r ≤ n
  pub same : (k : ℕ) → k < r → cell_at t w (i + k) ≡ cell_at u v (j + k)
  pub unlike : r < n → cell_at t w (i + r) ≡ cell_at u v (j + r) → ⊥

-- the row of each answer
abbrev pub differs_at : Option' ℕ → Option ℕ
differs_at (Some k) = some k
differs_at None = none

-- the table t stands in these words, and rule i of it is x
pub record Standing (t : Table Span) (rules rows : List ℕ) : Type 0 where
  pub heads : rule_words t ≡ rules
  pub trees : row_words t ≡ rows

pub record RuleIs (rules rows : List ℕ) (i : ℕ) (x : Rule Span) : Type 0 where
  pub table : Table Span
  pub stands : Standing table rules rows
  pub is : get_elem? table i ≡ some x

-- a table that none of refusals 2 to 6 holds of, with the ends of its rules in its marks
pub record Sound (rules rows : List ℕ) (text : Bytes) (marks : List ℕ) : Type 0 where
  pub table : Table Span
  pub stands : Standing table rules rows
  pub few : length rules ≤ full_rules
  pub small : length rows ≤ full_rows
  pub inside : Inside rows (length text)
  pub names : NamesInside rules (length text)
  pub long : full_marks ≤ length marks
  pub ended : Ended rules marks

-- the entries es stand in the list from entry n on, and nothing else of it has changed; m is the number of entries after them
pub record Added (m n : ℕ) (es : List Entry) (l l' : List ℕ) : Type 0 where
  pub count : m ≡ n + length es
  pub words : l' ≡ stored l (n * entry_width) (list_words es)

-- the right rules, from rule j on, whose memory is 0
abbrev pub unmet_from : (marks : List ℕ) (j n : ℕ) → List Entry
unmet_from marks j zero = []
unmet_from marks j (suc n) = cond (eqb (memory_at marks j) 0) (only_right j ∷ []) [] ++ unmet_from marks (suc j) n

-- the number of an entry's sort, and of a side
abbrev pub sort_number : Sort → ℕ
sort_number OnlyLeft = 0
sort_number OtherType = 1
sort_number OtherTree = 2
sort_number OnlyRight = 3

abbrev pub side_number : Side → ℕ
side_number Left = 0
side_number Right = 1

-- a check of one side's table: the lowest of refusals 2 to 6 that holds, and the side; or that none does and what stands there
abbrev pub SideChecked : Result ⊤ Refused → Side → Words → List ℕ → Type 0
SideChecked (Ok v) side w marks = (0 ≡ lowest w) × Passed w marks
SideChecked (Err r) side w marks = (number_of r.why ≡ lowest w) × (2 ≤ lowest w) × (r.side ≡ side)

-- the answer by value and the list afterwards
abbrev pub seen : Result ℕ Refused → List ℕ → compare.Compared
seen (Ok n) list = record { number = 0; side = 0; count = n; list = list }
seen (Err r) list = record { number = number_of r.why; side = side_number r.side; count = 0; list = list }
