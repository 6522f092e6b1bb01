-- The contract of the whole call, and the five programs that 01 holds against it ("How strong the statements have to be"). Assumes nothing.
use Rattle.std.specs.Prelude.{◌≡◌, false, ◌||◌, List, ℕ, get_or}
use Rattle.std.proofs.Math.Option.{some}
use Rattle.grammar.specs.Basic.{Bytes}
use Rattle.grammar.specs.Rows.{Span}
use Rattle.grammar.specs.Table.{Table, Words, resolve_table, words_of}
use Rattle.grammar.specs.Reading.{read_table, input_kinds}
use Rattle.grammar.specs.Steps.{each, rotate}
use Rattle.grammar.specs.Refusals.{short, short_marks}
use Rattle.grammar.specs.Optimize.{Answer, optimize, over_words, pairs, stages}

-- what answers a call: `in'` is the input, `out` the output areas as they are lent, `a` and `b` the work tables
abbrev pub Program : Type 0
Program = (in' out a b : Words) (marks : List ℕ) → Answer

-- which answers the contract allows to a call
abbrev pub Allows : (in' out a b : Words) (marks : List ℕ) → Answer → Type 0
Allows in' out a b marks x = x ≡ optimize in' out a b marks

abbrev pub Keeps : Program → Type 0
Keeps P = (in' out a b : Words) (marks : List ℕ) → Allows in' out a b marks (P in' out a b marks)

-- output and work areas of full size, whatever stands in them: with less, refusing everything is right
pub record Lent : Type 0 where
  pub out : Words
  pub a : Words
  pub b : Words
  pub marks : List ℕ
  pub full : (short out || (short a || (short b || short_marks marks))) ≡ false

-- What a wrong program does with some areas that are lent to it. Of what it does with others nothing is asked
module _ (P : Program) (l : Lent) where
  abbrev pub run : Words → Answer
  run in' = P in' l.out l.a l.b l.marks

  -- the output areas hold these words, and past them what they held
  abbrev pub Leaves : (in' words : Words) → Type 0
  Leaves in' words = (run in').out ≡ over_words words l.out

  -- "refusing everything"
  abbrev pub RefusesEverything : Type 0
  RefusesEverything = (in' : Words) → (run in').number ≡ 0 → ⊥

  -- "copying the input", where it does not refuse. Of a packed input, so that copying its words and copying its table are one
  abbrev pub CopiesInput : Type 0
  CopiesInput = (t : Table Bytes) → (run (words_of t)).number ≡ 0 → Leaves (words_of t) (words_of t)

  -- "one fixed table", where it does not refuse: any words, of a table or not
  abbrev pub OneFixedTable : Type 0
  OneFixedTable = (words : Words) × ((in' : Words) → (run in').number ≡ 0 → Leaves in' words)

  -- "rotating honestly and passing rows through the other six steps", where it does not refuse
  abbrev pub RotatesOnly : Type 0
  RotatesOnly = (t : Table Bytes) → (run (words_of t)).number ≡ 0 → Leaves (words_of t) (words_of (each (λ _. rotate) t))

  -- "a report with invented pairs": the same one wherever it does not refuse
  abbrev pub InventsReport : Type 0
  InventsReport = (report : List ℕ) × ((in' : Words) → (run in').number ≡ 0 → (run in').report ≡ report)

  -- or a report that is off in one number for one accepted input, whose table is read as `t`
  pub record WrongNumber : Type 0 where
    pub in' : Words
    pub t : Table Span
    pub read : read_table input_kinds in'.rules in'.rows ≡ some t
    pub accepts : (run in').number ≡ 0
    pub i : ℕ
    pub off : get_or (run in').report i 0 ≡ get_or (pairs (stages (resolve_table in'.text t))) i 0 → ⊥
