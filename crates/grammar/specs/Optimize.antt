-- The whole answer of the whole call: the lowest number that applies, the report, and the output areas to their last word. Assumes nothing.
use Rattle.std.specs.Prelude.{Bool, ◌||◌, cond, List, [], ◌∷◌, ◌++◌, ℕ, length, drop, replicate}
use Rattle.std.proofs.Math.Option.{Option, none, some}
use Rattle.grammar.specs.Basic.{Bytes, any}
use Rattle.grammar.specs.Numbers.{refused_area, refused_size, refused_shape, refused_text, refused_names, refused_count, refused_cycle, refused_full, report_width}
use Rattle.grammar.specs.Rows.{Span}
use Rattle.grammar.specs.Table.{Table, Words, row_count, table_text, words_of, resolve_table}
use Rattle.grammar.specs.Reading.{read_table, input_kinds}
use Rattle.grammar.specs.Steps.{each, rotate, skip_to, unroll, concatenate, factor, list, restore}
use Rattle.grammar.specs.Refusals.{short, short_marks, bad_counts, bad_text, bad_names, zero_counts, meets, too_large}

-- the table as given, then after each step. Skip reads lists in the table as given; restore looks into the rules as they stand after step 6
unfoldable pub stages : Table Bytes → List (Table Bytes)
unfolding rotate skip_to unroll concatenate factor list restore
stages t0 =
    let t1 : Table Bytes = each (λ _. rotate) t0 in
    let t2 : Table Bytes = each (skip_to t0) t1 in
    let t3 : Table Bytes = each (λ _. unroll) t2 in
    let t4 : Table Bytes = each concatenate t3 in
    let t5 : Table Bytes = each factor t4 in
    let t6 : Table Bytes = each (λ _. list) t5 in
    let t7 : Table Bytes = each (λ _. restore t6) t6 in
    t0 ∷ t1 ∷ t2 ∷ t3 ∷ t4 ∷ t5 ∷ t6 ∷ t7 ∷ []

-- "seven pairs, rows before and rows after each step"
abbrev pub pairs : List (Table Bytes) → List ℕ
pairs [] = []
pairs (s ∷ []) = []
pairs (s ∷ t ∷ ts) = row_count s ∷ row_count t ∷ pairs (t ∷ ts)

abbrev pub last_of : List (Table Bytes) → Table Bytes
last_of [] = []
last_of (t ∷ []) = t
last_of (s ∷ t ∷ ts) = last_of (t ∷ ts)

-- how a call ends: with a refusal's number, or with a report and a finished table
pub data Result : Type 0 where
  refused : ℕ → Result
  finished : List ℕ → Table Bytes → Result

abbrev pub refuse_if : Bool → ℕ → Result → Result
refuse_if b n r = cond b (refused n) r

-- 8, "in the input or after some step", and success
unfoldable pub finish : List (Table Bytes) → Result
unfolding too_large
finish ts = refuse_if (any too_large ts) refused_full (finished (pairs ts) (last_of ts))

-- 5 to 7, then the rest
unfoldable pub of_table : Table Bytes → Result
unfolding bad_names zero_counts meets stages finish
of_table t = refuse_if (bad_names t) refused_names (refuse_if (zero_counts t) refused_count (refuse_if (meets t) refused_cycle (finish (stages t))))

-- 3 and 4, then the rest
unfoldable pub of_read : Bytes → Option (Table Span) → Result
unfolding bad_text of_table
of_read text none = refused refused_shape
of_read text (some t) = refuse_if (bad_text text t) refused_text (of_table (resolve_table text t))

-- 2, then the rest
unfoldable pub of_words : Words → Result
unfolding read_table of_read
of_words w = refuse_if (bad_counts w) refused_size (of_read w.text (read_table input_kinds w.rules w.rows))

-- 1, then the rest. `in'` is the input, `out` the output areas as they are lent, `a` and `b` the work tables
unfoldable pub result : (in' out a b : Words) (marks : List ℕ) → Result
unfolding of_words
result in' out a b marks = refuse_if (short out || (short a || (short b || short_marks marks))) refused_area (of_words in')

-- What the caller gets: number, counts of rules, rows and text bytes, report; and the output areas afterwards
pub record Answer : Type 0 where
  pub number : ℕ
  pub rules : ℕ
  pub rows : ℕ
  pub text : ℕ
  pub report : List ℕ
  pub out : Words

-- "words and bytes of output areas past the answer stay unchanged"
abbrev pub over : List ℕ → List ℕ → List ℕ
over new old = new ++ drop (length new) old

abbrev pub over_words : Words → Words → Words
over_words new old =
    record {
      rules = over new.rules old.rules;
      rows = over new.rows old.rows;
      text = over new.text old.text;
    }

-- "a refusal returns its number, three zero counts and a zero report", and changes no output area
abbrev pub answer : Words → Result → Answer
answer out (refused n) = record { number = n; rules = 0; rows = 0; text = 0; report = replicate report_width 0; out = out }
answer out (finished report t) =
    record {
      number = 0;
      rules = length t;
      rows = row_count t;
      text = length (table_text t);
      report = report;
      out = over_words (words_of t) out;
    }

unfoldable pub optimize : (in' out a b : Words) (marks : List ℕ) → Answer
unfolding result
optimize in' out a b marks = answer out (result in' out a b marks)
