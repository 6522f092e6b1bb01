-- What a check of a lent table answers: the lowest of refusals 2 to 6 that holds, or that none does and what stands there. Assumes nothing.
use Rattle.std.specs.Prelude.{◌≡◌, true, false, cond, ◌⊎◌, ⊤, List, [], ℕ, ◌≤◌, length, Result, Ok, Err}
use Rattle.std.proofs.Math.Option.{Option, none, some}
use Rattle.grammar.specs.Numbers.{refused_text, number_of, number_in}
use Rattle.grammar.specs.declared.Refusal.{Refusal}
use Rattle.grammar.specs.Basic.{Bytes, or_else}
use Rattle.grammar.specs.Rows.{Span}
use Rattle.grammar.specs.Table.{Table, Words, resolve_table}
use Rattle.grammar.specs.Reading.{read_table, input_kinds}
use Rattle.grammar.specs.Refusals.{bad_counts, bad_text, bad_names, zero_counts}
use Rattle.rows.specs.Rows.{Inside}
use Rattle.names.specs.Names.{AllIndexed, Ended}
use Rattle.refusals.specs.Bytes.{any_four, zero_row, NamesFine}

abbrev pub lent : List ℕ → List ℕ → Bytes → Words
lent rules rows text = record { rules = rules; rows = rows; text = text }

-- the lowest of refusals 2 to 6 that holds, by the grammar's definitions; 0 where none does
unfoldable pub lowest_named : Table Bytes → ℕ
unfolding bad_names zero_counts
lowest_named t = cond (bad_names t) 5 (cond (zero_counts t) 6 0)

unfoldable pub lowest_read : Bytes → Option (Table Span) → ℕ
unfolding bad_text lowest_named
lowest_read text none = 3
lowest_read text (some t) = cond (bad_text text t) refused_text (lowest_named (resolve_table text t))

unfoldable pub lowest : Words → ℕ
unfolding read_table lowest_read
lowest w = cond (bad_counts w) 2 (lowest_read w.text (read_table input_kinds w.rules w.rows))

-- the table that words stand for, where none of them holds
abbrev pub table_of : Words → Table Bytes
table_of w = resolve_table w.text (or_else (read_table input_kinds w.rules w.rows) [])

-- refusals 5 and 6 over words: the answer of a check that comes after refusals 2 to 4
abbrev pub NamesChecked : Result ⊤ Refusal → List ℕ → List ℕ → Bytes → List ℕ → Type 0
NamesChecked (Ok v) rules rows text marks = NamesFine rules text × (any_four zero_row rows ≡ false) × AllIndexed rules text marks × Ended rules marks
NamesChecked (Err r) rules rows text marks = ((number_of r ≡ 5) × (NamesFine rules text → ⊥)) ⊎ ((number_of r ≡ 6) × NamesFine rules text × (any_four zero_row rows ≡ true))

-- what holds of a table that none of them refuses
pub record Passed (w : Words) (marks : List ℕ) : Type 0 where
  pub table : Table Span
  pub read : read_table input_kinds w.rules w.rows ≡ some table
  pub counts : bad_counts w ≡ false
  pub text' : bad_text w.text table ≡ false
  pub names : bad_names (resolve_table w.text table) ≡ false
  pub zeros : zero_counts (resolve_table w.text table) ≡ false
  pub inside : Inside w.rows (length w.text)
  pub index : AllIndexed w.rules w.text marks
  pub ended : Ended w.rules marks

-- the answer: its number is the lowest that holds, no refusal has a number below 2, and a fine table stands there
pub record Checked (v : Result ⊤ Refusal) (w : Words) (marks : List ℕ) : Type 0 where
  pub number : number_in v ≡ lowest w
  pub refused : (r : Refusal) → v ≡ Err r → 2 ≤ number_of r
  pub fine : v ≡ Ok tt → Passed w marks
