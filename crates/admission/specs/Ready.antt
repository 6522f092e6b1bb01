-- A table that no refusal can meet but 8 after a step, and what the tests before the first step come to. Assumes nothing.
use Rattle.std.specs.Prelude.{◌≡◌, Bool, false, ◌||◌, List, ℕ, ◌≤◌, length, ltb}
use Rattle.grammar.specs.Basic.{Bytes}
use Rattle.grammar.specs.Rows.{Span}
use Rattle.grammar.specs.Table.{Table, Words, resolve_table}
use Rattle.grammar.specs.Refusals.{max_text, full_rules, full_rows, zero_counts, too_large}
use Rattle.grammar.specs.Optimize.{stages, finish, of_words, refuse_if, refused}
use Rattle.skipper.specs.Lends.{Given, Lent}
use Rattle.skipper.specs.Lists.{Lists}

-- areas of these lengths are below full size
abbrev pub short_of : (rules rows text : ℕ) → Bool
short_of rules rows text = ltb rules full_rules || (ltb rows full_rows || ltb text max_text)

-- a table past refusal 7 and of no more than full size, with the marks that settle its skip lists
pub record Ready (rules rows : List ℕ) (text : Bytes) (marks : List ℕ) : Type 0 where
  pub given : Given rules rows text marks
  pub few : length rules ≤ full_rules
  pub zeros : (t : Table Span) → Lent rules rows t → zero_counts (resolve_table text t) ≡ false
  pub lists : (t : Table Span) → Lent rules rows t → Lists (resolve_table text t) marks
  pub fits : (t : Table Span) → Lent rules rows t → too_large (resolve_table text t) ≡ false

-- n refuses the table w, or is 0: then the table is ready, and the rest is for the steps to say
pub record Tried (n : ℕ) (w : Words) (marks : List ℕ) : Type 0 where
  pub refuses : (n ≡ 0 → ⊥) → of_words w ≡ refused n
  pub ready : n ≡ 0 → Ready w.rules w.rows w.text marks
  pub rest : n ≡ 0 → (t : Table Span) → Lent w.rules w.rows t → of_words w ≡ finish (stages (resolve_table w.text t))

-- the same after refusal 1
pub record Admitted (short : Bool) (n : ℕ) (w : Words) (marks : List ℕ) : Type 0 where
  pub refuses : (n ≡ 0 → ⊥) → refuse_if short 1 (of_words w) ≡ refused n
  pub ready : n ≡ 0 → Ready w.rules w.rows w.text marks
  pub rest : n ≡ 0 → (t : Table Span) → Lent w.rules w.rows t → refuse_if short 1 (of_words w) ≡ finish (stages (resolve_table w.text t))
  pub sizes : n ≡ 0 → short ≡ false
