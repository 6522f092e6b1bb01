-- Rules and tables of rules, as trees and as words. Assumes nothing.
use Rattle.std.specs.Prelude.{cond, List, [], ◌∷◌, ◌++◌, map, ℕ, ◌+◌, length}
use Rattle.std.proofs.Math.Option.{Option, none, some}
use Rattle.grammar.specs.Basic.{Bytes, same_bytes}
use Rattle.grammar.specs.Tree.{Expr, E, size}
use Rattle.grammar.specs.Rows.{Span, flat}
use Rattle.grammar.specs.Text.{bytes_at, resolve, text_of, packed}

-- "types 0 to 4: Normal, Silent, Atomic, CompoundAtomic, NonAtomic"
pub record Rule (L : Type 0) : Type 0 where
  pub name : L
  pub type : ℕ
  pub body : Expr L

abbrev pub Normal : ℕ
Normal = 0

abbrev pub Atomic : ℕ
Atomic = 2

abbrev pub CompoundAtomic : ℕ
CompoundAtomic = 3

abbrev pub NonAtomic : ℕ
NonAtomic = 4

abbrev pub Table : Type 0 → Type 0
Table L = List (Rule L)

-- what a table is lent or answered as
pub record Words : Type 0 where
  pub rules : List ℕ
  pub rows : List ℕ
  pub text : Bytes

-- "a rule is four words: name offset, name length, type, number of rows"
abbrev pub rule_head : Span → (type rows : ℕ) → List ℕ
rule_head s y n = s.0 ∷ s.1 ∷ y ∷ n ∷ []

abbrev pub rule_words : Table Span → List ℕ
rule_words [] = []
rule_words (r ∷ rs) = rule_head r.name r.type (size r.body) ++ rule_words rs

-- "rules' rows follow each other in rule order"
abbrev pub row_words : Table Span → List ℕ
row_words [] = []
row_words (r ∷ rs) = flat r.body ++ row_words rs

abbrev pub row_count : {L : Type 0} → Table L → ℕ
row_count [] = 0
row_count (r ∷ rs) = size r.body + row_count rs

abbrev pub resolve_rule : Bytes → Rule Span → Rule Bytes
resolve_rule text r = record { name = bytes_at text r.name; type = r.type; body = resolve text r.body }

abbrev pub resolve_table : Bytes → Table Span → Table Bytes
resolve_table text t = map (resolve_rule text) t

-- packed text: "for each rule its name, then the literals of its rows"
abbrev pub rule_text : Rule Bytes → Bytes
rule_text r = r.name ++ text_of r.body

abbrev pub table_text : Table Bytes → Bytes
table_text [] = []
table_text (r ∷ rs) = rule_text r ++ table_text rs

abbrev pub packed_rule : ℕ → Rule Bytes → Rule Span
packed_rule o r = record { name = (o, length r.name); type = r.type; body = packed (o + length r.name) r.body }

abbrev pub packed_from : ℕ → Table Bytes → Table Span
packed_from o [] = []
packed_from o (r ∷ rs) = packed_rule o r ∷ packed_from (o + length (rule_text r)) rs

-- the answer's layout: packed from offset 0
abbrev pub words_of : Table Bytes → Words
words_of t = record { rules = rule_words (packed_from 0 t); rows = row_words (packed_from 0 t); text = table_text t }

-- the expression of the rule with that name
abbrev pub find : Table Bytes → Bytes → Option E
find [] x = none
find (r ∷ rs) x = cond (same_bytes r.name x) (some r.body) (find rs x)
