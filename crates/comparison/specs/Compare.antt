-- Two tables side by side (02, No. 1): the list of their differences, and the whole answer. Assumes nothing.
use Rattle.std.specs.Prelude.{Bool, ◌||◌, not, cond, List, [], ◌∷◌, ◌++◌, ℕ, suc, ◌*◌, length, eqb, ltb}
use Rattle.std.proofs.Math.Option.{Option, none, some}
use Rattle.std.proofs.Math.Decide.{ℕ_discrete}
use Rattle.grammar.specs.Basic.{Bytes, holds, bytes_discrete, same_bytes, member}
use Rattle.grammar.specs.Numbers.{refused_area}
use Rattle.grammar.specs.Table.{Rule, Table, Words}
use Rattle.grammar.specs.Reading.{read_table}
use Rattle.grammar.specs.Refusals.{short_marks, names}
use Rattle.grammar.specs.Optimize.{over}
use Rattle.rows.specs.Rows.{Cell, Cell-discrete, cells}
use Rattle.refusals.specs.Check.{lowest, table_of}

-- "each rule found only left, each with another type, each common rule whose trees differ with the first differing row; rules found only right"
pub data Entry : Type 0 where
  only_left : (left : ℕ) → Entry
  other_type : (left right : ℕ) → Entry
  other_tree : (left right row : ℕ) → Entry
  only_right : (right : ℕ) → Entry

-- an entry is four words: sort, left rule, right rule, row; unused words 0
abbrev pub entry_width : ℕ
entry_width = 4

abbrev pub entry_words : Entry → List ℕ
entry_words (only_left i) = 0 ∷ i ∷ 0 ∷ 0 ∷ []
entry_words (other_type i j) = 1 ∷ i ∷ j ∷ 0 ∷ []
entry_words (other_tree i j k) = 2 ∷ i ∷ j ∷ k ∷ []
entry_words (only_right j) = 3 ∷ 0 ∷ j ∷ 0 ∷ []

abbrev pub list_words : List Entry → List ℕ
list_words [] = []
list_words (e ∷ es) = entry_words e ++ list_words es

-- two rows are the same but for size and offset
unfoldable pub cell_discrete : Discrete Cell
unfolding bytes_discrete ℕ_discrete
cell_discrete = Cell-discrete ℕ_discrete bytes_discrete

unfoldable pub same_cell : Cell → Cell → Bool
unfolding cell_discrete
same_cell c d = holds (cell_discrete c d)

-- "the first differing row in postfix order, or the shorter one's size if it is a prefix"
abbrev pub later : Option ℕ → Option ℕ
later none = none
later (some k) = some (suc k)

unfoldable pub first_unlike : List Cell → List Cell → Option ℕ
unfolding same_cell
first_unlike [] [] = none
first_unlike [] (d ∷ ds) = some 0
first_unlike (c ∷ cs) [] = some 0
first_unlike (c ∷ cs) (d ∷ ds) = cond (same_cell c d) (later (first_unlike cs ds)) (some 0)

-- the rule with that name, and its number; the first has number j
abbrev pub lookup : (j : ℕ) → Table Bytes → Bytes → Option (ℕ × Rule Bytes)
lookup j [] x = none
lookup j (s ∷ ss) x = cond (same_bytes s.name x) (some (j, s)) (lookup (suc j) ss x)

-- "type entry first"
abbrev pub tree_entry : (i j : ℕ) → Option ℕ → List Entry
tree_entry i j none = []
tree_entry i j (some k) = other_tree i j k ∷ []

abbrev pub type_entry : (i j : ℕ) (type type' : ℕ) → List Entry
type_entry i j type type' = cond (eqb type type') [] (other_type i j ∷ [])

unfoldable pub common_entries : (i j : ℕ) → Rule Bytes → Rule Bytes → List Entry
unfolding first_unlike
common_entries i j r s = type_entry i j r.type s.type ++ tree_entry i j (first_unlike (cells r.body) (cells s.body))

abbrev pub rule_entries : (i : ℕ) → Rule Bytes → Option (ℕ × Rule Bytes) → List Entry
rule_entries i r none = only_left i ∷ []
rule_entries i r (some (j, s)) = common_entries i j r s

-- the left rules in their order, the first with number i; then those of the right ones, the first with number j, that are not found left
abbrev pub left_entries : (i : ℕ) (left right : Table Bytes) → List Entry
left_entries i [] right = []
left_entries i (r ∷ rs) right = rule_entries i r (lookup 0 right r.name) ++ left_entries (suc i) rs right

abbrev pub right_entries : (left : Table Bytes) (j : ℕ) (right : Table Bytes) → List Entry
right_entries left j [] = []
right_entries left j (s ∷ ss) = cond (member s.name (names left)) [] (only_right j ∷ []) ++ right_entries left (suc j) ss

unfoldable pub compare : (left right : Table Bytes) → List Entry
unfolding common_entries
compare left right = left_entries 0 left right ++ right_entries left 0 right

-- What the caller gets: number, whose it is (0 left, 1 right; 0 where no table is refused), the number of entries; and the list afterwards
pub record Compared : Type 0 where
  pub number : ℕ
  pub side : ℕ
  pub count : ℕ
  pub list : List ℕ

-- a refusal changes nothing, and past the entries the list stays as it was
abbrev pub refused : (number side : ℕ) (list : List ℕ) → Compared
refused n s list = record { number = n; side = s; count = 0; list = list }

abbrev pub listed : List Entry → List ℕ → Compared
listed es list = record { number = 0; side = 0; count = length es; list = over (list_words es) list }

-- "a lent list under 512 entries is refusal 1", and so are marks below full size
abbrev pub max_entries : ℕ
max_entries = 512

abbrev pub full_list : ℕ
full_list = entry_width * max_entries

-- "then 2 to 6 for the two tables, the left one's first"
unfoldable pub compare_words : (left right : Words) (list left_marks right_marks : List ℕ) → Compared
unfolding compare lowest read_table
compare_words left right list left_marks right_marks =
    cond (ltb (length list) full_list || (short_marks left_marks || short_marks right_marks)) (refused refused_area 0 list)
    (cond (not (eqb (lowest left) 0)) (refused (lowest left) 0 list)
    (cond (not (eqb (lowest right) 0)) (refused (lowest right) 1 list) (listed (compare (table_of left) (table_of right)) list)))
