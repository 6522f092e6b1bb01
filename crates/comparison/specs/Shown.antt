-- The literal at a row of a rule of the asked side, as a part of that side's text, on any words (02, No. 1). Assumes nothing.
use Rattle.std.specs.Prelude.{Bool, ◌&&◌, ◌||◌, cond, List, ℕ, ◌+◌, ◌*◌, ◌/◌, length, get_or, eqb, ltb, leb}
use Rattle.grammar.specs.Basic.{Bytes}
use Rattle.grammar.specs.Numbers.{rule_width, rows_word, row_width, k_str, k_insens, k_ident}
use Rattle.grammar.specs.Text.{bytes_at}
use Rattle.grammar.specs.Table.{Words}
use Rattle.rows.specs.Rows.{kind_at, x_at, y_at}
use Rattle.names.specs.Names.{rows_before}

-- 1 and the part, or zeros
pub record Shown : Type 0 where
  pub found : ℕ
  pub offset : ℕ
  pub length' : ℕ

abbrev pub nothing : Shown
nothing = record { found = 0; offset = 0; length' = 0 }

abbrev pub is_lit : ℕ → Bool
is_lit k = eqb k k_str || (eqb k k_insens || eqb k k_ident)

-- row i of the table's rows
unfoldable pub lit_at : (rows : List ℕ) (text : Bytes) (i : ℕ) → Shown
unfolding kind_at x_at y_at
lit_at rows text i =
    cond (ltb i (length rows / row_width) && (is_lit (kind_at rows i) && leb (x_at rows i + y_at rows i) (length text))) (record { found = 1; offset = x_at rows i; length' = y_at rows i }) nothing

-- "the rule's whole record there, row below that rule's own count, the counts before it added as whole numbers, the row's whole record there, kind
-- 0, 1 or 3, offset plus length within the text; nothing else is looked at"
unfoldable pub shown_in : Words → (rule row : ℕ) → Shown
unfolding lit_at
shown_in w rule row =
    cond (ltb rule (length w.rules / rule_width) && ltb row (get_or w.rules (rule * rule_width + rows_word) 0)) (lit_at w.rows w.text (rows_before w.rules rule + row)) nothing

unfoldable pub shown : (left right : Words) (side rule row : ℕ) → Shown
unfolding shown_in
shown left right side rule row = cond (eqb side 0) (shown_in left rule row) (cond (eqb side 1) (shown_in right rule row) nothing)

-- its bytes: those of the asked side's text, none where there is no such literal
unfoldable pub bytes_of : (left right : Words) (side rule row : ℕ) → Bytes
unfolding shown
bytes_of left right side rule row = let s = shown left right side rule row in bytes_at (cond (eqb side 0) left.text right.text) (s.offset, s.length')
