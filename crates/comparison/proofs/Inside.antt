-- The literal that is shown lies in the text of the asked side. Assumes nothing.
use mathlib.Core.Path.{◌≡◌, refl}
use mathlib.Core.Bool.{Bool, true, false, ◌&&◌, cond}
use mathlib.Core.List.{List}
use Prim.Native.Nat.{ℕ, ◌+◌, ◌*◌, ◌/◌, ◌≤◌}
use native.Mathlib.Omega.{arith}
use borrow.Author.Tests.{leb-true}
use lib.Dec.{eqb, ltb, leb}
use lib.ListN.{length, get_or}
use Rattle.grammar.specs.Basic.{Bytes}
use Rattle.grammar.specs.Numbers.{rule_width, rows_word, row_width}
use Rattle.grammar.specs.Table.{Words}
use Rattle.rows.specs.Rows.{kind_at, x_at, y_at}
use Rattle.names.specs.Names.{rows_before}
use Rattle.comparison.specs.Shown.{nothing, is_lit, lit_at, shown_in, shown}

-- a row's literal, a rule's, a side's
lit_inside : (w : List ℕ) (t : Bytes) (i : ℕ) → (lit_at w t i).offset + (lit_at w t i).length' ≤ length t
unfolding lit_at
lit_inside w t i = go (ltb i (length w / row_width)) (is_lit (kind_at w i)) (leb (x_at w i + y_at w i) (length t)) refl
  where
    go : (a b c : Bool) → leb (x_at w i + y_at w i) (length t) ≡ c → (let s = cond (a && (b && c)) (record { found = 1; offset = x_at w i; length' = y_at w i }) nothing in s.offset + s.length' ≤ length t)
    go true true true e = leb-true (x_at w i + y_at w i) (length t) e
    go true true false e = omega arith
    go true false c e = omega arith
    go false b c e = omega arith

pub in_inside : (w : Words) (rule row : ℕ) → (shown_in w rule row).offset + (shown_in w rule row).length' ≤ length w.text
unfolding shown_in
in_inside w rule row = go (ltb rule (length w.rules / rule_width) && ltb row (get_or w.rules (rule * rule_width + rows_word) 0))
  where
    go : (b : Bool) → (let s = cond b (lit_at w.rows w.text (rows_before w.rules rule + row)) nothing in s.offset + s.length' ≤ length w.text)
    go true = lit_inside w.rows w.text (rows_before w.rules rule + row)
    go false = omega arith

pub shown_inside : (left right : Words) (side rule row : ℕ) → (shown left right side rule row).offset + (shown left right side rule row).length' ≤ length (cond (eqb side 0) left.text right.text)
unfolding shown
shown_inside left right side rule row = go (eqb side 0) (eqb side 1)
  where
    go : (a b : Bool) → (let s = cond a (shown_in left rule row) (cond b (shown_in right rule row) nothing) in s.offset + s.length' ≤ length (cond a left.text right.text))
    go true b = in_inside left rule row
    go false true = in_inside right rule row
    go false false = omega arith
