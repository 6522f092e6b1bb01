-- The literal of a row, test by test. Assumes nothing.
use Rattle.std.specs.Prelude.{None}
use mathlib.Core.Path.{◌≡◌, refl, sym, ap, ◌∙◌}
use mathlib.Core.Bool.{Bool, true, false, ◌&&◌, cond}
use mathlib.Core.List.{List}
use Prim.Native.Nat.{ℕ, ◌+◌, ◌*◌, ◌/◌, ◌≤◌, ◌<◌}
use native.Mathlib.Decide.{dec_le}
use native.Mathlib.Omega.{arith}
use borrow.Author.Tests.{ltb-true, ltb-false, lt-ltb, le-ltb, le-leb, lt-leb}
use lib.Dec.{eqb, ltb, leb}
use lib.ListN.{length, get_or}
use Rattle.grammar.specs.Basic.{Bytes}
use Rattle.grammar.specs.Numbers.{rule_width, rows_word, row_width}
use Rattle.grammar.specs.Text.{bytes_at}
use Rattle.grammar.specs.Table.{Words}
use Rattle.rows.specs.Rows.{row_at}
use Rattle.rows.proofs.Laws.{Found, row_there}
use Rattle.names.specs.Names.{rows_before}
use Rattle.comparison.specs.Shown.{Shown, nothing, is_lit, lit_at, shown_in, shown, bytes_of}
use Rattle.comparison.proofs.Inside.{shown_inside}
use Rattle.comparer.specs.Shows.{Begins}

-- ---- a row

pub lit_past : (w : List ℕ) (t : Bytes) (i : ℕ) → length w / row_width ≤ i → lit_at w t i ≡ nothing
unfolding lit_at
lit_past w t i h = rw (le-ltb i (length w / row_width) h)

pub lit_none : (w : List ℕ) (t : Bytes) (i : ℕ) → row_at w i ≡ None → lit_at w t i ≡ nothing
lit_none w t i h = go (ltb i (length w / row_width)) refl
  where
    go : (b : Bool) → ltb i (length w / row_width) ≡ b → lit_at w t i ≡ nothing
    go true e = absurd (row_there w i (ltb-true _ _ e) h)
    go false e = lit_past w t i (ltb-false i (length w / row_width) e)

-- a row that was read
module _ {w : List ℕ} (t : Bytes) {i k x y n : ℕ} (f : Found w i k x y n) where
  lit_with : lit_at w t i ≡ cond (is_lit k && leb (x + y) (length t)) (record { found = 1; offset = x; length' = y }) nothing
  unfolding lit_at
  lit_with = rw (lt-ltb i (length w / row_width) f.within, f.kind, f.x, f.y)

  pub lit_other : is_lit k ≡ false → lit_at w t i ≡ nothing
  lit_other h = lit_with ∙ rw h

  pub lit_outside : length t < x + y → lit_at w t i ≡ nothing
  lit_outside h = lit_with ∙ go (is_lit k)
    where
      go : (b : Bool) → cond (b && leb (x + y) (length t)) (record { found = 1; offset = x; length' = y }) nothing ≡ nothing
      go true = rw (lt-leb (x + y) (length t) h)
      go false = refl

  pub lit_there : is_lit k ≡ true → x + y ≤ length t → lit_at w t i ≡ record { found = 1; offset = x; length' = y }
  lit_there h l = lit_with ∙ rw (h, le-leb (x + y) (length t) l)

-- ---- a row of a rule

module _ (w : Words) (rule row : ℕ) where
  pub row_of : {r : ℕ} → rule < length w.rules / rule_width → row < get_or w.rules (rule * rule_width + rows_word) 0 → Begins w.rules rule (length w.rows / row_width) r → lit_at w.rows w.text (r + row) ≡ shown_in w rule row
  unfolding shown_in
  row_of {r} h k b =
      rw (lt-ltb rule (length w.rules / rule_width) h, lt-ltb row (get_or w.rules (rule * rule_width + rows_word) 0) k) (go (dec_le (rows_before w.rules rule) (length w.rows / row_width)))
    where
      go : Dec (rows_before w.rules rule ≤ length w.rows / row_width) → lit_at w.rows w.text (r + row) ≡ lit_at w.rows w.text (rows_before w.rules rule + row)
      go (yes l) = ap (λ (n : ℕ). lit_at w.rows w.text (n + row)) (b.there l)
      go (no l) = lit_past w.rows w.text (r + row) (omega (arith, b.past (omega (arith, l)))) ∙ sym (lit_past w.rows w.text (rows_before w.rules rule + row) (omega (arith, l)))

-- ---- the side

module _ (left right : Words) (side rule row : ℕ) where
  -- what is shown is a part of that side's text
  module _ {text : Bytes} {s : Shown} (t : text ≡ cond (eqb side 0) left.text right.text) (e : s ≡ shown left right side rule row) where
    pub part_inside : s.offset + s.length' ≤ length text
    part_inside = rw (t, e) (shown_inside left right side rule row)

    pub part_bytes : bytes_at text (s.offset, s.length') ≡ bytes_of left right side rule row
    unfolding bytes_of
    part_bytes = rw (t, e) refl
