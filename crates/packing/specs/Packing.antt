-- A sum over words in fours, and areas that hold a table up to a place. Assumes nothing.
use Rattle.std.specs.Prelude.{cond, List, [], ◌∷◌, ℕ, ◌+◌, ◌*◌, ◌≤◌, eqb, ltb, length}
use Rattle.grammar.specs.Numbers.{row_width, k_range, k_ident}
use Rattle.writing.specs.declared.Place.{Place}

-- the sum over rules or rows of something of their first three words
abbrev pub sum_four : (ℕ → ℕ → ℕ → ℕ) → List ℕ → ℕ
sum_four f [] = 0
sum_four f (a ∷ []) = 0
sum_four f (a ∷ b ∷ []) = 0
sum_four f (a ∷ b ∷ c ∷ []) = 0
sum_four f (a ∷ b ∷ c ∷ d ∷ w) = f a b c + sum_four f w

-- the length of a rule's name: its second word
abbrev pub name_length : ℕ → ℕ → ℕ → ℕ
name_length x n y = n

-- the length of a row's literal, which kinds 0, 1 and 3 have
unfoldable pub lit_length : ℕ → ℕ → ℕ
lit_length k y = cond (ltb k k_range) y (cond (eqb k k_ident) y 0)

abbrev pub row_length : ℕ → ℕ → ℕ → ℕ
row_length k x y = lit_length k y

-- n words of rules, and rows and text up to p, are in the areas hs, ws, s and have room in the areas os, o, l
pub record Covers (n : ℕ) (p : Place) (hs ws s os o l : List ℕ) : Type 0 where
  pub heads : n ≤ length hs
  pub rows : p.rows * row_width ≤ length ws
  pub text : p.text ≤ length s
  pub out_rules : n ≤ length os
  pub out_rows : p.rows * row_width ≤ length o
  pub out_text : p.text ≤ length l
