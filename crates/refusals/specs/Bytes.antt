-- Refusals 4, 5 and 6 over words: tests of one rule or row, asked of each, and where a text has bytes above 127. Assumes nothing.
use Rattle.std.specs.Prelude.{◌≡◌, Bool, false, ◌||◌, cond, List, [], ◌∷◌, ℕ, ◌*◌, ◌/◌, ◌≤◌, ◌<◌, eqb, ltb, length, get_or}
use Rattle.grammar.specs.Numbers.{rule_width, last_ascii, k_range, k_ident, k_rep_exact, k_rep_max, k_rep_min_max}
use Rattle.grammar.specs.Basic.{Bytes, member}
use Rattle.grammar.specs.Refusals.{bad_span, reserved}
use Rattle.names.specs.Names.{name_of}

-- some rule or row passes the test of its first three words
abbrev pub any_four : (ℕ → ℕ → ℕ → Bool) → List ℕ → Bool
any_four p [] = false
any_four p (a ∷ []) = false
any_four p (a ∷ b ∷ []) = false
any_four p (a ∷ b ∷ c ∷ []) = false
any_four p (a ∷ b ∷ c ∷ d ∷ w) = p a b c || any_four p w

-- refusal 4 of a rule's name, and of a row: kinds 0, 1 and 3 are literals, kind 2 is a Range
abbrev pub bad_name : Bytes → ℕ → ℕ → ℕ → Bool
bad_name text o l y = bad_span text (o, l)

unfoldable pub bad_row : Bytes → ℕ → ℕ → ℕ → Bool
bad_row text k x y = cond (ltb k_ident k) false (cond (eqb k k_range) (ltb last_ascii x || ltb last_ascii y) (bad_span text (x, y)))

-- refusal 6 of a row: kinds 13 and 15 count by x, 16 by y
unfoldable pub zero_row : ℕ → ℕ → ℕ → Bool
zero_row k x y = cond (eqb k k_rep_exact) (eqb x 0) (cond (eqb k k_rep_max) (eqb x 0) (cond (eqb k k_rep_min_max) (eqb y 0) false))

-- the first byte above 127 from p on is at r, or there is none and r is the end
pub record High (text : Bytes) (p r : ℕ) : Type 0 where
  pub from : p ≤ r
  pub within : r ≤ length text
  pub low : (j : ℕ) → p ≤ j → j < r → get_or text j 0 ≤ 127
  pub high : r < length text → 127 < get_or text r 0

-- so many bytes a word of the marks stands for
abbrev pub stretch : ℕ
stretch = 64

-- word b of the marks is where the first byte above 127 from 64 b on is
pub record Indexed (text : Bytes) (marks : List ℕ) : Type 0 where
  pub long : length text ≤ length marks * stretch
  pub at : (b : ℕ) → b * stretch < length text → High text (b * stretch) (get_or marks b 0)

-- rule i's name is not reserved, and no earlier rule has it
pub record NameFree (rules : List ℕ) (text : Bytes) (i : ℕ) : Type 0 where
  pub free : member (name_of rules text i) reserved ≡ false
  pub apart : (j : ℕ) → j < i → name_of rules text j ≡ name_of rules text i → ⊥

-- refusal 5 does not hold: no name is reserved, and no two are equal
abbrev pub NamesFine : List ℕ → Bytes → Type 0
NamesFine rules text = (i : ℕ) → i < length rules / rule_width → NameFree rules text i
