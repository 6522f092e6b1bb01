-- What ends a node of two children that were just written. Assumes nothing.
use Rattle.std.specs.Prelude.{◌≡◌, Bool, true, false, cond, List, ℕ, ◌+◌, ◌-◌, ◌*◌, ◌/◌, ◌^◌, ◌≤◌, ◌<◌, length, ltb, eqb}
use Rattle.grammar.specs.Numbers.{row_width, k_seq}
use Rattle.grammar.specs.Rows.{row}
use Rattle.writing.specs.Writes.{stored}
use Rattle.writing.specs.declared.Place.{Place}

-- a node of kind k over roots of the kinds a and b is one literal: a Seq of two Str, or of two Insens
unfoldable pub joins_of : ℕ → ℕ → ℕ → Bool
joins_of k a b = cond (eqb k k_seq) (cond (ltb a 2) (eqb a b) false) false

-- the first child stands from p to q and the second from q to s, there is room for a row, and counts and offsets are words
pub record Order (p q s : Place) (o : List ℕ) : Type 0 where
  pub first : p.rows < q.rows
  pub second : q.rows < s.rows
  pub room : s.rows < length o / row_width
  pub words : length o < 2 ^ 32
  pub text : p.text ≤ s.text
  pub bytes : s.text < 2 ^ 32

-- one literal's row in the place of both children
pub record OneLit (a p s : Place) (k : ℕ) (o o' : List ℕ) : Type 0 where
  pub rows : a.rows ≡ p.rows + 1
  pub text : a.text ≡ s.text
  pub words : o' ≡ stored o (p.rows * row_width) (row (k, p.text, s.text - p.text) 1)

-- the node's own row after them
pub record OwnRow (a p s : Place) (k : ℕ) (o o' : List ℕ) : Type 0 where
  pub rows : a.rows ≡ s.rows + 1
  pub text : a.text ≡ s.text
  pub words : o' ≡ stored o (s.rows * row_width) (row (k, 0, 0) (s.rows - p.rows + 1))

abbrev pub Ended : Bool → Place → Place → Place → ℕ → ℕ → (o o' : List ℕ) → Type 0
Ended true a p s k l o o' = OneLit a p s l o o'
Ended false a p s k l o o' = OwnRow a p s k o o'
