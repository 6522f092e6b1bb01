-- Two trees that were just written one after the other, and rows moved past them. Assumes nothing.
use Rattle.std.specs.Prelude.{◌≡◌, List, ◌++◌, ℕ, ◌+◌, ◌-◌, ◌*◌, ◌/◌, ◌≤◌, ◌<◌, length, take, drop, None, Option, Some}
use Rattle.grammar.specs.Numbers.{row_width, k_seq, k_rep}
use Rattle.grammar.specs.Tree.{E, size}
use Rattle.grammar.specs.Rows.{row, flat}
use Rattle.grammar.specs.Text.{text_of, packed}
use Rattle.writing.specs.declared.Place.{Place}
use Rattle.writing.specs.Writes.{Areas}

-- the packed trees e and f stand from p to q and from q to s, and there is room for a row more
pub record Pair (p q s : Place) (e f : E) (o t : List ℕ) : Type 0 where
  pub rows₁ : q.rows ≡ p.rows + size e
  pub text₁ : q.text ≡ p.text + length (text_of e)
  pub rows₂ : s.rows ≡ q.rows + size f
  pub text₂ : s.text ≡ q.text + length (text_of f)
  pub words : take (s.rows * row_width) o ≡ take (p.rows * row_width) o ++ (flat (packed p.text e) ++ flat (packed q.text f))
  pub bytes : take s.text t ≡ take p.text t ++ (text_of e ++ text_of f)
  pub room : s.rows < length o / row_width
  pub end : s.text ≤ length t

-- some such trees
pub record Pairs (p q s : Place) (o t : List ℕ) : Type 0 where
  pub left : E
  pub right : E
  pub pair : Pair p q s left right o t
  pub areas : Areas o t

-- where a run of rows may be moved up to two rows before it
pub record Movable (from end : ℕ) (o : List ℕ) : Type 0 where
  pub before : 2 ≤ from
  pub some : from ≤ end
  pub room : end < length o / row_width

-- the rows from `from` to s stand two rows earlier, and after them a Seq row and a Rep row of n and n + 1 rows and a Seq row of m
pub record Mended (a s : Place) (from n m : ℕ) (o o' : List ℕ) : Type 0 where
  pub rows : a.rows ≡ s.rows + 1
  pub text : a.text ≡ s.text
  pub words : take (a.rows * row_width) o' ≡ take ((from - 2) * row_width) o ++ (take ((s.rows - from) * row_width) (drop (from * row_width) o) ++ (row (k_seq, 0, 0) n ++ (row (k_rep, 0, 0) (n + 1) ++ row (k_seq, 0, 0) m)))

abbrev pub MendedAnswer : Option Place → Place → ℕ → ℕ → ℕ → List ℕ → List ℕ → Type 0
MendedAnswer (Some a) s from n m o o' = Mended a s from n m o o'
MendedAnswer None s from n m o o' = ⊥
