-- What is written at a place of two lent areas, exactly: a row, a literal, a tree. The areas are o and t before, o' and t' after; what they
-- hold is what fits: o takes a row for each four of its words, t a byte for each of its own. Assumes nothing.
use Rattle.std.specs.Prelude.{◌≡◌, List, ℕ, ◌+◌, ◌*◌, ◌/◌, ◌^◌, ◌≤◌, ◌<◌, length, None, Option, Some}
use Rattle.std.proofs.lemmas.List.Edits.{sets}
use Rattle.grammar.specs.Numbers.{row_width}
use Rattle.grammar.specs.Basic.{Bytes}
use Rattle.grammar.specs.Tree.{Head, E, size}
use Rattle.grammar.specs.Rows.{Span, row, str_rows, flat}
use Rattle.grammar.specs.Text.{joined, text_of, spans, packed}
use Rattle.rows.specs.Rows.{AtStrs}
use Rattle.writing.specs.declared.Place.{Place}

-- the area o with vs stored from index i on, and all else as it was
unfoldable pub stored : List ℕ → ℕ → List ℕ → List ℕ
stored o i vs = sets o i vs

-- areas whose offsets and counts are words
pub record Areas (o t : List ℕ) : Type 0 where
  pub words : length o < 2 ^ 32
  pub bytes : length t < 2 ^ 32

-- a place within such areas
pub record Room (p : Place) (o t : List ℕ) : Type 0 where
  pub rows : p.rows ≤ length o / row_width
  pub text : p.text ≤ length t
  pub areas : Areas o t

-- n rows and m bytes fit at p
pub record Fit (p : Place) (n m : ℕ) (o t : List ℕ) : Type 0 where
  pub rows : p.rows + n ≤ length o / row_width
  pub text : p.text + m ≤ length t

-- n rows of the words ws and the text bs stand from p on, and nothing else of the areas has changed; q is the place after them
pub record Put (q p : Place) (n : ℕ) (ws bs o o' t t' : List ℕ) : Type 0 where
  pub fits : Fit p n (length bs) o t
  pub rows : q.rows ≡ p.rows + n
  pub text : q.text ≡ p.text + length bs
  pub words : o' ≡ stored o (p.rows * row_width) ws
  pub bytes : t' ≡ stored t p.text bs

-- done where they fit, and full where they do not
abbrev pub PutAnswer : Option Place → Place → ℕ → (ws bs o o' t t' : List ℕ) → Type 0
PutAnswer (Some q) p n ws bs o o' t t' = Put q p n ws bs o o' t t'
PutAnswer None p n ws bs o o' t t' = Fit p n (length bs) o t → ⊥

-- one row, its head h and its size word n, that leaves the text as it is
pub record RowPut (q p : Place) (h : Head) (n : ℕ) (o o' : List ℕ) : Type 0 where
  pub room : p.rows < length o / row_width
  pub rows : q.rows ≡ p.rows + 1
  pub text : q.text ≡ p.text
  pub words : o' ≡ stored o (p.rows * row_width) (row h n)

abbrev pub RowAnswer : Option Place → Place → Head → ℕ → (o o' : List ℕ) → Type 0
RowAnswer (Some q) p h n o o' = RowPut q p h n o o'
RowAnswer None p h n o o' = p.rows < length o / row_width → ⊥

-- a literal of kind k with the bytes s
abbrev pub LitAnswer : Option Place → Place → ℕ → (s o o' t t' : List ℕ) → Type 0
LitAnswer a p k s o o' t t' = PutAnswer a p 1 (row (k, p.text, length s) 1) s o o' t t'

-- the Str rows of the strings ss
abbrev pub StrsAnswer : Option Place → Place → List Bytes → (o o' t t' : List ℕ) → Type 0
StrsAnswer a p ss o o' t t' = PutAnswer a p (length ss) (str_rows (spans p.text ss)) (joined ss) o o' t t'

-- k strings stand from row j on
pub record StandStrs (w : List ℕ) (j k : ℕ) : Type 0 where
  pub strings : List Span
  pub at : AtStrs w j strings
  pub count : length strings ≡ k

-- the tree e fits at p
pub record Fits (p : Place) (e : E) (o t : List ℕ) : Type 0 where
  pub rows : p.rows + size e ≤ length o / row_width
  pub text : p.text + length (text_of e) ≤ length t

-- the packed tree e stands from p on, and nothing else of the areas has changed; q is the place after it
pub record Written (q p : Place) (e : E) (o o' t t' : List ℕ) : Type 0 where
  pub fits : Fits p e o t
  pub rows : q.rows ≡ p.rows + size e
  pub text : q.text ≡ p.text + length (text_of e)
  pub words : o' ≡ stored o (p.rows * row_width) (flat (packed p.text e))
  pub bytes : t' ≡ stored t p.text (text_of e)

-- the answer of a step that can grow: done where the tree fits, and full where it does not
abbrev pub Answer : Option Place → Place → E → (o o' t t' : List ℕ) → Type 0
Answer (Some q) p e o o' t t' = Written q p e o o' t t'
Answer None p e o o' t t' = Fits p e o t → ⊥
