-- Trees one after the other, and the right-nested chain that they make. Assumes nothing.
use Rattle.std.specs.Prelude.{◌≡◌, List, [], ◌∷◌, ◌++◌, ℕ, ◌+◌, ◌*◌, ◌/◌, ◌^◌, ◌≤◌, ◌<◌, length, take, None, Option, Some}
use Rattle.grammar.specs.Numbers.{row_width}
use Rattle.grammar.specs.Basic.{Bytes}
use Rattle.grammar.specs.Tree.{Bin, bin_kind, Expr, E, bin, size}
use Rattle.grammar.specs.Rows.{Span, row, flat}
use Rattle.grammar.specs.Text.{text_of, packed}
use Rattle.writing.specs.Writes.{stored}
use Rattle.writing.specs.declared.Place.{Place}

-- the trees xs and then r, nested to the right under nodes b
abbrev pub chain : {L : Type 0} → Bin → List (Expr L) → Expr L → Expr L
chain b [] r = r
chain b (x ∷ xs) r = bin b x (chain b xs r)

-- trees that stand one after the other: their rows, their words, their packed text and how they are packed from offset o on
abbrev pub sizes : {L : Type 0} → List (Expr L) → ℕ
sizes [] = 0
sizes (x ∷ xs) = size x + sizes xs

abbrev pub flats : List (Expr Span) → List ℕ
flats [] = []
flats (x ∷ xs) = flat x ++ flats xs

abbrev pub texts : List E → Bytes
texts [] = []
texts (x ∷ xs) = text_of x ++ texts xs

abbrev pub packs : ℕ → List E → List (Expr Span)
packs o [] = []
packs o (x ∷ xs) = packed o x ∷ packs (o + length (text_of x)) xs

-- the rows that close a chain: after the trees xs and r, the nodes' own rows, the innermost first
abbrev pub closing : Bin → List (Expr Span) → Expr Span → List ℕ
closing b [] r = []
closing b (x ∷ xs) r = closing b xs r ++ row (bin_kind b, 0, 0) (size (chain b (x ∷ xs) r))

-- the trees xs and then r stand in the words o up to row i, after the words before
pub record Forest (o : List ℕ) (i : ℕ) (before : List ℕ) (xs : List (Expr Span)) (r : Expr Span) : Type 0 where
  pub words : take (i * row_width) o ≡ before ++ (flats xs ++ flat r)
  pub place : length before + (sizes xs + size r) * row_width ≡ i * row_width

-- n trees and one more stand in o up to row i, the words have room for n rows more, and their counts are words
pub record Closable (o : List ℕ) (i n : ℕ) : Type 0 where
  pub before : List ℕ
  pub trees : List (Expr Span)
  pub tree : Expr Span
  pub forest : Forest o i before trees tree
  pub count : length trees ≡ n
  pub room : i + n ≤ length o / row_width
  pub words : length o < 2 ^ 32

-- the chain is closed by the rows after s, and nothing else of the words has changed; q is the place after it
pub record Closed (q s : Place) (b : Bin) (xs : List (Expr Span)) (r : Expr Span) (o o' : List ℕ) : Type 0 where
  pub rows : q.rows ≡ s.rows + length xs
  pub text : q.text ≡ s.text
  pub words : o' ≡ stored o (s.rows * row_width) (closing b xs r)

-- never full: there is room
abbrev pub ClosedAnswer : Option Place → Place → Bin → List (Expr Span) → Expr Span → List ℕ → List ℕ → Type 0
ClosedAnswer (Some q) s b xs r o o' = Closed q s b xs r o o'
ClosedAnswer None s b xs r o o' = ⊥

-- a kind word of a node of two children
pub record IsBin (k : ℕ) : Type 0 where
  pub op : Bin
  pub is : k ≡ bin_kind op
