-- Rows of four words: what a lookup finds, where a tree stands, and what a row is up to its offset. Assumes nothing.
use Rattle.std.specs.Prelude.{◌≡◌, Option, Some, None, Bool, true, false, List, [], ◌∷◌, ◌++◌, ℕ, ◌+◌, ◌*◌, ◌/◌, ◌<◌, ◌≤◌, length, get_or, ltb, eqb}
use Rattle.grammar.specs.Numbers.{row_width, k_str, k_range, k_ident, k_pos_pred, k_seq, k_choice, k_skip}
use Rattle.grammar.specs.Basic.{Bytes}
use Rattle.grammar.specs.Tree.{Head, lit_kind, fixed_head, un_head, bin_kind, Expr, E, lit, fixed, skip, un, bin, size}
use Rattle.grammar.specs.Rows.{Span, str_rows, flat}
use Rattle.grammar.specs.Text.{bytes_at}
use Rattle.rows.specs.declared.Row.{Row}
use Rattle.rows.specs.declared.Shape.{Shape}
use Rattle.rows.specs.declared.Shape.TheVariants.{Lit, Num, One, Two, Skips}

-- the four words of row i
unfoldable pub kind_at : List ℕ → ℕ → ℕ
kind_at w i = get_or w (i * row_width) 0

unfoldable pub x_at : List ℕ → ℕ → ℕ
x_at w i = get_or w (i * row_width + 1) 0

unfoldable pub y_at : List ℕ → ℕ → ℕ
y_at w i = get_or w (i * row_width + 2) 0

unfoldable pub size_at : List ℕ → ℕ → ℕ
size_at w i = get_or w (i * row_width + 3) 0

abbrev pub pick_row : Bool → Row → Option Row
pick_row true r = Some r
pick_row false r = None

-- the four words of row i, as a row
abbrev pub row_of : List ℕ → ℕ → Row
row_of w i = record { kind = kind_at w i; x = x_at w i; y = y_at w i; size = size_at w i }

-- row i, where all four of its words are there
unfoldable pub row_at : List ℕ → ℕ → Option Row
row_at w i = pick_row (ltb i (length w / row_width)) (row_of w i)

-- the tree r stands in the words, with its root at row i
pub record At (w : List ℕ) (i : ℕ) (r : Expr Span) : Type 0 where
  pub before : List ℕ
  pub after : List ℕ
  pub whole : w ≡ before ++ (flat r ++ after)
  pub place : length before + size r * row_width ≡ i * row_width + row_width

-- the Str rows of the strings ss stand in the words from row j on
pub record AtStrs (w : List ℕ) (j : ℕ) (ss : List Span) : Type 0 where
  pub before : List ℕ
  pub after : List ℕ
  pub whole : w ≡ before ++ (str_rows ss ++ after)
  pub place : length before ≡ j * row_width

-- some tree stands there
pub record Stands (w : List ℕ) (i : ℕ) : Type 0 where
  pub tree : Expr Span
  pub at : At w i tree

-- what a row of a kind has: a literal, two numbers, one child, two children, strings
abbrev pub pick_shape : Bool → Shape → Shape → Shape
pick_shape true a b = a
pick_shape false a b = b

unfoldable pub shape_of : ℕ → Shape
shape_of k =
    pick_shape (ltb k k_range) Lit
    (pick_shape (eqb k k_ident) Lit
    (pick_shape (ltb k k_pos_pred) Num
    (pick_shape (eqb k k_seq) Two
    (pick_shape (eqb k k_choice) Two
    (pick_shape (eqb k k_skip) Skips One)))))

-- the literal of row i, if the row has one, lies in a text of n bytes
abbrev pub LitInside : List ℕ → ℕ → ℕ → Type 0
LitInside w n i = shape_of (kind_at w i) ≡ Lit → x_at w i + y_at w i ≤ n

-- every literal of the rows does
abbrev pub Inside : List ℕ → ℕ → Type 0
Inside w n = (i : ℕ) → i < length w / row_width → LitInside w n i

-- every literal of a tree does
abbrev pub AllWithin : ℕ → List Span → Type 0
AllWithin n [] = Unit {0}
AllWithin n (s ∷ ss) = (s.0 + s.1 ≤ n) × AllWithin n ss

abbrev pub Within : ℕ → Expr Span → Type 0
Within n (lit k s) = s.0 + s.1 ≤ n
Within n (fixed f) = Unit {0}
Within n (skip ss) = AllWithin n ss
Within n (un u e) = Within n e
Within n (bin b l r) = Within n l × Within n r

-- some tree stands there, and its literals lie in a text of n bytes
pub record StandsIn (w : List ℕ) (i n : ℕ) : Type 0 where
  pub tree : Expr Span
  pub at : At w i tree
  pub within : Within n tree

-- a row up to its offset: its kind, its numbers, its literal's bytes
pub data Cell : Type 0 where
  cell : ℕ → ℕ → ℕ → Bytes → Cell
  deriving Discrete as Cell-discrete

abbrev pub cell_by : Shape → Bytes → ℕ → ℕ → ℕ → Cell
cell_by Lit t k x y = cell k 0 0 (bytes_at t (x, y))
cell_by Num t k x y = cell k x y []
cell_by One t k x y = cell k x y []
cell_by Two t k x y = cell k x y []
cell_by Skips t k x y = cell k x y []

unfoldable pub cell_of : Bytes → ℕ → ℕ → ℕ → Cell
cell_of t k x y = cell_by (shape_of k) t k x y

-- row i of a table with the text t, up to its offset
unfoldable pub cell_at : Bytes → List ℕ → ℕ → Cell
cell_at t w i = cell_of t (kind_at w i) (x_at w i) (y_at w i)

-- the rows of a tree over bytes, in their order
abbrev pub str_cells : List Bytes → List Cell
str_cells [] = []
str_cells (s ∷ ss) = cell k_str 0 0 s ∷ str_cells ss

abbrev pub head_cell : Head → Cell
head_cell h = cell h.0 h.1 h.2 []

abbrev pub cells : E → List Cell
cells (lit k s) = cell (lit_kind k) 0 0 s ∷ []
cells (fixed f) = head_cell (fixed_head f) ∷ []
cells (skip ss) = str_cells ss ++ (head_cell (k_skip, length ss, 0) ∷ [])
cells (un u e) = cells e ++ (head_cell (un_head u) ∷ [])
cells (bin b l r) = cells l ++ (cells r ++ (head_cell (bin_kind b, 0, 0) ∷ []))

-- a bool tells whether P holds
abbrev pub Tells : Bool → Type 0 → Type 0
Tells true P = P
Tells false P = P → ⊥

-- so many bytes are compared at a time
abbrev pub block : ℕ
block = 32

-- of n bytes of one text from x and of another from y, r are the same before the first that is not
pub record Unlike (t : Bytes) (x : ℕ) (u : Bytes) (y n r : ℕ) : Type 0 where
  pub most : r ≤ n
  pub same : (k : ℕ) → k < r → get_or t (x + k) 0 ≡ get_or u (y + k) 0
  pub unlike : r < n → get_or t (x + r) 0 ≡ get_or u (y + r) 0 → ⊥
