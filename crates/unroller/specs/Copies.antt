-- Copies of a tree that stands in the areas themselves, and trees laid one after another. Assumes nothing.
use Rattle.std.specs.Prelude.{◌≡◌, false, List, [], ◌++◌, ℕ, zero, suc, ◌+◌, ◌-◌, ◌*◌, ◌/◌, ◌^◌, ◌≤◌, ◌<◌, length}
use Rattle.grammar.specs.Numbers.{row_width}
use Rattle.grammar.specs.Tree.{Head, Un, E, un_head, size}
use Rattle.grammar.specs.Rows.{row}
use Rattle.grammar.specs.Text.{bytes_at, text_of, packed}
use Rattle.grammar.specs.Refusals.{zero_un}
use Rattle.rows.specs.declared.Shape.{Shape}
use Rattle.rows.specs.declared.Shape.TheVariants.{Lit, Num, One, Two, Skips}
use Rattle.rows.specs.Rows.{kind_at, x_at, y_at, size_at, shape_of, At}
use Rattle.chains.specs.Chains.{sizes, flats, texts, packs}
use Rattle.writing.specs.declared.Place.{Place}
use Rattle.unroller.specs.declared.Item.{Item}
use Rattle.unroller.specs.declared.Item.TheVariants.{Once, Maybe, Many}
use Rattle.unroller.specs.declared.Items.{Items}
use Rattle.unroller.specs.Items.{item_of, items_of, count_of}
use Rattle.writing.specs.Writes.{Areas, Fit, Put, Fits}

-- the x word of a row that is moved with its text by d: an offset moves, a number does not
abbrev pub moved_by : Shape → ℕ → ℕ → ℕ
moved_by Lit d x = x + d
moved_by Num d x = x
moved_by One d x = x
moved_by Two d x = x
moved_by Skips d x = x

-- row i, moved by d
unfoldable pub moved_row : ℕ → List ℕ → ℕ → List ℕ
moved_row d w i = row (kind_at w i, moved_by (shape_of (kind_at w i)) d (x_at w i), y_at w i) (size_at w i)

-- n rows from row i on, moved by d
abbrev pub moved : ℕ → List ℕ → ℕ → ℕ → List ℕ
moved d w i zero = []
moved d w i (suc n) = moved d w i n ++ moved_row d w (i + n)

-- an offset that is moved stays a word
abbrev pub Movable : ℕ → List ℕ → ℕ → Type 0
Movable d w i = shape_of (kind_at w i) ≡ Lit → x_at w i + d < 2 ^ 32

-- the packed tree e stands in the areas o and t, from p to q
pub record Source (p q : Place) (e : E) (o t : List ℕ) : Type 0 where
  pub rows : q.rows ≡ p.rows + size e
  pub text : q.text ≡ p.text + length (text_of e)
  pub at : At o (q.rows - 1) (packed p.text e)
  pub bytes : bytes_at t (p.text, length (text_of e)) ≡ text_of e
  pub within : q.text ≤ length t

-- an item of it can be written at `at`, behind it
pub record Copyable (p q at : Place) (i : Item) (o t : List ℕ) : Type 0 where
  pub tree : E
  pub source : Source p q tree o t
  pub behind : q.rows ≤ at.rows
  pub beyond : q.text ≤ at.text
  pub fits : Fits at (item_of i tree) o t
  pub areas : Areas o t

-- so can n items
pub record Repeatable (p q at : Place) (n : ℕ) (i : Item) (o t : List ℕ) : Type 0 where
  pub tree : E
  pub source : Source p q tree o t
  pub behind : q.rows ≤ at.rows
  pub beyond : q.text ≤ at.text
  pub fits : Fit at (n * size (item_of i tree)) (n * length (text_of tree)) o t
  pub areas : Areas o t

-- the items of a repeat of it fit, from p on
pub record Layable (p q : Place) (n : Items) (o t : List ℕ) : Type 0 where
  pub tree : E
  pub source : Source p q tree o t
  pub least : 1 ≤ count_of n
  pub fits : Fit p (sizes (items_of n tree)) (length (texts (items_of n tree))) o t
  pub areas : Areas o t

-- it can be repeated, if there is room
pub record Spreadable (p q : Place) (n : Items) (o t : List ℕ) : Type 0 where
  pub tree : E
  pub source : Source p q tree o t
  pub least : 1 ≤ count_of n
  pub most : count_of n ≤ 2 ^ 32
  pub areas : Areas o t

-- kind, x and y are those of a node with one child, whose count is not a zero that refusal 6 forbids, over the tree from p to q
pub record Headed (p q : Place) (h : Head) (o t : List ℕ) : Type 0 where
  pub op : Un
  pub is : h ≡ un_head op
  pub counts : zero_un op ≡ false
  pub tree : E
  pub source : Source p q tree o t
  pub areas : Areas o t

-- the rows of an item behind the tree itself
abbrev pub behind_of : Item → ℕ
behind_of Once = 0
behind_of Maybe = 1
behind_of Many = 1

pub record Finishable (p q : Place) (i : Item) (o : List ℕ) : Type 0 where
  pub least : p.rows ≤ q.rows
  pub most : q.rows + behind_of i ≤ length o / row_width
  pub words : length o < 2 ^ 32

-- the packed trees es stand one after another from p to q, and nothing else of the areas has changed
abbrev pub Laid : Place → Place → List E → (o o' t t' : List ℕ) → Type 0
Laid q p es o o' t t' = Put q p (sizes es) (flats (packs p.text es)) (texts es) o o' t t'
