-- Step 2 with marks at hand: which loops have a list, and what is written of it. Assumes nothing.
use Rattle.std.specs.Prelude.{◌≡◌, Bool, true, false, List, ℕ, ◌+◌, ◌-◌, ◌/◌, ◌^◌, ◌≤◌, ◌<◌, length, None, Option, Some}
use Rattle.std.proofs.Math.Option.{some}
use Rattle.grammar.specs.Numbers.{row_width}
use Rattle.grammar.specs.Basic.{Bytes}
use Rattle.grammar.specs.Tree.{Head, Un, Expr, E, any_node}
use Rattle.grammar.specs.Rows.{Span}
use Rattle.grammar.specs.Text.{bytes_at, resolve}
use Rattle.grammar.specs.Table.{Table, resolve_table}
use Rattle.grammar.specs.Lists.{Reading, nothing, strings, again, read_in, loop_over, skip_list}
use Rattle.grammar.specs.Steps.{top_down, or_same, skip?}
use Rattle.rows.specs.declared.Shape.{Shape}
use Rattle.rows.specs.declared.Shape.TheVariants.{Lit, Num, One, Two, Skips}
use Rattle.rows.specs.Rows.{At, shape_of, kind_at, x_at, y_at}
use Rattle.writing.specs.declared.Place.{Place}
use Rattle.writing.specs.Writes.{Written, RowAnswer, Answer}
use Rattle.chains.specs.Runs.{wrap}
use Rattle.skipper.specs.Memory.{Known, by_marks}
use Rattle.skipper.specs.Lends.{lists_of, Lent}
use Rattle.skipper.specs.Ways.{Spells, Targets, Led}
use Rattle.skipper.specs.Lists.{unread_at}
use Rattle.skipper.specs.declared.Fallen.{Fallen}
use Rattle.skipper.specs.declared.Fallen.TheVariants.{Plain, Looped, Forked}
use Rattle.skipper.specs.declared.Node as node
use Rattle.skipper.specs.declared.Node.TheVariants as node_is

-- how a mapping from the top goes on: with no child, with one, with two. "Skip has no children to visit"
abbrev pub node_by : Shape → node.Node
node_by Lit = node_is.Leaf
node_by Num = node_is.Leaf
node_by One = node_is.Single
node_by Two = node_is.Pair
node_by Skips = node_is.Leaf

unfoldable pub node_of : ℕ → node.Node
unfolding shape_of
node_of k = node_by (shape_of k)

-- a reading that gave a list
abbrev pub is_list : Reading → Bool
is_list nothing = false
is_list (strings ss) = true
is_list again = false

-- e is a loop, the expression x of which stands at row i and has a list
pub record ListAt (i : ℕ) (w : List ℕ) (s : Bytes) (look : Bytes → Reading) (e : E) : Type 0 where
  pub tree : Expr Span
  pub at : At w i tree
  pub is : loop_over e ≡ some (resolve s tree)
  pub list : is_list (read_in look (resolve s tree)) ≡ true

abbrev pub ListAnswer : Option ℕ → List ℕ → Bytes → (Bytes → Reading) → E → Type 0
ListAnswer (Some i) w s look e = ListAt i w s look e
ListAnswer None w s look e = (x : E) → loop_over e ≡ some x → is_list (read_in look x) ≡ false

-- some expression stands at row i of the words w with the text s, and `read` gives a list of it; names are those of a lent table with the text u
pub record Spelled (rules rows : List ℕ) (u : Bytes) (w : List ℕ) (s : Bytes) (i n : ℕ) (read : (Bytes → Reading) → E → Reading) : Type 0 where
  pub table : Table Span
  pub lent : Lent rules rows table
  pub tree : Expr Span
  pub at : At w i tree
  pub list : List Bytes
  pub spells : Spells (resolve_table u table) n (λ look. read look (resolve s tree)) list

-- the bytes of the literal at row i
abbrev pub literal_at : List ℕ → Bytes → ℕ → Bytes
literal_at w s i = bytes_at s (x_at w i, y_at w i)

-- the rules of some rows are lent so
pub record Named (rules : List ℕ) (u : Bytes) (m : List ℕ) : Type 0 where
  pub rows : List ℕ
  pub led : Led rules rows u m

-- the expression at row j gives whatever strings the name x gives in the table t, through a rule less
pub record BodyAt (j : ℕ) (w : List ℕ) (u : Bytes) (t : Table Span) (x : Bytes) : Type 0 where
  pub tree : Expr Span
  pub at : At w j tree
  pub gives : (n : ℕ) (ss : List Bytes) → Spells (resolve_table u t) n (λ look. look x) ss → Spells (resolve_table u t) (n - 1) (λ look. read_in look (resolve u tree)) ss

-- some loop's expression stands at row i, and it has a list
pub record Skipped (rules rows : List ℕ) (u : Bytes) (w : List ℕ) (s : Bytes) (i : ℕ) : Type 0 where
  pub table : Table Span
  pub lent : Lent rules rows table
  pub tree : Expr Span
  pub at : At w i tree
  pub list : List Bytes
  pub reads : skip_list (resolve_table u table) (resolve s tree) ≡ strings list

-- the marks m settle every loop of the tree e
pub record Settles (t : Table Bytes) (m : List ℕ) (e : E) : Type 0 where
  pub known : Known t (lists_of t m)
  pub settled : any_node (unread_at (by_marks (lists_of t m))) e ≡ false
  pub targets : Targets t m

-- some tree stands at row i, and the marks settle its loops
pub record Settling (rules rows : List ℕ) (u : Bytes) (m w : List ℕ) (s : Bytes) (i : ℕ) : Type 0 where
  pub table : Table Span
  pub lent : Lent rules rows table
  pub tree : Expr Span
  pub at : At w i tree
  pub settles : Settles (resolve_table u table) m (resolve s tree)

-- the tree r at row `root` is a run of nodes with one child, none of which step 2 rewrites, over a tree at row `base`; the marks m settle its loops
pub record Fell (t : Table Bytes) (m w : List ℕ) (s : Bytes) (root base : ℕ) (r : Expr Span) : Type 0 where
  pub nodes : List Un
  pub tree : Expr Span
  pub at : At w base tree
  pub is : r ≡ wrap nodes tree
  pub count : base + length nodes ≡ root
  pub settles : Settles t m (resolve s tree)
  pub skips : top_down (or_same (skip? t)) (resolve s r) ≡ wrap nodes (top_down (or_same (skip? t)) (resolve s tree))

-- that tree is a loop over row i, which has a list
pub record FellLoop (t : Table Bytes) (m w : List ℕ) (s : Bytes) (root base i : ℕ) (r : Expr Span) : Type 0 where
  pub fell : Fell t m w s root base r
  pub list : ListAt i w s (by_marks (lists_of t m)) (resolve s fell.tree)

-- it has two children, and k is its kind
pub record FellFork (t : Table Bytes) (m w : List ℕ) (s : Bytes) (root base k : ℕ) (r : Expr Span) : Type 0 where
  pub fell : Fell t m w s root base r
  pub kind : k ≡ kind_at w base
  pub two : node_of k ≡ node_is.Pair

abbrev pub FallAnswer : Fallen → Table Bytes → (m w : List ℕ) → Bytes → ℕ → Expr Span → Type 0
FallAnswer Plain t m w s root r = top_down (or_same (skip? t)) (resolve s r) ≡ resolve s r
FallAnswer (Looped base i) t m w s root r = FellLoop t m w s root base i r
FallAnswer (Forked base k) t m w s root r = FellFork t m w s root base k r

-- the rows after `base` up to `root` can be read, and q lies after p in the area o, whose counts are words
pub record Rising (w : List ℕ) (base root : ℕ) (p q : Place) (o : List ℕ) : Type 0 where
  pub order : base ≤ root
  pub inside : root < length w / row_width
  pub after : p.rows ≤ q.rows
  pub room : q.rows ≤ length o / row_width
  pub words : length o < 2 ^ 32

-- whatever tree stands from p to q, the nodes us stand over it where they fit, and the answer is full where they do not
abbrev pub RisenAnswer : Option Place → (q p : Place) → List Un → (o₁ o₂ : List ℕ) → Type 0
RisenAnswer a q p us o₁ o₂ = (e : E) (o t t₁ : List ℕ) → Written q p e o o₁ t t₁ → Answer a p (wrap us e) o o₂ t t₁

-- the same of whatever tree e a row h over what stands from p to q makes
abbrev pub CrownedAnswer : Option Place → (q p : Place) → Head → List Un → (o₁ o₂ : List ℕ) → Type 0
CrownedAnswer a q p h us o₁ o₂ = (e : E) (o t t₁ : List ℕ) → ((b : Option Place) (o' : List ℕ) → RowAnswer b q h (q.rows - p.rows + 1) o₁ o' → Answer b p e o o' t t₁) → Answer a p (wrap us e) o o₂ t t₁
