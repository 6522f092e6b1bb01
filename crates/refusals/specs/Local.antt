-- Refusal 3, row by row: what one row says of itself and of the rows before it, by their size words. Assumes nothing.
use Rattle.std.specs.Prelude.{◌≡◌, Bool, true, false, ◌&&◌, ◌||◌, cond, List, ℕ, ◌+◌, ◌-◌, ◌≤◌, ◌<◌, eqb, leb, ltb}
use Rattle.std.proofs.Math.Option.{some}
use Rattle.grammar.specs.Numbers.{k_str, k_peek_from, k_peek_slice, k_pos_pred, k_rep_exact, k_rep_min_max, k_push}
use Rattle.grammar.specs.Tree.{Expr}
use Rattle.grammar.specs.Rows.{Span}
use Rattle.grammar.specs.Table.{Table}
use Rattle.grammar.specs.Reading.{Kinds, read_tree, read_table}
use Rattle.rows.specs.Rows.{kind_at, x_at, y_at, size_at, shape_of}
use Rattle.rows.specs.declared.Shape.{Shape}
use Rattle.rows.specs.declared.Shape.TheVariants.{Lit, Num, One, Two, Skips}

-- the kinds up to the largest one allowed
abbrev pub up_to : ℕ → Kinds
up_to most k = leb k most

-- kinds whose x or y mean something
abbrev pub uses_x : ℕ → Bool
uses_x k = cond (ltb k k_pos_pred) true (cond (ltb k k_rep_exact) false (ltb k k_push))

abbrev pub uses_y : ℕ → Bool
uses_y k = cond (ltb k k_peek_from) true (cond (eqb k k_peek_slice) true (eqb k k_rep_min_max))

-- "unused x and y are 0"
unfoldable pub unused_zero : ℕ → ℕ → ℕ → Bool
unused_zero k x y = (eqb y 0 || uses_y k) && (eqb x 0 || uses_x k)

-- a row of size n over one child, which the row before ends
pub record OneFits (w : List ℕ) (i n : ℕ) : Type 0 where
  pub there : 0 < i
  pub sum : n ≡ size_at w (i - 1) + 1

-- over two: the row before ends the right one, and the row before that one's rows the left one
pub record TwoFits (w : List ℕ) (i n : ℕ) : Type 0 where
  pub there : size_at w (i - 1) < i
  pub sum : n ≡ size_at w (i - 1 - size_at w (i - 1)) + size_at w (i - 1) + 1

-- over k strings: the k rows before are Str rows
pub record SkipFits (w : List ℕ) (i k n : ℕ) : Type 0 where
  pub there : k ≤ i
  pub strs : (j : ℕ) → i ≤ j + k → j < i → kind_at w j ≡ k_str
  pub sum : n ≡ k + 1

abbrev pub Below : Shape → List ℕ → ℕ → ℕ → ℕ → Type 0
Below Lit w i x n = n ≡ 1
Below Num w i x n = n ≡ 1
Below One w i x n = OneFits w i n
Below Two w i x n = TwoFits w i n
Below Skips w i x n = SkipFits w i x n

-- row i is right: an allowed kind, unused words 0, and a size and children as its kind has them
pub record RowFits (most : ℕ) (w : List ℕ) (i : ℕ) : Type 0 where
  pub kind : kind_at w i ≤ most
  pub unused : unused_zero (kind_at w i) (x_at w i) (y_at w i) ≡ true
  pub below : Below (shape_of (kind_at w i)) w i (x_at w i) (size_at w i)

-- some tree is read of these words, some table of these
pub record IsTree (ok : Kinds) (w : List ℕ) : Type 0 where
  pub tree : Expr Span
  pub read : read_tree ok w ≡ some tree

pub record IsTable (ok : Kinds) (rules rows : List ℕ) : Type 0 where
  pub table : Table Span
  pub read : read_table ok rules rows ≡ some table
