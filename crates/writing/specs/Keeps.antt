-- What stands up to a place of two lent areas, whatever they hold past it: for steps that never grow. Assumes nothing.
use Rattle.std.specs.Prelude.{◌≡◌, List, ◌++◌, ℕ, ◌+◌, ◌*◌, length, take, None, Option, Some}
use Rattle.grammar.specs.Numbers.{row_width}
use Rattle.grammar.specs.Basic.{Bytes}
use Rattle.grammar.specs.Tree.{Expr, E, size}
use Rattle.grammar.specs.Rows.{Span, flat}
use Rattle.grammar.specs.Text.{resolve, text_of, packed}
use Rattle.rows.specs.Rows.{At}
use Rattle.writing.specs.Writes.{Fits}
use Rattle.writing.specs.declared.Place.{Place}

-- the packed tree e stands from p to q, after what was there
pub record Kept (q p : Place) (e : E) (o o' t t' : List ℕ) : Type 0 where
  pub rows : q.rows ≡ p.rows + size e
  pub text : q.text ≡ p.text + length (text_of e)
  pub words : take (q.rows * row_width) o' ≡ take (p.rows * row_width) o ++ flat (packed p.text e)
  pub bytes : take q.text t' ≡ take p.text t ++ text_of e

-- the answer of a step that cannot grow, called where the tree that it reads fits: never full
abbrev pub KeptAnswer : Option Place → Place → E → (o o' t t' : List ℕ) → Type 0
KeptAnswer (Some q) p e o o' t t' = Kept q p e o o' t t'
KeptAnswer None p e o o' t t' = ⊥

-- a tree stands at row i of the words w with the text s, and it fits at p of the areas o and t
pub record Ready (w : List ℕ) (s : Bytes) (i : ℕ) (p : Place) (o t : List ℕ) : Type 0 where
  pub tree : Expr Span
  pub at : At w i tree
  pub fits : Fits p (resolve s tree) o t
