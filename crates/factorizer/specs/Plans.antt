-- What is written for a tree: two parts of it, each factored, and the rows over them. Assumes nothing.
use Rattle.std.specs.Prelude.{◌≡◌, Bool, cond, List, ℕ, ◌+◌, ◌/◌, ◌≤◌, ◌<◌, length, eqb, None, Option, Some}
use Rattle.grammar.specs.Numbers.{row_width, k_choice, k_opt}
use Rattle.grammar.specs.Basic.{Bytes}
use Rattle.grammar.specs.Tree.{Expr, E, Bin, Opt, Seq, Choice, un, bin, bin_kind, size}
use Rattle.grammar.specs.Rows.{Span}
use Rattle.grammar.specs.Text.{resolve, text_of}
use Rattle.rows.specs.Rows.{At}
use Rattle.writing.specs.declared.Place.{Place}
use Rattle.writing.specs.Writes.{Fits}
use Rattle.writing.specs.Keeps.{Kept, KeptAnswer}
use Rattle.chains.specs.Runs.{ups}
use Rattle.factorizer.specs.Factors.{factored}
use Rattle.factorizer.specs.declared.Parts.{Parts}
use Rattle.factorizer.specs.declared.Plan.{Plan}

-- e is the Choice of the trees at rows l and r, which need not stand together
pub record PairAt (w : List ℕ) (l r : ℕ) (e : Expr Span) : Type 0 where
  pub left : Expr Span
  pub right : Expr Span
  pub is : e ≡ bin Choice left right
  pub at_left : At w l left
  pub at_right : At w r right

-- the tree of row l or, with r, the Choice of two
pub record TreeAt (w : List ℕ) (l : ℕ) (r : Option ℕ) (e : Expr Span) : Type 0 where
  pub one : r ≡ None → At w l e
  pub pair : (k : ℕ) → r ≡ Some k → PairAt w l k e

pub record TreeStands (w : List ℕ) (l : ℕ) (r : Option ℕ) : Type 0 where
  pub tree : Expr Span
  pub at : TreeAt w l r tree

-- and it fits at p of the areas o and t
pub record TreeReady (w : List ℕ) (s : Bytes) (l : ℕ) (r : Option ℕ) (p : Place) (o t : List ℕ) : Type 0 where
  pub tree : Expr Span
  pub at : TreeAt w l r tree
  pub fits : Fits p (resolve s tree) o t

-- a node of kind k over the trees at rows l and r
pub record NodeAt (w : List ℕ) (k l r : ℕ) (e : Expr Span) : Type 0 where
  pub op : Bin
  pub left : Expr Span
  pub right : Expr Span
  pub is : e ≡ bin op left right
  pub kind : k ≡ bin_kind op
  pub at_left : At w l left
  pub at_right : At w r right

abbrev pub PartsTold : Option Parts → List ℕ → Expr Span → Type 0
PartsTold (Some s) w e = NodeAt w s.kind s.l s.r e
PartsTold None w e = (b : Bin) (l r : Expr Span) → e ≡ bin b l r → ⊥

-- the row below the run of the tree of row l; a Choice of two has none
pub record BaseTold (w : List ℕ) (b l : ℕ) (r : Option ℕ) : Type 0 where
  pub one : r ≡ None → (e : Expr Span) → At w l e → b + length (ups e) ≡ l
  pub pair : (k : ℕ) → r ≡ Some k → b ≡ l

-- the rows over two trees by a word: a Seq of the first and an Opt of the second, a Choice, a Seq
unfoldable pub over_of : ℕ → E → E → E
over_of k x y = cond (eqb k k_opt) (bin Seq x (un Opt y)) (cond (eqb k k_choice) (bin Choice x y) (bin Seq x y))

-- or, with no word, the first alone
abbrev pub planned : Option ℕ → E → E → E
planned None x y = x
planned (Some k) x y = over_of k x y

-- f takes no more rows and no more text than e
pub record Within (f e : E) : Type 0 where
  pub rows : size f ≤ size e
  pub text : length (text_of f) ≤ length (text_of e)

-- the plan makes the tree g of parts of the tree e
pub record PlanTold (a : Plan) (tight : Bool) (w : List ℕ) (t : Bytes) (g e : E) : Type 0 where
  pub first : Expr Span
  pub second : Expr Span
  pub at_first : At w a.x first
  pub at_second : TreeAt w a.y a.z second
  pub is : g ≡ planned a.kind (factored tight (resolve t first)) (factored tight (resolve t second))
  pub within : Within (planned a.kind (resolve t first) (resolve t second)) e
  pub first_falls : size (resolve t first) < size e
  pub second_falls : size (resolve t second) < size e

-- the tree that goes on as it is, with factored children, is a part of e
pub record PartOf (f e : E) : Type 0 where
  pub rows : size f < size e
  pub text : length (text_of f) ≤ length (text_of e)

-- whatever trees stand from p to q and from q to s, the rows by k stand over them, where there is room
abbrev pub OverAnswer : Option Place → ℕ → (p q s : Place) → (o₂ o₃ : List ℕ) → Type 0
OverAnswer a k p q s o₂ o₃ = (x y : E) (o o₁ t t₁ t₂ : List ℕ) → Kept q p x o o₁ t t₁ → Kept s q y o₁ o₂ t₁ t₂ → p.rows + size (over_of k x y) ≤ length o₂ / row_width → KeptAnswer a p (over_of k x y) o o₃ t t₂
