-- A run of nodes with one child each, one over the other, and the tree at its bottom. Assumes nothing.
use Rattle.std.specs.Prelude.{◌≡◌, List, [], ◌∷◌, ℕ, ◌+◌, ◌/◌, ◌^◌, ◌≤◌, ◌<◌, length, Option}
use Rattle.grammar.specs.Numbers.{row_width}
use Rattle.grammar.specs.Tree.{Un, Expr, E, lit, fixed, skip, un, bin}
use Rattle.grammar.specs.Rows.{Span}
use Rattle.rows.specs.Rows.{At}
use Rattle.writing.specs.declared.Place.{Place}
use Rattle.writing.specs.Keeps.{Kept, KeptAnswer}

-- the nodes us over the tree e, the outermost first
abbrev pub wrap : {L : Type 0} → List Un → Expr L → Expr L
wrap [] e = e
wrap (u ∷ us) e = un u (wrap us e)

-- the nodes of the run at the top of a tree, the outermost first, and the tree below them
abbrev pub ups : {L : Type 0} → Expr L → List Un
ups (lit k s) = []
ups (fixed f) = []
ups (skip ss) = []
ups (un u e) = u ∷ ups e
ups (bin b l r) = []

abbrev pub low : {L : Type 0} → Expr L → Expr L
low (lit k s) = lit k s
low (fixed f) = fixed f
low (skip ss) = skip ss
low (un u e) = low e
low (bin b l r) = bin b l r

-- the run of the tree at row `root` of the words w stands over row `base`, the area o has room for its rows after q, and their counts are words
pub record Raisable (w : List ℕ) (base root : ℕ) (p q : Place) (o : List ℕ) : Type 0 where
  pub tree : Expr Span
  pub at : At w root tree
  pub run : base + length (ups tree) ≡ root
  pub order : p.rows ≤ q.rows
  pub room : q.rows + length (ups tree) ≤ length o / row_width
  pub words : length o < 2 ^ 32

-- whatever tree stands from p to q, the nodes us stand over it; never full
abbrev pub RaisedAnswer : Option Place → (q p : Place) → List Un → (o₁ o₂ : List ℕ) → Type 0
RaisedAnswer a q p us o₁ o₂ = (e : E) (o t t₁ : List ℕ) → Kept q p e o o₁ t t₁ → KeptAnswer a p (wrap us e) o o₂ t t₁
