-- A run of nodes with one child each, unrolled over what stands below it. Assumes nothing.
use Rattle.std.specs.Prelude.{◌≡◌, List, [], ◌∷◌, ℕ, ◌+◌, length, Option}
use Rattle.grammar.specs.Tree.{Un, Expr, E}
use Rattle.grammar.specs.Rows.{Span}
use Rattle.grammar.specs.Steps.{unrolled}
use Rattle.rows.specs.Rows.{At}
use Rattle.writing.specs.declared.Place.{Place}
use Rattle.writing.specs.Writes.{Areas, Written, Answer}
use Rattle.chains.specs.Runs.{ups}

-- the nodes us over e, the outermost first, each unrolled over what is below it
abbrev pub climbed : List Un → E → E
climbed [] e = e
climbed (u ∷ us) e = unrolled u (climbed us e)

-- the run of whatever tree is at row `root` stands over row `base`
abbrev pub RunOver : List ℕ → ℕ → ℕ → Type 0
RunOver w base root = (r : Expr Span) → At w root r → base + length (ups r) ≡ root

-- a tree was written from p to q
pub record Standing (q p : Place) (o t : List ℕ) : Type 0 where
  pub tree : E
  pub words : List ℕ
  pub bytes : List ℕ
  pub written : Written q p tree words o bytes t
  pub areas : Areas o t

-- whatever tree was written from p to q, the nodes us stand over it, unrolled
abbrev pub ClimbedAnswer : Option Place → (q p : Place) → List Un → (o o' t t' : List ℕ) → Type 0
ClimbedAnswer a q p us o o' t t' = (e : E) (o₀ t₀ : List ℕ) → Written q p e o₀ o t₀ t → Answer a p (climbed us e) o₀ o' t₀ t'
