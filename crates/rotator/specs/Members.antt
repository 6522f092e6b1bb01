-- The members of a chain, and what stands where they are written one after the other. Assumes nothing.
use Rattle.std.specs.Prelude.{◌≡◌, cond, List, [], ◌∷◌, ◌++◌, ℕ, ◌+◌, ◌*◌, length, take, eqb, None, Option, Some}
use Rattle.grammar.specs.Numbers.{row_width, k_seq, k_choice}
use Rattle.grammar.specs.Tree.{Bin, Seq, Choice, E, lit, fixed, skip, un, bin}
use Rattle.grammar.specs.Steps.{rotate}
use Rattle.writing.specs.declared.Place.{Place}
use Rattle.chains.specs.Chains.{sizes, flats, texts, packs}

-- the members of a chain of nodes b, in order, each rotated: those of both sides where e is such a node, else e alone
abbrev pub members : Bin → E → List E
members b (lit k s) = rotate (lit k s) ∷ []
members b (fixed f) = rotate (fixed f) ∷ []
members b (skip ss) = rotate (skip ss) ∷ []
members b (un u e) = rotate (un u e) ∷ []
members Seq (bin Seq l r) = members Seq l ++ members Seq r
members Seq (bin Choice l r) = rotate (bin Choice l r) ∷ []
members Choice (bin Seq l r) = rotate (bin Seq l r) ∷ []
members Choice (bin Choice l r) = members Choice l ++ members Choice r

-- the same by a node's kind word, where there is a chain: 8 is Seq, 9 is Choice, and no chain has another
unfoldable pub members_of : Option ℕ → E → List E
members_of None e = rotate e ∷ []
members_of (Some k) e = cond (eqb k k_seq) (members Seq e) (cond (eqb k k_choice) (members Choice e) (rotate e ∷ []))

-- the chain's kind word at the row `base` below a run that ends at `root`: a node over others of one child is in no chain
unfoldable pub chain_at : Option ℕ → ℕ → ℕ → Option ℕ
chain_at c base root = cond (eqb base root) c None

-- the packed trees es stand from p to q, after what was there
pub record KeptAll (q p : Place) (es : List E) (o o' t t' : List ℕ) : Type 0 where
  pub rows : q.rows ≡ p.rows + sizes es
  pub text : q.text ≡ p.text + length (texts es)
  pub words : take (q.rows * row_width) o' ≡ take (p.rows * row_width) o ++ flats (packs p.text es)
  pub bytes : take q.text t' ≡ take p.text t ++ texts es

-- never full: the tree that they are read from fits
abbrev pub AllAnswer : Option Place → Place → List E → (o o' t t' : List ℕ) → Type 0
AllAnswer (Some q) p es o o' t t' = KeptAll q p es o o' t t'
AllAnswer None p es o o' t t' = ⊥
