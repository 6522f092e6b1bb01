-- Partial answers, tests and equality: what the definitions below are written with. Assumes nothing.
use Rattle.std.specs.Prelude.{◌≡◌, refl, Bool, true, false, ◌||◌, cond, List, [], ◌∷◌, ℕ}
use Rattle.std.proofs.Math.Option.{Option, none, some}
use Rattle.std.proofs.Math.Decide.{ℕ_discrete}
use Rattle.std.proofs.Common.{arith}

-- for `do`: a line that gives none ends the block in none
infixl 10 ◌>>=◌
abbrev pub ◌>>=◌ : {A B : Type 0} → Option A → (A → Option B) → Option B
none >>= f = none
some a >>= f = f a

-- the block goes on where the test passes
abbrev pub test : Bool → Option (Unit {0})
test true = some tt
test false = none

-- the first that is there
infixr 20 ◌<|>◌
abbrev pub ◌<|>◌ : {A : Type 0} → Option A → Option A → Option A
none <|> b = b
some a <|> b = some a

abbrev pub or_else : {A : Type 0} → Option A → A → A
or_else none a = a
or_else (some b) a = b

abbrev pub any : {A : Type 0} → (A → Bool) → List A → Bool
any p [] = false
any p (a ∷ l) = p a || any p l

-- the first of a list that passes
abbrev pub first_with : {A : Type 0} → (A → Bool) → List A → Option A
first_with p [] = none
first_with p (a ∷ l) = cond (p a) (some a) (first_with p l)

-- a decided statement as a test
abbrev pub holds : {A : Type 0} → Dec A → Bool
holds (yes p) = true
holds (no p) = false

unfoldable pub list_discrete : {A : Type 0} → Discrete A → Discrete (List A)
list_discrete d [] [] = yes refl
list_discrete d [] (y ∷ ys) = no (λ p. let z : ◌≡◌ {A = ℕ} 0 1 = cc in omega arith)
list_discrete d (x ∷ xs) [] = no (λ p. let z : ◌≡◌ {A = ℕ} 0 1 = cc in omega arith)
list_discrete d (x ∷ xs) (y ∷ ys) = both (d x y) (list_discrete d xs ys)
  where
    both : Dec (x ≡ y) → Dec (xs ≡ ys) → Dec ((x ∷ xs) ≡ (y ∷ ys))
    both (yes p) (yes q) = yes (cc)
    both (yes p) (no q) = no (λ e. q (cc))
    both (no p) (yes q) = no (λ e. p (cc))
    both (no p) (no q) = no (λ e. p (cc))

-- names and literals are lists of bytes
abbrev pub Bytes : Type 0
Bytes = List ℕ

unfoldable pub bytes_discrete : Discrete Bytes
unfolding list_discrete ℕ_discrete
bytes_discrete = list_discrete ℕ_discrete

unfoldable pub same_bytes : Bytes → Bytes → Bool
unfolding bytes_discrete
same_bytes a b = holds (bytes_discrete a b)

abbrev pub member : Bytes → List Bytes → Bool
member x l = any (same_bytes x) l
