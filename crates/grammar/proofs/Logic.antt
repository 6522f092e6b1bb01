-- Small laws of options, tests and equality. Assumes nothing.
use mathlib.Core.Path.{◌≡◌, refl, subst}
use mathlib.Core.Bool.{false≢true, Bool, true, false, ◌&&◌, ◌||◌, not, cond}
use mathlib.Core.List.{List, [], ◌∷◌}
use mathlib.Core.Option.{Option, none, some}
use mathlib.Core.Logic.{◌⊎◌, inl, inr}
use Prim.Native.Nat.{ℕ}
use native.Mathlib.Omega.{arith}
use lib.Dec.{eqb, eqb_refl, eqb→eq, T}
use Rattle.grammar.specs.Basic.{Bytes, ◌<|>◌, ◌>>=◌, bytes_discrete, first_with, holds, same_bytes, test}
use Rattle.grammar.specs.Tree.{E, same, same_discrete}

pub none_some : {A P : Type 0} {a : A} → ◌≡◌ {A = Option A} none (some a) → P
none_some h = let z : ◌≡◌ {A = ℕ} 0 1 = cc in absurd (omega arith)

pub some_eq : {A : Type 0} (a b : A) → some a ≡ some b → a ≡ b
some_eq a b h = cc

pub alt_case : {A P : Type 0} (a b : Option A) (r : A) → (a <|> b) ≡ some r → (a ≡ some r → P) → (b ≡ some r → P) → P
alt_case none b r h f g = g h
alt_case (some a) b r h f g = f h

pub bind_case : {A B P : Type 0} (o : Option A) (f : A → Option B) (r : B) → (o >>= f) ≡ some r → ((a : A) → o ≡ some a → f a ≡ some r → P) → P
bind_case none f r h k = none_some h
bind_case (some a) f r h k = k a refl h

pub test_true : (b : Bool) (u : Unit {0}) → test b ≡ some u → b ≡ true
test_true true u h = refl
test_true false u h = none_some h

pub first_passes : {A : Type 0} (p : A → Bool) (l : List A) (a : A) → first_with p l ≡ some a → p a ≡ true
first_passes p [] a h = none_some h
first_passes p (x ∷ xs) a h = go (p x) refl (first_passes p xs a) h
  where
    go : (t : Bool) → p x ≡ t → (first_with p xs ≡ some a → p a ≡ true) → cond t (some x) (first_with p xs) ≡ some a → p a ≡ true
    go true e ih k = let q : x ≡ a = cc in subst (λ y. p y ≡ true) q e
    go false e ih k = ih k

pub and_left : (a b : Bool) → (a && b) ≡ true → a ≡ true
and_left true b h = refl
and_left false b h = absurd (false≢true h)

pub and_right : (a b : Bool) → (a && b) ≡ true → b ≡ true
and_right true b h = h
and_right false b h = absurd (false≢true h)

pub or_case : (a b : Bool) → (a || b) ≡ true → (a ≡ true) ⊎ (b ≡ true)
or_case true b h = inl refl
or_case false b h = inr h

pub or_left : (a b : Bool) → a ≡ true → (a || b) ≡ true
or_left true b h = refl
or_left false b h = absurd (false≢true h)

pub or_right : (a b : Bool) → b ≡ true → (a || b) ≡ true
or_right true b h = refl
or_right false b h = h

pub or_mono : (a b c d : Bool) → (a ≡ true → c ≡ true) → (b ≡ true → d ≡ true) → (a || b) ≡ true → (c || d) ≡ true
or_mono true b c d f g h = or_left c d (f refl)
or_mono false b c d f g h = or_right c d (g h)

pub and_mono : (a b d : Bool) → (b ≡ true → d ≡ true) → (a && b) ≡ true → (a && d) ≡ true
and_mono true b d g h = g h
and_mono false b d g h = h

pub not_true : (a : Bool) → not a ≡ true → a ≡ false
not_true true h = absurd (false≢true h)
not_true false h = refl

T-eq : (b : Bool) → T b → b ≡ true
T-eq true h = refl
T-eq false h = absurd h

eq_T : (b : Bool) → b ≡ true → T b
eq_T true h = tt
eq_T false h = absurd (false≢true h)

pub eqb_self : (n : ℕ) → eqb n n ≡ true
eqb_self n = T-eq (eqb n n) (eqb_refl n)

pub eqb_eq : (m n : ℕ) → eqb m n ≡ true → m ≡ n
eqb_eq m n h = eqb→eq m n (eq_T (eqb m n) h)

-- what is decided
pub holds_yes : {A : Type 0} (d : Dec A) → holds d ≡ true → A
holds_yes (yes p) h = p
holds_yes (no p) h = absurd (false≢true h)

pub holds_of : {A : Type 0} (d : Dec A) → A → holds d ≡ true
holds_of (yes p) a = refl
holds_of (no p) a = absurd (p a)

pub same_bytes_eq : (a b : Bytes) → same_bytes a b ≡ true → a ≡ b
unfolding same_bytes
same_bytes_eq a b h = holds_yes (bytes_discrete a b) h

pub eq_same_bytes : (a b : Bytes) → a ≡ b → same_bytes a b ≡ true
unfolding same_bytes
eq_same_bytes a b h = holds_of (bytes_discrete a b) h

pub same_eq : (a b : E) → same a b ≡ true → a ≡ b
unfolding same
same_eq a b h = holds_yes (same_discrete a b) h

pub eq_same : (a b : E) → a ≡ b → same a b ≡ true
unfolding same
eq_same a b h = holds_of (same_discrete a b) h
