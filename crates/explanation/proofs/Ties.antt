-- The reading with places is the grammar's own: it ends in a list, in none or again exactly where that does. Assumes nothing.
use mathlib.Core.Path.{◌≡◌, refl, sym, ap, ◌∙◌}
use mathlib.Core.Bool.{Bool, true, false, ◌||◌, cond}
use mathlib.Core.List.{List, [], ◌∷◌, ◌++◌}
use mathlib.Core.Option.{Option, none, some}
use Prim.Native.Nat.{ℕ, zero, suc, ◌+◌, ◌-◌, ◌≤◌}
use native.Mathlib.Omega.{arith}
use lib.Dec.{eqb}
use Rattle.grammar.specs.Basic.{Bytes, same_bytes, member}
use Rattle.grammar.specs.Tree.{Lit, Str, Insens, Ident, Seq, Choice, E, lit, fixed, skip, un, bin, size}
use Rattle.grammar.specs.Table.{Table, find}
use Rattle.grammar.specs.Lists.{Reading, nothing, strings, again, and_then, read_lit, read_left, read_in, read_found, read_name}
use Rattle.grammar.proofs.Logic.{none_some, some_eq, eqb_eq, eqb_self, same_bytes_eq, eq_same_bytes}
use Rattle.explanation.specs.Ends as places
use Rattle.explanation.specs.Ends.{Ends, reads, unknown, other, first, Look, ends_lit, ends_left, ends_in, Place, place_from, opened, ends_found, ends_name}

-- 1: again, 2: none, 3: a list
abbrev pub mark_of : Reading → ℕ
mark_of again = 1
mark_of nothing = 2
mark_of (strings ss) = 3

abbrev pub end_of : Ends → ℕ
end_of reads = 3
end_of (unknown i at) = 2
end_of (other i at) = 2
end_of (places.again i at j o) = 1

-- ---- an expression, where names are read alike

abbrev pub Alike : Look → (Bytes → Reading) → Type 0
Alike look look' = (i at : ℕ) (x : Bytes) → end_of (look i at x) ≡ mark_of (look' x)

first_then : (p q : Ends) (p' q' : Reading) → end_of p ≡ mark_of p' → end_of q ≡ mark_of q' → end_of (first p q) ≡ mark_of (and_then p' q')
first_then reads q nothing q' e f = absurd (omega (arith, e))
first_then reads q again q' e f = absurd (omega (arith, e))
first_then reads q (strings ss) nothing e f = f
first_then reads q (strings ss) again e f = f
first_then reads q (strings ss) (strings ts) e f = f
first_then (unknown i at) q nothing q' e f = refl
first_then (unknown i at) q again q' e f = absurd (omega (arith, e))
first_then (unknown i at) q (strings ss) q' e f = absurd (omega (arith, e))
first_then (other i at) q nothing q' e f = refl
first_then (other i at) q again q' e f = absurd (omega (arith, e))
first_then (other i at) q (strings ss) q' e f = absurd (omega (arith, e))
first_then (places.again i at j o) q nothing q' e f = absurd (omega (arith, e))
first_then (places.again i at j o) q again q' e f = refl
first_then (places.again i at j o) q (strings ss) q' e f = absurd (omega (arith, e))

lit_alike : (look : Look) (look' : Bytes → Reading) → Alike look look' → (i at : ℕ) (k : Lit) (s : Bytes) → end_of (ends_lit look i at k s) ≡ mark_of (read_lit look' k s)
lit_alike look look' h i at Str s = refl
lit_alike look look' h i at Insens s = refl
lit_alike look look' h i at Ident x = h i at x

pub left_alike : (look : Look) (look' : Bytes → Reading) → Alike look look' → (i at : ℕ) (e : E) → end_of (ends_left look i at e) ≡ mark_of (read_left look' e)
left_alike look look' h i at (lit k s) = lit_alike look look' h i at k s
left_alike look look' h i at (fixed f) = refl
left_alike look look' h i at (skip ss) = refl
left_alike look look' h i at (un u e) = refl
left_alike look look' h i at (bin b l r) = refl

pub in_alike : (look : Look) (look' : Bytes → Reading) → Alike look look' → (i at : ℕ) (e : E) → end_of (ends_in look i at e) ≡ mark_of (read_in look' e)
in_alike look look' h i at (lit k s) = lit_alike look look' h i at k s
in_alike look look' h i at (fixed f) = refl
in_alike look look' h i at (skip ss) = refl
in_alike look look' h i at (un u e) = refl
in_alike look look' h i at (bin Seq l r) = refl
in_alike look look' h i at (bin Choice l r) = first_then (ends_left look i (at - 1 - size r) l) (ends_in look i (at - 1) r) (read_left look' l) (read_in look' r) (left_alike look look' h i (at - 1 - size r) l) (in_alike look look' h i (at - 1) r)

-- ---- a rule by its name

-- a place is found exactly where an expression is, and has it
pub place_none : (i from : ℕ) (t : Table Bytes) (x : Bytes) → place_from i from t x ≡ none → find t x ≡ none
place_none i from [] x h = refl
place_none i from (r ∷ t) x h = go (same_bytes r.name x) (place_none (suc i) (from + size r.body) t x) h
  where
    go : (b : Bool) → (place_from (suc i) (from + size r.body) t x ≡ none → find t x ≡ none) → cond b (some (record { rule = i; root = from + size r.body - 1; body = r.body })) (place_from (suc i) (from + size r.body) t x) ≡ none → cond b (some r.body) (find t x) ≡ none
    go true ih e = none_some (sym e)
    go false ih e = ih e

pub place_some : (i from : ℕ) (t : Table Bytes) (x : Bytes) (p : Place) → place_from i from t x ≡ some p → find t x ≡ some p.body
place_some i from [] x p h = none_some h
place_some i from (r ∷ t) x p h = go (same_bytes r.name x) (place_some (suc i) (from + size r.body) t x p) h
  where
    go : (b : Bool) → (place_from (suc i) (from + size r.body) t x ≡ some p → find t x ≡ some p.body) → cond b (some (record { rule = i; root = from + size r.body - 1; body = r.body })) (place_from (suc i) (from + size r.body) t x) ≡ some p → cond b (some r.body) (find t x) ≡ some p.body
    go true ih e = ap (λ (q : Place). some q.body) (some_eq _ _ e)
    go false ih e = ih e

-- its number is not below the first one's
place_least : (i from : ℕ) (t : Table Bytes) (x : Bytes) (p : Place) → place_from i from t x ≡ some p → i ≤ p.rule
place_least i from [] x p h = none_some h
place_least i from (r ∷ t) x p h = go (same_bytes r.name x) (place_least (suc i) (from + size r.body) t x p) h
  where
    go : (b : Bool) → (place_from (suc i) (from + size r.body) t x ≡ some p → suc i ≤ p.rule) → cond b (some (record { rule = i; root = from + size r.body - 1; body = r.body })) (place_from (suc i) (from + size r.body) t x) ≡ some p → i ≤ p.rule
    go true ih e = omega (arith, ap (λ (q : Place). q.rule) (some_eq _ _ e))
    go false ih e = omega (arith, ih e)

-- two names that find one number are one name
one_name : (i from : ℕ) (t : Table Bytes) (x y : Bytes) (p q : Place) → place_from i from t x ≡ some p → place_from i from t y ≡ some q → p.rule ≡ q.rule → x ≡ y
one_name i from [] x y p q h k e = none_some h
one_name i from (r ∷ t) x y p q h k e = go (same_bytes r.name x) (same_bytes r.name y) (λ f g. one_name (suc i) (from + size r.body) t x y p q f g e) refl refl h k
  where
    go : (a b : Bool) → (place_from (suc i) (from + size r.body) t x ≡ some p → place_from (suc i) (from + size r.body) t y ≡ some q → x ≡ y) → same_bytes r.name x ≡ a → same_bytes r.name y ≡ b → cond a (some (record { rule = i; root = from + size r.body - 1; body = r.body })) (place_from (suc i) (from + size r.body) t x) ≡ some p → cond b (some (record { rule = i; root = from + size r.body - 1; body = r.body })) (place_from (suc i) (from + size r.body) t y) ≡ some q → x ≡ y
    go true true ih u v f g = sym (same_bytes_eq r.name x u) ∙ same_bytes_eq r.name y v
    go true false ih u v f g = absurd (omega (arith, e, ap (λ (z : Place). z.rule) (some_eq _ _ f), place_least (suc i) (from + size r.body) t y q g))
    go false true ih u v f g = absurd (omega (arith, e, ap (λ (z : Place). z.rule) (some_eq _ _ g), place_least (suc i) (from + size r.body) t x p f))
    go false false ih u v f g = ih f g

-- ---- the rules being read

-- the numbers o are those of the names l
abbrev pub Numbers : Table Bytes → List ℕ → List Bytes → Type 0
Numbers t o l = (x : Bytes) (p : Place) → place_from 0 0 t x ≡ some p → opened p.rule o ≡ member x l

opened_more : (j k : ℕ) (o : List ℕ) → opened j (o ++ (k ∷ [])) ≡ (eqb j k || opened j o)
opened_more j k [] = refl
opened_more j k (h ∷ o) = go (eqb j h) (eqb j k) (opened_more j k o)
  where
    go : (a b : Bool) → opened j (o ++ (k ∷ [])) ≡ (b || opened j o) → (a || opened j (o ++ (k ∷ []))) ≡ (b || (a || opened j o))
    go true true e = refl
    go true false e = refl
    go false b e = e

pub numbers_more : (t : Table Bytes) (o : List ℕ) (l : List Bytes) (x : Bytes) (p : Place) → place_from 0 0 t x ≡ some p → Numbers t o l → Numbers t (o ++ (p.rule ∷ [])) (x ∷ l)
numbers_more t o l x p f h y q g = opened_more q.rule p.rule o ∙ both (eqb q.rule p.rule) (same_bytes y x) same (h y q g)
  where
    both : (a b : Bool) → a ≡ b → opened q.rule o ≡ member y l → (a || opened q.rule o) ≡ (b || member y l)
    both a b e k = ap (λ (c : Bool). c || opened q.rule o) e ∙ ap (λ (c : Bool). b || c) k

    same : eqb q.rule p.rule ≡ same_bytes y x
    same = go (eqb q.rule p.rule) (same_bytes y x) refl refl
      where
        go : (a b : Bool) → eqb q.rule p.rule ≡ a → same_bytes y x ≡ b → a ≡ b
        go true true u v = refl
        go false false u v = refl
        go true false u v = sym (eq_same_bytes y x (one_name 0 0 t y x q p g f (eqb_eq _ _ u))) ∙ v
        go false true u v = sym u ∙ ap (λ (k : ℕ). eqb q.rule k) (ap (λ (z : Place). z.rule) (some_eq p q (sym f ∙ ap (place_from 0 0 t) (sym (same_bytes_eq y x v)) ∙ g))) ∙ eqb_self q.rule

-- A NAME IS READ ALIKE
pub name_alike : (n : ℕ) (t : Table Bytes) (o : List ℕ) (l : List Bytes) → Numbers t o l → Alike (ends_name n t o) (read_name n t l)
name_alike zero t o l h i at x = refl
name_alike (suc n) t o l h i at x = go (place_from 0 0 t x) refl (λ p e. name_alike n t (o ++ (p.rule ∷ [])) (x ∷ l) (numbers_more t o l x p e h))
  where
    met : (p : Place) → Alike (ends_name n t (o ++ (p.rule ∷ []))) (read_name n t (x ∷ l)) → (b : Bool) → member x l ≡ b → end_of (cond b (places.again i at p.rule o) (ends_in (ends_name n t (o ++ (p.rule ∷ []))) p.rule p.root p.body)) ≡ mark_of (read_found (some p.body) b (read_in (read_name n t (x ∷ l))))
    met p ih true m = refl
    met p ih false m = in_alike (ends_name n t (o ++ (p.rule ∷ []))) (read_name n t (x ∷ l)) ih p.rule p.root p.body

    go : (q : Option Place) → place_from 0 0 t x ≡ q → ((p : Place) → place_from 0 0 t x ≡ some p → Alike (ends_name n t (o ++ (p.rule ∷ []))) (read_name n t (x ∷ l))) → end_of (ends_name (suc n) t o i at x) ≡ mark_of (read_name (suc n) t l x)
    go none e ih = rw (e, place_none 0 0 t x e)
    go (some p) e ih = rw (e, place_some 0 0 t x p e, h x p e) (met p (ih p e) (member x l) refl)
