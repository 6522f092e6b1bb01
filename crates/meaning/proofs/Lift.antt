-- The lifting theorem: from the expressions of each rule to all outcomes under two tables. Assumes nothing.
use mathlib.Core.Path.{◌≡◌, refl, sym, subst}
use mathlib.Core.Bool.{Bool, true, false, cond}
use mathlib.Core.List.{[], ◌∷◌}
use mathlib.Core.Option.{some}
use Prim.Native.Nat.{ℕ}
use native.Mathlib.Omega.{arith}
use Rattle.grammar.specs.Basic.{Bytes, same_bytes}
use Rattle.grammar.specs.Tree.{E}
use Rattle.grammar.specs.Table.{Rule, Table, find}
use Rattle.grammar.specs.Steps.{each}
use Rattle.meaning.specs.Outcome.{Res, Out}
use Rattle.meaning.proofs.Asks.{Ask, Asked, nows, rules, failed, went, by, each_outcome}
use Rattle.meaning.proofs.Same.{Same, flip}

-- Two tables with the same names in the same order, and R between the expressions of each rule
pub data Pairs (R : E → E → Type 0) : Table Bytes → Table Bytes → Type 0 where
  no_rules : Pairs R [] []
  pair : {a b : Rule Bytes} {t u : Table Bytes} → a.name ≡ b.name → R a.body b.body → Pairs R t u → Pairs R (a ∷ t) (b ∷ u)

mirror : {R : E → E → Type 0} {t u : Table Bytes} → Pairs R t u → Pairs (λ a b. R b a) u t
mirror no_rules = no_rules
mirror (pair q r ps) = pair (sym q) r (mirror ps)

-- the rule of the other table under the same name
pub record Partner (R : E → E → Type 0) (u : Table Bytes) (x : Bytes) (e : E) : Type 0 where
  pub other : E
  pub found : find u x ≡ some other
  pub related : R e other

pub partner : {R : E → E → Type 0} {t u : Table Bytes} → Pairs R t u → (x : Bytes) (e : E) → find t x ≡ some e → Partner R u x e
unfolding same_bytes
partner no_rules x e h = let z : ◌≡◌ {A = ℕ} 0 1 = cc in absurd (omega arith)
partner {R} (pair {a} {b} {t} {u} q r ps) x e h = go (same_bytes a.name x) refl h (partner ps x e)
  where
    go : (c : Bool) → same_bytes a.name x ≡ c → cond c (some a.body) (find t x) ≡ some e → (find t x ≡ some e → Partner R u x e) → Partner R (b ∷ u) x e
    go true k h ih = record { other = b.body; found = rw (← q, k); related = subst (λ (y : E). R y b.body) (cc) r }
    go false k h ih = let p = ih h in record { other = p.other; found = rw (← q, k) p.found; related = p.related }

-- Every expression has the same outcomes under two tables
pub record Keeps (t u : Table Bytes) (s : Bytes) : Type 0 where
  pub to : {e : E} {p : ℕ} {r : Res} → Out t s e p r → Out u s e p r
  pub from : {e : E} {p : ℕ} {r : Res} → Out u s e p r → Out t s e p r

infixr 50 ◌then◌
pub ◌then◌ : {t u v : Table Bytes} {s : Bytes} → Keeps t u s → Keeps u v s → Keeps t v s
h then k = record { to = λ d. k.to (h.to d); from = λ d. h.from (k.from d) }

-- outcomes go over to a table that has under each name an expression with the same outcomes there: only a call by name asks
module _ {t u : Table Bytes} {s : Bytes} (has : (x : Bytes) (e : E) → find t x ≡ some e → Partner (Same u s) u x e) where
  carried : {p : ℕ} {a : Ask} {r : Res} → Asked (Out u s) t p a r → Asked (Out u s) u p a r
  carried (nows f) = nows f
  carried (rules {x} {e} l d) = rules (has x e l).found ((has x e l).related.to d)
  carried (failed d f) = failed d f
  carried (went d f) = went d f

  carry : {e : E} {p : ℕ} {r : Res} → Out t s e p r → Out u s e p r
  carry d = each_outcome (Out u s) (λ e p r a. by e (carried a)) d

-- the same outcomes under both tables
pub record Both (t u : Table Bytes) (s : Bytes) (a b : E) : Type 0 where
  pub before : Same t s a b
  pub after : Same u s a b

-- THE LIFTING THEOREM: where the two expressions of each rule have the same outcomes under both tables, every expression has
pub lifted : {t u : Table Bytes} {s : Bytes} → Pairs (Both t u s) t u → Keeps t u s
lifted {t} {u} {s} ps =
    record {
      to = carry (λ x e l. let q = partner ps x e l in record { other = q.other; found = q.found; related = q.related.after });
      from = carry (λ x e l. let q = partner (mirror ps) x e l in record { other = q.other; found = q.found; related = flip q.related.before });
    }

-- A step at the rules of a table: P is what it asks of an expression

abbrev pub All : (E → Type 0) → Table Bytes → Type 0
All P [] = Unit {0}
All P (r ∷ t) = P r.body × All P t

pub each_pairs : {R : E → E → Type 0} {P : E → Type 0} (f : ℕ → E → E) → ((y : ℕ) (e : E) → P e → R e (f y e)) → (t : Table Bytes) → All P t → Pairs R t (each f t)
each_pairs f h [] a = no_rules
each_pairs f h (r ∷ t) a = pair refl (h r.type r.body a.0) (each_pairs f h t a.1)

pub anything : (t : Table Bytes) → All (λ e. Unit {0}) t
anything [] = tt
anything (r ∷ t) = (tt, anything t)

-- a rewrite that keeps outcomes under every table keeps them when mapped through all rules
pub each_keeps : (f : ℕ → E → E) (P : E → Type 0) → ((t : Table Bytes) (s : Bytes) (y : ℕ) (e : E) → P e → Same t s e (f y e)) → (t : Table Bytes) (s : Bytes) → All P t → Keeps t (each f t) s
each_keeps f P h t s a = lifted (each_pairs f (λ y e x. record { before = h t s y e x; after = h (each f t) s y e x }) t a)
