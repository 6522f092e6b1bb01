-- How the reading of a skip list ends (01, step 2), and where: `read_in` and `read_name` of grammar, with the rule and the row at which it is. Assumes nothing.
use Rattle.std.specs.Prelude.{Bool, true, false, cond, List, [], ◌∷◌, ◌++◌, ℕ, zero, suc, ◌+◌, ◌-◌, eqb}
use Rattle.std.proofs.Math.Option.{Option, none, some}
use Rattle.grammar.specs.Basic.{Bytes, same_bytes, any}
use Rattle.grammar.specs.Tree.{Lit, Str, Insens, Ident, Seq, Choice, E, lit, fixed, skip, un, bin, size}
use Rattle.grammar.specs.Table.{Table}

-- to a list; at "an unknown name or another expression at which reading ends in none"; at a name of a rule that is met again, with "the rules then
-- being read, outermost first". Rules are counted from 0, rows from the table's first
pub data Ends : Type 0 where
  reads : Ends
  unknown other : (rule at : ℕ) → Ends
  again : (rule at met : ℕ) (path : List ℕ) → Ends

-- "the first reason in step 2's reading order"
abbrev pub first : Ends → Ends → Ends
first reads q = q
first (unknown i at) q = unknown i at
first (other i at) q = other i at
first (again i at j o) q = again i at j o

-- how the name of row `at` of a rule is read
abbrev pub Look : Type 0
Look = (rule at : ℕ) → Bytes → Ends

abbrev pub ends_lit : Look → (rule at : ℕ) → Lit → Bytes → Ends
ends_lit look i at Str s = reads
ends_lit look i at Insens s = other i at
ends_lit look i at Ident x = look i at x

-- the left side of a Choice "must be Str or Ident"
abbrev pub ends_left : Look → (rule at : ℕ) → E → Ends
ends_left look i at (lit k s) = ends_lit look i at k s
ends_left look i at (fixed f) = other i at
ends_left look i at (skip ss) = other i at
ends_left look i at (un u e) = other i at
ends_left look i at (bin b l r) = other i at

-- an expression of a rule whose root is row `at`: a Choice's right side ends one row before it, its left side before that
abbrev pub ends_in : Look → (rule at : ℕ) → E → Ends
ends_in look i at (lit k s) = ends_lit look i at k s
ends_in look i at (fixed f) = other i at
ends_in look i at (skip ss) = other i at
ends_in look i at (un u e) = other i at
ends_in look i at (bin Seq l r) = other i at
ends_in look i at (bin Choice l r) = first (ends_left look i (at - 1 - size r) l) (ends_in look i (at - 1) r)

-- a rule that a name finds: its number, the row of its root, its expression
pub record Place : Type 0 where
  pub rule : ℕ
  pub root : ℕ
  pub body : E

-- the first rule has number i, and its rows begin at row `from`
abbrev pub place_from : (i from : ℕ) → Table Bytes → Bytes → Option Place
place_from i from [] x = none
place_from i from (r ∷ rs) x =
    cond (same_bytes r.name x) (some (record { rule = i; root = from + size r.body - 1; body = r.body })) (place_from (suc i) (from + size r.body) rs x)

abbrev pub opened : ℕ → List ℕ → Bool
opened j o = any (eqb j) o

-- `met` says whether the rule is being read
abbrev pub ends_found : (rule at : ℕ) → Option Place → (ℕ → Bool) → List ℕ → (Place → Ends) → Ends
ends_found i at none met o read = unknown i at
ends_found i at (some p) met o read = cond (met p.rule) (again i at p.rule o) (read p)

-- `o` are the rules that are being read, outermost first. Each look adds one, so n, one more than the rules, is never used up
abbrev pub ends_name : ℕ → Table Bytes → List ℕ → Look
ends_name zero t o i at x = again i at 0 o
ends_name (suc n) t o i at x =
    ends_found i at (place_from 0 0 t x) (λ j. opened j o) o (λ p. ends_in (ends_name n t (o ++ (p.rule ∷ []))) p.rule p.root p.body)
