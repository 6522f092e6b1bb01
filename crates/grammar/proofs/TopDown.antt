-- A top-down map obeys its own recursion equation: the fuel of `top_down` is no part of what it says. Assumes nothing.
use mathlib.Core.Path.{◌≡◌, refl, ap, ap₂, ◌∙◌}
use mathlib.Core.Bool.{Bool, true, false}
use mathlib.Core.Option.{Option, none, some}
use mathlib.Core.List.{List, [], ◌∷◌}
use Prim.Native.Nat.{ℕ, zero, suc, ◌+◌, ◌≤◌, ◌<◌}
use native.Mathlib.Omega.{arith}
use Rattle.grammar.specs.Basic.{Bytes, ◌>>=◌, or_else, test}
use Rattle.grammar.specs.Tree.{Bin, Choice, E, Expr, Opt, Seq, as_seq, bin, fixed, lit, same, size, skip, un}
use Rattle.grammar.specs.Table.{Table}
use Rattle.grammar.specs.Refusals.{names}
use Rattle.grammar.specs.Lists.{as_strings, loop_over, skip_list}
use Rattle.grammar.specs.Steps.{children, each, factor, factor?, factor_case, is_tight, or_same, rotate, rotate_at, rotated, skip?, top_down, top_down_in}
use Rattle.grammar.proofs.Logic.{none_some}

-- the rows below a node that a mapping enters
abbrev pub below : E → ℕ
below (lit k s) = 0
below (fixed f) = 0
below (skip ss) = 0
below (un u e) = size e
below (bin b l r) = size l + size r

pub size_pos : {L : Type 0} (e : Expr L) → 0 < size e
size_pos (lit k s) = omega arith
size_pos (fixed f) = omega arith
size_pos (skip ss) = omega arith
size_pos (un u e) = omega arith
size_pos (bin b l r) = omega arith

pub below_size : (e : E) → below e < size e
below_size (lit k s) = omega arith
below_size (fixed f) = omega arith
below_size (skip ss) = omega arith
below_size (un u e) = omega arith
below_size (bin b l r) = omega arith

pub children_same : (g h : E → E) (x : E) → ((y : E) → size y ≤ below x → g y ≡ h y) → children g x ≡ children h x
children_same g h (lit k s) p = refl
children_same g h (fixed f) p = refl
children_same g h (skip ss) p = refl
children_same g h (un u e) p = ap (un u) (p e (omega arith))
children_same g h (bin b l r) p = ap₂ (bin b) (p l (omega arith)) (p r (omega arith))

-- what a rewrite gives has less below it than the node had rows. (Its size may be larger: a skip list's.)
abbrev pub Falls : (E → E) → Type 0
Falls f = (e : E) → below (f e) < size e

module _ (f : E → E) (falls : Falls f) where
  pub top_down_enough : (n m : ℕ) (e : E) → size e ≤ n → size e ≤ m → top_down_in n f e ≡ top_down_in m f e
  top_down_enough zero m e p q = absurd (omega (arith, size_pos e))
  top_down_enough (suc n) zero e p q = absurd (omega (arith, size_pos e))
  top_down_enough (suc n) (suc m) e p q = children_same (top_down_in n f) (top_down_in m f) (f e) (λ y h. top_down_enough n m y (omega (arith, falls e)) (omega (arith, falls e)))

  -- the document's words: the rewrite once at the node, then the children of what came back
  pub top_down_step : (e : E) → top_down f e ≡ children (top_down f) (f e)
  top_down_step e =
      top_down_enough (size e) (suc (size e)) e (omega arith) (omega arith)
      ∙ children_same (top_down_in (size e) f) (top_down f) (f e) (λ y h. top_down_enough (size e) (size y) y (omega (arith, falls e)) (omega arith))

-- 1. rotate
pub rotated_size : (b : Bin) (l r : E) → size (rotated b l r) ≡ size (bin b l r)
rotated_size b (lit k s) r = refl
rotated_size b (fixed f) r = refl
rotated_size b (skip ss) r = refl
rotated_size b (un u e) r = refl
rotated_size Seq (bin Seq x y) r = omega (arith, rotated_size Seq x (bin Seq y r))
rotated_size Seq (bin Choice x y) r = refl
rotated_size Choice (bin Seq x y) r = refl
rotated_size Choice (bin Choice x y) r = omega (arith, rotated_size Choice x (bin Choice y r))

pub rotate_at_size : (e : E) → size (rotate_at e) ≡ size e
rotate_at_size (lit k s) = refl
rotate_at_size (fixed f) = refl
rotate_at_size (skip ss) = refl
rotate_at_size (un u e) = refl
rotate_at_size (bin b l r) = rotated_size b l r

pub rotate_falls : Falls rotate_at
rotate_falls e = omega (arith, below_size (rotate_at e), rotate_at_size e)

pub rotate_step_lem : (e : E) → rotate e ≡ children rotate (rotate_at e)
unfolding rotate
rotate_step_lem e = top_down_step rotate_at rotate_falls e

-- 2. skip
to_skip : (e : E) (o : Option (List Bytes)) → below (or_else (o >>= λ ss. some (skip ss)) e) < size e
to_skip e none = below_size e
to_skip e (some ss) = size_pos e

skip_at : (t : Table Bytes) (e : E) (o : Option E) → below (or_else (o >>= λ x. as_strings (skip_list t x) >>= λ ss. some (skip ss)) e) < size e
skip_at t e none = below_size e
skip_at t e (some x) = to_skip e (as_strings (skip_list t x))

pub skip_falls : (t : Table Bytes) → Falls (or_same (skip? t))
unfolding skip?
skip_falls t e = skip_at t e (loop_over e)

pub skip_step_lem : (t : Table Bytes) (e : E) → top_down (or_same (skip? t)) e ≡ children (top_down (or_same (skip? t))) (or_same (skip? t) e)
skip_step_lem t e = top_down_step (or_same (skip? t)) (skip_falls t) e

-- 5. factor
-- a node that the view of Seq takes apart is that Seq
pub as_seq_is : (e : E) (p : E × E) → as_seq e ≡ some p → e ≡ bin Seq p.0 p.1
as_seq_is (lit k s) p h = none_some h
as_seq_is (fixed f) p h = none_some h
as_seq_is (skip ss) p h = none_some h
as_seq_is (un u e) p h = none_some h
as_seq_is (bin Seq l r) p h = cc
as_seq_is (bin Choice l r) p h = none_some h

chosen : (t : Bool) (x e : E) → below x < size e → below (or_else (test t >>= λ _. some x) e) < size e
chosen true x e h = h
chosen false x e h = below_size e

factor_sides : (tight : Bool) (l r : E) (o q : Option (E × E)) → as_seq l ≡ o → as_seq r ≡ q → below (or_else (factor_case tight l r o q) (bin Choice l r)) < size (bin Choice l r)
unfolding factor_case same
factor_sides tight l r (some p) (some q) e f = chosen (same p.0 q.0) (bin Seq p.0 (bin Choice p.1 q.1)) (bin Choice l r) (omega (arith, ap size (as_seq_is l p e), ap size (as_seq_is r q f)))
factor_sides true l r (some p) none e f = chosen (same p.0 r) (bin Seq p.0 (un Opt p.1)) (bin Choice l r) (omega (arith, ap size (as_seq_is l p e)))
factor_sides false l r (some p) none e f = below_size (bin Choice l r)
factor_sides tight l r none (some q) e f = chosen (same l q.0) l (bin Choice l r) (omega (arith, below_size l))
factor_sides tight l r none none e f = below_size (bin Choice l r)

pub factor_falls : (tight : Bool) → Falls (or_same (factor? tight))
unfolding factor?
factor_falls tight (lit k s) = below_size (lit k s)
factor_falls tight (fixed f) = below_size (fixed f)
factor_falls tight (skip ss) = below_size (skip ss)
factor_falls tight (un u e) = below_size (un u e)
factor_falls tight (bin Seq l r) = below_size (bin Seq l r)
factor_falls tight (bin Choice l r) = factor_sides tight l r (as_seq l) (as_seq r) refl refl

pub factor_step_lem : (type : ℕ) (e : E) → factor type e ≡ children (factor type) (or_same (factor? (is_tight type)) e)
unfolding factor
factor_step_lem type e = top_down_step (or_same (factor? (is_tight type))) (factor_falls (is_tight type)) e

-- a step on every rule changes no name
pub each_names : (f : ℕ → E → E) (t : Table Bytes) → names (each f t) ≡ names t
each_names f [] = refl
each_names f (r ∷ t) = ap (λ (l : List Bytes). r.name ∷ l) (each_names f t)
