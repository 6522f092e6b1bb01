-- The seven steps: each is one rewrite of a node, mapped over a tree from the top or from the bottom, and over a table.
-- A rewrite whose name ends in ? is partial: none leaves the node as it is. Assumes nothing.
use Rattle.std.specs.Prelude.{Bool, true, false, ◌||◌, cond, List, [], ◌∷◌, ◌++◌, map, ℕ, zero, suc, ◌-◌, min, replicate, eqb}
use Rattle.std.proofs.Math.Option.{Option, none, some}
use Rattle.grammar.specs.Basic.{Bytes, ◌>>=◌, test, ◌<|>◌, or_else}
use Rattle.grammar.specs.Numbers.{k_opt, k_rep}
use Rattle.grammar.specs.Tree.{Lit, Str, Insens, Un, PosPred, NegPred, Opt, Rep, RepOnce, Push, RestoreOnErr, RepExact, RepMin, RepMax, RepMinMax, Bin, Seq, Choice, E, lit, fixed, skip, un, bin, is_un, size, as_str, as_insens, as_rep, as_seq, as_choice, same}
use Rattle.grammar.specs.Table.{Rule, Table, Atomic, CompoundAtomic}
use Rattle.grammar.specs.Lists.{loop_over, skip_list, as_strings}
use Rattle.grammar.specs.Stack.{changes}

-- Mapping order

-- "bottom-up: children first, then the node once"
abbrev pub bottom_up : (E → E) → E → E
bottom_up f (lit k s) = f (lit k s)
bottom_up f (fixed g) = f (fixed g)
bottom_up f (skip ss) = f (skip ss)
bottom_up f (un u e) = f (un u (bottom_up f e))
bottom_up f (bin b l r) = f (bin b (bottom_up f l) (bottom_up f r))

-- "Skip has no children to visit"
abbrev pub children : (E → E) → E → E
children g (lit k s) = lit k s
children g (fixed f) = fixed f
children g (skip ss) = skip ss
children g (un u e) = un u (g e)
children g (bin b l r) = bin b (g l) (g r)

abbrev pub top_down_in : ℕ → (E → E) → E → E
top_down_in zero f e = e
top_down_in (suc n) f e = children (top_down_in n f) (f e)

-- "top-down: the rewrite is applied once at a node, then to the children of what came back". The node's size bounds the depth (TopDown, `top_down_step`)
abbrev pub top_down : (E → E) → E → E
top_down f e = top_down_in (size e) f e

abbrev pub or_same : (E → Option E) → E → E
or_same f e = or_else (f e) e

abbrev pub is_atomic : ℕ → Bool
is_atomic type = eqb type Atomic

abbrev pub only_if : Bool → (E → E) → E → E
only_if b f e = cond b (f e) e

-- 1. rotate. `rotated b l r` is the node b of l and r: "while the left child is a Seq, (a~b)~c becomes a~(b~c). The same for Choice"
abbrev pub rotated : Bin → E → E → E
rotated b (lit k s) r = bin b (lit k s) r
rotated b (fixed f) r = bin b (fixed f) r
rotated b (skip ss) r = bin b (skip ss) r
rotated b (un u e) r = bin b (un u e) r
rotated Seq (bin Seq x y) r = rotated Seq x (bin Seq y r)
rotated Seq (bin Choice x y) r = bin Seq (bin Choice x y) r
rotated Choice (bin Seq x y) r = bin Choice (bin Seq x y) r
rotated Choice (bin Choice x y) r = rotated Choice x (bin Choice y r)

abbrev pub rotate_at : E → E
rotate_at (lit k s) = lit k s
rotate_at (fixed f) = fixed f
rotate_at (skip ss) = skip ss
rotate_at (un u e) = un u e
rotate_at (bin b l r) = rotated b l r

unfoldable pub rotate : E → E
rotate e = top_down rotate_at e

-- 2. skip, "Atomic only". Lists are looked up in the rules as they were given
unfoldable pub skip? : Table Bytes → E → Option E
unfolding loop_over skip_list
skip? given e = do
  x ← loop_over e
  ss ← as_strings (skip_list given x)
  some (skip ss)

unfoldable pub skip_to : Table Bytes → ℕ → E → E
unfolding skip?
skip_to given type e = only_if (is_atomic type) (top_down (or_same (skip? given))) e

-- 3. unroll. "Items form a right-nested Seq; one item stands by itself." (There is always one: refusal 6.)
abbrev pub nest : List E → E
nest [] = skip []
nest (e ∷ []) = e
nest (e ∷ f ∷ es) = bin Seq e (nest (f ∷ es))

-- RepMinMax: "max items, item i is e if i is at most min, else e?"
abbrev pub unrolled : Un → E → E
unrolled PosPred e = un PosPred e
unrolled NegPred e = un NegPred e
unrolled Opt e = un Opt e
unrolled Rep e = un Rep e
unrolled Push e = un Push e
unrolled RestoreOnErr e = un RestoreOnErr e
unrolled RepOnce e = bin Seq e (un Rep e)
unrolled (RepExact n) e = nest (replicate n e)
unrolled (RepMin n) e = nest (replicate n e ++ (un Rep e ∷ []))
unrolled (RepMax n) e = nest (replicate n (un Opt e))
unrolled (RepMinMax m n) e = nest (replicate (min m n) e ++ replicate (n - m) (un Opt e))

abbrev pub unroll_at : E → E
unroll_at (lit k s) = lit k s
unroll_at (fixed f) = fixed f
unroll_at (skip ss) = skip ss
unroll_at (un u e) = unrolled u e
unroll_at (bin b l r) = bin b l r

unfoldable pub unroll : E → E
unroll e = bottom_up unroll_at e

-- 4. concatenate, "Atomic only": "Seq of two Str is one Str; the same for two Insens"
abbrev pub join_str : E → E → Option E
join_str l r = do
  s ← as_str l
  t ← as_str r
  some (lit Str (s ++ t))

abbrev pub join_insens : E → E → Option E
join_insens l r = do
  s ← as_insens l
  t ← as_insens r
  some (lit Insens (s ++ t))

abbrev pub concat? : E → Option E
concat? e = do
  (l, r) ← as_seq e
  join_str l r <|> join_insens l r

unfoldable pub concatenate : ℕ → E → E
concatenate type e = only_if (is_atomic type) (bottom_up (or_same concat?)) e

-- 5. factor, "at a Choice, first case that fits". `tight`: the rule is Atomic or CompoundAtomic
unfoldable pub factor_case : Bool → E → E → Option (E × E) → Option (E × E) → Option E
unfolding same
factor_case tight l r (some p) (some q) =
    test (same p.0 q.0) >>= λ _. some (bin Seq p.0 (bin Choice p.1 q.1))
factor_case true l r (some p) none = test (same p.0 r) >>= λ _. some (bin Seq p.0 (un Opt p.1))
factor_case false l r (some p) none = none
factor_case tight l r none (some q) = test (same l q.0) >>= λ _. some l
factor_case tight l r none none = none

unfoldable pub factor? : Bool → E → Option E
unfolding factor_case
factor? tight e = do
  (l, r) ← as_choice e
  factor_case tight l r (as_seq l) (as_seq r)

abbrev pub is_tight : ℕ → Bool
is_tight type = is_atomic type || eqb type CompoundAtomic

unfoldable pub factor : ℕ → E → E
unfolding factor?
factor type e = top_down (or_same (factor? (is_tight type))) e

-- 6. list: "(a~b)* ~ a is a ~ (b~a)*"
unfoldable pub list? : E → Option E
unfolding same
list? e = do
  (l, r) ← as_seq e
  s ← as_rep l
  (a, b) ← as_seq s
  _ ← test (same a r)
  some (bin Seq a (un Rep (bin Seq b r)))

unfoldable pub list : E → E
unfolding list?
list e = bottom_up (or_same list?) e

-- 7. restore: "the child of Opt and Rep, and each side of Choice, gets RestoreOnErr if it can change the stack"
unfoldable pub guarded : Table Bytes → E → E
unfolding changes
guarded t e = cond (changes t e) (un RestoreOnErr e) e

unfoldable pub restore_at : Table Bytes → E → E
unfolding guarded
restore_at t (lit k s) = lit k s
restore_at t (fixed f) = fixed f
restore_at t (skip ss) = skip ss
restore_at t (un u e) = un u (cond (is_un k_opt u || is_un k_rep u) (guarded t e) e)
restore_at t (bin Seq l r) = bin Seq l r
restore_at t (bin Choice l r) = bin Choice (guarded t l) (guarded t r)

unfoldable pub restore : Table Bytes → E → E
unfolding restore_at
restore t e = bottom_up (restore_at t) e

-- A step on a table: on the expression of each rule, by the rule's type
abbrev pub on_rule : (ℕ → E → E) → Rule Bytes → Rule Bytes
on_rule f r = record { name = r.name; type = r.type; body = f r.type r.body }

abbrev pub each : (ℕ → E → E) → Table Bytes → Table Bytes
each f t = map (on_rule f) t
