-- Reading the rotated expression of a skip loop is reading the leaves of its Choice tree in order, and rotation neither makes nor unmakes a
-- loop: so refusal 7 can be decided on the table as it was given. Assumes nothing.
use mathlib.Core.Path.{◌≡◌, refl, sym, ap, ap₂, ◌∙◌}
use mathlib.Core.Bool.{Bool, true, false, ◌&&◌, ◌||◌}
use mathlib.Core.List.{[], ◌∷◌, append_assoc}
use mathlib.Core.Option.{Option, none, some}
use Prim.Native.Nat.{suc}
use lib.ListN.{length}
use Rattle.grammar.specs.Basic.{Bytes, ◌>>=◌, any, same_bytes, test}
use Rattle.grammar.specs.Tree.{Bin, Choice, E, Lit, NegPred, Opt, PosPred, Push, Rep, RepExact, RepMax, RepMin, RepMinMax, RepOnce, RestoreOnErr, Seq, Un, any_node, as_ident, as_neg_pred, as_rep, as_seq, bin, fixed, lit, skip, un}
use Rattle.grammar.specs.Table.{Table}
use Rattle.grammar.specs.Lists.{ANY, Reading, again, and_then, is_again, loop_over, nothing, read_in, read_left, read_lit, read_name, skip_list, strings}
use Rattle.grammar.specs.Steps.{children, is_atomic, rotate, rotated}
use Rattle.grammar.specs.Refusals.{meets, meets_at, meets_in}
use Rattle.grammar.proofs.TopDown.{rotate_step_lem}

-- the leaves of a Choice tree, however nested, from left to right
abbrev pub read_leaves : (Bytes → Reading) → E → Reading
read_leaves look (lit k s) = read_lit look k s
read_leaves look (fixed f) = nothing
read_leaves look (skip ss) = nothing
read_leaves look (un u e) = nothing
read_leaves look (bin Seq l r) = nothing
read_leaves look (bin Choice l r) = and_then (read_leaves look l) (read_leaves look r)

pub and_then_assoc : (p q r : Reading) → and_then (and_then p q) r ≡ and_then p (and_then q r)
and_then_assoc nothing q r = refl
and_then_assoc again q r = refl
and_then_assoc (strings ss) nothing r = refl
and_then_assoc (strings ss) again r = refl
and_then_assoc (strings ss) (strings ts) nothing = refl
and_then_assoc (strings ss) (strings ts) again = refl
and_then_assoc (strings ss) (strings ts) (strings us) = ap strings (append_assoc ss ts us)

-- a rotated node of two children is one of two children
module _ {A : Type 0} (f : E → A) (a : A) (at-bin : (b : Bin) (l r : E) → f (bin b l r) ≡ a) where
  rotated_bin : (b : Bin) (l r : E) → f (children rotate (rotated b l r)) ≡ a
  rotated_bin b (lit k s) r = at-bin b _ _
  rotated_bin b (fixed g) r = at-bin b _ _
  rotated_bin b (skip ss) r = at-bin b _ _
  rotated_bin b (un u e) r = at-bin b _ _
  rotated_bin Seq (bin Seq x y) r = rotated_bin Seq x (bin Seq y r)
  rotated_bin Seq (bin Choice x y) r = at-bin Seq _ _
  rotated_bin Choice (bin Seq x y) r = at-bin Choice _ _
  rotated_bin Choice (bin Choice x y) r = rotated_bin Choice x (bin Choice y r)

  pub rotate_bin : (b : Bin) (l r : E) → f (rotate (bin b l r)) ≡ a
  rotate_bin b l r = ap f (rotate_step_lem (bin b l r)) ∙ rotated_bin b l r

module _ (look : Bytes → Reading) where
  -- the left side of a rotated Choice
  left_lit : (k : Lit) (s : Bytes) (q : Reading) → and_then (read_left look (rotate (lit k s))) q ≡ and_then (read_lit look k s) q
  left_lit k s q = ap (λ (e : E). and_then (read_left look e) q) (rotate_step_lem (lit k s))

  left_none : (e : E) (q : Reading) → read_left look (rotate e) ≡ nothing → and_then (read_left look (rotate e)) q ≡ nothing
  left_none e q h = ap (λ (p : Reading). and_then p q) h

  chain_read : (l r : E) → read_in look (children rotate (rotated Choice l r)) ≡ and_then (read_leaves look l) (read_in look (rotate r))
  chain_read (lit k s) r = left_lit k s (read_in look (rotate r))
  chain_read (fixed f) r = left_none (fixed f) (read_in look (rotate r)) (ap (read_left look) (rotate_step_lem (fixed f)))
  chain_read (skip ss) r = left_none (skip ss) (read_in look (rotate r)) (ap (read_left look) (rotate_step_lem (skip ss)))
  chain_read (un u e) r = left_none (un u e) (read_in look (rotate r)) (ap (read_left look) (rotate_step_lem (un u e)))
  chain_read (bin Seq x y) r = left_none (bin Seq x y) (read_in look (rotate r)) (rotate_bin (read_left look) nothing (λ b l r. refl) Seq x y)
  chain_read (bin Choice x y) r =
      chain_read x (bin Choice y r)
      ∙ ap (and_then (read_leaves look x)) (ap (read_in look) (rotate_step_lem (bin Choice y r)) ∙ chain_read y r)
      ∙ sym (and_then_assoc (read_leaves look x) (read_leaves look y) (read_in look (rotate r)))

  -- READING THE ROTATED EXPRESSION IS READING THE LEAVES
  pub rotated_read : (e : E) → read_in look (rotate e) ≡ read_leaves look e
  rotated_read (lit k s) = ap (read_in look) (rotate_step_lem (lit k s))
  rotated_read (fixed f) = ap (read_in look) (rotate_step_lem (fixed f))
  rotated_read (skip ss) = ap (read_in look) (rotate_step_lem (skip ss))
  rotated_read (un u e) = ap (read_in look) (rotate_step_lem (un u e))
  rotated_read (bin Seq l r) = ap (read_in look) (rotate_step_lem (bin Seq l r)) ∙ seq_read l r
    where
      seq_read : (l r : E) → read_in look (children rotate (rotated Seq l r)) ≡ nothing
      seq_read (lit k s) r = refl
      seq_read (fixed f) r = refl
      seq_read (skip ss) r = refl
      seq_read (un u e) r = refl
      seq_read (bin Seq x y) r = seq_read x (bin Seq y r)
      seq_read (bin Choice x y) r = refl
  rotated_read (bin Choice l r) =
      ap (read_in look) (rotate_step_lem (bin Choice l r))
      ∙ chain_read l r
      ∙ ap (and_then (read_leaves look l)) (rotated_read r)

-- Loops

-- e of !e ~ ANY
abbrev pub in_loop : E → Option E
in_loop s = as_seq s >>= λ p. as_neg_pred p.0 >>= λ x. as_ident p.1 >>= λ y. test (same_bytes y ANY) >>= λ _. some x

pub loop_over_is : (e : E) → loop_over e ≡ (as_rep e >>= in_loop)
unfolding loop_over
loop_over_is e = refl

abbrev pub map_option : (E → E) → Option E → Option E
map_option f none = none
map_option f (some x) = some (f x)

no_name : (o : Option E) → (o >>= λ x. none >>= λ y. test (same_bytes y ANY) >>= λ _. some x) ≡ none
no_name none = refl
no_name (some x) = refl

named : (f : E → E) (x : E) (b : Bool) → (test b >>= λ _. some (f x)) ≡ map_option f (test b >>= λ _. some x)
named f x true = refl
named f x false = refl

-- both sides of a pair that is not rotated further
pair_loop : (l r : E) → (as_neg_pred (rotate l) >>= λ x. as_ident (rotate r) >>= λ y. test (same_bytes y ANY) >>= λ _. some x) ≡ map_option rotate (as_neg_pred l >>= λ x. as_ident r >>= λ y. test (same_bytes y ANY) >>= λ _. some x)
pair_loop l r = ap₂ (λ (o : Option E) (n : Option Bytes). o >>= λ x. n >>= λ y. test (same_bytes y ANY) >>= λ _. some x) (neg l) (ident r) ∙ both (as_neg_pred l) (as_ident r)
  where
    neg_un : (u : Un) (e : E) → as_neg_pred (un u (rotate e)) ≡ map_option rotate (as_neg_pred (un u e))
    neg_un PosPred e = refl
    neg_un NegPred e = refl
    neg_un Opt e = refl
    neg_un Rep e = refl
    neg_un RepOnce e = refl
    neg_un Push e = refl
    neg_un RestoreOnErr e = refl
    neg_un (RepExact n) e = refl
    neg_un (RepMin n) e = refl
    neg_un (RepMax n) e = refl
    neg_un (RepMinMax m n) e = refl

    neg : (e : E) → as_neg_pred (rotate e) ≡ map_option rotate (as_neg_pred e)
    neg (lit k s) = ap as_neg_pred (rotate_step_lem (lit k s))
    neg (fixed f) = ap as_neg_pred (rotate_step_lem (fixed f))
    neg (skip ss) = ap as_neg_pred (rotate_step_lem (skip ss))
    neg (un u e) = ap as_neg_pred (rotate_step_lem (un u e)) ∙ neg_un u e
    neg (bin b x y) = rotate_bin as_neg_pred none (λ b l r. refl) b x y

    ident : (e : E) → as_ident (rotate e) ≡ as_ident e
    ident (lit k s) = ap as_ident (rotate_step_lem (lit k s))
    ident (fixed f) = ap as_ident (rotate_step_lem (fixed f))
    ident (skip ss) = ap as_ident (rotate_step_lem (skip ss))
    ident (un u e) = ap as_ident (rotate_step_lem (un u e))
    ident (bin b x y) = rotate_bin as_ident none (λ b l r. refl) b x y

    both : (o : Option E) (n : Option Bytes) → (map_option rotate o >>= λ x. n >>= λ y. test (same_bytes y ANY) >>= λ _. some x) ≡ map_option rotate (o >>= λ x. n >>= λ y. test (same_bytes y ANY) >>= λ _. some x)
    both none n = refl
    both (some x) none = refl
    both (some x) (some y) = named rotate x (same_bytes y ANY)

-- a Seq whose right side has two children is no loop's, nor is what it rotates to
no_loop : (x : E) (b : Bin) (y r : E) → in_loop (bin Seq x (rotate (bin b y r))) ≡ none
no_loop x b y r =
    ap (λ (n : Option Bytes). as_neg_pred x >>= λ z. n >>= λ w. test (same_bytes w ANY) >>= λ _. some z) (rotate_bin as_ident none (λ b l r. refl) b y r)
    ∙ no_name (as_neg_pred x)

long_loop : (x : E) (b : Bin) (y r : E) → in_loop (children rotate (rotated Seq x (bin b y r))) ≡ none
long_loop (lit k s) b y r = no_loop (rotate (lit k s)) b y r
long_loop (fixed f) b y r = no_loop (rotate (fixed f)) b y r
long_loop (skip ss) b y r = no_loop (rotate (skip ss)) b y r
long_loop (un u e) b y r = no_loop (rotate (un u e)) b y r
long_loop (bin Seq x z) b y r = long_loop x Seq z (bin b y r)
long_loop (bin Choice x z) b y r = no_loop (rotate (bin Choice x z)) b y r

-- ROTATION NEITHER MAKES NOR UNMAKES A LOOP
pub rotated_loop : (e : E) → in_loop (rotate e) ≡ map_option rotate (in_loop e)
rotated_loop (lit k s) = ap in_loop (rotate_step_lem (lit k s))
rotated_loop (fixed f) = ap in_loop (rotate_step_lem (fixed f))
rotated_loop (skip ss) = ap in_loop (rotate_step_lem (skip ss))
rotated_loop (un u e) = ap in_loop (rotate_step_lem (un u e))
rotated_loop (bin Choice l r) = rotate_choice l r
  where
    choice_loop : (l r : E) → in_loop (children rotate (rotated Choice l r)) ≡ none
    choice_loop (lit k s) r = refl
    choice_loop (fixed f) r = refl
    choice_loop (skip ss) r = refl
    choice_loop (un u e) r = refl
    choice_loop (bin Seq x y) r = refl
    choice_loop (bin Choice x y) r = choice_loop x (bin Choice y r)

    rotate_choice : (l r : E) → in_loop (rotate (bin Choice l r)) ≡ none
    rotate_choice l r = ap in_loop (rotate_step_lem (bin Choice l r)) ∙ choice_loop l r
rotated_loop (bin Seq l r) = ap in_loop (rotate_step_lem (bin Seq l r)) ∙ seq_loop l r
  where
    seq_loop : (l r : E) → in_loop (children rotate (rotated Seq l r)) ≡ map_option rotate (in_loop (bin Seq l r))
    seq_loop (lit k s) r = pair_loop (lit k s) r
    seq_loop (fixed f) r = pair_loop (fixed f) r
    seq_loop (skip ss) r = pair_loop (skip ss) r
    seq_loop (un u e) r = pair_loop (un u e) r
    seq_loop (bin Seq x y) r = long_loop x Seq y r
    seq_loop (bin Choice x y) r = pair_loop (bin Choice x y) r

-- Refusal 7 on the given table

-- the loop's list, by its leaves as given
abbrev pub leaf_list : Table Bytes → E → Reading
leaf_list given x = read_leaves (read_name (suc (length given)) given []) x

abbrev pub meets_loop : Table Bytes → Option E → Bool
meets_loop given none = false
meets_loop given (some x) = is_again (leaf_list given x)

abbrev pub meets_given : Table Bytes → E → Bool
meets_given given e = meets_loop given (as_rep e >>= in_loop)

-- rotation, and a test that no node of two children passes
module _ (T : E → Bool) (two : (b : Bin) (l r : E) → T (bin b l r) ≡ false) where
  or_assoc : (a b c : Bool) → (a || (b || c)) ≡ ((a || b) || c)
  or_assoc true b c = refl
  or_assoc false b c = refl

  abbrev Passes : E → Bool
  Passes e = any_node T (rotate e)

  abbrev ChainPasses : Bin → E → E → Bool
  ChainPasses b l r = any_node T (children rotate (rotated b l r))

  chain_is : (b : Bin) (l r : E) → Passes (bin b l r) ≡ ChainPasses b l r
  chain_is b l r = ap (any_node T) (rotate_step_lem (bin b l r))

  pair_any : (b : Bin) (l r : E) → any_node T (bin b (rotate l) (rotate r)) ≡ (Passes l || Passes r)
  pair_any b l r = ap (λ (x : Bool). x || (Passes l || Passes r)) (two b (rotate l) (rotate r))

  nested : (b : Bin) (x y r : E) → ChainPasses b x (bin b y r) ≡ (Passes x || Passes (bin b y r)) → ChainPasses b y r ≡ (Passes y || Passes r) → ChainPasses b x y ≡ (Passes x || Passes y) → ChainPasses b x (bin b y r) ≡ (Passes (bin b x y) || Passes r)
  nested b x y r h k m =
      h
      ∙ ap (λ (c : Bool). Passes x || c) (chain_is b y r ∙ k)
      ∙ or_assoc (Passes x) (Passes y) (Passes r)
      ∙ ap (λ (c : Bool). c || Passes r) (sym (chain_is b x y ∙ m))

  pub rotated_two : (b : Bin) (l r : E) → ChainPasses b l r ≡ (Passes l || Passes r)
  rotated_two b (lit k s) r = pair_any b (lit k s) r
  rotated_two b (fixed f) r = pair_any b (fixed f) r
  rotated_two b (skip ss) r = pair_any b (skip ss) r
  rotated_two b (un u e) r = pair_any b (un u e) r
  rotated_two Seq (bin Choice x y) r = pair_any Seq (bin Choice x y) r
  rotated_two Choice (bin Seq x y) r = pair_any Choice (bin Seq x y) r
  rotated_two Seq (bin Seq x y) r = nested Seq x y r (rotated_two Seq x (bin Seq y r)) (rotated_two Seq y r) (rotated_two Seq x y)
  rotated_two Choice (bin Choice x y) r = nested Choice x y r (rotated_two Choice x (bin Choice y r)) (rotated_two Choice y r) (rotated_two Choice x y)

module _ (t : Table Bytes) where
  loop_same : (o : Option E) → meets_in t (map_option rotate o) ≡ meets_loop t o
  unfolding skip_list
  loop_same none = refl
  loop_same (some x) = ap is_again (rotated_read (read_name (suc (length t)) t []) x)

  meets_at_is : (e : E) → meets_at t e ≡ meets_in t (as_rep e >>= in_loop)
  unfolding meets_at
  meets_at_is e = ap (meets_in t) (loop_over_is e)

  un_same : (u : Un) (e : E) → meets_in t (as_rep (un u (rotate e)) >>= in_loop) ≡ meets_given t (un u e)
  un_same Rep e = ap (meets_in t) (rotated_loop e) ∙ loop_same (in_loop e)
  un_same PosPred e = refl
  un_same NegPred e = refl
  un_same Opt e = refl
  un_same RepOnce e = refl
  un_same Push e = refl
  un_same RestoreOnErr e = refl
  un_same (RepExact n) e = refl
  un_same (RepMin n) e = refl
  un_same (RepMax n) e = refl
  un_same (RepMinMax m n) e = refl

  any_same : (e : E) → any_node (meets_at t) (rotate e) ≡ any_node (meets_given t) e
  any_same (lit k s) = ap (any_node (meets_at t)) (rotate_step_lem (lit k s)) ∙ meets_at_is (lit k s)
  any_same (fixed f) = ap (any_node (meets_at t)) (rotate_step_lem (fixed f)) ∙ meets_at_is (fixed f)
  any_same (skip ss) = ap (any_node (meets_at t)) (rotate_step_lem (skip ss)) ∙ meets_at_is (skip ss)
  any_same (un u e) = ap (any_node (meets_at t)) (rotate_step_lem (un u e)) ∙ ap₂ ◌||◌ (meets_at_is (un u (rotate e)) ∙ un_same u e) (any_same e)
  any_same (bin b l r) = ap (any_node (meets_at t)) (rotate_step_lem (bin b l r)) ∙ rotated_two (meets_at t) (λ c x y. meets_at_is (bin c x y)) b l r ∙ ap₂ ◌||◌ (any_same l) (any_same r)

  rules_same : (rs : Table Bytes) → any (λ r. is_atomic r.type && any_node (meets_at t) (rotate r.body)) rs ≡ any (λ r. is_atomic r.type && any_node (meets_given t) r.body) rs
  rules_same [] = refl
  rules_same (r ∷ rs) = ap₂ (λ (a b : Bool). (is_atomic r.type && a) || b) (any_same r.body) (rules_same rs)

  -- REFUSAL 7 ON THE GIVEN TABLE
  pub meets_given_lem : meets t ≡ any (λ r. is_atomic r.type && any_node (meets_given t) r.body) t
  unfolding meets
  meets_given_lem = rules_same t
