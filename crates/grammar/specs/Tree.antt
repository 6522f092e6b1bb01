-- A grammar expression as a tree (01, the table of kinds). A tree is taken over what a literal is: its bytes, or a span of a text.
-- The constructors go by what a row has below it: nothing, strings, one child, two children. Assumes nothing.
use Rattle.std.specs.Prelude.{Bool, ◌||◌, cond, List, [], ◌∷◌, ◌++◌, ℕ, ◌+◌, length, eqb}
use Rattle.std.proofs.Math.Option.{Option, none, some}
use Rattle.std.proofs.Math.Decide.{ℕ_discrete}
use Rattle.grammar.specs.Basic.{Bytes, holds, list_discrete, bytes_discrete}
use Rattle.grammar.specs.Numbers.{k_str, k_insens, k_range, k_ident, k_peek_from, k_peek_slice, k_pos_pred, k_neg_pred, k_seq, k_choice, k_opt, k_rep, k_rep_once, k_rep_exact, k_rep_min, k_rep_max, k_rep_min_max, k_push, k_restore_on_err}

-- kinds 0, 1, 3: a literal
pub data Lit : Type 0 where
  Str Insens Ident : Lit
  deriving Discrete as Lit-discrete

-- kinds 2, 4, 5: plain numbers. PeekFrom is PeekSlice without end
pub data Fixed : Type 0 where
  Range PeekSlice : ℕ → ℕ → Fixed
  PeekFrom : ℕ → Fixed
  deriving Discrete as Fixed-discrete

-- kinds 6, 7, 10 to 16, 18, 19: one child
pub data Un : Type 0 where
  PosPred NegPred Opt Rep RepOnce Push RestoreOnErr : Un
  RepExact RepMin RepMax : ℕ → Un
  RepMinMax : ℕ → ℕ → Un
  deriving Discrete as Un-discrete

-- kinds 8, 9: two children
pub data Bin : Type 0 where
  Seq Choice : Bin
  deriving Discrete as Bin-discrete

-- `skip` is kind 17 with its strings
pub data Expr (L : Type 0) : Type 0 where
  lit : Lit → L → Expr L
  fixed : Fixed → Expr L
  skip : List L → Expr L
  un : Un → Expr L → Expr L
  bin : Bin → Expr L → Expr L → Expr L
  deriving Discrete as Expr-discrete

-- an expression whose literals are their bytes
abbrev pub E : Type 0
E = Expr Bytes

-- kind, x and y of a row
abbrev pub Head : Type 0
Head = ℕ × ℕ × ℕ

abbrev pub lit_kind : Lit → ℕ
lit_kind Str = k_str
lit_kind Insens = k_insens
lit_kind Ident = k_ident

-- unused x and y are 0
abbrev pub fixed_head : Fixed → Head
fixed_head (Range a b) = (k_range, a, b)
fixed_head (PeekFrom a) = (k_peek_from, a, 0)
fixed_head (PeekSlice a b) = (k_peek_slice, a, b)

abbrev pub un_head : Un → Head
un_head PosPred = (k_pos_pred, 0, 0)
un_head NegPred = (k_neg_pred, 0, 0)
un_head Opt = (k_opt, 0, 0)
un_head Rep = (k_rep, 0, 0)
un_head RepOnce = (k_rep_once, 0, 0)
un_head (RepExact n) = (k_rep_exact, n, 0)
un_head (RepMin n) = (k_rep_min, n, 0)
un_head (RepMax n) = (k_rep_max, n, 0)
un_head (RepMinMax m n) = (k_rep_min_max, m, n)
un_head Push = (k_push, 0, 0)
un_head RestoreOnErr = (k_restore_on_err, 0, 0)

abbrev pub bin_kind : Bin → ℕ
bin_kind Seq = k_seq
bin_kind Choice = k_choice

abbrev pub is_un : ℕ → Un → Bool
is_un k u = eqb (un_head u).0 k

module _ {L : Type 0} where
  -- the rows of the subtree, itself included
  abbrev pub size : Expr L → ℕ
  size (lit k s) = 1
  size (fixed f) = 1
  size (skip ss) = length ss + 1
  size (un u e) = size e + 1
  size (bin b l r) = size l + size r + 1

  -- its literals, in row order
  abbrev pub lits : Expr L → List L
  lits (lit k s) = s ∷ []
  lits (fixed f) = []
  lits (skip ss) = ss
  lits (un u e) = lits e
  lits (bin b l r) = lits l ++ lits r

  -- some subexpression, itself included, passes the test
  abbrev pub any_node : (Expr L → Bool) → Expr L → Bool
  any_node p (lit k s) = p (lit k s)
  any_node p (fixed f) = p (fixed f)
  any_node p (skip ss) = p (skip ss)
  any_node p (un u e) = p (un u e) || any_node p e
  any_node p (bin b l r) = p (bin b l r) || (any_node p l || any_node p r)

  -- Views: what a node of that kind holds, and none for a node of any other kind
  abbrev pub lit_at : ℕ → Expr L → Option L
  lit_at k (lit j s) = cond (eqb (lit_kind j) k) (some s) none
  lit_at k (fixed f) = none
  lit_at k (skip ss) = none
  lit_at k (un u e) = none
  lit_at k (bin b l r) = none

  abbrev pub un_at : ℕ → Expr L → Option (Expr L)
  un_at k (lit j s) = none
  un_at k (fixed f) = none
  un_at k (skip ss) = none
  un_at k (un u e) = cond (is_un k u) (some e) none
  un_at k (bin b l r) = none

  abbrev pub bin_at : ℕ → Expr L → Option (Expr L × Expr L)
  bin_at k (lit j s) = none
  bin_at k (fixed f) = none
  bin_at k (skip ss) = none
  bin_at k (un u e) = none
  bin_at k (bin b l r) = cond (eqb (bin_kind b) k) (some (l, r)) none

  abbrev pub as_str : Expr L → Option L
  as_str e = lit_at k_str e

  abbrev pub as_insens : Expr L → Option L
  as_insens e = lit_at k_insens e

  abbrev pub as_ident : Expr L → Option L
  as_ident e = lit_at k_ident e

  abbrev pub as_neg_pred : Expr L → Option (Expr L)
  as_neg_pred e = un_at k_neg_pred e

  abbrev pub as_rep : Expr L → Option (Expr L)
  as_rep e = un_at k_rep e

  abbrev pub as_seq : Expr L → Option (Expr L × Expr L)
  as_seq e = bin_at 8 e

  abbrev pub as_choice : Expr L → Option (Expr L × Expr L)
  as_choice e = bin_at 9 e

-- "Two subtrees are equal when kinds, shape, numbers and literal bytes are equal": when they are one tree over bytes
unfoldable pub same_discrete : Discrete E
unfolding list_discrete bytes_discrete ℕ_discrete
same_discrete =
    Expr-discrete Lit-discrete bytes_discrete (Fixed-discrete ℕ_discrete) (list_discrete bytes_discrete)
    (Un-discrete ℕ_discrete)
    Bin-discrete

unfoldable pub same : E → E → Bool
unfolding same_discrete
same a b = holds (same_discrete a b)
