-- Steps by their numbers, on trees of which no row is rewritten. Assumes nothing.
use mathlib.Core.Path.{◌≡◌, refl, sym, subst}
use mathlib.Core.Bool.{Bool, true, false}
use mathlib.Core.Option.{Option, none}
use mathlib.Core.List.{List}
use Prim.Native.Nat.{ℕ}
use lib.Dec.{eqb}
use borrow.Author.Tests.{eqb-true, eqb-false, ne_eqb}
use Rattle.grammar.specs.Basic.{Bytes}
use Rattle.grammar.specs.Tree.{Expr, E, size}
use Rattle.grammar.specs.Rows.{Span}
use Rattle.grammar.specs.Text.{resolve}
use Rattle.grammar.specs.Table.{Table}
use Rattle.grammar.specs.Steps.{or_same, factor?, is_tight, list?, rotate, skip_to, unroll, concatenate, factor, list, restore}
use Rattle.rows.specs.Rows.{At}
use Rattle.scans.proofs.Laws.{Idle, top_down_idle, bottom_up_idle}
use Rattle.passes.specs.Passes.{step_of, node_of}
use Rattle.passes.proofs.Walks.{other_step}

-- ---- a step's number

number : (P : ℕ → Type 0) (n m : ℕ) → P m → ((n ≡ m → ⊥) → P n) → P n
number P n m p q = go (eqb n m) refl
  where
    go : (b : Bool) → eqb n m ≡ b → P n
    go true e = subst P (sym (eqb-true n m e)) p
    go false e = q (eqb-false n m e)

pub concat_other : (y : ℕ) (e : E) → (y ≡ 2 → ⊥) → concatenate y e ≡ e
unfolding concatenate
concat_other y e h = rw (ne_eqb y 2 h)

-- a step's rewrite leaves what stands at row j as it is
abbrev pub Quiet : ℕ → ℕ → Bytes → List ℕ → ℕ → Type 0
Quiet n y t w j = (look : Table Bytes) (x : Expr Span) → At w j x → node_of n look y (resolve t x) ≡ resolve t x

-- a step whose rewrite finds nothing at any row of a tree leaves the tree as it is; skip and concatenate, in Atomic rules
module _ (look : Table Bytes) (y : ℕ) (t : Bytes) {w : List ℕ} {i : ℕ} (r : Expr Span) (a : At w i r) where
  abbrev Leaves : ℕ → Type 0
  Leaves n = (n ≡ 2 → y ≡ 2) → (n ≡ 4 → y ≡ 2) → Idle (node_of n look y) t w i (size r) → step_of n look y (resolve t r) ≡ resolve t r

  one : Leaves 1
  unfolding step_of node_of rotate
  one p q h = top_down_idle _ t r a h

  two : Leaves 2
  unfolding step_of node_of skip_to
  two p q h = rw (p refl) (top_down_idle _ t r a h)

  three : Leaves 3
  unfolding step_of node_of unroll
  three p q h = bottom_up_idle (node_of 3 look y) t r a h

  four : Leaves 4
  unfolding step_of node_of concatenate
  four p q h = rw (q refl) (bottom_up_idle (node_of 4 look y) t r a h)

  five : Leaves 5
  unfolding step_of node_of factor
  five p q h = top_down_idle _ t r a h

  six : Leaves 6
  unfolding step_of node_of list
  six p q h = bottom_up_idle (node_of 6 look y) t r a h

  seven : Leaves 7
  unfolding step_of node_of restore
  seven p q h = bottom_up_idle (node_of 7 look y) t r a h

  pub step_idle : (n : ℕ) → Leaves n
  step_idle n = number Leaves n 1 one (λ a. number Leaves n 2 two (λ b. number Leaves n 3 three (λ c. number Leaves n 4 four (λ d. number Leaves n 5 five (λ e. number Leaves n 6 six (λ f. number Leaves n 7 seven (λ g p q h. other_step n g a b c d e f look y (resolve t r))))))))

none_same : (f : E → Option E) (e : E) → f e ≡ none → or_same f e ≡ e
none_same f e h = rw h

-- ---- what a step's own scan answered

module _ (look : Table Bytes) (y : ℕ) (e : E) where
  pub node_at : {n : ℕ} (m : ℕ) → n ≡ m → node_of m look y e ≡ e → node_of n look y e ≡ e
  node_at m h q = subst (λ (k : ℕ). node_of k look y e ≡ e) (sym h) q

  pub factor_none : {b : Bool} → b ≡ is_tight y → factor? b e ≡ none → node_of 5 look y e ≡ e
  unfolding node_of
  factor_none h q = none_same (factor? (is_tight y)) e (rw h at q)

  pub list_none : list? e ≡ none → node_of 6 look y e ≡ e
  unfolding node_of
  list_none q = none_same list? e q
