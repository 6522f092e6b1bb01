-- Where two trees differ, by their rows. Assumes nothing.
use mathlib.Core.Path.{◌≡◌, sym, ◌∙◌, subst₂}
use mathlib.Core.List.{List, []}
use mathlib.Core.Option.{none, some}
use Prim.Native.Nat.{ℕ, ◌+◌, ◌-◌, ◌≤◌, ◌<◌}
use native.Mathlib.Decide.{dec_lt}
use native.Mathlib.Omega.{arith}
use lib.ListN.{length, get_or}
use lib.Seq.{ext_get_or}
use Rattle.grammar.specs.Basic.{Bytes}
use Rattle.grammar.specs.Tree.{Expr, size}
use Rattle.grammar.specs.Rows.{Span}
use Rattle.grammar.specs.Text.{resolve}
use Rattle.rows.specs.Rows.{Cell, cell, cells, size_at, At}
use Rattle.rows.proofs.Laws.{root}
use Rattle.rows.proofs.Cells.{cells_at, length_cells, size_resolve}
use Rattle.comparison.specs.Compare.{first_unlike}
use Rattle.comparison.proofs.Rows.{parts_first, same_none}
use Rattle.comparer.specs.Lists.{SameRun}

module _ (t u : Bytes) {w v : List ℕ} {i j : ℕ} {r s : Expr Span} (a : At w i r) (b : At v j s) {n m least k : ℕ} (rows₁ : n ≡ size r) (rows₂ : m ≡ size s) (ran : SameRun t w (i + 1 - n) u v (j + 1 - m) least k) (left : least ≤ n) (right : least ≤ m) where
  run : SameRun t w (i + 1 - size r) u v (j + 1 - size s) least k
  run = subst₂ (λ (x y : ℕ). SameRun t w (i + 1 - x) u v (j + 1 - y) least k) rows₁ rows₂ ran

  long_left : length (cells (resolve t r)) ≡ size r
  long_left = length_cells (resolve t r) ∙ size_resolve t r

  long_right : length (cells (resolve u s)) ≡ size s
  long_right = length_cells (resolve u s) ∙ size_resolve u s

  agree : (m : ℕ) → m < k → (d : Cell) → get_or (cells (resolve t r)) m d ≡ get_or (cells (resolve u s)) m d
  agree m l d = cells_at t a m d (omega (arith, run.most, rows₁, rows₂, left, right)) ∙ run.same m l ∙ sym (cells_at u b m d (omega (arith, run.most, rows₁, rows₂, left, right)))

  -- a row that is not the same
  pub differ_row : k < least → first_unlike (cells (resolve t r)) (cells (resolve u s)) ≡ some k
  differ_row l =
      parts_first _ _ k
      (record {
        left = omega (arith, long_left, rows₁, left, run.most);
        right = omega (arith, long_right, rows₂, right, run.most);
        same = agree;
        apart = λ _ _ d e. run.unlike l (sym (cells_at t a k d (omega (arith, l, left, rows₁))) ∙ e ∙ cells_at u b k d (omega (arith, l, right, rows₂)));
        ends = λ e _. omega (arith, long_left, e, l, left, rows₁);
      })

  -- all rows of both are
  pub differ_nowhere : least ≤ k → least ≡ n → least ≡ m → first_unlike (cells (resolve t r)) (cells (resolve u s)) ≡ none
  differ_nowhere l e f = same_none _ _ (ext_get_or (cell 0 0 0 []) _ _ (omega (arith, long_left, long_right, rows₁, rows₂, e, f)) (λ x h. agree x (omega (arith, long_left, rows₁, e, h)) _))

  -- one is a prefix
  pub differ_prefix : least ≤ k → (least < n → least < m → ⊥) → (n ≡ m → ⊥) → first_unlike (cells (resolve t r)) (cells (resolve u s)) ≡ some least
  differ_prefix l e f =
      parts_first _ _ least
      (record {
        left = omega (arith, long_left, rows₁, left, run.most);
        right = omega (arith, long_right, rows₂, right, run.most);
        same = λ x h d. agree x (omega arith) d;
        apart = λ p q _ _. e (omega (arith, long_left, rows₁, p)) (omega (arith, long_right, rows₂, q));
        ends = λ p q. f (omega (arith, rows₁, rows₂, long_left, long_right, p, q));
      })

  -- so they differ at row k, unless both are over there
  pub differ_there : (least < n → least < m → ⊥) → (k ≡ least → n ≡ m → ⊥) → first_unlike (cells (resolve t r)) (cells (resolve u s)) ≡ some k
  differ_there q f = go (dec_lt k least)
    where
      go : Dec (k < least) → first_unlike (cells (resolve t r)) (cells (resolve u s)) ≡ some k
      go (yes l) = differ_row l
      go (no l) = let e : k ≡ least = omega (arith, l, run.most) in rw e (differ_prefix (omega (arith, l)) q (f e))

-- a size that was read
pub size_read : {w : List ℕ} {i n : ℕ} {r : Expr Span} → At w i r → n ≡ size_at w i → n ≡ size r
size_read a e = e ∙ (root a).rows
