-- A walk at a row with two children below a run, whatever tree stands there: by what its calls answer. Assumes nothing.
use Rattle.std.specs.Prelude.{Option, Some}
use mathlib.Core.Path.{◌≡◌, sym, ap, subst, ◌∙◌}
use mathlib.Core.List.{List}
use Prim.Native.Nat.{ℕ, ◌+◌, ◌-◌, ◌/◌, ◌≤◌}
use native.Mathlib.Omega.{arith}
use lib.ListN.{length}
use Rattle.grammar.specs.Numbers.{row_width}
use Rattle.grammar.specs.Basic.{Bytes}
use Rattle.grammar.specs.Tree.{Bin, Expr, bin_kind}
use Rattle.grammar.specs.Rows.{Span}
use Rattle.grammar.specs.Text.{resolve}
use Rattle.grammar.specs.Steps.{rotate}
use Rattle.rows.specs.Rows.{kind_at, size_at, At}
use Rattle.rows.proofs.Laws.{head_of, root}
use Rattle.rows.proofs.Cells.{size_resolve}
use Rattle.writing.specs.declared.Place.{Place}
use Rattle.writing.specs.Writes.{Areas}
use Rattle.writing.specs.Keeps.{KeptAnswer, Ready}
use Rattle.chains.specs.Chains.{Forest, Closable, ClosedAnswer, IsBin}
use Rattle.chains.specs.Runs.{low}
use Rattle.chains.proofs.Nodes.{Fork, own, forked, Step}
use Rattle.chains.proofs.Walks.{Forked}
use Rattle.chains.proofs.Runs.{low_at}
use Rattle.rotator.specs.Members.{members_of, chain_at, KeptAll, AllAnswer}
use Rattle.rotator.proofs.Rotations.{rotate_un, rotate_size, rotate_text}
use Rattle.rotator.proofs.Kepts.{all_done, second_fits, rows_missing, count_missing, two_forest, two_closable, two_rotated, chain_all, run_rotated}

pub rotate_step : Step rotate
rotate_step = record { over = rotate_un; rows = λ e. omega (arith, rotate_size e); text = λ e. omega (arith, ap length (rotate_text e)) }

-- the members of both sides of a node of kind k, one after the other
pub record Both (t : Bytes) (k : ℕ) (q p s : Place) (x y : Expr Span) (o o₁ o₂ b b₁ b₂ : List ℕ) : Type 0 where
  pub first : KeptAll q p (members_of (Some k) (resolve t x)) o o₁ b b₁
  pub second : KeptAll s q (members_of (Some k) (resolve t y)) o₁ o₂ b₁ b₂

module _ {w : List ℕ} {t : Bytes} {i base l : ℕ} {p : Place} {o b : List ℕ} (f : Fork w t i base l p o b) {k : ℕ} (n : k ≡ kind_at w base) where
  pub is_bin : IsBin k
  is_bin = let h = own f in record { op = h.view.op; is = n ∙ h.view.kind }

  module _ {a₁ : Option Place} {q : Place} {o₁ b₁ : List ℕ} (e₁ : a₁ ≡ Some q) (c : (r : Expr Span) → At w l r → AllAnswer a₁ p (members_of (Some k) (resolve t r)) o o₁ b b₁) where
    first_of : {r : Expr Span} (h : Forked w t i base l p o b r) → KeptAll q p (members_of (Some (kind_at w base)) (resolve t h.view.left)) o o₁ b b₁
    first_of h = subst (λ (z : ℕ). KeptAll q p (members_of (Some z) (resolve t h.view.left)) o o₁ b b₁) n (all_done _ _ _ _ _ _ e₁ (c h.view.left h.at_left))

    pub right_ready : length o₁ ≡ length o → length b₁ ≡ length b → Ready w t (base - 1) q o₁ b₁
    right_ready lo lb = let h = own f in record { tree = h.view.right; at = h.view.at_right; fits = second_fits t h.view (first_of h) h.fits lo lb }

    pub both_of : {a₂ : Option Place} {s : Place} {o₂ b₂ : List ℕ} → a₂ ≡ Some s → ((r : Expr Span) → At w (base - 1) r → AllAnswer a₂ q (members_of (Some k) (resolve t r)) o₁ o₂ b₁ b₂)
        → (r : Expr Span) (h : Forked w t i base l p o b r) → Both t (kind_at w base) q p s h.view.left h.view.right o o₁ o₂ b b₁ b₂
    both_of {s} {o₂} {b₂} e₂ d r h = record {
      first = first_of h;
      second = subst (λ (z : ℕ). KeptAll s q (members_of (Some z) (resolve t h.view.right)) o₁ o₂ b₁ b₂) n (all_done _ _ _ _ _ _ e₂ (d h.view.right h.view.at_right));
    }

  -- the rotated tree is in no chain of its kind
  pub alone : (kind : Option ℕ) → (chain_at kind base i ≡ Some k → ⊥) → (a : Option Place) (o₂ b₂ : List ℕ) → ((r : Expr Span) → At w i r → KeptAnswer a p (rotate (resolve t r)) o o₂ b b₂)
      → (r : Expr Span) → At w i r → AllAnswer a p (members_of kind (resolve t r)) o o₂ b b₂
  alone kind z a o₂ b₂ c r x =
      let h = forked f r x in
      run_rotated base i kind t r h.run (n ∙ h.view.kind ∙ sym (ap (λ (z : Expr Span). (head_of z).0) h.view.is)) z a p o o₂ b b₂ (c r x)

module _ {w : List ℕ} {t : Bytes} {i base l : ℕ} {p : Place} {o b : List ℕ} (f : Fork w t i base l p o b) {k : ℕ} (n : k ≡ kind_at w base) {q s : Place} {o₁ o₂ b₁ b₂ : List ℕ}
    (g : (r : Expr Span) (h : Forked w t i base l p o b r) → Both t (kind_at w base) q p s h.view.left h.view.right o o₁ o₂ b b₁ b₂) where
  -- where the node is in a chain of its kind
  pub in_chain : (kind : Option ℕ) → chain_at kind base i ≡ Some k → (r : Expr Span) → At w i r → AllAnswer (Some s) p (members_of kind (resolve t r)) o o₂ b b₂
  in_chain kind z r a = let h = forked f r a in let v = g r h in chain_all t r h.view v.first h.fits v.second base i kind h.run (z ∙ ap Some n)

  -- elsewhere the rows that are missing close the chain
  module _ {m : ℕ} (z : m ≡ size_at w base) where
    pub end_least : s.rows ≤ p.rows + m
    end_least = let h = own f in let v = g _ h in omega (arith, rows_missing t h.view v.first h.fits v.second)

    pub closable : length o₂ ≡ length o → Areas o b → Closable o₂ s.rows (p.rows + m - s.rows)
    closable e x = let h = own f in let v = g _ h in two_closable t h.view v.first h.fits v.second m z e x

    pub closed : length o₂ ≡ length o → (a : Option Place) (o₃ : List ℕ) → ((c : Bin) (before : List ℕ) (xs : List (Expr Span)) (r : Expr Span) → k ≡ bin_kind c → Forest o₂ s.rows before xs r → length xs ≡ p.rows + m - s.rows → ClosedAnswer a s c xs r o₂ o₃)
        → (r : Expr Span) → At w i r → KeptAnswer a p (rotate (resolve t (low r))) o o₃ b b₂
    closed e a o₃ d r x =
        let h = forked f r x in
        let v = g r h in
        two_rotated t h.view v.first h.fits v.second e a o₃ (d h.view.op _ _ _ (n ∙ h.view.kind) (two_forest t h.view v.first h.fits v.second) (count_missing t h.view v.first h.fits v.second m z))

-- the node's rows lie in the area
pub end_fits : {w : List ℕ} {t : Bytes} {i base l : ℕ} {p : Place} {o b : List ℕ} → Fork w t i base l p o b → p.rows + size_at w base ≤ length o / row_width
end_fits {t} {base} f = let h = own f in let r = f.ready.tree in omega (arith, h.fits.rows, size_resolve t (low r), (root (low_at r f.ready.at base h.run)).rows)
