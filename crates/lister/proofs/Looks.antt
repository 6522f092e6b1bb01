-- A loop (a~b)* in rows: its Rep row, its Seq row, and where a stands. Assumes nothing.
use mathlib.Core.Path.{◌≡◌, refl, sym, ap, ◌∙◌}
use mathlib.Core.Bool.{Bool}
use mathlib.Core.List.{List}
use Prim.Native.Nat.{ℕ, ◌-◌, ◌≤◌}
use native.Mathlib.Omega.{arith}
use Rattle.grammar.specs.Basic.{Bytes}
use Rattle.grammar.specs.Tree.{E, Expr, Un, PosPred, NegPred, Opt, Rep, RepOnce, Push, RestoreOnErr, RepExact, RepMin, RepMax, RepMinMax, Seq, Head, un, bin, un_head, size, as_rep, as_seq}
use Rattle.grammar.specs.Rows.{Span}
use Rattle.grammar.specs.Text.{resolve}
use Rattle.grammar.proofs.Logic.{none_some}
use Rattle.rows.specs.Rows.{kind_at, At, Tells, shape_of}
use Rattle.rows.proofs.Laws.{root, found_row}
use Rattle.rows.proofs.Views.{as_one, one_none, two_none}
use Rattle.rows.proofs.Cells.{un_shape, tells_iff}
use Rattle.lister.specs.Loops.{Loops}

rep_kind : (u : Un) → (un_head u).0 ≡ 11 → u ≡ Rep
rep_kind Rep e = refl
rep_kind PosPred e = absurd (omega arith)
rep_kind NegPred e = absurd (omega arith)
rep_kind Opt e = absurd (omega arith)
rep_kind RepOnce e = absurd (omega arith)
rep_kind Push e = absurd (omega arith)
rep_kind RestoreOnErr e = absurd (omega arith)
rep_kind (RepExact n) e = absurd (omega arith)
rep_kind (RepMin n) e = absurd (omega arith)
rep_kind (RepMax n) e = absurd (omega arith)
rep_kind (RepMinMax m n) e = absurd (omega arith)

-- a Rep row
pub record RepOf (w : List ℕ) (i : ℕ) (l : Expr Span) : Type 0 where
  pub body : Expr Span
  pub is : l ≡ un Rep body
  pub at : At w (i - 1) body
  pub least : 1 ≤ size body
  pub most : size body ≤ i

module _ {w : List ℕ} {i : ℕ} {r : Expr Span} (a : At w i r) where
  pub as_rep_lem : kind_at w i ≡ 11 → RepOf w i r
  as_rep_lem e =
      let v = as_one (found_row w i (root a).inside) a (ap shape_of e ∙ un_shape Rep) in
      record { body = v.child; is = v.is ∙ rw (rep_kind v.op (sym (ap (λ (h : Head). h.0) v.head) ∙ e)); at = v.at; least = v.least; most = v.most }

  -- where one of the two rows is missing, there is no loop
  pub no_rep : (t : Bytes) {g : E} → (kind_at w i ≡ 11 → ⊥) → Loops (resolve t r) g → ⊥
  no_rep t n h = none_some (sym (one_none t 11 (found_row w i (root a).inside) a n) ∙ ap as_rep h.loop)

module _ (t : Bytes) {w : List ℕ} {i : ℕ} {l : Expr Span} (v : RepOf w i l) where
  pub no_seq : {g : E} → (kind_at w (i - 1) ≡ 8 → ⊥) → Loops (resolve t l) g → ⊥
  no_seq n h =
      let e : un Rep (resolve t v.body) ≡ un Rep (bin Seq h.head h.tail) = ap (resolve t) (sym v.is) ∙ h.loop in
      let z : resolve t v.body ≡ bin Seq h.head h.tail = cc in
      none_some (sym (two_none t 8 (found_row w (i - 1) (root v.at).inside) v.at n) ∙ ap as_seq z)

  -- with both, the loop's head decides
  pub loops_tell : {x y : Expr Span} → v.body ≡ bin Seq x y → (b : Bool) (r : Expr Span) → Tells b (resolve t x ≡ resolve t r) → Tells b (Loops (resolve t l) (resolve t r))
  loops_tell {x} {y} s b r h = tells_iff b
      (λ e. record { head = resolve t x; tail = resolve t y; loop = ap (resolve t) (v.is ∙ ap (un Rep) s); again = e })
      (λ g. let e : un Rep (bin Seq (resolve t x) (resolve t y)) ≡ un Rep (bin Seq g.head g.tail) = ap (resolve t) (sym (v.is ∙ ap (un Rep) s)) ∙ g.loop in
      let z : resolve t x ≡ g.head = cc in z ∙ g.again)
      h
