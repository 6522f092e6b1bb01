-- The parts of a loop, row by row, and what is told of a reading that began with nothing open. Assumes nothing.
use mathlib.Core.Path.{◌≡◌, refl, sym, ap, ap₂, ◌∙◌}
use mathlib.Core.Bool.{false≢true, Bool, true, false, cond}
use mathlib.Core.List.{List, [], ◌∷◌, ◌++◌}
use mathlib.Core.Option.{some}
use Prim.Native.Nat.{ℕ, suc, ◌-◌, ◌≤◌}
use native.Mathlib.Nat.{zero-add}
use native.Mathlib.Omega.{arith}
use lib.ListN.{length, drop}
use lib.Seq.{sets-eq}
use Rattle.grammar.specs.Numbers.{k_rep}
use Rattle.grammar.specs.Basic.{Bytes}
use Rattle.grammar.specs.Tree.{Rep, NegPred, Seq, E, Expr, as_rep, as_seq, as_ident}
use Rattle.grammar.specs.Rows.{Span}
use Rattle.grammar.specs.Text.{resolve}
use Rattle.grammar.specs.Table.{Table}
use Rattle.grammar.specs.Optimize.{over}
use Rattle.grammar.proofs.Logic.{some_eq}
use Rattle.grammar.proofs.Readings.{unopened}
use Rattle.rows.specs.Rows.{At, kind_at, x_at, y_at, size_at}
use Rattle.rows.proofs.Cells.{un_shape, bin_shape}
use Rattle.rows.proofs.Views.{OneView, TwoView, as_one, as_two, one_some, one_none, two_some, two_none}
use Rattle.writing.specs.Writes.{stored}
use Rattle.skipper.specs.Memory.{Marks}
use Rattle.skipper.specs.Loops.{Idle}
use Rattle.skipper.proofs.Leaf.{read_found_lem, left_stands}
use Rattle.explanation.specs.Ends.{Ends, reads, unknown, other, again, ends_in, ends_name}
use Rattle.explanation.specs.Explain.{Answer, not_seq, not_neg_pred, not_any, ends, of_right, of_seq, plain, ends_told, answer_told}
use Rattle.explainer.specs.declared.Explained.{Explained}
use Rattle.explainer.specs.declared.Reason.{Reason}
use Rattle.explainer.specs.Reading.{number_of, Numbered, Within, Way, Says}
use Rattle.explainer.specs.Answers.{seen_told}

-- ---- what is told

over_is : (vs l : List ℕ) → length vs ≤ length l → stored l 0 vs ≡ over vs l
unfolding stored
over_is vs l h = sets-eq vs l 0 (omega (arith, h)) ∙ ap (λ (n : ℕ). vs ++ drop n l) (zero-add (length vs))

told_of : {a : Explained} {w : Ends} {l l' : List ℕ} → Says a w [] 0 l l' → seen_told a l' ≡ ends_told w l
told_of {a} {w} {l} {l'} h = go w h.answer h.rule h.at h.met h.count h.way
  where
    bare : h.tail ≡ [] → l' ≡ over [] l
    bare e = h.list ∙ ap (stored l 0) e ∙ over_is [] l (omega arith)

    go : (v : Ends) → number_of a.answer ≡ (ends_told v []).answer → a.rule ≡ (ends_told v []).rule → a.at ≡ (ends_told v []).at → a.met ≡ (ends_told v []).met → a.opened ≡ (ends_told v []).open' → Way v [] 0 (length l) h.tail → seen_told a l' ≡ ends_told v l
    go reads p q r s c y = rw (p, q, r, s, c, bare y)
    go (unknown i at) p q r s c y = rw (p, q, r, s, c, bare y)
    go (other i at) p q r s c y = rw (p, q, r, s, c, bare y)
    go (again i at j x) p q r s c y = let e : l' ≡ over x l = h.list ∙ ap (stored l 0) (sym y.0) ∙ over_is x l (omega (arith, ap length y.0, y.1)) in rw (p, q, r, s, c, e)

-- an answer without a place
pub plain_told : {a : Explained} {r : Reason} {v w : Answer} (l : List ℕ) → Numbered a r 0 0 0 0 → v ≡ w → plain (number_of r) l ≡ answer_told w l → seen_told a l ≡ answer_told v l
plain_told l h e g = rw (h.0, h.1, h.2, h.3, h.4, e) g

-- that of a reading that began with nothing open; it reads from row p
pub read_told : {a : Explained} (t : Table Bytes) (i : ℕ) {p at : ℕ} (x : E) {v : Answer} {l l' : List ℕ} → Says a (ends_in (ends_name (suc (length t) - 0) t []) i p x) [] 0 l l' → p ≡ at → v ≡ ends (ends_in (ends_name (suc (length t)) t []) i at x) → seen_told a l' ≡ answer_told v l
read_told t i x {l = l} h e g =
    let fuel : suc (length t) - 0 ≡ suc (length t) = omega arith in
    told_of h ∙ ap₂ (λ (n k : ℕ). ends_told (ends_in (ends_name n t []) i k x) l) fuel e ∙ ap (λ (w : Answer). answer_told w l) (sym g)

-- the right side is an Ident ANY, or not
pub no_any : {b : Bool} (a : Answer) → b ≡ false → cond b a not_any ≡ not_any
no_any a e = rw e

pub is_any : {b : Bool} (a : Answer) → b ≡ true → cond b a not_any ≡ a
is_any a e = rw e

unopened_most : (t : Table Bytes) → unopened t [] ≤ length t
unopened_most [] = omega arith
unopened_most (r ∷ t) = omega (arith, unopened_most t)

-- nothing is being read
pub within_none : {t : Table Bytes} {st : Marks} → Idle st → Within t st [] [] 0
within_none {t} h = record { all = record { all = λ z e. absurd (h z e); only = λ z m. absurd (false≢true m) }; numbers = λ x p e. refl; deep = refl; room = omega (arith, unopened_most t) }

-- ---- the parts of a loop: `row` is the Rep

module _ (s : Bytes) {w : List ℕ} {row : ℕ} {q : Expr Span} (at : At w row q) (z : kind_at w row ≡ k_rep) where
  pub rep : OneView w row (kind_at w row) (x_at w row) (y_at w row) (size_at w row) q
  rep = as_one (read_found_lem at refl) at (rw z (un_shape Rep))

  child_is : (e : E) → as_rep (resolve s q) ≡ some e → e ≡ resolve s rep.child
  child_is e h = some_eq e (resolve s rep.child) (sym h ∙ one_some s 11 z rep)

  module _ (read : E → Ends) (e : E) (h : as_rep (resolve s q) ≡ some e) where
    by_child : {a : Answer} → of_seq (as_seq (resolve s rep.child)) read ≡ a → of_seq (as_seq e) read ≡ a
    by_child g = ap (λ (x : E). of_seq (as_seq x) read) (child_is e h) ∙ g

    pub no_seq : (kind_at w (row - 1) ≡ 8 → ⊥) → of_seq (as_seq e) read ≡ not_seq
    no_seq n = by_child (rw (two_none s 8 (read_found_lem rep.at refl) rep.at n))

  -- its child is a Seq, whose left side ends at row c
  module _ (y : kind_at w (row - 1) ≡ 8) where
    pub seq : TwoView w (row - 1) (kind_at w (row - 1)) (x_at w (row - 1)) (y_at w (row - 1)) (size_at w (row - 1)) rep.child
    seq = as_two (read_found_lem rep.at refl) rep.at (rw y (bin_shape Seq))

    module _ {c : ℕ} (d : c ≡ row - 1 - 1 - size_at w (row - 1 - 1)) where
      pub left_at : At w c seq.left
      left_at = left_stands seq d

      module _ (read : E → Ends) (e : E) (h : as_rep (resolve s q) ≡ some e) where
        is_seq : as_seq (resolve s rep.child) ≡ some (resolve s seq.left, resolve s seq.right)
        is_seq = two_some s 8 y seq

        pub no_not : (kind_at w c ≡ 7 → ⊥) → of_seq (as_seq e) read ≡ not_neg_pred
        no_not n = by_child read e h (rw (is_seq, one_none s 7 (read_found_lem left_at refl) left_at n))

      module _ (n : kind_at w c ≡ 7) where
        pub neg : OneView w c (kind_at w c) (x_at w c) (y_at w c) (size_at w c) seq.left
        neg = as_one (read_found_lem left_at refl) left_at (rw n (un_shape NegPred))

        pub with_not : (read : E → Ends) (e : E) → as_rep (resolve s q) ≡ some e → of_seq (as_seq e) read ≡ of_right (as_ident (resolve s seq.right)) (ends (read (resolve s neg.child)))
        with_not read e h = by_child read e h (rw (is_seq read e h, one_some s 7 n neg))
