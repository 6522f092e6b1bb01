-- A loop (!e ~ ANY)*: how its expression is found, and that its leaves are read as they stand after rotation. Assumes nothing.
use Rattle.std.specs.Prelude.{Option as Option'}
use mathlib.Core.Path.{◌≡◌, refl, sym, ap₂, ◌∙◌, subst, fun_ext}
use mathlib.Core.Bool.{true, false}
use mathlib.Core.List.{List}
use mathlib.Core.Option.{Option, none, some}
use Prim.Native.Nat.{ℕ, ◌-◌}
use Rattle.grammar.specs.Basic.{Bytes, ◌>>=◌, test, same_bytes}
use Rattle.grammar.specs.Tree.{Ident, Seq, Choice, Rep, NegPred, E, Expr, lit, fixed, skip, un, bin, as_seq, as_ident, as_neg_pred, size}
use Rattle.grammar.specs.Rows.{Span}
use Rattle.grammar.specs.Text.{bytes_at, resolve}
use Rattle.grammar.specs.Table.{Table}
use Rattle.grammar.specs.Lists.{ANY, Reading, and_then, read_left, read_in, loop_over}
use Rattle.grammar.specs.Steps.{rotate}
use Rattle.grammar.proofs.Leaves.{read_leaves, rotated_read}
use Rattle.rows.specs.Rows.{At, Stands, kind_at, x_at, y_at, size_at}
use Rattle.rows.proofs.Laws.{Found, root, found_size}
use Rattle.rows.proofs.Cells.{lit_shape, bin_shape, un_shape}
use Rattle.rows.proofs.Views.{TwoView, OneView, as_lit, as_one, as_two, lit_some, one_some, two_some, lit_none, two_none}
use Rattle.skipper.specs.Lends.{ReadsOf}
use Rattle.skipper.proofs.Leaf.{read_found_lem}
use Rattle.skipper.specs.Loops.{OverAt, LoopAnswer}

-- the leaves, one after the other
pub rotated_step : (l e : E) → ◌≡◌ {A = (Bytes → Reading) → Reading} (λ look. read_in look (rotate (bin Choice l e))) (λ look. and_then (read_in look (rotate l)) (read_in look (rotate e)))
rotated_step l e = fun_ext (λ look. rotated_read look (bin Choice l e) ∙ sym (ap₂ and_then (rotated_read look l) (rotated_read look e)))

leaf_same : {w : List ℕ} {i k x y n : ℕ} (s : Bytes) (r : Expr Span) → Found w i k x y n → At w i r → (k ≡ 9 → ⊥) → (look : Bytes → Reading) → read_leaves look (resolve s r) ≡ read_left look (resolve s r)
leaf_same s (lit k p) f a z look = refl
leaf_same s (fixed g) f a z look = refl
leaf_same s (skip ss) f a z look = refl
leaf_same s (un u e) f a z look = refl
leaf_same s (bin Seq l e) f a z look = refl
leaf_same s (bin Choice l e) f a z look = absurd (z (sym f.kind ∙ (root a).kind))

pub rotated_leaf : (s : Bytes) {t : Table Span} {m m' w : List ℕ} {i k x y n v : ℕ} {r : Expr Span} → Found w i k x y n → At w i r → (k ≡ 9 → ⊥) → ReadsOf s t m m' v (λ look. read_left look (resolve s r)) → ReadsOf s t m m' v (λ look. read_in look (rotate (resolve s r)))
rotated_leaf s {t} {m} {m'} {v = v} {r = r} f a z h =
    let e : ◌≡◌ {A = (Bytes → Reading) → Reading} (λ look. read_left look (resolve s r)) (λ look. read_in look (rotate (resolve s r))) = fun_ext (λ look. sym (rotated_read look (resolve s r) ∙ leaf_same s r f a z look)) in
    subst (λ (g : (Bytes → Reading) → Reading). ReadsOf s t m m' v g) e h

-- !e
module _ {w : List ℕ} {i k x y n : ℕ} {r : Expr Span} (f : Found w i k x y n) (a : At w i r) (z : k ≡ 7) where
  pub not_view : OneView w i k x y n r
  not_view = as_one f a (rw z (un_shape NegPred))

  pub not_over : (s : Bytes) → OverAt (i - 1) w s (as_neg_pred (resolve s r))
  not_over s = record { tree = not_view.child; at = not_view.at; is = one_some s 7 z not_view }

-- !e ~ ANY
no_name : (o : Option E) → (o >>= λ x. none >>= λ (y : Bytes). test (same_bytes y ANY) >>= λ _. some x) ≡ none
no_name none = refl
no_name (some x) = refl

no_any : (o : Option E) → (o >>= λ x. test false >>= λ _. some x) ≡ none
no_any none = refl
no_any (some x) = refl

with_any : (o : Option E) → (o >>= λ x. test true >>= λ _. some x) ≡ o
with_any none = refl
with_any (some x) = refl

module _ (e : E) where
  loop_no_seq : as_seq e ≡ none → loop_over (un Rep e) ≡ none
  unfolding loop_over
  loop_no_seq h = rw h

  module _ (l r : E) (h : as_seq e ≡ some (l, r)) where
    loop_no_ident : as_ident r ≡ none → loop_over (un Rep e) ≡ none
    unfolding loop_over
    loop_no_ident g = rw (h, g) (no_name (as_neg_pred l))

    loop_no_any : (y : Bytes) → as_ident r ≡ some y → same_bytes y ANY ≡ false → loop_over (un Rep e) ≡ none
    unfolding loop_over
    loop_no_any y g d = rw (h, g, d) (no_any (as_neg_pred l))

    loop_any : (y : Bytes) → as_ident r ≡ some y → same_bytes y ANY ≡ true → loop_over (un Rep e) ≡ as_neg_pred l
    unfolding loop_over
    loop_any y g d = rw (h, g, d) (with_any (as_neg_pred l))

-- the Seq, and the row that it has on its right
module _ {w : List ℕ} {i k : ℕ} {r : Expr Span} (a : At w i r) (e : k ≡ kind_at w i) (z : k ≡ 8) where
  pub seq_here : TwoView w i k (x_at w i) (y_at w i) (size_at w i) r
  seq_here = as_two (read_found_lem a e) a (rw z (bin_shape Seq))

  pub right_here : {k' : ℕ} → k' ≡ kind_at w (i - 1) → Found w (i - 1) k' (x_at w (i - 1)) (y_at w (i - 1)) (size_at w (i - 1))
  right_here c = read_found_lem seq_here.at_right c

module _ (s : Bytes) {w : List ℕ} {i k x y n : ℕ} {r : Expr Span} (f : Found w i k x y n) (a : At w i r) where
  pub loop_not_seq : (k ≡ 8 → ⊥) → loop_over (un Rep (resolve s r)) ≡ none
  loop_not_seq z = loop_no_seq (resolve s r) (two_none s 8 f a z)

  module _ (z : k ≡ 8) where
    pub seq_view : TwoView w i k x y n r
    seq_view = as_two f a (rw z (bin_shape Seq))

    is_seq : as_seq (resolve s r) ≡ some (resolve s seq_view.left, resolve s seq_view.right)
    is_seq = two_some s 8 z seq_view

    module _ {k' x' y' n' : ℕ} (g : Found w (i - 1) k' x' y' n') where
      pub loop_not_ident : (k' ≡ 3 → ⊥) → loop_over (un Rep (resolve s r)) ≡ none
      loop_not_ident d = loop_no_ident (resolve s r) _ _ is_seq (lit_none s 3 g seq_view.at_right d)

      module _ (d : k' ≡ 3) where
        is_ident : as_ident (resolve s seq_view.right) ≡ some (bytes_at s (x', y'))
        is_ident = lit_some s 3 d (as_lit g seq_view.at_right (rw d (lit_shape Ident)))

        right_one : size seq_view.right ≡ 1
        right_one = sym (found_size g seq_view.at_right) ∙ (as_lit g seq_view.at_right (rw d (lit_shape Ident))).rows

        pub left_at : At w (i - 1 - 1) seq_view.left
        left_at = rw right_one at seq_view.at_left

        pub before_any : Stands w (i - 1 - 1)
        before_any = record { tree = seq_view.left; at = left_at }

        pub loop_not_any : same_bytes (bytes_at s (x', y')) ANY ≡ false → loop_over (un Rep (resolve s r)) ≡ none
        loop_not_any c = loop_no_any (resolve s r) _ _ is_seq _ is_ident c

        pub loop_with_any : (b : Option' ℕ) → same_bytes (bytes_at s (x', y')) ANY ≡ true → LoopAnswer b w s (as_neg_pred (resolve s seq_view.left)) → LoopAnswer b w s (loop_over (un Rep (resolve s r)))
        loop_with_any b c h = rw (loop_any (resolve s r) _ _ is_seq _ is_ident c) h
