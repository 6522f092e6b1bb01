-- Rotation neither makes nor unmakes a loop, and leaves what its list is read to: so a table's loops are settled before rotation. Assumes nothing.
use mathlib.Core.Path.{◌≡◌, refl, sym, ap, ap₂, ◌∙◌, fun_ext}
use mathlib.Core.Bool.{Bool, ◌&&◌, ◌||◌}
use mathlib.Core.List.{[], ◌∷◌}
use mathlib.Core.Option.{Option, none, some}
use Rattle.grammar.specs.Basic.{Bytes, ◌>>=◌, any}
use Rattle.grammar.specs.Tree.{E, NegPred, Opt, PosPred, Push, Rep, RepExact, RepMax, RepMin, RepMinMax, RepOnce, RestoreOnErr, Un, any_node, as_rep, bin, fixed, lit, skip, un}
use Rattle.grammar.specs.Table.{Table}
use Rattle.grammar.specs.Lists.{Reading, is_again, loop_over, read_in, skip_list}
use Rattle.grammar.specs.Steps.{is_atomic, rotate}
use Rattle.grammar.specs.Refusals.{meets, meets_at, meets_in}
use Rattle.grammar.proofs.TopDown.{rotate_step_lem}
use Rattle.grammar.proofs.Leaves.{in_loop, loop_over_is, map_option, rotated_loop, rotated_two}
use Rattle.skipper.specs.Memory.{name_list}
use Rattle.skipper.specs.Loops.{open_in, open_at}
use Rattle.skipper.specs.Lists.{unread_in, unread_at}

module _ (look : Bytes → Reading) where
  unread_is : (e : E) → unread_at look e ≡ unread_in look (as_rep e >>= in_loop)
  unfolding unread_at
  unread_is e = ap (unread_in look) (loop_over_is e)

  open_is : (e : E) → open_at look e ≡ open_in look (as_rep e >>= in_loop)
  unfolding open_at
  open_is e = ap (open_in look) (loop_over_is e)

  loop_same : (o : Option E) → unread_in look (map_option rotate o) ≡ open_in look o
  loop_same none = refl
  loop_same (some x) = refl

  un_same : (u : Un) (e : E) → unread_in look (as_rep (un u (rotate e)) >>= in_loop) ≡ open_in look (as_rep (un u e) >>= in_loop)
  un_same Rep e = ap (unread_in look) (rotated_loop e) ∙ loop_same (in_loop e)
  un_same PosPred e = refl
  un_same NegPred e = refl
  un_same Opt e = refl
  un_same RepOnce e = refl
  un_same Push e = refl
  un_same RestoreOnErr e = refl
  un_same (RepExact n) e = refl
  un_same (RepMin n) e = refl
  un_same (RepMax n) e = refl
  un_same (RepMinMax m n) e = refl

  -- THE LOOPS OF A ROTATED EXPRESSION
  pub rotated_any : (e : E) → any_node (unread_at look) (rotate e) ≡ any_node (open_at look) e
  rotated_any (lit k s) = ap (any_node (unread_at look)) (rotate_step_lem (lit k s)) ∙ unread_is (lit k s) ∙ sym (open_is (lit k s))
  rotated_any (fixed f) = ap (any_node (unread_at look)) (rotate_step_lem (fixed f)) ∙ unread_is (fixed f) ∙ sym (open_is (fixed f))
  rotated_any (skip ss) = ap (any_node (unread_at look)) (rotate_step_lem (skip ss)) ∙ unread_is (skip ss) ∙ sym (open_is (skip ss))
  rotated_any (un u e) = ap (any_node (unread_at look)) (rotate_step_lem (un u e)) ∙ ap₂ ◌||◌ (unread_is (un u (rotate e)) ∙ un_same u e ∙ sym (open_is (un u e))) (rotated_any e)
  rotated_any (bin b l r) =
      ap (any_node (unread_at look)) (rotate_step_lem (bin b l r))
      ∙ rotated_two (unread_at look) (λ c x y. unread_is (bin c x y)) b l r
      ∙ ap₂ ◌||◌ (rotated_any l) (rotated_any r)
      ∙ ap (λ (c : Bool). c || (any_node (open_at look) l || any_node (open_at look) r)) (sym (open_is (bin b l r)))

  pub rotated_rules : (rs : Table Bytes) → any (λ r. is_atomic r.type && any_node (unread_at look) (rotate r.body)) rs ≡ any (λ r. is_atomic r.type && any_node (open_at look) r.body) rs
  rotated_rules [] = refl
  rotated_rules (r ∷ rs) = ap₂ (λ (a b : Bool). (is_atomic r.type && a) || b) (rotated_any r.body) (rotated_rules rs)

-- refusal 7 is a reading by names
pub skip_is : (t : Table Bytes) (x : E) → skip_list t x ≡ read_in (name_list t []) x
unfolding skip_list name_list
skip_is t x = refl

meets_same : (t : Table Bytes) (e : E) → meets_at t e ≡ unread_at (name_list t []) e
unfolding meets_at unread_at
meets_same t e = go (loop_over e)
  where
    go : (o : Option E) → meets_in t o ≡ unread_in (name_list t []) o
    go none = refl
    go (some x) = ap is_again (skip_is t x)

pub meets_is : (t : Table Bytes) → meets t ≡ any (λ r. is_atomic r.type && any_node (open_at (name_list t [])) r.body) t
unfolding meets
meets_is t = ap (λ (p : E → Bool). any (λ r. is_atomic r.type && any_node p (rotate r.body)) t) (fun_ext (meets_same t)) ∙ rotated_rules (name_list t []) t
