-- What unroll asks for holds in an accepted table that meets the premise on counts, and rotate and skip keep it. Assumes nothing.
use mathlib.Core.Path.{◌≡◌, refl, subst}
use mathlib.Core.Bool.{Bool, true, false, cond}
use mathlib.Core.List.{[], ◌∷◌}
use mathlib.Core.Option.{Option, none, some}
use Prim.Native.Nat.{ℕ, zero, suc}
use Rattle.grammar.specs.Basic.{Bytes, any, or_else}
use Rattle.grammar.specs.Tree.{Bin, Seq, Choice, E, lit, fixed, skip, un, bin, size, any_node}
use Rattle.grammar.specs.Table.{Table}
use Rattle.grammar.specs.Lists.{skip_list, loop_over, as_strings}
use Rattle.grammar.specs.Steps.{children, top_down_in, or_same, is_atomic, rotated, rotate_at, rotate, skip?, skip_to, each}
use Rattle.grammar.specs.Refusals.{zero_un, zero_count, zero_counts}
use Rattle.grammar.proofs.Logic.{some_eq, bind_case}
use Rattle.meaning.specs.Demand3.{Nowhere, crossed_un, crossed}
use Rattle.meaning.proofs.Views.{neither}
use Rattle.meaning.proofs.Lift.{All}
use Rattle.meaning.proofs.Unroll.{Counted}

counted_in : (e : E) → any_node zero_count e ≡ false → any_node crossed e ≡ false → Counted e
counted_in (lit k w) z c = tt
counted_in (fixed f) z c = tt
counted_in (skip ss) z c = tt
counted_in (un u e) z c =
    let p = neither (zero_un u) (any_node zero_count e) z in
    let q = neither (crossed_un u) (any_node crossed e) c in
    (p.0, q.0, counted_in e p.1 q.1)
counted_in (bin b l r) z c =
    let p = neither (any_node zero_count l) (any_node zero_count r) z in
    let q = neither (any_node crossed l) (any_node crossed r) c in
    (counted_in l p.0 q.0, counted_in r p.1 q.1)

pub counted : (t : Table Bytes) → zero_counts t ≡ false → Nowhere crossed t → All Counted t
unfolding zero_counts
counted [] z c = tt
counted (r ∷ t) z c =
    let p = neither (any_node zero_count r.body) (any (λ r. any_node zero_count r.body) t) z in
    let q = neither (any_node crossed r.body) (any (λ r. any_node crossed r.body) t) c in
    (counted_in r.body p.0 q.0, counted t p.1 q.1)

abbrev Keeping : (E → E) → Type 0
Keeping f = (e : E) → Counted e → Counted (f e)

children_counted : (g : E → E) → Keeping g → Keeping (children g)
children_counted g h (lit k w) c = tt
children_counted g h (fixed f) c = tt
children_counted g h (skip ss) c = tt
children_counted g h (un u e) c = (c.0, c.1, h e c.2)
children_counted g h (bin b l r) c = (h l c.0, h r c.1)

top_down_counted : (f : E → E) → Keeping f → (n : ℕ) → Keeping (top_down_in n f)
top_down_counted f h zero e c = c
top_down_counted f h (suc n) e c = children_counted (top_down_in n f) (top_down_counted f h n) (f e) (h e c)

rotated_counted : (b : Bin) (l r : E) → Counted l → Counted r → Counted (rotated b l r)
rotated_counted b (lit k w) r c d = (tt, d)
rotated_counted b (fixed f) r c d = (tt, d)
rotated_counted b (skip ss) r c d = (tt, d)
rotated_counted b (un u e) r c d = (c, d)
rotated_counted Seq (bin Seq x y) r c d = rotated_counted Seq x (bin Seq y r) c.0 (c.1, d)
rotated_counted Seq (bin Choice x y) r c d = (c, d)
rotated_counted Choice (bin Seq x y) r c d = (c, d)
rotated_counted Choice (bin Choice x y) r c d = rotated_counted Choice x (bin Choice y r) c.0 (c.1, d)

rotate_at_counted : Keeping rotate_at
rotate_at_counted (lit k w) c = tt
rotate_at_counted (fixed f) c = tt
rotate_at_counted (skip ss) c = tt
rotate_at_counted (un u e) c = c
rotate_at_counted (bin b l r) c = rotated_counted b l r c.0 c.1

rotate_counted : Keeping rotate
unfolding rotate
rotate_counted e c = top_down_counted rotate_at rotate_at_counted (size e) e c

skip?-counted : (given : Table Bytes) → Keeping (or_same (skip? given))
unfolding skip?
skip?-counted given e c = go (skip? given e) refl
  where
    go : (o : Option E) → skip? given e ≡ o → Counted (or_else o e)
    go none q = c
    go (some x) q = bind_case (loop_over e) _ x q λ y f g. bind_case (as_strings (skip_list given y)) _ x g λ ss k w. subst Counted (some_eq (skip ss) x w) tt

skip_counted : (given : Table Bytes) (y : ℕ) → Keeping (skip_to given y)
unfolding skip_to
skip_counted given y e c = go (is_atomic y)
  where
    go : (b : Bool) → Counted (cond b (top_down_in (size e) (or_same (skip? given)) e) e)
    go true = top_down_counted (or_same (skip? given)) (skip?-counted given) (size e) e c
    go false = c

each_counted : (f : ℕ → E → E) → ((y : ℕ) → Keeping (f y)) → (t : Table Bytes) → All Counted t → All Counted (each f t)
each_counted f h [] c = tt
each_counted f h (r ∷ t) c = (h r.type r.body c.0, each_counted f h t c.1)

pub counted_after : (t : Table Bytes) → All Counted t → All Counted (each (skip_to t) (each (λ _. rotate) t))
counted_after t c = each_counted (skip_to t) (skip_counted t) (each (λ _. rotate) t) (each_counted (λ _. rotate) (λ y. rotate_counted) t c)
