-- Listing's law: the listed form has every success of the loop it replaces, at the same end. Not its failures (Examples, W12). Assumes nothing.
use mathlib.Core.Path.{◌≡◌, refl, ap, ap₂, ◌∙◌}
use mathlib.Core.Bool.{Bool, true, false, true≢false, ◌||◌}
use mathlib.Core.List.{[], ◌∷◌}
use mathlib.Core.Option.{Option, none, some}
use Prim.Native.Nat.{ℕ}
use Rattle.grammar.specs.Basic.{Bytes, any, or_else, test}
use Rattle.grammar.specs.Tree.{Rep, Seq, E, lit, fixed, skip, un, bin, any_node, as_rep, as_seq, same}
use Rattle.grammar.specs.Table.{Table}
use Rattle.grammar.specs.Steps.{or_same, list?, list, each}
use Rattle.grammar.proofs.Logic.{bind_case, test_true, same_eq}
use Rattle.grammar.proofs.TopDown.{as_seq_is}
use Rattle.meaning.specs.Outcome.{ok, Out, seq_go, seq_no, rep_go, rep_end}
use Rattle.meaning.specs.Demand3.{after, Nowhere}
use Rattle.meaning.proofs.Matcher.{det}
use Rattle.meaning.proofs.Same.{equal, moved, never}
use Rattle.meaning.proofs.Views.{neither, as_rep_is}

module _ {t : Table Bytes} {s : Bytes} where
  more : {a b : E} {p m x q : ℕ} → Out t s a p (ok m) → Out t s b m (ok x) → Out t s (bin Seq a (un Rep (bin Seq b a))) x (ok q) → Out t s (bin Seq a (un Rep (bin Seq b a))) p (ok q)
  more d f (seq_go g h) = seq_go d (rep_go (seq_go f g) h)

  rounds : {a b : E} {p x q : ℕ} → Out t s (un Rep (bin Seq a b)) p (ok x) → Out t s a x (ok q) → Out t s (bin Seq a (un Rep (bin Seq b a))) p (ok q)
  rounds (rep_end (seq_no f)) d = never f d
  rounds (rep_end (seq_go f g)) d = seq_go d (rep_end (seq_no (moved (det d f) g)))
  rounds (rep_go (seq_go d f) g) h = more d f (rounds g h)

  -- LISTING, under one table's outcomes: wherever (a~b)*~a succeeds, a~(b~a)* succeeds at the same end
  pub listing : {a b : E} {p m : ℕ} → Out t s (bin Seq (un Rep (bin Seq a b)) a) p (ok m) → Out t s (bin Seq a (un Rep (bin Seq b a))) p (ok m)
  listing (seq_go d f) = rounds d f

  -- the same of the rewrite of step 6, wherever it fires
  pub list?-succeeds : {p m : ℕ} (e x : E) → list? e ≡ some x → Out t s e p (ok m) → Out t s x p (ok m)
  unfolding list?
  list?-succeeds e x h d =
      bind_case (as_seq e) _ x h λ q f g.
      bind_case (as_rep q.0) _ x g λ l f' g'.
      bind_case (as_seq l) _ x g' λ c f'' g''.
      bind_case (test (same c.0 q.1)) _ x g'' λ u k w.
      let a : c.0 ≡ q.1 = same_eq c.0 q.1 (test_true (same c.0 q.1) u k) in
      let before : e ≡ bin Seq (un Rep (bin Seq c.0 c.1)) c.0 = as_seq_is e q f ∙ cc (as_rep_is q.0 l f', as_seq_is l c f'') in
      let after : bin Seq c.0 (un Rep (bin Seq c.1 c.0)) ≡ x = cc in
      (equal after).to (listing ((equal before).to d))

-- Where the rewrite fires at no node, step 6 changes nothing

abbrev pub present : Option E → Bool
present none = false
present (some x) = true

abbrev pub fires : E → Bool
unfolding list?
fires e = present (list? e)

unfired : (e : E) → fires e ≡ false → or_same list? e ≡ e
unfolding list?
unfired e h = go (list? e) h
  where
    go : (o : Option E) → present o ≡ false → or_else o e ≡ e
    go none k = refl
    go (some x) k = absurd (true≢false k)

list_still : (e : E) → any_node fires e ≡ false → list e ≡ e
unfolding list
list_still (lit k w) h = refl
list_still (fixed f) h = refl
list_still (skip ss) h = refl
list_still (un u e) h =
    let q = neither (fires (un u e)) (any_node fires e) h in
    ap (λ (x : E). or_same list? (un u x)) (list_still e q.1) ∙ unfired (un u e) q.0
list_still (bin b l r) h =
    let q = neither (fires (bin b l r)) (any_node fires l || any_node fires r) h in
    let v = neither (any_node fires l) (any_node fires r) q.1 in
    ap₂ (λ (x y : E). or_same list? (bin b x y)) (list_still l v.0) (list_still r v.1) ∙ unfired (bin b l r) q.0

lists_nowhere : (t : Table Bytes) → Nowhere fires t → each (λ _. list) t ≡ t
lists_nowhere [] h = refl
lists_nowhere (r ∷ t) h =
    let q = neither (any_node fires r.body) (any (λ r. any_node fires r.body) t) h in
    ap₂ (λ (e : E) (u : Table Bytes). record { name = r.name; type = r.type; body = e } ∷ u) (list_still r.body q.0) (lists_nowhere t q.1)

pub fires_nowhere : (t : Table Bytes) → Nowhere fires (after 5 t) → after 6 t ≡ after 5 t
unfolding after
fires_nowhere t h = lists_nowhere (after 5 t) h
