-- Small inversions: what a failed test says, and that a node which a view takes apart is a node of that kind. Assumes nothing.
use mathlib.Core.Path.{◌≡◌, refl}
use mathlib.Core.Bool.{true≢false, false≢true, Bool, true, false, ◌||◌, cond}
use mathlib.Core.Option.{some, none}
use Prim.Native.Nat.{ℕ}
use Rattle.grammar.specs.Basic.{Bytes}
use Rattle.grammar.specs.Tree.{Lit, Str, Insens, Ident, Un, PosPred, NegPred, Opt, Rep, RepOnce, Push, RestoreOnErr, RepExact, RepMin, RepMax, RepMinMax, Seq, Choice, E, lit, fixed, skip, un, bin, is_un, lit_kind, lit_at, un_at, as_neg_pred, as_rep, as_choice}
use Rattle.grammar.proofs.Logic.{none_some}

pub neither : (a b : Bool) → (a || b) ≡ false → (a ≡ false) × (b ≡ false)
neither true b h = absurd (true≢false h)
neither false b h = (refl, h)

pub lit_at_is : (k : Lit) (e : E) (w : Bytes) → lit_at (lit_kind k) e ≡ some w → e ≡ lit k w
lit_at_is Str (lit Str v) w h = cc
lit_at_is Str (lit Insens v) w h = none_some h
lit_at_is Str (lit Ident v) w h = none_some h
lit_at_is Insens (lit Str v) w h = none_some h
lit_at_is Insens (lit Insens v) w h = cc
lit_at_is Insens (lit Ident v) w h = none_some h
lit_at_is Ident (lit Str v) w h = none_some h
lit_at_is Ident (lit Insens v) w h = none_some h
lit_at_is Ident (lit Ident v) w h = cc
lit_at_is k (fixed f) w h = none_some h
lit_at_is k (skip ss) w h = none_some h
lit_at_is k (un u e) w h = none_some h
lit_at_is k (bin b l r) w h = none_some h

pub as_choice_is : (e : E) (p : E × E) → as_choice e ≡ some p → e ≡ bin Choice p.0 p.1
as_choice_is (lit k s) p h = none_some h
as_choice_is (fixed f) p h = none_some h
as_choice_is (skip ss) p h = none_some h
as_choice_is (un u e) p h = none_some h
as_choice_is (bin Seq l r) p h = none_some h
as_choice_is (bin Choice l r) p h = cc

-- the one kind with that number
un_at_is : (n : ℕ) (v : Un) → ((u : Un) → is_un n u ≡ true → u ≡ v) → (e x : E) → un_at n e ≡ some x → e ≡ un v x
un_at_is n v only (lit k s) x h = none_some h
un_at_is n v only (fixed f) x h = none_some h
un_at_is n v only (skip ss) x h = none_some h
un_at_is n v only (un u e) x h = go (is_un n u) refl h
  where
    go : (b : Bool) → is_un n u ≡ b → cond b (some e) none ≡ some x → un u e ≡ un v x
    go true q k = let w = only u q in cc
    go false q k = none_some k
un_at_is n v only (bin b l r) x h = none_some h

only_rep : (u : Un) → is_un 11 u ≡ true → u ≡ Rep
only_rep PosPred h = absurd (false≢true h)
only_rep NegPred h = absurd (false≢true h)
only_rep Opt h = absurd (false≢true h)
only_rep Rep h = refl
only_rep RepOnce h = absurd (false≢true h)
only_rep Push h = absurd (false≢true h)
only_rep RestoreOnErr h = absurd (false≢true h)
only_rep (RepExact n) h = absurd (false≢true h)
only_rep (RepMin n) h = absurd (false≢true h)
only_rep (RepMax n) h = absurd (false≢true h)
only_rep (RepMinMax m n) h = absurd (false≢true h)

only_neg : (u : Un) → is_un 7 u ≡ true → u ≡ NegPred
only_neg PosPred h = absurd (false≢true h)
only_neg NegPred h = refl
only_neg Opt h = absurd (false≢true h)
only_neg Rep h = absurd (false≢true h)
only_neg RepOnce h = absurd (false≢true h)
only_neg Push h = absurd (false≢true h)
only_neg RestoreOnErr h = absurd (false≢true h)
only_neg (RepExact n) h = absurd (false≢true h)
only_neg (RepMin n) h = absurd (false≢true h)
only_neg (RepMax n) h = absurd (false≢true h)
only_neg (RepMinMax m n) h = absurd (false≢true h)

pub as_rep_is : (e x : E) → as_rep e ≡ some x → e ≡ un Rep x
as_rep_is e x h = un_at_is 11 Rep only_rep e x h

pub as_neg_pred_is : (e x : E) → as_neg_pred e ≡ some x → e ≡ un NegPred x
as_neg_pred_is e x h = un_at_is 7 NegPred only_neg e x h
