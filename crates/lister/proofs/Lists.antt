-- List on trees, node by node: when it fires, and that it keeps the number of rows and the text. Assumes nothing.
use mathlib.Core.Path.{◌≡◌, refl, ap, ◌∙◌}
use mathlib.Core.Bool.{Bool, true, false}
use mathlib.Core.List.{append_assoc}
use mathlib.Core.Option.{none, some}
use native.Mathlib.Omega.{arith}
use Rattle.grammar.specs.Basic.{◌>>=◌, test}
use Rattle.grammar.specs.Tree.{E, Un, Bin, PosPred, NegPred, Opt, Rep, RepOnce, Push, RestoreOnErr, RepExact, RepMin, RepMax, RepMinMax, Seq, Choice, lit, fixed, skip, un, bin, size, same}
use Rattle.grammar.specs.Text.{text_of}
use Rattle.grammar.specs.Steps.{or_same, list, list?}
use Rattle.grammar.proofs.Logic.{eq_same, same_eq}
use Rattle.lister.specs.Loops.{Loops}

-- what a loop (a~b)* and then r become
abbrev pub listed : E → E → E → E
listed a b r = bin Seq a (un Rep (bin Seq b r))

pub list_fires : (l r : E) (h : Loops l r) → list? (bin Seq l r) ≡ some (listed h.head h.tail r)
unfolding list?
list_fires l r h = rw (h.loop, eq_same h.head r h.again)

-- a Seq either begins with such a loop, or stays as it is
module _ {P : Type 0} (r : E) where
  rep_case : (e : E) → (Loops (un Rep e) r → P) → (list? (bin Seq (un Rep e) r) ≡ none → P) → P
  unfolding list?
  rep_case (lit k s) f g = g refl
  rep_case (fixed h) f g = g refl
  rep_case (skip ss) f g = g refl
  rep_case (un u e) f g = g refl
  rep_case (bin Choice a b) f g = g refl
  rep_case (bin Seq a b) f g = go (same a r) refl g
    where
      go : (t : Bool) → same a r ≡ t → ((test t >>= λ _. some (listed a b r)) ≡ none → P) → P
      go true e k = f (record { head = a; tail = b; loop = refl; again = same_eq a r e })
      go false e k = k refl

  pub list_case : (l : E) → (Loops l r → P) → (list? (bin Seq l r) ≡ none → P) → P
  unfolding list?
  list_case (lit k s) f g = g refl
  list_case (fixed h) f g = g refl
  list_case (skip ss) f g = g refl
  list_case (bin b x y) f g = g refl
  list_case (un Rep e) f g = rep_case e f g
  list_case (un PosPred e) f g = g refl
  list_case (un NegPred e) f g = g refl
  list_case (un Opt e) f g = g refl
  list_case (un RepOnce e) f g = g refl
  list_case (un Push e) f g = g refl
  list_case (un RestoreOnErr e) f g = g refl
  list_case (un (RepExact m) e) f g = g refl
  list_case (un (RepMin m) e) f g = g refl
  list_case (un (RepMax m) e) f g = g refl
  list_case (un (RepMinMax m o) e) f g = g refl

pub list_idle : (l r : E) → (Loops l r → ⊥) → list? (bin Seq l r) ≡ none
list_idle l r n = list_case r l (λ h. absurd (n h)) (λ e. e)

-- "children first, then the node once", by node
pub list_un : (u : Un) (e : E) → list (un u e) ≡ un u (list e)
unfolding list list?
list_un u e = refl

pub list_bin : (b : Bin) (l r : E) → list (bin b l r) ≡ or_same list? (bin b (list l) (list r))
unfolding list
list_bin b l r = refl

-- list keeps the number of rows
seq_size : (l r : E) → size (or_same list? (bin Seq l r)) ≡ size (bin Seq l r)
seq_size l r = list_case r l (λ h. rw (list_fires l r h) (omega (arith, ap size h.loop, ap size h.again))) (λ e. rw e)

pub list_size : (e : E) → size (list e) ≡ size e
unfolding list list?
list_size (lit k s) = refl
list_size (fixed f) = refl
list_size (skip ss) = refl
list_size (un u e) = omega (arith, list_size e)
list_size (bin Choice l r) = omega (arith, list_size l, list_size r)
list_size (bin Seq l r) = seq_size (list l) (list r) ∙ omega (arith, list_size l, list_size r)

-- and the text
seq_text : (l r : E) → text_of (or_same list? (bin Seq l r)) ≡ text_of (bin Seq l r)
seq_text l r = list_case r l (λ h. rw (list_fires l r h, h.loop) (simp append_assoc)) (λ e. rw e)

pub list_text : (e : E) → text_of (list e) ≡ text_of e
unfolding list list?
list_text (lit k s) = refl
list_text (fixed f) = refl
list_text (skip ss) = refl
list_text (un u e) = list_text e
list_text (bin Choice l r) = rw (list_text l, list_text r)
list_text (bin Seq l r) = seq_text (list l) (list r) ∙ rw (list_text l, list_text r)
