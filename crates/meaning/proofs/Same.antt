-- Two expressions with the same outcomes under one table, and that this goes through the nodes above them. Assumes nothing.
use mathlib.Core.Path.{◌≡◌, refl, subst}
use mathlib.Core.Bool.{Bool, true, false, cond}
use mathlib.Core.Option.{Option, none, some}
use Prim.Native.Nat.{ℕ, zero, suc}
use native.Mathlib.Omega.{arith}
use Rattle.grammar.specs.Basic.{Bytes, or_else}
use Rattle.grammar.specs.Tree.{Un, Bin, E, lit, fixed, skip, un, bin}
use Rattle.grammar.specs.Table.{Table}
use Rattle.grammar.specs.Steps.{bottom_up, children, top_down_in, or_same}
use Rattle.meaning.specs.Outcome.{Res, fail, ok, Out, pos_ok, pos_no, neg_ok, neg_no, seq_go, seq_no, choice_ok, choice_no, opt_ok, opt_no, rep_go, rep_end, count_go, count_end, count_max, exact, at_most, min_go, min_no, min_rep, once, restored}
use Rattle.meaning.proofs.Matcher.{det}

-- Failing is an outcome too
pub record Same (t : Table Bytes) (s : Bytes) (a b : E) : Type 0 where
  pub to : {p : ℕ} {r : Res} → Out t s a p r → Out t s b p r
  pub from : {p : ℕ} {r : Res} → Out t s b p r → Out t s a p r

module _ {t : Table Bytes} {s : Bytes} where
  pub same : {a : E} → Same t s a a
  same = record { to = λ d. d; from = λ d. d }

  pub flip : {a b : E} → Same t s a b → Same t s b a
  flip h = record { to = h.from; from = h.to }

  infixr 60 ◌∘◌
  pub ◌∘◌ : {a b c : E} → Same t s a b → Same t s b c → Same t s a c
  h ∘ k = record { to = λ d. k.to (h.to d); from = λ d. h.from (k.from d) }

  pub equal : {a b : E} → a ≡ b → Same t s a b
  equal {a} h = subst (Same t s a) h same

  -- at another result, or another end, that is shown to be the same
  pub result : {e : E} {p : ℕ} {q r : Res} → q ≡ r → Out t s e p q → Out t s e p r
  result {e} {p} h d = subst (Out t s e p) h d

  pub moved : {e : E} {m n : ℕ} {r : Res} → ok m ≡ ok n → Out t s e n r → Out t s e m r
  moved {e} {m} {n} {r} h d = let q : n ≡ m = cc in subst (λ (x : ℕ). Out t s e x r) q d

  pub never : {e : E} {p m : ℕ} {P : Type 0} → Out t s e p fail → Out t s e p (ok m) → P
  never d f = let h = det d f in let z : ◌≡◌ {A = ℕ} 0 1 = cc in absurd (omega arith)

  un_to : {a b : E} {u : Un} {p : ℕ} {r : Res} → Same t s a b → Out t s (un u a) p r → Out t s (un u b) p r
  un_to h (pos_ok d) = pos_ok (h.to d)
  un_to h (pos_no d) = pos_no (h.to d)
  un_to h (neg_ok d) = neg_ok (h.to d)
  un_to h (neg_no d) = neg_no (h.to d)
  un_to h (opt_ok d) = opt_ok (h.to d)
  un_to h (opt_no d) = opt_no (h.to d)
  un_to h (rep_go d f) = rep_go (h.to d) (un_to h f)
  un_to h (rep_end d) = rep_end (h.to d)
  un_to h (count_go d f) = count_go (h.to d) (un_to h f)
  un_to h (count_end d q) = count_end (h.to d) q
  un_to h (count_max q) = count_max q
  un_to h (exact d) = exact (un_to h d)
  un_to h (at_most d) = at_most (un_to h d)
  un_to h (min_go d f) = min_go (h.to d) (un_to h f)
  un_to h (min_no d) = min_no (h.to d)
  un_to h (min_rep d) = min_rep (un_to h d)
  un_to h (once d) = once (un_to h d)
  un_to h (restored d) = restored (h.to d)

  bin_to : {a b c d : E} {k : Bin} {p : ℕ} {r : Res} → Same t s a b → Same t s c d → Out t s (bin k a c) p r → Out t s (bin k b d) p r
  bin_to h k (seq_go d f) = seq_go (h.to d) (k.to f)
  bin_to h k (seq_no d) = seq_no (h.to d)
  bin_to h k (choice_ok d) = choice_ok (h.to d)
  bin_to h k (choice_no d f) = choice_no (h.to d) (k.to f)

  pub un_same : {a b : E} {u : Un} → Same t s a b → Same t s (un u a) (un u b)
  un_same h = record { to = un_to h; from = un_to (flip h) }

  pub bin_same : {a b c d : E} {k : Bin} → Same t s a b → Same t s c d → Same t s (bin k a c) (bin k b d)
  bin_same h k = record { to = bin_to h k; from = bin_to (flip h) (flip k) }

  -- Rewrites that keep the outcomes of every node, mapped over a tree, and partial ones

  children_same : {g : E → E} → ((e : E) → Same t s e (g e)) → (e : E) → Same t s e (children g e)
  children_same h (lit k w) = same
  children_same h (fixed f) = same
  children_same h (skip ss) = same
  children_same h (un u e) = un_same (h e)
  children_same h (bin b l r) = bin_same (h l) (h r)

  pub top_down_same : {f : E → E} → ((e : E) → Same t s e (f e)) → (n : ℕ) (e : E) → Same t s e (top_down_in n f e)
  top_down_same h zero e = same
  top_down_same {f} h (suc n) e = h e ∘ children_same (top_down_same h n) (f e)

  pub bottom_up_same : {f : E → E} → ((e : E) → Same t s e (f e)) → (e : E) → Same t s e (bottom_up f e)
  bottom_up_same h (lit k w) = h (lit k w)
  bottom_up_same h (fixed f) = h (fixed f)
  bottom_up_same h (skip ss) = h (skip ss)
  bottom_up_same h (un u e) = un_same (bottom_up_same h e) ∘ h _
  bottom_up_same h (bin b l r) = bin_same (bottom_up_same h l) (bottom_up_same h r) ∘ h _

  pub or_same_same : (f : E → Option E) → ((e x : E) → f e ≡ some x → Same t s e x) → (e : E) → Same t s e (or_same f e)
  or_same_same f h e = go (f e) refl
    where
      go : (o : Option E) → f e ≡ o → Same t s e (or_else o e)
      go none q = same
      go (some x) q = h e x q

  pub cond_same : (b : Bool) {e x : E} → Same t s e x → Same t s e (cond b x e)
  cond_same true h = h
  cond_same false h = same
