-- A match, step by step: what it asks for first, and what then follows. One induction over outcomes, for all laws about them. Assumes nothing.
use mathlib.Core.Path.{◌≡◌, refl, subst}
use mathlib.Core.Bool.{Bool, true, false, cond}
use mathlib.Core.Option.{some}
use Prim.Native.Nat.{ℕ, zero, suc, pred}
use lib.Dec.{eqb}
use Rattle.grammar.specs.Basic.{Bytes, same_bytes}
use Rattle.grammar.specs.Tree.{Str, Insens, Ident, Range, PeekSlice, PeekFrom, Un, PosPred, NegPred, Opt, Rep, RepOnce, Push, RestoreOnErr, RepExact, RepMin, RepMax, RepMinMax, Seq, Choice, E, lit, fixed, skip, un, bin}
use Rattle.grammar.specs.Table.{Table, find}
use Rattle.grammar.specs.Lists.{ANY}
use Rattle.meaning.specs.Outcome.{Res, fail, ok, one, bytes, folded, within, every, loop_of, stopped, Out, str, insens, range, any, call, pos_ok, pos_no, neg_ok, neg_no, seq_go, seq_no, choice_ok, choice_no, opt_ok, opt_no, rep_go, rep_end, count_go, count_end, count_max, exact, at_most, min_go, min_no, min_rep, once, skips, restored}

-- what then follows: this result, success at the end just reached, or another match: at this position, or at the end just reached
pub data Next : Type 0 where
  done : Res → Next
  ends : Next
  then : E → ℕ → Next
  from : E → Next

-- what a match asks for: it has no outcome; something follows; the rule of a name; first a match of a part, and then what follows its failure
-- or its success
pub data Ask : Type 0 where
  stuck : Ask
  now : Next → Ask
  rule : Bytes → Ask
  first : E → Next → Next → Ask

abbrev pub ask_un : Un → E → ℕ → Ask
ask_un PosPred e p = first e (done fail) (done (ok p))
ask_un NegPred e p = first e (done (ok p)) (done fail)
ask_un Opt e p = first e (done (ok p)) ends
ask_un Rep e p = first e (done (ok p)) (from (un Rep e))
ask_un RepOnce e p = now (then (un (RepMin 1) e) p)
ask_un Push e p = stuck
ask_un RestoreOnErr e p = now (then e p)
ask_un (RepExact n) e p = now (then (un (RepMinMax n n) e) p)
ask_un (RepMin zero) e p = now (then (un Rep e) p)
ask_un (RepMin (suc n)) e p = first e (done fail) (from (un (RepMin n) e))
ask_un (RepMax n) e p = now (then (un (RepMinMax 0 n) e) p)
ask_un (RepMinMax a zero) e p = now (done (stopped a p))
ask_un (RepMinMax a (suc b)) e p = first e (done (stopped a p)) (from (un (RepMinMax (pred a) b) e))

abbrev pub ask : Bytes → E → ℕ → Ask
ask s (lit Str w) p = now (done (bytes eqb s w p))
ask s (lit Insens w) p = now (done (bytes folded s w p))
ask s (lit Ident x) p = cond (same_bytes x ANY) (now (done (one every s p))) (rule x)
ask s (fixed (Range a b)) p = now (done (one (within a b) s p))
ask s (fixed (PeekSlice a b)) p = stuck
ask s (fixed (PeekFrom a)) p = stuck
ask s (skip ss) p = now (then (loop_of ss) p)
ask s (un u e) p = ask_un u e p
ask s (bin Seq a b) p = first a (done fail) (from b)
ask s (bin Choice a b) p = first a (then b p) ends

-- What is asked for is answered with r, where `Gives e p r` says that a part gives r
module _ (Gives : E → ℕ → Res → Type 0) where
  pub data Follows (m : ℕ) : Next → Res → Type 0 where
    is : {r : Res} → Follows m (done r) r
    here : Follows m ends (ok m)
    goes : {e : E} {p : ℕ} {r : Res} → Gives e p r → Follows m (then e p) r
    on : {e : E} {r : Res} → Gives e m r → Follows m (from e) r

  pub data Asked (t : Table Bytes) (p : ℕ) : Ask → Res → Type 0 where
    nows : {x : Next} {r : Res} → Follows p x r → Asked t p (now x) r
    rules : {x : Bytes} {e : E} {r : Res} → find t x ≡ some e → Gives e p r → Asked t p (rule x) r
    failed : {e : E} {f k : Next} {r : Res} → Gives e p fail → Follows p f r → Asked t p (first e f k) r
    went : {e : E} {f k : Next} {m : ℕ} {r : Res} → Gives e p (ok m) → Follows m k r → Asked t p (first e f k) r

-- What is answered is an outcome

module _ {t : Table Bytes} {s : Bytes} where
  by_un : {p : ℕ} {r : Res} (u : Un) (e : E) → Asked (Out t s) t p (ask_un u e p) r → Out t s (un u e) p r
  by_un PosPred e (failed d is) = pos_no d
  by_un PosPred e (went d is) = pos_ok d
  by_un NegPred e (failed d is) = neg_no d
  by_un NegPred e (went d is) = neg_ok d
  by_un Opt e (failed d is) = opt_no d
  by_un Opt e (went d here) = opt_ok d
  by_un Rep e (failed d is) = rep_end d
  by_un Rep e (went d (on f)) = rep_go d f
  by_un RepOnce e (nows (goes d)) = once d
  by_un Push e h = elim h [ ]
  by_un RestoreOnErr e (nows (goes d)) = restored d
  by_un (RepExact n) e (nows (goes d)) = exact d
  by_un (RepMin zero) e (nows (goes d)) = min_rep d
  by_un (RepMin (suc n)) e (failed d is) = min_no d
  by_un (RepMin (suc n)) e (went d (on f)) = min_go d f
  by_un (RepMax n) e (nows (goes d)) = at_most d
  by_un (RepMinMax a zero) e (nows is) = count_max refl
  by_un (RepMinMax a (suc b)) e (failed d is) = count_end d refl
  by_un (RepMinMax a (suc b)) e (went d (on f)) = count_go d f

  this : {p : ℕ} {q r : Res} → Asked (Out t s) t p (now (done q)) r → q ≡ r
  this (nows is) = refl

  by_name : {p : ℕ} {r : Res} (x : Bytes) (b : Bool) → same_bytes x ANY ≡ b → Asked (Out t s) t p (cond b (now (done (one every s p))) (rule x)) r → Out t s (lit Ident x) p r
  by_name x true a (nows is) = any a refl
  by_name x false a (rules l d) = call a l d

  pub by : {p : ℕ} {r : Res} (e : E) → Asked (Out t s) t p (ask s e p) r → Out t s e p r
  by (lit Str w) d = str (this d)
  by (lit Insens w) d = insens (this d)
  by (lit Ident x) d = by_name x (same_bytes x ANY) refl d
  by (fixed (Range a b)) d = range (this d)
  by (fixed (PeekSlice a b)) d = elim d [ ]
  by (fixed (PeekFrom a)) d = elim d [ ]
  by (skip ss) (nows (goes d)) = skips d
  by (un u e) d = by_un u e d
  by (bin Seq a b) (failed d is) = seq_no d
  by (bin Seq a b) (went d (on f)) = seq_go d f
  by (bin Choice a b) (failed d (goes f)) = choice_no d f
  by (bin Choice a b) (went d here) = choice_ok d

module _ {t : Table Bytes} (Gives : E → ℕ → Res → Type 0) where
  result : {p : ℕ} {q r : Res} → q ≡ r → Asked Gives t p (now (done q)) r
  result {p} {q} h = subst (Asked Gives t p (now (done q))) h (nows is)

-- THE INDUCTION: what holds wherever it answers what is asked for holds of every outcome
module _ {t : Table Bytes} {s : Bytes} (Gives : E → ℕ → Res → Type 0) (step : (e : E) (p : ℕ) (r : Res) → Asked Gives t p (ask s e p) r → Gives e p r) where
  pub each_outcome : {e : E} {p : ℕ} {r : Res} → Out t s e p r → Gives e p r
  each_outcome (str h) = step _ _ _ (result Gives h)
  each_outcome (insens h) = step _ _ _ (result Gives h)
  each_outcome (range h) = step _ _ _ (result Gives h)
  each_outcome (any a h) = step _ _ _ (rw a (result Gives h))
  each_outcome (call a l d) = step _ _ _ (rw a (rules l (each_outcome d)))
  each_outcome (pos_ok d) = step _ _ _ (went (each_outcome d) is)
  each_outcome (pos_no d) = step _ _ _ (failed (each_outcome d) is)
  each_outcome (neg_ok d) = step _ _ _ (went (each_outcome d) is)
  each_outcome (neg_no d) = step _ _ _ (failed (each_outcome d) is)
  each_outcome (seq_go d f) = step _ _ _ (went (each_outcome d) (on (each_outcome f)))
  each_outcome (seq_no d) = step _ _ _ (failed (each_outcome d) is)
  each_outcome (choice_ok d) = step _ _ _ (went (each_outcome d) here)
  each_outcome (choice_no d f) = step _ _ _ (failed (each_outcome d) (goes (each_outcome f)))
  each_outcome (opt_ok d) = step _ _ _ (went (each_outcome d) here)
  each_outcome (opt_no d) = step _ _ _ (failed (each_outcome d) is)
  each_outcome (rep_go d f) = step _ _ _ (went (each_outcome d) (on (each_outcome f)))
  each_outcome (rep_end d) = step _ _ _ (failed (each_outcome d) is)
  each_outcome (count_go d f) = step _ _ _ (went (each_outcome d) (on (each_outcome f)))
  each_outcome (count_end d h) = step _ _ _ (failed (each_outcome d) (subst (Follows Gives _ (done _)) h is))
  each_outcome (count_max h) = step _ _ _ (result Gives h)
  each_outcome (exact d) = step _ _ _ (nows (goes (each_outcome d)))
  each_outcome (at_most d) = step _ _ _ (nows (goes (each_outcome d)))
  each_outcome (min_go d f) = step _ _ _ (went (each_outcome d) (on (each_outcome f)))
  each_outcome (min_no d) = step _ _ _ (failed (each_outcome d) is)
  each_outcome (min_rep d) = step _ _ _ (nows (goes (each_outcome d)))
  each_outcome (once d) = step _ _ _ (nows (goes (each_outcome d)))
  each_outcome (skips d) = step _ _ _ (nows (goes (each_outcome d)))
  each_outcome (restored d) = step _ _ _ (nows (goes (each_outcome d)))
