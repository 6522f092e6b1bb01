-- Unroll's law: a counted repeat is its items in a row, where a count of 0 is refused and no minimum is above its maximum. Assumes nothing.
use mathlib.Core.Path.{◌≡◌, refl, ap}
use mathlib.Core.Bool.{false, true≢false}
use mathlib.Core.List.{List, [], ◌∷◌, ◌++◌, append-nil}
use Prim.Native.Nat.{ℕ, zero, suc, ◌+◌, ◌-◌, ◌≤◌, ◌<◌, min}
use native.Mathlib.Omega.{arith}
use lib.ListN.{length, replicate, length-append, length-replicate}
use lib.Dec.{eqb, ltb, nltb→le}
use Rattle.grammar.specs.Basic.{Bytes}
use Rattle.grammar.specs.Tree.{Un, PosPred, NegPred, Opt, Rep, RepOnce, Push, RestoreOnErr, RepExact, RepMin, RepMax, RepMinMax, Seq, E, lit, fixed, skip, un, bin}
use Rattle.grammar.specs.Table.{Table}
use Rattle.grammar.specs.Steps.{nest, unrolled, unroll}
use Rattle.grammar.specs.Refusals.{zero_un}
use Rattle.meaning.specs.Outcome.{Res, fail, ok, Out, seq_go, seq_no, opt_ok, opt_no, count_go, count_end, count_max, exact, at_most, min_go, min_no, min_rep, once}
use Rattle.meaning.specs.Demand3.{crossed_un}
use Rattle.meaning.proofs.Matcher.{det}
use Rattle.meaning.proofs.Same.{Same, same, ◌∘◌, equal, result, un_same, bin_same}

-- items in a right-nested Seq, then z
abbrev row : List E → E → E
row [] z = z
row (x ∷ xs) z = bin Seq x (row xs z)

row_nest : (xs : List E) (z : E) → row xs z ≡ nest (xs ++ (z ∷ []))
row_nest [] z = refl
row_nest (x ∷ []) z = refl
row_nest (x ∷ y ∷ ys) z = ap (bin Seq x) (row_nest (y ∷ ys) z)

positive : (n : ℕ) → eqb n 0 ≡ false → 0 < n
positive zero h = absurd (true≢false h)
positive (suc n) h = omega arith

uncrossed : (m n : ℕ) → ltb n m ≡ false → m ≤ n
uncrossed m n h = nltb→le n m (rw h tt)

-- a repeat of no times, after items, adds nothing
module _ {t : Table Bytes} {s : Bytes} where
  ends_to : {e x : E} {p : ℕ} {r : Res} → Out t s (bin Seq x (un (RepMinMax 0 0) e)) p r → Out t s x p r
  ends_to (seq_go d (count_max h)) = result h d
  ends_to (seq_no d) = d

  ends_from : {e x : E} {p : ℕ} {r : Res} → Out t s x p r → Out t s (bin Seq x (un (RepMinMax 0 0) e)) p r
  ends_from {r = fail} d = seq_no d
  ends_from {r = ok m} d = seq_go d (count_max refl)

  nested : (e : E) (xs : List E) → 0 < length xs → Same t s (row xs (un (RepMinMax 0 0) e)) (nest xs)
  nested e [] h = absurd (omega arith)
  nested e (x ∷ []) h = record { to = ends_to; from = ends_from }
  nested e (x ∷ y ∷ ys) h = bin_same same (nested e (y ∷ ys) (omega arith))

module _ {t : Table Bytes} {s : Bytes} {e : E} where
  -- One item

  need_to : {a b p : ℕ} {r : Res} → Out t s (un (RepMinMax (suc a) (suc b)) e) p r → Out t s (bin Seq e (un (RepMinMax a b) e)) p r
  need_to (count_go d f) = seq_go d f
  need_to (count_end d h) = result h (seq_no d)

  need_from : {a b p : ℕ} {r : Res} → Out t s (bin Seq e (un (RepMinMax a b) e)) p r → Out t s (un (RepMinMax (suc a) (suc b)) e) p r
  need_from (seq_go d f) = count_go d f
  need_from (seq_no d) = count_end d refl

  need : {a b : ℕ} → Same t s (un (RepMinMax (suc a) (suc b)) e) (bin Seq e (un (RepMinMax a b) e))
  need = record { to = need_to; from = need_from }

  no_more : {p : ℕ} (b : ℕ) → Out t s e p fail → Out t s (un (RepMinMax 0 b) e) p (ok p)
  no_more zero d = count_max refl
  no_more (suc b) d = count_end d refl

  may_to : {b p : ℕ} {r : Res} → Out t s (un (RepMinMax 0 (suc b)) e) p r → Out t s (bin Seq (un Opt e) (un (RepMinMax 0 b) e)) p r
  may_to (count_go d f) = seq_go (opt_ok d) f
  may_to {b} (count_end d h) = seq_go (opt_no d) (result h (no_more b d))

  may_from : {b p : ℕ} {r : Res} → Out t s (bin Seq (un Opt e) (un (RepMinMax 0 b) e)) p r → Out t s (un (RepMinMax 0 (suc b)) e) p r
  may_from (seq_go (opt_ok d) f) = count_go d f
  may_from {b} (seq_go (opt_no d) f) = count_end d (det (no_more b d) f)
  may_from (seq_no h) = elim h [ ]

  may : {b : ℕ} → Same t s (un (RepMinMax 0 (suc b)) e) (bin Seq (un Opt e) (un (RepMinMax 0 b) e))
  may = record { to = may_to; from = may_from }

  once_more_to : {n p : ℕ} {r : Res} → Out t s (un (RepMin (suc n)) e) p r → Out t s (bin Seq e (un (RepMin n) e)) p r
  once_more_to (min_go d f) = seq_go d f
  once_more_to (min_no d) = seq_no d

  once_more_from : {n p : ℕ} {r : Res} → Out t s (bin Seq e (un (RepMin n) e)) p r → Out t s (un (RepMin (suc n)) e) p r
  once_more_from (seq_go d f) = min_go d f
  once_more_from (seq_no d) = min_no d

  -- All items: those needed, those that may be, and then nothing

  counted : (a o n : ℕ) → n ≡ a + o → Same t s (un (RepMinMax a n) e) (row (replicate a e ++ replicate o (un Opt e)) (un (RepMinMax 0 0) e))
  counted zero zero zero h = same
  counted zero zero (suc n) h = absurd (omega arith)
  counted zero (suc o) zero h = absurd (omega arith)
  counted zero (suc o) (suc n) h = may ∘ bin_same same (counted zero o n (omega arith))
  counted (suc a) o zero h = absurd (omega arith)
  counted (suc a) o (suc n) h = need ∘ bin_same same (counted a o n (omega arith))

  items : (a o n : ℕ) → n ≡ a + o → 0 < n → Same t s (un (RepMinMax a n) e) (nest (replicate a e ++ replicate o (un Opt e)))
  items a o n h i = counted a o n h ∘ nested e (replicate a e ++ replicate o (un Opt e)) (simp (length-append, length-replicate) (omega arith))

  at_least : (n : ℕ) → Same t s (un (RepMin n) e) (row (replicate n e) (un Rep e))
  at_least zero = record { to = rep; from = min_rep }
    where
      rep : {p : ℕ} {r : Res} → Out t s (un (RepMin 0) e) p r → Out t s (un Rep e) p r
      rep (min_rep d) = d
  at_least (suc n) = record { to = once_more_to; from = once_more_from } ∘ bin_same same (at_least n)

  exact_same : {n : ℕ} → Same t s (un (RepExact n) e) (un (RepMinMax n n) e)
  exact_same {n} = record { to = inside; from = exact }
    where
      inside : {p : ℕ} {r : Res} → Out t s (un (RepExact n) e) p r → Out t s (un (RepMinMax n n) e) p r
      inside (exact d) = d

  most_same : {n : ℕ} → Same t s (un (RepMax n) e) (un (RepMinMax 0 n) e)
  most_same {n} = record { to = inside; from = at_most }
    where
      inside : {p : ℕ} {r : Res} → Out t s (un (RepMax n) e) p r → Out t s (un (RepMinMax 0 n) e) p r
      inside (at_most d) = d

  once_same : Same t s (un RepOnce e) (un (RepMin 1) e)
  once_same = record { to = inside; from = once }
    where
      inside : {p : ℕ} {r : Res} → Out t s (un RepOnce e) p r → Out t s (un (RepMin 1) e) p r
      inside (once d) = d

  pub unrolled_same : (u : Un) → zero_un u ≡ false → crossed_un u ≡ false → Same t s (un u e) (unrolled u e)
  unrolled_same PosPred z c = same
  unrolled_same NegPred z c = same
  unrolled_same Opt z c = same
  unrolled_same Rep z c = same
  unrolled_same Push z c = same
  unrolled_same RestoreOnErr z c = same
  unrolled_same RepOnce z c = once_same ∘ at_least 1
  unrolled_same (RepExact n) z c = exact_same ∘ items n 0 n (omega arith) (positive n z) ∘ equal (ap nest (append-nil (replicate n e)))
  unrolled_same (RepMin n) z c = at_least n ∘ equal (row_nest (replicate n e) (un Rep e))
  unrolled_same (RepMax n) z c = most_same ∘ items 0 n n (omega arith) (positive n z)
  unrolled_same (RepMinMax m n) z c =
      let i : m ≤ n = uncrossed m n c in
      let q : m ≡ min m n = omega arith in
      items m (n - m) n (omega arith) (positive n z) ∘ equal (ap (λ (k : ℕ). nest (replicate k e ++ replicate (n - m) (un Opt e))) q)

-- what unroll asks of an expression: refusal 6, and no minimum above its maximum
abbrev pub Counted : E → Type 0
Counted (lit k w) = Unit {0}
Counted (fixed f) = Unit {0}
Counted (skip ss) = Unit {0}
Counted (un u e) = (zero_un u ≡ false) × (crossed_un u ≡ false) × Counted e
Counted (bin b l r) = Counted l × Counted r

pub unroll_same : {t : Table Bytes} {s : Bytes} (e : E) → Counted e → Same t s e (unroll e)
unfolding unroll
unroll_same (lit k w) c = same
unroll_same (fixed f) c = same
unroll_same (skip ss) c = same
unroll_same (un u e) c = un_same (unroll_same e c.2) ∘ unrolled_same u c.0 c.1
unroll_same (bin b l r) c = bin_same (unroll_same l c.0) (unroll_same r c.1)
