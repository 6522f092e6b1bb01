-- Bytes above 127: the first from a place on tells whether a part has one. Assumes nothing.
use mathlib.Core.Path.{◌≡◌, refl, sym, ap}
use mathlib.Core.Bool.{Bool, true, false, ◌||◌, or-true}
use Prim.Native.Nat.{ℕ, zero, suc, ◌+◌, ◌≤◌, ◌<◌}
use native.Mathlib.Decide.{ℕ_discrete}
use native.Mathlib.Omega.{arith}
use borrow.Author.Tests.{lt-ltb, le-ltb, ltb-true, ltb-false}
use lib.Dec.{ltb}
use lib.ListN.{length, get_or}
use Rattle.grammar.specs.Basic.{Bytes, any}
use Rattle.grammar.specs.Text.{bytes_at}
use Rattle.grammar.specs.Refusals.{bad_span}
use Rattle.names.proofs.Marks.{part_cons}
use Rattle.refusals.specs.Bytes.{High}

module _ (text : Bytes) where
  -- no byte of a part is above 127, or one is
  all_low : (n x : ℕ) → x + n ≤ length text → ((j : ℕ) → x ≤ j → j < x + n → get_or text j 0 ≤ 127) → any (ltb 127) (bytes_at text (x, n)) ≡ false
  all_low zero x h f = refl
  all_low (suc n) x h f =
      rw (part_cons text x n h, le-ltb 127 (get_or text x 0) (f x (omega arith) (omega arith))) (all_low n (x + 1) (omega arith) (λ j a b. f j (omega arith) (omega arith)))

  one_high : (n x j : ℕ) → x + n ≤ length text → x ≤ j → j < x + n → 127 < get_or text j 0 → any (ltb 127) (bytes_at text (x, n)) ≡ true
  one_high zero x j h a b g = absurd (omega arith)
  one_high (suc n) x j h a b g = rw (part_cons text x n h) (go (ℕ_discrete j x) (λ l. one_high n (x + 1) j (omega arith) l (omega arith) g))
    where
      go : Dec (j ≡ x) → (x + 1 ≤ j → any (ltb 127) (bytes_at text (x + 1, n)) ≡ true) → (ltb 127 (get_or text x 0) || any (ltb 127) (bytes_at text (x + 1, n))) ≡ true
      go (yes e) ih = ap (λ (b : Bool). b || any (ltb 127) (bytes_at text (x + 1, n))) (lt-ltb 127 (get_or text x 0) (rw e at g))
      go (no e) ih = rw (ih (omega arith)) (or-true (ltb 127 (get_or text x 0)))

  -- the first byte above 127 from x on decides
  pub high_decides : (x n r : ℕ) → x + n ≤ length text → High text x r → ltb r (x + n) ≡ any (ltb 127) (bytes_at text (x, n))
  high_decides x n r h g = go (ltb r (x + n)) refl
    where
      go : (b : Bool) → ltb r (x + n) ≡ b → b ≡ any (ltb 127) (bytes_at text (x, n))
      go true e = let l : r < x + n = ltb-true r (x + n) e in sym (one_high n x r h g.from l (g.high (omega arith)))
      go false e = let l : x + n ≤ r = ltb-false r (x + n) e in sym (all_low n x h (λ j a b. g.low j a (omega arith)))

  -- a part before the first of all has none
  pub before_high : (x n first : ℕ) → High text 0 first → x + n ≤ first → any (ltb 127) (bytes_at text (x, n)) ≡ false
  before_high x n first g l = all_low n x (omega (arith, g.within)) (λ j a b. g.low j (omega arith) (omega arith))

  -- refusal 4 of a span in the text: it ends before the first byte above 127 of all, or the first such byte from its start on decides
  module _ (x n : ℕ) (inside : x + n ≤ length text) where
    pub span_low : (first : ℕ) → x + n ≤ first → High text 0 first → ltb first (x + n) ≡ bad_span text (x, n)
    span_low first l g = rw (le-ltb (length text) (x + n) inside, le-ltb first (x + n) l) (sym (before_high x n first g l))

    pub span_decides : (r : ℕ) → High text x r → ltb r (x + n) ≡ bad_span text (x, n)
    span_decides r g = rw (le-ltb (length text) (x + n) inside) (high_decides x n r inside g)
