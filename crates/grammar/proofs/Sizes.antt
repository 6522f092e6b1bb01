-- Sizes of unrolled forms as whole numbers, without the tree: a count of 4,294,967,295 is refused by these and not by writing it out. Assumes nothing.
use mathlib.Core.Path.{◌≡◌, refl, sym, ap, ap₂, ◌∙◌, subst}
use mathlib.Core.List.{List, [], ◌∷◌, ◌++◌, append-nil}
use Prim.Native.Nat.{ℕ, zero, suc, ◌+◌, ◌*◌, ◌-◌, ◌<◌, min}
use native.Mathlib.Nat.{suc-mul, zero-mul}
use native.Mathlib.Omega.{arith}
use lib.ListN.{length, replicate, length-append}
use Rattle.grammar.specs.Basic.{Bytes}
use Rattle.grammar.specs.Tree.{E, Opt, Rep, RepExact, RepMax, RepMin, RepMinMax, RepOnce, size, un}
use Rattle.grammar.specs.Text.{text_of}
use Rattle.grammar.specs.Steps.{nest, unrolled}

-- rows of items: each item and one Seq, but for the last
abbrev pub weigh : List E → ℕ
weigh [] = 0
weigh (e ∷ es) = size e + 1 + weigh es

pub nest_size : (e : E) (es : List E) → size (nest (e ∷ es)) + 1 ≡ weigh (e ∷ es)
nest_size e [] = omega arith
nest_size e (f ∷ es) = omega (arith, nest_size f es)

pub weigh_append : (es fs : List E) → weigh (es ++ fs) ≡ weigh es + weigh fs
weigh_append [] fs = omega arith
weigh_append (e ∷ es) fs = omega (arith, weigh_append es fs)

pub weigh_replicate : (n : ℕ) (e : E) → weigh (replicate n e) ≡ n * (size e + 1)
weigh_replicate zero e = sym (zero-mul (size e + 1))
weigh_replicate (suc n) e = omega (arith, weigh_replicate n e, suc-mul n (size e + 1))

-- text of items, one after the other
abbrev pub texts_of : List E → Bytes
texts_of [] = []
texts_of (e ∷ es) = text_of e ++ texts_of es

pub nest_text : (e : E) (es : List E) → text_of (nest (e ∷ es)) ≡ texts_of (e ∷ es)
nest_text e [] = sym (append-nil (text_of e))
nest_text e (f ∷ es) = ap (λ (s : Bytes). text_of e ++ s) (nest_text f es)

pub texts_append : (es fs : List E) → length (texts_of (es ++ fs)) ≡ length (texts_of es) + length (texts_of fs)
texts_append [] fs = omega arith
texts_append (e ∷ es) fs = simp length-append (omega (arith, texts_append es fs))

pub texts_replicate : (n : ℕ) (e : E) → length (texts_of (replicate n e)) ≡ n * length (text_of e)
texts_replicate zero e = sym (zero-mul (length (text_of e)))
texts_replicate (suc n) e = simp length-append (omega (arith, texts_replicate n e, suc-mul n (length (text_of e))))

-- n plain items and m that are e?: of e, rows s and bytes b, n (s + 1) + m (s + 2) - 1 rows and (n + m) b bytes
abbrev pub items_of : ℕ → ℕ → E → List E
items_of n m e = replicate n e ++ replicate m (un Opt e)

pub items_weigh : (n m : ℕ) (e : E) → weigh (items_of n m e) ≡ n * (size e + 1) + m * (size e + 1 + 1)
items_weigh n m e = weigh_append (replicate n e) (replicate m (un Opt e)) ∙ ap₂ ◌+◌ (weigh_replicate n e) (weigh_replicate m (un Opt e))

-- RepExact n, of n at least 1
pub exact_size : (n : ℕ) (e : E) → size (unrolled (RepExact (suc n)) e) + 1 ≡ suc n * (size e + 1)
exact_size n e = nest_size e (replicate n e) ∙ weigh_replicate (suc n) e

-- RepMax n, of n at least 1
pub most_size : (n : ℕ) (e : E) → size (unrolled (RepMax (suc n)) e) + 1 ≡ suc n * (size e + 1 + 1)
most_size n e = nest_size (un Opt e) (replicate n (un Opt e)) ∙ weigh_replicate (suc n) (un Opt e)

-- RepMin n
pub least_size : (n : ℕ) (e : E) → size (unrolled (RepMin n) e) + 1 ≡ n * (size e + 1) + (size e + 1 + 1)
least_size zero e = omega (arith, zero-mul (size e + 1))
least_size (suc n) e = nest_size e (replicate n e ++ (un Rep e ∷ [])) ∙ weigh_append (replicate (suc n) e) (un Rep e ∷ []) ∙ omega (arith, weigh_replicate (suc n) e)

-- RepMinMax m n, of n at least 1
nonempty : (es : List E) → 0 < weigh es → size (nest es) + 1 ≡ weigh es
nonempty [] h = absurd (omega arith)
nonempty (e ∷ es) h = nest_size e es

pub between_size : (m n : ℕ) (e : E) → 0 < min m n * (size e + 1) + (n - m) * (size e + 1 + 1) → size (unrolled (RepMinMax m n) e) + 1 ≡ min m n * (size e + 1) + (n - m) * (size e + 1 + 1)
between_size m n e h = let w = items_weigh (min m n) (n - m) e in nonempty (items_of (min m n) (n - m) e) (subst (λ (k : ℕ). 0 < k) (sym w) h) ∙ w

pub once_size : (e : E) → size (unrolled RepOnce e) ≡ size e + (size e + 1) + 1
once_size e = refl
