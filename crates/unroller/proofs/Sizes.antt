-- How many rows and bytes nested items have, as whole numbers and without the tree. Assumes nothing.
use mathlib.Core.Path.{◌≡◌, sym}
use mathlib.Core.List.{List, [], ◌∷◌, ◌++◌}
use Prim.Native.Nat.{ℕ, zero, suc, ◌+◌, ◌*◌}
use native.Mathlib.Nat.{suc-mul, zero-mul}
use native.Mathlib.Omega.{arith}
use lib.ListN.{length, replicate, length-append}
use Rattle.grammar.specs.Tree.{E, size}
use Rattle.grammar.specs.Text.{text_of}
use Rattle.grammar.specs.Steps.{nest}

-- each item and one Seq, but for the last
abbrev pub weigh : List E → ℕ
weigh [] = 0
weigh (e ∷ es) = size e + 1 + weigh es

pub nest_size : (e : E) (es : List E) → size (nest (e ∷ es)) + 1 ≡ weigh (e ∷ es)
nest_size e [] = omega arith
nest_size e (f ∷ es) = omega (arith, nest_size f es)

pub weigh_append : (es fs : List E) → weigh (es ++ fs) ≡ weigh es + weigh fs
weigh_append [] fs = omega arith
weigh_append (e ∷ es) fs = omega (arith, weigh_append es fs)

pub weigh_replicate : (n : ℕ) (e : E) → weigh (replicate n e) ≡ n * (size e + 1)
weigh_replicate zero e = sym (zero-mul (size e + 1))
weigh_replicate (suc n) e = omega (arith, weigh_replicate n e, suc-mul n (size e + 1))

-- the bytes of the items' texts
abbrev pub bytes_of : List E → ℕ
bytes_of [] = 0
bytes_of (e ∷ es) = length (text_of e) + bytes_of es

pub nest_bytes : (e : E) (es : List E) → length (text_of (nest (e ∷ es))) ≡ bytes_of (e ∷ es)
nest_bytes e [] = omega arith
nest_bytes e (f ∷ es) = simp length-append (omega (arith, nest_bytes f es))

pub bytes_append : (es fs : List E) → bytes_of (es ++ fs) ≡ bytes_of es + bytes_of fs
bytes_append [] fs = omega arith
bytes_append (e ∷ es) fs = omega (arith, bytes_append es fs)

pub bytes_replicate : (n : ℕ) (e : E) → bytes_of (replicate n e) ≡ n * length (text_of e)
bytes_replicate zero e = sym (zero-mul (length (text_of e)))
bytes_replicate (suc n) e = omega (arith, bytes_replicate n e, suc-mul n (length (text_of e)))
