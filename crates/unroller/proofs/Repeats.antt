-- A repeat unrolled is its items nested. Assumes nothing.
use mathlib.Core.Path.{◌≡◌, refl, sym, ap}
use mathlib.Core.Bool.{false}
use mathlib.Core.List.{List, ◌++◌, append-nil}
use Prim.Native.Nat.{ℕ, ◌+◌, ◌-◌, ◌*◌, ◌^◌, ◌≤◌, ◌<◌, min}
use native.Mathlib.Omega.{arith}
use borrow.Author.Tests.{eqb-false}
use lib.ListN.{replicate}
use Rattle.grammar.specs.Tree.{Un, PosPred, NegPred, Opt, Rep, RepOnce, Push, RestoreOnErr, RepExact, RepMin, RepMax, RepMinMax, E, un, un_head}
use Rattle.grammar.specs.Steps.{nest, unrolled}
use Rattle.grammar.specs.Refusals.{zero_un}
use Rattle.unroller.specs.declared.Items.{Items}
use Rattle.unroller.specs.Items.{items_of, items_for, count_of}

-- n are the items of the repeat u, and there is one
pub record Unrolls (n : Items) (u : Un) : Type 0 where
  pub is : (e : E) → unrolled u e ≡ nest (items_of n e)
  pub least : 1 ≤ count_of n

pub unrolls : (u : Un) → 11 < (un_head u).0 → (un_head u).0 < 17 → zero_un u ≡ false → Unrolls (items_for (un_head u).0 (un_head u).1 (un_head u).2) u
unfolding items_for
unrolls PosPred k l z = absurd (omega arith)
unrolls NegPred k l z = absurd (omega arith)
unrolls Opt k l z = absurd (omega arith)
unrolls Rep k l z = absurd (omega arith)
unrolls RepOnce k l z = record { is = λ e. refl; least = omega arith }
unrolls Push k l z = absurd (omega arith)
unrolls RestoreOnErr k l z = absurd (omega arith)
unrolls (RepExact n) k l z = record { is = λ e. ap nest (sym (append-nil (replicate n e))); least = omega (arith, eqb-false n 0 z) }
unrolls (RepMin n) k l z = record { is = λ e. refl; least = omega arith }
unrolls (RepMax n) k l z = record { is = λ e. ap nest (sym (append-nil (replicate n (un Opt e)))); least = omega (arith, eqb-false n 0 z) }
unrolls (RepMinMax m n) k l z = record { is = λ e. ap (λ (l : List E). nest (replicate (min m n) e ++ l)) (sym (append-nil (replicate (n - m) (un Opt e)))); least = omega (arith, eqb-false n 0 z) }

-- there are no more than a word counts, and one
pub items_most : (u : Un) → 11 < (un_head u).0 → (un_head u).0 < 17 → (un_head u).1 < 2 ^ 32 → (un_head u).2 < 2 ^ 32 → count_of (items_for (un_head u).0 (un_head u).1 (un_head u).2) ≤ 2 ^ 32
unfolding items_for
items_most PosPred k l a b = absurd (omega arith)
items_most NegPred k l a b = absurd (omega arith)
items_most Opt k l a b = absurd (omega arith)
items_most Rep k l a b = absurd (omega arith)
items_most RepOnce k l a b = omega arith
items_most Push k l a b = absurd (omega arith)
items_most RestoreOnErr k l a b = absurd (omega arith)
items_most (RepExact n) k l a b = omega arith
items_most (RepMin n) k l a b = omega arith
items_most (RepMax n) k l a b = omega arith
items_most (RepMinMax m n) k l a b = omega arith

-- ---- the size test

module _ (rows text s b : ℕ) (n : Items) (h : count_of n * b ≤ text) where
  abbrev most : ℕ
  most = n.plain * (s + 1) + (n.opts + n.reps) * (s + 2)
