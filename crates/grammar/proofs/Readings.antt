-- Laws of skip lists: the fuel of a reading is enough; a list that is read to its end hides no other reading. Assumes nothing.
use mathlib.Core.Path.{◌≡◌, refl, ap, ap₂, ◌∙◌, fun_ext}
use mathlib.Core.Bool.{Bool, true, false, ◌||◌, cond}
use mathlib.Core.List.{List, [], ◌∷◌}
use mathlib.Core.Option.{Option, none, some}
use Prim.Native.Nat.{ℕ, zero, suc, ◌+◌, ◌≤◌, ◌<◌}
use native.Mathlib.Omega.{arith}
use Rattle.grammar.specs.Basic.{Bytes, member, same_bytes}
use Rattle.grammar.specs.Tree.{Choice, E, Seq, any_node, bin, fixed, lit, skip, un}
use Rattle.grammar.specs.Table.{Table, find}
use Rattle.grammar.specs.Lists.{Reading, again, and_then, nothing, read_found, read_in, read_left, read_name, strings}
use Rattle.grammar.specs.Refusals.{meets_at}
use Rattle.grammar.proofs.Logic.{none_some, same_bytes_eq}

-- A list that is read to its end has no place below it where another reading begins: whoever stops at a Skip misses no refusal 7

then_strings : {P : Type 0} (p q : Reading) (ss : List Bytes) → and_then p q ≡ strings ss → ((as' bs : List Bytes) → p ≡ strings as' → q ≡ strings bs → P) → P
then_strings nothing q ss h k = let z : ◌≡◌ {A = ℕ} 0 1 = cc in absurd (omega arith)
then_strings again q ss h k = let z : ◌≡◌ {A = ℕ} 0 1 = cc in absurd (omega arith)
then_strings (strings xs) nothing ss h k = let z : ◌≡◌ {A = ℕ} 0 1 = cc in absurd (omega arith)
then_strings (strings xs) again ss h k = let z : ◌≡◌ {A = ℕ} 0 1 = cc in absurd (omega arith)
then_strings (strings xs) (strings ys) ss h k = k xs ys refl refl

left_quiet : (t : Table Bytes) (look : Bytes → Reading) (e : E) (ss : List Bytes) → read_left look e ≡ strings ss → any_node (meets_at t) e ≡ false
unfolding meets_at
left_quiet t look (lit k s) ss h = refl
left_quiet t look (fixed f) ss h = let z : ◌≡◌ {A = ℕ} 0 1 = cc in absurd (omega arith)
left_quiet t look (skip xs) ss h = let z : ◌≡◌ {A = ℕ} 0 1 = cc in absurd (omega arith)
left_quiet t look (un u e) ss h = let z : ◌≡◌ {A = ℕ} 0 1 = cc in absurd (omega arith)
left_quiet t look (bin b l r) ss h = let z : ◌≡◌ {A = ℕ} 0 1 = cc in absurd (omega arith)

pub list_quiet : (t : Table Bytes) (look : Bytes → Reading) (e : E) (ss : List Bytes) → read_in look e ≡ strings ss → any_node (meets_at t) e ≡ false
unfolding meets_at
list_quiet t look (lit k s) ss h = refl
list_quiet t look (fixed f) ss h = let z : ◌≡◌ {A = ℕ} 0 1 = cc in absurd (omega arith)
list_quiet t look (skip xs) ss h = let z : ◌≡◌ {A = ℕ} 0 1 = cc in absurd (omega arith)
list_quiet t look (un u e) ss h = let z : ◌≡◌ {A = ℕ} 0 1 = cc in absurd (omega arith)
list_quiet t look (bin Seq l r) ss h = let z : ◌≡◌ {A = ℕ} 0 1 = cc in absurd (omega arith)
list_quiet t look (bin Choice l r) ss h = then_strings (read_left look l) (read_in look r) ss h (λ xs ys p q. ap₂ ◌||◌ (left_quiet t look l xs p) (list_quiet t look r ys q))

-- The fuel of a reading is no part of what it says: rules that are not being read fall

abbrev pub unopened : Table Bytes → List Bytes → ℕ
unopened [] o = 0
unopened (r ∷ rs) o = cond (member r.name o) 0 1 + unopened rs o

opens_less : (t : Table Bytes) (x : Bytes) (o : List Bytes) → unopened t (x ∷ o) ≤ unopened t o
opens_less [] x o = omega arith
opens_less (r ∷ rs) x o = go (same_bytes r.name x) (member r.name o) (opens_less rs x o)
  where
    go : (a b : Bool) → unopened rs (x ∷ o) ≤ unopened rs o → cond (a || b) 0 1 + unopened rs (x ∷ o) ≤ cond b 0 1 + unopened rs o
    go true true h = omega arith
    go true false h = omega arith
    go false true h = omega arith
    go false false h = omega arith

opens_one : (t : Table Bytes) (x : Bytes) (o : List Bytes) (e : E) → find t x ≡ some e → member x o ≡ false → unopened t (x ∷ o) < unopened t o
opens_one [] x o e h m = none_some h
opens_one (r ∷ rs) x o e h m = go (same_bytes r.name x) refl h (λ k. opens_one rs x o e k m)
  where
    go : (a : Bool) → same_bytes r.name x ≡ a → cond a (some r.body) (find rs x) ≡ some e → (find rs x ≡ some e → unopened rs (x ∷ o) < unopened rs o) → cond (a || member r.name o) 0 1 + unopened rs (x ∷ o) < cond (member r.name o) 0 1 + unopened rs o
    go true p q ih = let f : member r.name o ≡ false = ap (λ (y : Bytes). member y o) (same_bytes_eq r.name x p) ∙ m in rw f (omega (arith, opens_less rs x o))
    go false p q ih = omega (arith, ih q)

found_same : (o : Option E) (b : Bool) (f g : E → Reading) → ((e : E) → o ≡ some e → b ≡ false → f e ≡ g e) → read_found o b f ≡ read_found o b g
found_same none b f g h = refl
found_same (some e) true f g h = refl
found_same (some e) false f g h = h e refl refl

pub read_name_enough : (t : Table Bytes) (n m : ℕ) (o : List Bytes) (x : Bytes) → unopened t o < n → unopened t o < m → read_name n t o x ≡ read_name m t o x
read_name_enough t zero m o x p q = absurd (omega arith)
read_name_enough t (suc n) zero o x p q = absurd (omega arith)
read_name_enough t (suc n) (suc m) o x p q = found_same (find t x) (member x o) (read_in (read_name n t (x ∷ o))) (read_in (read_name m t (x ∷ o))) (λ e f g. ap (λ (look : Bytes → Reading). read_in look e) (fun_ext (λ y. read_name_enough t n m (x ∷ o) y (omega (arith, opens_one t x o e f g)) (omega (arith, opens_one t x o e f g)))))
