-- How long the list can be: as long as both tables together. Assumes nothing.
use mathlib.Core.Path.{◌≡◌, refl, sym, ap, ◌∙◌}
use mathlib.Core.Bool.{Bool, true, false, ◌||◌, cond}
use mathlib.Core.List.{List, [], ◌∷◌, ◌++◌}
use mathlib.Core.Option.{Option, none, some}
use Prim.Native.Nat.{ℕ, suc, ◌+◌, ◌≤◌}
use native.Mathlib.Omega.{arith}
use lib.ListN.{length, length-append}
use lib.Dec.{eqb}
use Rattle.grammar.specs.Basic.{Bytes, same_bytes, member}
use Rattle.grammar.specs.Table.{Rule, Table}
use Rattle.grammar.specs.Refusals.{repeated, names}
use Rattle.grammar.proofs.Logic.{none_some, same_bytes_eq, eq_same_bytes}
use Rattle.rows.specs.Rows.{cells}
use Rattle.refusals.proofs.Fours.{neither_left, neither_right}
use Rattle.comparison.specs.Compare.{lookup, type_entry, tree_entry, first_unlike, common_entries, rule_entries, left_entries, right_entries, compare}

abbrev one : Bool → ℕ
one b = cond b 1 0

-- how many of the first names are among the second
abbrev hits : List Bytes → List Bytes → ℕ
hits [] ys = 0
hits (x ∷ xs) ys = one (member x ys) + hits xs ys

-- how often a name is among names
abbrev times : Bytes → List Bytes → ℕ
times x [] = 0
times x (y ∷ ys) = one (same_bytes y x) + times x ys

pub turned : (a b : Bytes) → same_bytes a b ≡ same_bytes b a
turned a b = go (same_bytes a b) refl (same_bytes b a) refl
  where
    go : (s : Bool) → same_bytes a b ≡ s → (t : Bool) → same_bytes b a ≡ t → s ≡ t
    go true e true f = refl
    go false e false f = refl
    go true e false f = sym (eq_same_bytes b a (sym (same_bytes_eq a b e))) ∙ f
    go false e true f = sym (sym (eq_same_bytes a b (sym (same_bytes_eq b a f))) ∙ e)

times_some : (x : Bytes) (ys : List Bytes) → one (member x ys) ≤ times x ys
times_some x [] = omega arith
times_some x (y ∷ ys) = go (same_bytes y x) (turned x y) (times_some x ys)
  where
    go : (b : Bool) → same_bytes x y ≡ b → one (member x ys) ≤ times x ys → one (same_bytes x y || member x ys) ≤ one b + times x ys
    go true e ih = rw e (omega arith)
    go false e ih = rw e (omega (arith, ih))

-- one name more, which is not among the others
hits_more : (x : Bytes) (xs ys : List Bytes) → member x xs ≡ false → hits ys (x ∷ xs) ≡ times x ys + hits ys xs
hits_more x xs [] h = refl
hits_more x xs (y ∷ ys) h = go (same_bytes y x) refl (hits_more x xs ys h)
  where
    go : (b : Bool) → same_bytes y x ≡ b → hits ys (x ∷ xs) ≡ times x ys + hits ys xs → one (b || member y xs) + hits ys (x ∷ xs) ≡ one b + times x ys + (one (member y xs) + hits ys xs)
    go true e ih = let f : member y xs ≡ false = ap (λ (z : Bytes). member z xs) (same_bytes_eq y x e) ∙ h in rw f (omega (arith, ih))
    go false e ih = omega (arith, ih)

hits_most : (xs ys : List Bytes) → repeated xs ≡ false → hits xs ys ≤ hits ys xs
hits_most [] ys h = omega arith
hits_most (x ∷ xs) ys h = omega (arith, times_some x ys, hits_most xs ys (neither_right (member x xs) (repeated xs) h), hits_more x xs ys (neither_left (member x xs) (repeated xs) h))

-- a rule gives one entry, or two where its name is found
lookup_none : (j : ℕ) (t : Table Bytes) (x : Bytes) → member x (names t) ≡ false → lookup j t x ≡ none
lookup_none j [] x h = refl
lookup_none j (s ∷ t) x h = rw (turned s.name x ∙ neither_left (same_bytes x s.name) (member x (names t)) h, lookup_none (suc j) t x (neither_right (same_bytes x s.name) (member x (names t)) h))

common_most : (i j : ℕ) (r s : Rule Bytes) → length (common_entries i j r s) ≤ 2
unfolding common_entries
common_most i j r s = go (eqb r.type s.type) refl (first_unlike (cells r.body) (cells s.body)) refl
  where
    go : (b : Bool) → eqb r.type s.type ≡ b → (o : Option ℕ) → first_unlike (cells r.body) (cells s.body) ≡ o → length (type_entry i j r.type s.type ++ tree_entry i j (first_unlike (cells r.body) (cells s.body))) ≤ 2
    go true e none f = rw (e, f) (omega arith)
    go true e (some k) f = rw (e, f) (omega arith)
    go false e none f = rw (e, f) (omega arith)
    go false e (some k) f = rw (e, f) (omega arith)

-- two at most
pub entries_most : (i : ℕ) (r : Rule Bytes) (o : Option (ℕ × Rule Bytes)) → length (rule_entries i r o) ≤ 2
entries_most i r none = omega arith
entries_most i r (some (j, s)) = common_most i j r s

rule_most : (i : ℕ) (r : Rule Bytes) (t : Table Bytes) → length (rule_entries i r (lookup 0 t r.name)) ≤ 1 + one (member r.name (names t))
rule_most i r t = go (member r.name (names t)) refl (lookup 0 t r.name) refl
  where
    go : (b : Bool) → member r.name (names t) ≡ b → (o : Option (ℕ × Rule Bytes)) → lookup 0 t r.name ≡ o → length (rule_entries i r o) ≤ 1 + one b
    go b e none f = omega arith
    go true e (some (j, s)) f = common_most i j r s
    go false e (some (j, s)) f = none_some (sym (lookup_none 0 t r.name e) ∙ f)

left_most : (i : ℕ) (l r : Table Bytes) → length (left_entries i l r) ≤ length l + hits (names l) (names r)
left_most i [] r = omega arith
left_most i (x ∷ l) r = omega (arith, length-append (rule_entries i x (lookup 0 r x.name)) (left_entries (suc i) l r), rule_most i x r, left_most (suc i) l r)

right_most : (l : Table Bytes) (j : ℕ) (r : Table Bytes) → length (right_entries l j r) + hits (names r) (names l) ≡ length r
right_most l j [] = refl
right_most l j (s ∷ r) = go (member s.name (names l)) refl (right_most l (suc j) r)
  where
    go : (b : Bool) → member s.name (names l) ≡ b → length (right_entries l (suc j) r) + hits (names r) (names l) ≡ length r → length (right_entries l j (s ∷ r)) + (one b + hits (names r) (names l)) ≡ suc (length r)
    go true e ih = rw e (omega (arith, ih))
    go false e ih = rw e (omega (arith, ih))

-- "two for each common rule, one for each other"
pub at_most : (l r : Table Bytes) → repeated (names l) ≡ false → length (compare l r) ≤ length l + length r
unfolding compare
at_most l r h = omega (arith, length-append (left_entries 0 l r) (right_entries l 0 r), left_most 0 l r, right_most l 0 r, hits_most (names l) (names r) h)
