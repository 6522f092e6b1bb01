-- The list is empty exactly when both tables have the same rules up to order. Assumes nothing.
use mathlib.Core.Path.{◌≡◌, refl, sym, ap, ◌∙◌, subst}
use mathlib.Core.Bool.{Bool, true, false, ◌||◌, cond}
use mathlib.Core.List.{List, [], ◌∷◌, ◌++◌}
use mathlib.Core.Option.{Option, none, some}
use Prim.Native.Nat.{ℕ, suc}
use native.Mathlib.Omega.{arith}
use borrow.Author.Tests.{eqb-true, eq-eqb}
use lib.Dec.{eqb}
use Rattle.grammar.specs.Basic.{Bytes, same_bytes, member}
use Rattle.grammar.specs.Table.{Rule, Table}
use Rattle.grammar.specs.Refusals.{repeated, names}
use Rattle.grammar.proofs.Logic.{none_some, some_eq, same_bytes_eq, eq_same_bytes, or_left, or_right}
use Rattle.rows.specs.Rows.{cells}
use Rattle.refusals.proofs.Fours.{neither_left, neither_right}
use Rattle.comparison.specs.Compare.{Entry, only_right, lookup, tree_entry, first_unlike, common_entries, rule_entries, left_entries, right_entries, compare}
use Rattle.comparison.specs.Same.{Among, here, there, SameRules}
use Rattle.comparison.proofs.Rows.{trees_none, none_trees}

cons_nil : {A P : Type 0} {a : A} {l : List A} → (a ∷ l) ≡ [] → P
cons_nil h = let z : ◌≡◌ {A = ℕ} 0 1 = cc in absurd (omega arith)

both_left : {A : Type 0} (a b : List A) → (a ++ b) ≡ [] → a ≡ []
both_left [] b h = refl
both_left (x ∷ a) b h = cons_nil h

both_right : {A : Type 0} (a b : List A) → (a ++ b) ≡ [] → b ≡ []
both_right [] b h = h
both_right (x ∷ a) b h = cons_nil h

-- ---- one rule and the one found by its name

common_same : (i j : ℕ) (r s : Rule Bytes) → common_entries i j r s ≡ [] → (r.type ≡ s.type) × (r.body ≡ s.body)
unfolding common_entries
common_same i j r s h = go (eqb r.type s.type) refl (first_unlike (cells r.body) (cells s.body)) refl h
  where
    go : (b : Bool) → eqb r.type s.type ≡ b → (o : Option ℕ) → first_unlike (cells r.body) (cells s.body) ≡ o → (cond b [] (Entry.other_type i j ∷ []) ++ tree_entry i j o) ≡ [] → (r.type ≡ s.type) × (r.body ≡ s.body)
    go true e none f k = (eqb-true r.type s.type e, none_trees r.body s.body f)
    go true e (some n) f k = cons_nil k
    go false e o f k = cons_nil k

common_none : (i j : ℕ) (r : Rule Bytes) → common_entries i j r r ≡ []
unfolding common_entries
common_none i j r = rw (eq-eqb r.type r.type refl, trees_none r.body r.body refl)

same_rule : {j k : ℕ} {r s : Rule Bytes} → ◌≡◌ {A = Option (ℕ × Rule Bytes)} (some (j, r)) (some (k, s)) → r ≡ s
same_rule {j} {k} {r} {s} h = ap (λ (p : ℕ × Rule Bytes). p.1) (some_eq (j, r) (k, s) h)

-- what a search finds stands in the table, under that name
pub found_among : (j : ℕ) (t : Table Bytes) (x : Bytes) (k : ℕ) (s : Rule Bytes) → lookup j t x ≡ some (k, s) → Among s t × (s.name ≡ x)
found_among j [] x k s h = none_some h
found_among j (r ∷ t) x k s h = go (same_bytes r.name x) refl h (found_among (suc j) t x k s)
  where
    go : (b : Bool) → same_bytes r.name x ≡ b → cond b (some (j, r)) (lookup (suc j) t x) ≡ some (k, s) → (lookup (suc j) t x ≡ some (k, s) → Among s t × (s.name ≡ x)) → Among s (r ∷ t) × (s.name ≡ x)
    go true e f ih = let p : r ≡ s = same_rule f in (subst (λ (y : Rule Bytes). Among s (y ∷ t)) (sym p) here, ap (λ (y : Rule Bytes). y.name) (sym p) ∙ same_bytes_eq r.name x e)
    go false e f ih = (there (ih f).0, (ih f).1)

member_of : (r : Rule Bytes) (t : Table Bytes) → Among r t → member r.name (names t) ≡ true
member_of r (s ∷ t) here = or_left (same_bytes r.name r.name) (member r.name (names t)) (eq_same_bytes r.name r.name refl)
member_of r (s ∷ t) (there a) = or_right (same_bytes r.name s.name) (member r.name (names t)) (member_of r t a)
member_of r [] m = elim m [ ]

-- where no name is there twice, a rule of the table is the one that its name finds
pub record Finding (r : Rule Bytes) (t : Table Bytes) (j : ℕ) : Type 0 where
  pub at : ℕ
  pub finds : lookup j t r.name ≡ some (at, r)

finds_it : (r : Rule Bytes) (j : ℕ) (t : Table Bytes) → repeated (names t) ≡ false → Among r t → Finding r t j
finds_it r j (s ∷ t) h here = record { at = j; finds = rw (eq_same_bytes r.name r.name refl) }
finds_it r j (s ∷ t) h (there a) =
    let f : Finding r t (suc j) = finds_it r (suc j) t (neither_right (member s.name (names t)) (repeated (names t)) h) a in
    let n : same_bytes s.name r.name ≡ false = go (same_bytes s.name r.name) refl in
    record { at = f.at; finds = rw (n, f.finds) }
  where
    go : (b : Bool) → same_bytes s.name r.name ≡ b → b ≡ false
    go true e =
        sym (ap (λ (x : Bytes). member x (names t)) (same_bytes_eq s.name r.name e) ∙ member_of r t a)
        ∙ neither_left (member s.name (names t)) (repeated (names t)) h
    go false e = refl
finds_it r j [] h m = elim m [ ]

-- ---- the left rules

left_same : (i : ℕ) (l t : Table Bytes) → left_entries i l t ≡ [] → (r : Rule Bytes) → Among r l → Among r t
left_same i (x ∷ l) t h r here = go (lookup 0 t r.name) refl (both_left (rule_entries i r (lookup 0 t r.name)) (left_entries (suc i) l t) h)
  where
    go : (o : Option (ℕ × Rule Bytes)) → lookup 0 t r.name ≡ o → rule_entries i r o ≡ [] → Among r t
    go none e f = cons_nil f
    go (some (j, s)) e f =
        let a = found_among 0 t r.name j s e in
        let c = common_same i j r s f in
        let p : s ≡ r = rule_same s r a.1 (sym c.0) (sym c.1) in
        subst (λ (y : Rule Bytes). Among y t) p a.0
      where
        rule_same : (a b : Rule Bytes) → a.name ≡ b.name → a.type ≡ b.type → a.body ≡ b.body → a ≡ b
        rule_same a b p q k = λ z. record { name = p z; type = q z; body = k z }
left_same i (x ∷ l) t h r (there a) = left_same (suc i) l t (both_right (rule_entries i x (lookup 0 t x.name)) (left_entries (suc i) l t) h) r a
left_same i [] t h r m = elim m [ ]

left_none : (i : ℕ) (l t : Table Bytes) → repeated (names t) ≡ false → ((r : Rule Bytes) → Among r l → Among r t) → left_entries i l t ≡ []
left_none i [] t d h = refl
left_none i (r ∷ l) t d h =
    let f : Finding r t 0 = finds_it r 0 t d (h r here) in
    rw (f.finds, common_none i f.at r, left_none (suc i) l t d (λ s a. h s (there a)))

-- ---- the right ones

-- a name that is found left is a left rule's
pub record Named (x : Bytes) (l : Table Bytes) : Type 0 where
  pub rule : Rule Bytes
  pub among : Among rule l
  pub name' : rule.name ≡ x

named : (x : Bytes) (l : Table Bytes) → member x (names l) ≡ true → Named x l
named x [] h = let z : ◌≡◌ {A = ℕ} 0 1 = cc in absurd (omega arith)
named x (r ∷ l) h = go (same_bytes x r.name) refl (named x l) h
  where
    go : (b : Bool) → same_bytes x r.name ≡ b → (member x (names l) ≡ true → Named x l) → (b || member x (names l)) ≡ true → Named x (r ∷ l)
    go true e ih f = record { rule = r; among = here; name' = sym (same_bytes_eq x r.name e) }
    go false e ih f = let n = ih f in record { rule = n.rule; among = there n.among; name' = n.name' }

-- two rules of one name in a table without repeats are one
one_rule : (t : Table Bytes) (r s : Rule Bytes) → repeated (names t) ≡ false → Among r t → Among s t → r.name ≡ s.name → r ≡ s
one_rule t r s d a b e =
    let f : Finding r t 0 = finds_it r 0 t d a in
    let g : Finding s t 0 = finds_it s 0 t d b in
    same_rule (sym f.finds ∙ ap (lookup 0 t) e ∙ g.finds)

right_named : (l : Table Bytes) (j : ℕ) (t : Table Bytes) → right_entries l j t ≡ [] → (s : Rule Bytes) → Among s t → member s.name (names l) ≡ true
right_named l j (x ∷ t) h s here = go (member s.name (names l)) refl h
  where
    go : (b : Bool) → member s.name (names l) ≡ b → (cond b [] (only_right j ∷ []) ++ right_entries l (suc j) t) ≡ [] → b ≡ true
    go true e f = refl
    go false e f = cons_nil f
right_named l j (x ∷ t) h s (there a) = right_named l (suc j) t (both_right (cond (member x.name (names l)) [] (only_right j ∷ [])) (right_entries l (suc j) t) h) s a
right_named l j [] h s m = elim m [ ]

right_none : (l : Table Bytes) (j : ℕ) (t : Table Bytes) → ((s : Rule Bytes) → Among s t → Among s l) → right_entries l j t ≡ []
right_none l j [] h = refl
right_none l j (s ∷ t) h = rw (member_of s l (h s here), right_none l (suc j) t (λ r a. h r (there a)))

-- "equal grammars, and only those, give an empty list; rule order is no difference"
module _ (l r : Table Bytes) (dr : repeated (names r) ≡ false) where
  pub empty_same : compare l r ≡ [] → SameRules l r
  unfolding compare
  empty_same h =
      let f : (x : Rule Bytes) → Among x l → Among x r = left_same 0 l r (both_left (left_entries 0 l r) (right_entries l 0 r) h) in
      record {
        found = f;
        back = λ s a. let n = named s.name l (right_named l 0 r (both_right (left_entries 0 l r) (right_entries l 0 r) h) s a) in subst (λ (x : Rule Bytes). Among x l) (one_rule r n.rule s dr (f n.rule n.among) a n.name') n.among;
      }

  pub same_empty : SameRules l r → compare l r ≡ []
  unfolding compare
  same_empty h = rw (left_none 0 l r dr h.found, right_none l 0 r h.back)
