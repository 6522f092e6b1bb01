-- Ways through rules that only name each other: whose expression gives a rule's strings, and how memories tell it. Assumes nothing.
use Rattle.std.specs.Prelude.{None, Option as Option', Some, unwrap_or}
use mathlib.Core.Path.{◌≡◌, refl, sym, ap, ◌∙◌, subst, fun_ext}
use mathlib.Core.Bool.{false≢true, Bool, true, false, cond}
use mathlib.Core.List.{List, [], ◌∷◌}
use mathlib.Core.Option.{Option, none, some}
use mathlib.Core.Logic.{◌⊎◌, inl, inr, ⊎_elim}
use Prim.Native.Nat.{ℕ, zero, suc, ◌+◌, ◌-◌, ◌*◌, ◌/◌, ◌≤◌, ◌<◌}
use native.Mathlib.Decide.{ℕ_discrete, dec_le}
use native.Mathlib.Omega.{arith}
use borrow.Author.Tests.{le-leb, lt-leb, leb-true}
use lib.ListN.{length, get_or, set, get_elem?}
use lib.Seq.{get_or-set_same, get_or-set_other}
use lib.Dec.{leb}
use Rattle.grammar.specs.Numbers.{rule_width, mark_width}
use Rattle.grammar.specs.Basic.{Bytes, member, bytes_discrete}
use Rattle.grammar.specs.Tree.{Lit, Str, Insens, Ident, Seq, Choice, E, lit, fixed, skip, un, bin}
use Rattle.grammar.specs.Rows.{Span}
use Rattle.grammar.specs.Text.{bytes_at, resolve}
use Rattle.grammar.specs.Table.{Rule, Table, resolve_rule, resolve_table, find}
use Rattle.grammar.specs.Lists.{Reading, nothing, strings, again, and_then, read_lit, read_found, read_left, read_in, read_name}
use Rattle.grammar.proofs.Logic.{none_some, some_eq}
use Rattle.rows.proofs.Laws.{Found}
use Rattle.rows.proofs.Cells.{lit_shape}
use Rattle.rows.proofs.Views.{as_lit, lit_is}
use Rattle.rows.specs.Rows.{x_at, y_at}
use Rattle.names.specs.Names.{name_of, Ended, First, Finds, IsName, memory_word, end_word}
use Rattle.skipper.specs.Memory.{mark_of, name_list, Known}
use Rattle.skipper.specs.Lends.{index_from, state_at, marks_of, capped, lists_of, Lent, Given}
use Rattle.skipper.specs.Ways.{Spells, Gives, told_by, told_at, TargetsOf, Targets, Leading, Relisted, Led}
use Rattle.skipper.specs.Skips.{literal_at, BodyAt}
use Rattle.skipper.proofs.Rules.{steady_none, steady_more, steady_set}
use Rattle.skipper.proofs.Leaf.{length_table, count, rule_there, rule_before, name_found, name_missing}
use Rattle.skipper.proofs.Spelling.{never, name_fuel, name_known, name_spells}

-- ---- with more rules to go through, a reading that gives strings gives the same

abbrev Keeps : Reading → Reading → Type 0
Keeps p q = (ss : List Bytes) → p ≡ strings ss → q ≡ strings ss

then_keeps : (p p' q q' : Reading) → Keeps p p' → Keeps q q' → Keeps (and_then p q) (and_then p' q')
then_keeps nothing p' q q' f g ss h = never nothing refl h
then_keeps again p' q q' f g ss h = never again refl h
then_keeps (strings us) p' nothing q' f g ss h = never nothing refl h
then_keeps (strings us) p' again q' f g ss h = never again refl h
then_keeps (strings us) p' (strings vs) q' f g ss h = rw (f us refl, g vs refl) h

module _ (look look' : Bytes → Reading) (k : (x : Bytes) → Keeps (look x) (look' x)) where
  lit_keeps : (j : Lit) (s : Bytes) → Keeps (read_lit look j s) (read_lit look' j s)
  lit_keeps Str s ss h = h
  lit_keeps Insens s ss h = h
  lit_keeps Ident s ss h = k s ss h

  left_keeps : (e : E) → Keeps (read_left look e) (read_left look' e)
  left_keeps (lit j s) ss h = lit_keeps j s ss h
  left_keeps (fixed f) ss h = h
  left_keeps (skip us) ss h = h
  left_keeps (un u e) ss h = h
  left_keeps (bin b l r) ss h = h

  in_keeps : (e : E) → Keeps (read_in look e) (read_in look' e)
  in_keeps (lit j s) ss h = lit_keeps j s ss h
  in_keeps (fixed f) ss h = h
  in_keeps (skip us) ss h = h
  in_keeps (un u e) ss h = h
  in_keeps (bin Seq l r) ss h = h
  in_keeps (bin Choice l r) ss h = then_keeps (read_left look l) (read_left look' l) (read_in look r) (read_in look' r) (left_keeps l) (in_keeps r) ss h

name_keeps : (t : Table Bytes) (n : ℕ) (o : List Bytes) (x : Bytes) → Keeps (read_name n t o x) (read_name (suc n) t o x)
name_keeps t zero o x ss h = never again refl h
name_keeps t (suc n) o x ss h = go (find t x) (member x o) (λ e. in_keeps (read_name n t (x ∷ o)) (read_name (suc n) t (x ∷ o)) (λ y. name_keeps t n (x ∷ o) y) e ss) h
  where
    go : (f : Option E) (b : Bool) → ((e : E) → read_in (read_name n t (x ∷ o)) e ≡ strings ss → read_in (read_name (suc n) t (x ∷ o)) e ≡ strings ss) → read_found f b (read_in (read_name n t (x ∷ o))) ≡ strings ss → read_found f b (read_in (read_name (suc n) t (x ∷ o))) ≡ strings ss
    go none b k h = h
    go (some e) true k h = h
    go (some e) false k h = k e h

spells_more : {t : Table Bytes} {n : ℕ} {ss : List Bytes} (e : E) → Spells t n (λ look. read_in look e) ss → Spells t (suc n) (λ look. read_in look e) ss
spells_more {t} {n} {ss} e h = record { opened = h.opened; reads = in_keeps (read_name n t h.opened) (read_name (suc n) t h.opened) (λ x. name_keeps t n h.opened x) e ss h.reads }

-- the strings of a name are those of its rule's expression
spells_named : {t : Table Bytes} {ss : List Bytes} (x : Bytes) (n : ℕ) (e : E) → find t x ≡ some e → Spells t n (λ look. look x) ss → Spells t n (λ look. read_in look e) ss
spells_named x n e d h = let q : suc (n - 1) ≡ n = omega (arith, name_fuel x n h) in rw q at (spells_more e (name_spells x n e d h))

-- ---- whose expression gives a rule's strings

pub gives_self : {t : Table Bytes} {i : ℕ} (r : Rule Bytes) → get_elem? t i ≡ some r → Gives t i i
gives_self r e = record { rule = r; is = e; same = λ q n ss d h. let z : q ≡ r = some_eq q r (sym d ∙ e) in rw (← z) h }

pub gives_then : {t : Table Bytes} {i j k : ℕ} → Gives t i j → Gives t j k → Gives t i k
gives_then g h = record { rule = h.rule; is = h.is; same = λ r n ss e s. h.same g.rule n ss g.is (g.same r n ss e s) }

pub gives_named : {t : Table Bytes} {i j : ℕ} (r q : Rule Bytes) (x : Bytes) → get_elem? t i ≡ some r → r.body ≡ lit Ident x → get_elem? t j ≡ some q → find t x ≡ some q.body → Gives t i j
gives_named {t} r q x e b d f = record { rule = q; is = d; same = λ p n ss c h. let z : p.body ≡ lit Ident x = ap (λ (v : Rule Bytes). v.body) (some_eq p r (sym c ∙ e)) ∙ b in spells_named x n q.body f (named p n ss z h) }
  where
    named : (p : Rule Bytes) (n : ℕ) (ss : List Bytes) → p.body ≡ lit Ident x → Spells t n (λ look. read_in look p.body) ss → Spells t n (λ look. look x) ss
    named p n ss z h = rw z at h

-- rule i of a resolved table
pub rule_resolved : (s : Bytes) (t : Table Span) (i : ℕ) (r : Rule Span) → get_elem? t i ≡ some r → get_elem? (resolve_table s t) i ≡ some (resolve_rule s r)
rule_resolved s [] i r h = none_some h
rule_resolved s (q ∷ t) zero r h = ap (λ (v : Rule Span). some (resolve_rule s v)) (some_eq q r h)
rule_resolved s (q ∷ t) (suc i) r h = rule_resolved s t i r h

rule_within : (t : Table Bytes) (i : ℕ) (r : Rule Bytes) → get_elem? t i ≡ some r → i < length t
rule_within [] i r h = none_some h
rule_within (q ∷ t) zero r h = omega arith
rule_within (q ∷ t) (suc i) r h = let l : i < length t = rule_within t i r h in omega arith

pub gives_within : {t : Table Bytes} {i k : ℕ} → Gives t i k → k < length t
gives_within {t} {i} {k} g = rule_within t k g.rule g.is

-- so its number is small
pub gives_small : {rules rows : List ℕ} {text : Bytes} {m : List ℕ} (g : Given rules rows text m) {i k : ℕ} → Gives (resolve_table text g.table) i k → k < 65536
gives_small {text = text} g h = omega (arith, g.index.indexed.few, gives_within h, length_table text g.table, count g.table g.lent.heads)

-- ---- memories

pub told_list : (w i : ℕ) → 3 ≤ w → told_by w i ≡ w - 3
told_list w i h = rw (le-leb 3 w h)

pub told_self : (w i : ℕ) → w < 3 → told_by w i ≡ i
told_self w i h = rw (lt-leb 3 w h)

capped_list : (w : ℕ) → 3 ≤ w → capped w ≡ 3
capped_list w h = rw (le-leb 3 w h)

capped_few : (w : ℕ) → w ≤ 3 → capped w ≡ w
capped_few w h = go (leb 3 w) refl
  where
    go : (b : Bool) → leb 3 w ≡ b → cond b 3 w ≡ w
    go true e = let q : 3 ≡ w = omega (arith, leb-true 3 w e) in q
    go false e = refl

pub relisted_none : (m : List ℕ) → Relisted m m
relisted_none m = record { steady = steady_none m; lists = λ i. refl }

pub relisted_more : {m m₁ m₂ : List ℕ} → Relisted m m₁ → Relisted m₁ m₂ → Relisted m m₂
relisted_more g h = record { steady = steady_more g.steady h.steady; lists = λ i. h.lists i ∙ g.lists i }

-- the memory of a list is written
module _ (m : List ℕ) (i v : ℕ) (l : i * mark_width + memory_word < length m) (h : 3 ≤ v) where
  pub relisted_set : 3 ≤ get_or m (i * mark_width + memory_word) 0 → Relisted m (set m (i * mark_width + memory_word) v)
  relisted_set k = record { steady = steady_set m i v l (omega arith); lists = λ j. go j (ℕ_discrete j i) }
    where
      go : (j : ℕ) → Dec (j ≡ i) → capped (get_or (set m (i * mark_width + memory_word) v) (j * mark_width + memory_word) 0) ≡ capped (get_or m (j * mark_width + memory_word) 0)
      go j (yes e) = rw (e, get_or-set_same m (i * mark_width + memory_word) v 0 l) (capped_list v h ∙ sym (capped_list (get_or m (i * mark_width + memory_word) 0) k))
      go j (no n) = ap capped (get_or-set_other m (i * mark_width + memory_word) (j * mark_width + memory_word) v 0 (λ e. n (omega arith)))

  pub targets_set : {n : ℕ} {t : Table Bytes} → Gives t i (v - 3) → ((j : ℕ) → j < n → (j ≡ i → ⊥) → Gives t j (told_at m j)) → TargetsOf n t (set m (i * mark_width + memory_word) v)
  targets_set {n} {t} g k = record { to = λ j b. go j b (ℕ_discrete j i) }
    where
      go : (j : ℕ) → j < n → Dec (j ≡ i) → Gives t j (told_at (set m (i * mark_width + memory_word) v) j)
      go j b (yes e) = rw (e, get_or-set_same m (i * mark_width + memory_word) v 0 l, told_list v i h) g
      go j b (no c) = rw (get_or-set_other m (i * mark_width + memory_word) (j * mark_width + memory_word) v 0 (λ e. c (omega arith))) (k j b c)

-- rule i of a lent table
module _ {rules rows : List ℕ} {t : Table Span} (l : Lent rules rows t) (s : Bytes) {i : ℕ} (b : i < length rules / rule_width) where
  pub rule_itself : Gives (resolve_table s t) i i
  rule_itself = let r = rule_there t l.heads i b in gives_self (resolve_rule s r.rule) (rule_resolved s t i r.rule r.is)

  rule_next : {m : List ℕ} {k x y n j end : ℕ} → Ended rules m → end ≡ get_or m (i * mark_width + end_word) 0 → Found rows (end - 1) k x y n → k ≡ 3 → First (length rules / rule_width) rules s (bytes_at s (x, y)) j → Gives (resolve_table s t) i j
  rule_next {m} {x = x} {y = y} {j = j} {end = end} d e f z g =
      let r = rule_there t l.heads i b in
      let q = rule_there t l.heads j g.below in
      let v = as_lit f (rule_before l i r b d end e) (rw z (lit_shape Ident)) in
      gives_named (resolve_rule s r.rule) (resolve_rule s q.rule) (bytes_at s (x, y)) (rule_resolved s t i r.rule r.is) (ap (resolve s) (lit_is Ident v z)) (rule_resolved s t j q.rule q.is) (name_found t l.heads s m (bytes_at s (x, y)) g q)

  -- the rule that it names, if it is one
  pub rule_or : {m : List ℕ} {k x y n end : ℕ} → Ended rules m → end ≡ get_or m (i * mark_width + end_word) 0 → Found rows (end - 1) k x y n → k ≡ 3 → (o : Option' ℕ) → Finds (length rules / rule_width) rules s (bytes_at s (x, y)) o → Gives (resolve_table s t) i (unwrap_or o i)
  rule_or d e f z None g = rule_itself
  rule_or d e f z (Some j) g = rule_next d e f z g

-- a memory that tells no rule
pub targets_kept : {m : List ℕ} {i : ℕ} {t : Table Bytes} → get_or m (i * mark_width + memory_word) 0 < 3 → Gives t i i → TargetsOf i t m → TargetsOf (i + 1) t m
targets_kept {m} {i} {t} h g k = record { to = λ j b. go j b (ℕ_discrete j i) }
  where
    go : (j : ℕ) → j < i + 1 → Dec (j ≡ i) → Gives t j (told_at m j)
    go j b (yes e) = rw (e, told_self (get_or m (i * mark_width + memory_word) 0) i h) g
    go j b (no c) = k.to j (omega arith)

-- one that tells rule j
pub targets_told : {m : List ℕ} {i j v : ℕ} {t : Table Bytes} → i * mark_width + memory_word < length m → v ≡ 3 + j → Gives t i j → TargetsOf i t m → TargetsOf (i + 1) t (set m (i * mark_width + memory_word) v)
targets_told {m} {i} {j} {v} {t} l e g k = let q : v - 3 ≡ j = omega arith in targets_set m i v l (omega arith) (rw q g) (λ o b c. k.to o (omega arith))

-- one that tells what the rule that it told is told
module _ (m : List ℕ) (i k w : ℕ) (e : k ≡ told_at m i) (d : w ≡ get_or m (k * mark_width + memory_word) 0) (h : 3 ≤ w) (l : i * mark_width + memory_word < length m) where
  was_list : 3 ≤ get_or m (i * mark_width + memory_word) 0
  was_list = go (dec_le 3 (get_or m (i * mark_width + memory_word) 0))
    where
      go : Dec (3 ≤ get_or m (i * mark_width + memory_word) 0) → 3 ≤ get_or m (i * mark_width + memory_word) 0
      go (yes b) = b
      go (no b) =
          let z : k ≡ i = e ∙ told_self (get_or m (i * mark_width + memory_word) 0) i (omega arith) in
          absurd (b (rw (d ∙ ap (λ (n : ℕ). get_or m (n * mark_width + memory_word) 0) z) at h))

  pub passed_relisted : Relisted m (set m (i * mark_width + memory_word) w)
  passed_relisted = relisted_set m i w l h was_list

  pub passed_targets : (t : Table Bytes) → i < length t → Targets t m → Targets t (set m (i * mark_width + memory_word) w)
  passed_targets t b g =
      let x : Gives t i k = rw e (g.to i b) in
      let z : told_at m k ≡ w - 3 = rw (← d) (told_list w k h) in
      targets_set m i w l h (gives_then x (rw z at (g.to k (gives_within x)))) (λ j c n. g.to j c)

-- the expression that is read for the strings of a name
module _ {rules w : List ℕ} {t : Table Span} (l : Lent rules w t) (u : Bytes) {m : List ℕ} (h : Targets (resolve_table u t) m) (x : Bytes) {i k : ℕ} (f : First (length rules / rule_width) rules u x i) (e : k ≡ told_at m i) where
  told_gives : Gives (resolve_table u t) i k
  told_gives = rw e (h.to i (omega (arith, f.below, length_table u t, count t l.heads)))

  told_below : k < length rules / rule_width
  told_below = omega (arith, gives_within told_gives, length_table u t, count t l.heads)

  pub told_body : {end : ℕ} → Ended rules m → end ≡ get_or m (k * mark_width + end_word) 0 → BodyAt (end - 1) w u t x
  told_body {end} d c =
      let r = rule_there t l.heads k told_below in
      let q = rule_there t l.heads i f.below in
      let z : told_gives.rule ≡ resolve_rule u r.rule = some_eq told_gives.rule (resolve_rule u r.rule) (sym told_gives.is ∙ rule_resolved u t k r.rule r.is) in
      record {
        tree = r.rule.body;
        at = rule_before l k r told_below d end c;
        gives = λ n ss s. subst (λ (v : Rule Bytes). Spells (resolve_table u t) (n - 1) (λ look. read_in look v.body) ss) z (told_gives.same (resolve_rule u q.rule) (n - 1) ss (rule_resolved u t i q.rule q.is) (name_spells x n (resolve u q.rule.body) (name_found t l.heads u m x f q) s));
      }

-- the name at a row whose x and y were read
pub name_at : {n : ℕ} {rules : List ℕ} {u : Bytes} (w : List ℕ) (s : Bytes) (root : ℕ) {x y i : ℕ} → x ≡ x_at w root → y ≡ y_at w root → First n rules u (bytes_at s (x, y)) i → First n rules u (literal_at w s root) i
name_at w s root e f h = rw (e, f) at h

pub told_within : {rules rows : List ℕ} {u : Bytes} {m : List ℕ} (d : Led rules rows u m) {x : Bytes} {i k : ℕ} → First (length rules / rule_width) rules u x i → k ≡ told_at m i → k < length rules / rule_width
told_within {u = u} d f e = told_below d.given.lent u (d.targets d.given.table d.given.lent) _ f e

-- a name that gives strings is a rule's
record Has (n : ℕ) (rules : List ℕ) (u x : Bytes) : Type 0 where
  rule : ℕ
  is : First n rules u x rule

search_name : (rules : List ℕ) (u x : Bytes) (n : ℕ) → Has n rules u x ⊎ ((j : ℕ) → j < n → name_of rules u j ≡ x → ⊥)
search_name rules u x zero = inr (λ j h. absurd (omega arith))
search_name rules u x (suc n) = go (search_name rules u x n) (bytes_discrete (name_of rules u n) x)
  where
    go : Has n rules u x ⊎ ((j : ℕ) → j < n → name_of rules u j ≡ x → ⊥) → Dec (name_of rules u n ≡ x) → Has (suc n) rules u x ⊎ ((j : ℕ) → j < suc n → name_of rules u j ≡ x → ⊥)
    go (inl f) d = inl (record { rule = f.rule; is = record { below = omega (arith, f.is.below); same = f.is.same; first = f.is.first } })
    go (inr k) (yes e) = inl (record { rule = n; is = record { below = omega arith; same = e; first = k } })
    go (inr k) (no c) = inr (λ j h e. last j e h (dec_le n j))
      where
        last : (j : ℕ) → name_of rules u j ≡ x → j < suc n → Dec (n ≤ j) → ⊥
        last j e h (yes b) = let z : j ≡ n = omega arith in c (rw z at e)
        last j e h (no b) = k j (omega arith) e

pub spells_known : {rules w : List ℕ} {t : Table Span} {ss : List Bytes} (u x : Bytes) (n : ℕ) → Lent rules w t → Spells (resolve_table u t) n (λ look. look x) ss → IsName rules u x
spells_known {rules} {t = t} u x n l h =
    ⊎_elim (λ f. record { rule = f.rule; is = f.is }) (λ k. absurd (name_known x n h (name_missing t l.heads u [] x k)))
    (search_name rules u x (length rules / rule_width))

-- ---- what loops over the rules keep

pub record Telling (rules rows : List ℕ) (text : Bytes) (m m' : List ℕ) (i : ℕ) : Type 0 where
  pub high : i ≤ length rules / rule_width
  pub long : length m' ≡ length m
  pub relisted : Relisted m m'
  pub targets : (t : Table Span) → Lent rules rows t → TargetsOf i (resolve_table text t) m'

pub record Passing (n : ℕ) (m m' : List ℕ) (i : ℕ) : Type 0 where
  pub high : i ≤ n
  pub long : length m' ≡ length m
  pub relisted : Relisted m m'
  pub targets : (t : Table Bytes) → n ≡ length t → Targets t m → Targets t m'

pub record Shortening (rules rows : List ℕ) (text : Bytes) (m m' : List ℕ) (steps : ℕ) : Type 0 where
  pub least : 1 ≤ steps
  pub long : length m' ≡ length m
  pub relisted : Relisted m m'
  pub targets : (t : Table Span) → Lent rules rows t → Targets (resolve_table text t) m'

-- rules that some memories lead to are there
pub leading_within : {n : ℕ} {m : List ℕ} (i : ℕ) → Leading n m → i < n → told_at m i < n
leading_within i h l = let g = h.targets.to i (omega (arith, h.long)) in omega (arith, h.long, gives_within g)

pub leading_on : {n : ℕ} {m m' : List ℕ} → Leading n m → ((t : Table Bytes) → n ≡ length t → Targets t m → Targets t m') → Leading n m'
leading_on h g = record { table = h.table; long = h.long; targets = g h.table (sym h.long) h.targets }

-- WHAT THE MEMORIES SAY OF LISTS is what they said before
pub lists_same : {t : Table Bytes} {m m' : List ℕ} → Known t (marks_of t m) → Relisted m m' → lists_of t m' ≡ marks_of t m
unfolding lists_of
lists_same {t} {m} {m'} k r = fun_ext (λ x. state (index_from 0 t x) ∙ capped_few (marks_of t m x) (most x (dec_le 2 (marks_of t m x))))
  where
    state : (o : Option ℕ) → capped (state_at m' o) ≡ capped (state_at m o)
    state none = refl
    state (some i) = r.lists i

    mark_most : (p : Reading) → mark_of p ≤ 3
    mark_most nothing = omega arith
    mark_most again = omega arith
    mark_most (strings ss) = omega arith

    most : (x : Bytes) → Dec (2 ≤ marks_of t m x) → marks_of t m x ≤ 3
    most x (yes h) = omega (arith, k.so x [] h (λ z c. absurd (false≢true c)), mark_most (name_list t [] x))
    most x (no h) = omega arith
