-- What a search by name finds is what `find` finds in the table, and where a rule's tree stands. Assumes nothing.
use Rattle.std.specs.Prelude.{None, Option as Option', Some}
use mathlib.Core.Path.{◌≡◌, refl, sym, ap, ◌∙◌}
use mathlib.Core.Bool.{Bool, true, false}
use mathlib.Core.List.{List, [], ◌∷◌, ◌++◌, append_assoc}
use mathlib.Core.Option.{Option, none, some}
use Prim.Native.Nat.{ℕ, zero, suc, ◌+◌, ◌-◌, ◌*◌, ◌/◌, ◌<◌}
use native.Mathlib.Omega.{arith}
use lib.ListN.{length, get_or, get_elem?, length-append}
use Rattle.grammar.specs.Numbers.{rule_width, length_word, type_word, rows_word, row_width}
use Rattle.grammar.specs.Basic.{Bytes, same_bytes}
use Rattle.grammar.specs.Tree.{E, size}
use Rattle.grammar.specs.Rows.{Span, flat}
use Rattle.grammar.specs.Text.{bytes_at, resolve}
use Rattle.grammar.specs.Refusals.{names}
use Rattle.grammar.specs.Table.{Rule, Table, rule_words, row_words, row_count, resolve_table, find}
use Rattle.grammar.proofs.Logic.{none_some, some_eq, eq_same_bytes, same_bytes_eq}
use Rattle.rows.specs.Rows as rows
use Rattle.rows.proofs.Laws.{length_flat, size_pos}
use Rattle.names.specs.Names.{name_of, rows_before, NamesInside, AllIndexed, First, Finds}
use Rattle.names.proofs.Index.{index_named}

-- ---- the words of rule i

-- a word of the rules, past the first rule
past : (a b c d : ℕ) (ws : List ℕ) (i k : ℕ) → get_or (a ∷ b ∷ c ∷ d ∷ ws) (suc i * rule_width + k) 0 ≡ get_or ws (i * rule_width + k) 0
past a b c d ws i k = let e : suc i * rule_width + k ≡ suc (suc (suc (suc (i * rule_width + k)))) = omega arith in rw e

past₀ : (a b c d : ℕ) (ws : List ℕ) (i : ℕ) → get_or (a ∷ b ∷ c ∷ d ∷ ws) (suc i * rule_width) 0 ≡ get_or ws (i * rule_width) 0
past₀ a b c d ws i = let e : suc i * rule_width ≡ suc (suc (suc (suc (i * rule_width)))) = omega arith in rw e

-- rule i of a table, in its words
pub record RuleAt (rules : List ℕ) (i : ℕ) (r : Rule Span) : Type 0 where
  pub offset : get_or rules (i * rule_width) 0 ≡ r.name.0
  pub length' : get_or rules (i * rule_width + length_word) 0 ≡ r.name.1
  pub type' : get_or rules (i * rule_width + type_word) 0 ≡ r.type
  pub rows' : get_or rules (i * rule_width + rows_word) 0 ≡ size r.body

pub rule_words_lem : (t : Table Span) (i : ℕ) (r : Rule Span) → get_elem? t i ≡ some r → RuleAt (rule_words t) i r
rule_words_lem [] i r h = none_some h
rule_words_lem (s ∷ t) zero r h = let e : s ≡ r = some_eq _ _ h in rw (← e) (record { offset = refl; length' = refl; type' = refl; rows' = refl })
rule_words_lem (s ∷ t) (suc i) r h =
    let ih : RuleAt (rule_words t) i r = rule_words_lem t i r h in
    record {
      offset = past₀ _ _ _ _ (rule_words t) i ∙ ih.offset;
      length' = past _ _ _ _ (rule_words t) i 1 ∙ ih.length';
      type' = past _ _ _ _ (rule_words t) i 2 ∙ ih.type';
      rows' = past _ _ _ _ (rule_words t) i 3 ∙ ih.rows';
    }

pub length_rules : (t : Table Span) → length (rule_words t) ≡ length t * rule_width
length_rules [] = refl
length_rules (r ∷ t) = omega (arith, length_rules t)

pub rule_count : (t : Table Span) → length (rule_words t) / rule_width ≡ length t
rule_count t = omega (arith, length_rules t)

-- there is a rule i
pub record There (t : Table Span) (i : ℕ) : Type 0 where
  pub rule : Rule Span
  pub is : get_elem? t i ≡ some rule

pub there : (t : Table Span) (i : ℕ) → i < length t → There t i
there [] i h = absurd (omega arith)
there (r ∷ t) zero h = record { rule = r; is = refl }
there (r ∷ t) (suc i) h = let ih : There t i = there t i (omega arith) in record { rule = ih.rule; is = ih.is }

pub inside_table : (t : Table Span) (i : ℕ) (r : Rule Span) → get_elem? t i ≡ some r → i < length t
inside_table [] i r h = none_some h
inside_table (s ∷ t) zero r h = omega arith
inside_table (s ∷ t) (suc i) r h = let ih : i < length t = inside_table t i r h in omega arith

pub name_is : (text : Bytes) (t : Table Span) (i : ℕ) (r : Rule Span) → get_elem? t i ≡ some r → name_of (rule_words t) text i ≡ bytes_at text r.name
name_is text t i r h = let a = rule_words_lem t i r h in rw (a.offset, a.length')

-- ---- what find finds

-- bytes that differ are not the same
pub differ : (x key : Bytes) → (x ≡ key → ⊥) → same_bytes x key ≡ false
differ x key d = go (same_bytes x key) refl
  where
    go : (b : Bool) → same_bytes x key ≡ b → b ≡ false
    go true q = absurd (d (same_bytes_eq x key q))
    go false q = refl

module _ (text key : Bytes) where
  find_first : (t : Table Span) (i : ℕ) (r : Rule Span) → get_elem? t i ≡ some r → bytes_at text r.name ≡ key
      → ((j : ℕ) (s : Rule Span) → j < i → get_elem? t j ≡ some s → bytes_at text s.name ≡ key → ⊥)
      → find (resolve_table text t) key ≡ some (resolve text r.body)
  find_first [] i r h e f = none_some h
  find_first (s ∷ t) zero r h e f =
      let q : s ≡ r = some_eq _ _ h in
      let p : same_bytes (bytes_at text s.name) key ≡ true = rw q (eq_same_bytes (bytes_at text r.name) key e) in
      rw p (rw q)
  find_first (s ∷ t) (suc i) r h e f = rw (differ (bytes_at text s.name) key (f zero s (omega arith) refl)) (find_first t i r h e (λ j q l. f (suc j) q (omega arith)))

  find_nothing : (t : Table Span) → ((j : ℕ) (s : Rule Span) → get_elem? t j ≡ some s → bytes_at text s.name ≡ key → ⊥) → find (resolve_table text t) key ≡ none
  find_nothing [] f = refl
  find_nothing (s ∷ t) f = rw (differ (bytes_at text s.name) key (f zero s refl)) (find_nothing t (λ j q. f (suc j) q))

  module _ (t : Table Span) where
    -- rule i was found: it is there, and it is what `find` finds
    pub record Looked (i : ℕ) : Type 0 where
      pub rule : Rule Span
      pub is : get_elem? t i ≡ some rule
      pub same : bytes_at text rule.name ≡ key
      pub finds : find (resolve_table text t) key ≡ some (resolve text rule.body)

    -- THE LAW OF SEARCH: what a search among all rules finds is what `find` finds in the table
    pub looked : (i : ℕ) → First (length (rule_words t) / rule_width) (rule_words t) text key i → Looked i
    looked i f =
        let h : There t i = there t i (omega (arith, f.below, rule_count t)) in
        let e : bytes_at text h.rule.name ≡ key = sym (name_is text t i h.rule h.is) ∙ f.same in
        record {
          rule = h.rule;
          is = h.is;
          same = e;
          finds = find_first t i h.rule h.is e (λ j s l q k. f.first j l (name_is text t j s q ∙ k));
        }

    pub not_found : ((j : ℕ) → j < length (rule_words t) / rule_width → name_of (rule_words t) text j ≡ key → ⊥) → find (resolve_table text t) key ≡ none
    not_found f = find_nothing t (λ j s q k. f j (omega (arith, inside_table t j s q, rule_count t)) (name_is text t j s q ∙ k))

    -- the resolved body of what was found
    abbrev pub body_of : Option (Rule Span) → Option E
    body_of none = none
    body_of (some r) = some (resolve text r.body)

    abbrev pub found_body : Option' ℕ → Option E
    found_body (Some i) = body_of (get_elem? t i)
    found_body None = none

    pub find_is : (rules : List ℕ) (f : Option' ℕ) → rule_words t ≡ rules → Finds (length rules / rule_width) rules text key f → find (resolve_table text t) key ≡ found_body f
    find_is rules (Some i) e h = let l : Looked i = looked i (rw (← e) at h) in l.finds ∙ ap body_of (sym l.is)
    find_is rules None e h = not_found (rw (← e) at h)

-- ---- where a rule's tree stands

before_past : (a b c d : ℕ) (ws : List ℕ) (i : ℕ) → rows_before (a ∷ b ∷ c ∷ d ∷ ws) (suc i) ≡ d + rows_before ws i
before_past a b c d ws zero = omega arith
before_past a b c d ws (suc i) = let ih : rows_before (a ∷ b ∷ c ∷ d ∷ ws) (suc i) ≡ d + rows_before ws i = before_past a b c d ws i in omega (arith, past a b c d ws i 3)

-- all rows of a table
pub rows_before_all : (t : Table Span) → rows_before (rule_words t) (length t) ≡ row_count t
rows_before_all [] = refl
rows_before_all (r ∷ t) = before_past _ _ _ _ (rule_words t) (length t) ∙ ap (λ (n : ℕ). size r.body + n) (rows_before_all t)

pub length_rows : (t : Table Span) → length (row_words t) ≡ row_count t * row_width
length_rows [] = refl
length_rows (r ∷ t) = simp length-append (omega (arith, length_flat r.body, length_rows t))

-- THE TREE OF RULE i stands with its root at the row before its end
pub body_at : (t : Table Span) (i : ℕ) (r : Rule Span) → get_elem? t i ≡ some r → rows.At (row_words t) (rows_before (rule_words t) (suc i) - 1) r.body
body_at [] i r h = none_some h
body_at (s ∷ t) zero r h =
    let e : s ≡ r = some_eq _ _ h in
    rw (← e) (record { before = []; after = row_words t; whole = refl; place = omega (arith, size_pos s.body) })
body_at (s ∷ t) (suc i) r h =
    let a : rows.At (row_words t) (rows_before (rule_words t) (suc i) - 1) r.body = body_at t i r h in
    record {
      before = flat s.body ++ a.before;
      after = a.after;
      whole = ap (λ (w : List ℕ). flat s.body ++ w) a.whole ∙ sym (append_assoc (flat s.body) a.before _);
      place = simp length-append (omega (arith, length_flat s.body, a.place, before_past s.name.0 s.name.1 s.type (size s.body) (rule_words t) (suc i), (rule_words_lem t i r h).rows', size_pos r.body));
    }

-- ---- the names of a table

names_at : (text : Bytes) (t : Table Span) (i : ℕ) (r : Rule Span) → get_elem? t i ≡ some r → get_elem? (names (resolve_table text t)) i ≡ some (bytes_at text r.name)
names_at text [] i r h = none_some h
names_at text (s ∷ t) zero r h = let e : s ≡ r = some_eq _ _ h in rw (← e)
names_at text (s ∷ t) (suc i) r h = names_at text t i r h

names_length : (text : Bytes) (t : Table Span) → length (names (resolve_table text t)) ≡ length t
names_length text [] = refl
names_length text (r ∷ t) = omega (arith, names_length text t)

-- THE INDEX OF A TABLE'S NAMES is that of every table with these names
pub index_moved : (t t' : Table Span) {text text' : Bytes} {m : List ℕ} → names (resolve_table text' t') ≡ names (resolve_table text t) → NamesInside (rule_words t') (length text') → AllIndexed (rule_words t) text m → AllIndexed (rule_words t') text' m
index_moved t t' {text} {text'} e f h = index_named (omega (arith, rule_count t, rule_count t', same)) (λ i l. at i (there t i (omega (arith, rule_count t))) (there t' i (omega (arith, rule_count t, same)))) f h
  where
    same : length t' ≡ length t
    same = sym (names_length text' t') ∙ ap length e ∙ names_length text t

    at : (i : ℕ) → There t i → There t' i → name_of (rule_words t') text' i ≡ name_of (rule_words t) text i
    at i a b =
        name_is text' t' i b.rule b.is
        ∙ some_eq _ _ (sym (names_at text' t' i b.rule b.is) ∙ ap (λ (x : List Bytes). get_elem? x i) e ∙ names_at text t i a.rule a.is)
        ∙ sym (name_is text t i a.rule a.is)
