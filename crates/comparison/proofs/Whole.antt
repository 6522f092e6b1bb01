-- What the whole answer says of any words that are not refused: when it has no entries, and that 512 always suffice. Assumes nothing.
use mathlib.Core.Path.{◌≡◌, refl, sym, ap, ◌∙◌, subst}
use mathlib.Core.Bool.{Bool, true, false, ◌||◌, cond, not}
use mathlib.Core.List.{List, [], ◌∷◌}
use mathlib.Core.Option.{Option, none, some}
use Prim.Native.Nat.{ℕ, suc, ◌≤◌}
use native.Mathlib.Omega.{arith}
use borrow.Author.Tests.{eqb-true, eq-eqb, ltb-false}
use lib.Dec.{eqb, ltb}
use lib.ListN.{length, length-map}
use Rattle.grammar.specs.Basic.{Bytes, or_else}
use Rattle.grammar.specs.Rows.{Span}
use Rattle.grammar.specs.Table.{Table, Words, resolve_rule, resolve_table}
use Rattle.grammar.specs.Reading.{read_table, input_kinds}
use Rattle.grammar.specs.Refusals.{max_rules, short_marks, repeated, names, bad_counts, bad_text, bad_names}
use Rattle.grammar.proofs.Words.{table_is}
use Rattle.names.proofs.Finding.{rule_count}
use Rattle.refusals.specs.Check.{lowest, lowest_read, lowest_named, table_of}
use Rattle.refusals.proofs.Fours.{neither_left}
use Rattle.refusals.proofs.Verdicts.{counts}
use Rattle.comparison.specs.Compare.{Compared, compare, compare_words, full_list, max_entries, listed, refused}
use Rattle.comparison.specs.Same.{SameRules}
use Rattle.comparison.proofs.Empty.{empty_same, same_empty}
use Rattle.comparison.proofs.Most.{at_most}

-- ---- a table that none of refusals 2 to 6 holds of

pub record Fine (w : Words) : Type 0 where
  pub table : Table Span
  pub read : read_table input_kinds w.rules w.rows ≡ some table
  pub counts' : bad_counts w ≡ false
  pub names' : bad_names (resolve_table w.text table) ≡ false

-- a test that holds gives a number that is not 0
past : (n m : ℕ) (b : Bool) → cond b (suc n) m ≡ 0 → (b ≡ false) × (m ≡ 0)
past n m true h = absurd (omega (arith, h))
past n m false h = (refl, h)

named_fine : (t : Table Bytes) → lowest_named t ≡ 0 → bad_names t ≡ false
unfolding lowest_named
named_fine t h = (past _ _ (bad_names t) h).0

pub fine : (w : Words) → lowest w ≡ 0 → Fine w
unfolding lowest lowest_read
fine w h = go (read_table input_kinds w.rules w.rows) refl (past _ _ (bad_counts w) h).1
  where
    go : (o : Option (Table Span)) → read_table input_kinds w.rules w.rows ≡ o → lowest_read w.text o ≡ 0 → Fine w
    go none e f = absurd (omega (arith, f))
    go (some t) e f = record { table = t; read = e; counts' = (past _ _ (bad_counts w) h).0; names' = named_fine (resolve_table w.text t) (past _ _ (bad_text w.text t) f).1 }

module _ {w : Words} (f : Fine w) where
  pub fine_table : table_of w ≡ resolve_table w.text f.table
  fine_table = ap (λ (o : Option (Table Span)). resolve_table w.text (or_else o [])) f.read

  -- its names are all different
  pub fine_names : repeated (names (table_of w)) ≡ false
  unfolding bad_names
  fine_names = subst (λ (t : Table Bytes). repeated (names t) ≡ false) (sym fine_table) (neither_left (repeated (names (resolve_table w.text f.table))) _ f.names')

  -- and they are 256 at most
  pub fine_few : length (table_of w) ≤ max_rules
  fine_few =
      let c = counts w.rules w.rows w.text f.counts' in
      let i = table_is input_kinds w.rules w.rows f.table f.read in
      omega (arith, ap length fine_table, length-map f.table (resolve_rule w.text), rule_count f.table, ap length i.rules, c.rules_most)

-- "512 is enough: two for each common rule, one for each other"
pub fine_most : {left right : Words} → Fine left → Fine right → length (compare (table_of left) (table_of right)) ≤ max_entries
fine_most {left} {right} f g = omega (arith, at_most (table_of left) (table_of right) (fine_names f), fine_few f, fine_few g)

-- ---- the answer

length_none : {A : Type 0} (l : List A) → length l ≡ 0 → l ≡ []
length_none [] h = refl
length_none (x ∷ l) h = absurd (omega (arith, h))

pub record Answered (left right : Words) (list m n : List ℕ) : Type 0 where
  pub left' : Fine left
  pub right' : Fine right
  pub room : full_list ≤ length list
  pub is : compare_words left right list m n ≡ listed (compare (table_of left) (table_of right)) list

-- a test whose first answer is a refusal, and whose answer is none
chosen : (b : Bool) (x y : Compared) → (b ≡ true → x.number ≡ 0 → ⊥) → (cond b x y).number ≡ 0 → (b ≡ false) × (cond b x y ≡ y) × (y.number ≡ 0)
chosen true x y n h = absurd (n refl h)
chosen false x y n h = (refl, refl, h)

-- where a table's own refusal is given, it is not 0
given : (n : ℕ) → not (eqb n 0) ≡ true → n ≡ 0 → ⊥
given n h e = let z : ◌≡◌ {A = Bool} true false = sym h ∙ ap not (eq-eqb n 0 e) in let k : ◌≡◌ {A = ℕ} 1 0 = ap (λ (b : Bool). cond b 1 0) z in omega (arith, k)

not_given : (n : ℕ) → not (eqb n 0) ≡ false → n ≡ 0
not_given n h = go (eqb n 0) refl h
  where
    go : (b : Bool) → eqb n 0 ≡ b → not b ≡ false → n ≡ 0
    go true e f = eqb-true n 0 e
    go false e f = let k : ◌≡◌ {A = ℕ} 1 0 = ap (λ (b : Bool). cond b 1 0) f in absurd (omega (arith, k))

answered : (left right : Words) (list m n : List ℕ) → (compare_words left right list m n).number ≡ 0 → Answered left right list m n
unfolding compare_words
answered left right list m n h =
    let last : Compared = listed (compare (table_of left) (table_of right)) list in
    let third : Compared = cond (not (eqb (lowest right) 0)) (refused (lowest right) 1 list) last in
    let second : Compared = cond (not (eqb (lowest left) 0)) (refused (lowest left) 0 list) third in
    let short : Bool = ltb (length list) full_list || (short_marks m || short_marks n) in
    let a = chosen short (refused 1 0 list) second (λ _ e. omega (arith, e)) h in
    let b = chosen (not (eqb (lowest left) 0)) (refused (lowest left) 0 list) third (given (lowest left)) a.2 in
    let c = chosen (not (eqb (lowest right) 0)) (refused (lowest right) 1 list) last (given (lowest right)) b.2 in
    record {
      left' = fine left (not_given (lowest left) b.0);
      right' = fine right (not_given (lowest right) c.0);
      room = ltb-false (length list) full_list (neither_left (ltb (length list) full_list) (short_marks m || short_marks n) a.0);
      is = a.1 ∙ b.1 ∙ c.1;
    }

module _ (left right : Words) (list m n : List ℕ) (h : (compare_words left right list m n).number ≡ 0) where
  told : Answered left right list m n
  told = answered left right list m n h

  count_is : (compare_words left right list m n).count ≡ length (compare (table_of left) (table_of right))
  count_is = ap (λ (c : Compared). c.count) told.is

  -- "Equal grammars, and only those, give an empty list; rule order is no difference"
  pub equal_only : (compare_words left right list m n).count ≡ 0 → SameRules (table_of left) (table_of right)
  equal_only e = empty_same (table_of left) (table_of right) (fine_names told.right') (length_none (compare (table_of left) (table_of right)) (sym count_is ∙ e))

  pub equal : SameRules (table_of left) (table_of right) → (compare_words left right list m n).count ≡ 0
  equal e = count_is ∙ ap length (same_empty (table_of left) (table_of right) (fine_names told.right') e)

  -- 512 entries always suffice
  pub enough : (compare_words left right list m n).count ≤ max_entries
  enough = omega (arith, count_is, fine_most told.left' told.right')
