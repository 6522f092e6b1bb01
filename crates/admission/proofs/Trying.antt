-- The refusals before the first step, in their order. Assumes nothing.
use Rattle.std.specs.Prelude.{Result, Ok, Err, ⊤}
use Rattle.grammar.specs.Numbers.{number_of}
use Rattle.grammar.specs.declared.Refusal.{Refusal}
use mathlib.Core.Path.{◌≡◌, refl, sym, ap, ◌∙◌, subst}
use mathlib.Core.Bool.{Bool, true, false, ◌||◌}
use mathlib.Core.List.{List, [], ◌∷◌}
use Prim.Native.Nat.{ℕ, ◌≤◌, ◌<◌}
use native.Mathlib.Omega.{arith}
use borrow.Author.Tests.{le-ltb, lt-ltb}
use lib.ListN.{length}
use lib.Dec.{ltb}
use Rattle.grammar.specs.Basic.{Bytes, any}
use Rattle.grammar.specs.Rows.{Span}
use Rattle.grammar.specs.Table.{Table, Words, row_count, table_text, rule_words, row_words, resolve_table}
use Rattle.grammar.specs.Reading.{input_kinds}
use Rattle.grammar.specs.Refusals.{max_rows, max_text, full_rules, full_rows, zero_counts, too_large}
use Rattle.grammar.specs.Optimize.{stages, finish, of_words, refuse_if, refused}
use Rattle.grammar.proofs.Logic.{or_left, or_right}
use Rattle.grammar.proofs.Words.{table_is}
use Rattle.rows.specs.Rows.{Inside}
use Rattle.rows.proofs.Cells.{size_resolve}
use Rattle.names.specs.Names.{NamesInside}
use Rattle.names.proofs.Finding.{length_rows}
use Rattle.skipper.specs.Lends.{Given, Lent}
use Rattle.skipper.specs.Lists.{ListsAnswer, ReadAll}
use Rattle.skipper.proofs.Words.{same_words}
use Rattle.refusals.specs.Check.{lent, Passed, Checked}
use Rattle.refusals.proofs.Verdicts.{counts}
use Rattle.refusals.proofs.Answers.{call_refused, call_passed}
use Rattle.admission.specs.Ready.{short_of, Tried, Admitted}

-- refusal 1, test by test
pub short_rules : (a b c : ℕ) → a < full_rules → true ≡ short_of a b c
short_rules a b c h = sym (or_left (ltb a full_rules) _ (lt-ltb a full_rules h))

pub short_rows : (a b c : ℕ) → b < full_rows → true ≡ short_of a b c
short_rows a b c h = sym (or_right (ltb a full_rules) _ (or_left (ltb b full_rows) _ (lt-ltb b full_rows h)))

pub short_text : (a b c : ℕ) → full_rules ≤ a → full_rows ≤ b → ltb c max_text ≡ short_of a b c
short_text a b c h k = last (ltb a full_rules) (ltb b full_rows) (ltb c max_text) (le-ltb a full_rules h) (le-ltb b full_rows k)
  where
    last : (x y z : Bool) → x ≡ false → y ≡ false → z ≡ (x || (y || z))
    last x y z f g = rw (f, g) refl

pub any_first : (x y z u : Bool) → x ≡ true → true ≡ (x || (y || (z || u)))
any_first x y z u h = sym (or_left x _ h)

pub any_second : (x y z u : Bool) → y ≡ true → true ≡ (x || (y || (z || u)))
any_second x y z u h = sym (or_right x _ (or_left y _ h))

pub any_third : (x y z u : Bool) → z ≡ true → true ≡ (x || (y || (z || u)))
any_third x y z u h = sym (or_right x _ (or_right y _ (or_left z _ h)))

pub any_fourth : (x y z u : Bool) → x ≡ false → y ≡ false → z ≡ false → u ≡ (x || (y || (z || u)))
any_fourth x y z u f g h = rw (f, g, h) refl

-- refusal 8 of the input
pub resolved_count : (text : Bytes) (t : Table Span) → row_count (resolve_table text t) ≡ row_count t
resolved_count text [] = refl
resolved_count text (r ∷ t) = omega (arith, size_resolve text r.body, resolved_count text t)

text_large : (t : Table Bytes) → max_text < length (table_text t) → too_large t ≡ true
unfolding too_large
text_large t h = or_right (ltb max_rows (row_count t)) (ltb max_text (length (table_text t))) (lt-ltb max_text (length (table_text t)) h)

text_fits : (t : Table Bytes) → row_count t ≤ max_rows → length (table_text t) ≤ max_text → too_large t ≡ false
unfolding too_large
text_fits t a b = rw (le-ltb max_rows (row_count t) a, le-ltb max_text (length (table_text t)) b) refl

first_stage : (t : Table Bytes) → too_large t ≡ true → any too_large (stages t) ≡ true
unfolding stages
first_stage t h = or_left (too_large t) _ h

when_large : (ts : List (Table Bytes)) → any too_large ts ≡ true → finish ts ≡ refused 8
unfolding finish
when_large ts h = rw h refl

input_large : (t : Table Bytes) → too_large t ≡ true → finish (stages t) ≡ refused 8
input_large t h = when_large (stages t) (first_stage t h)

-- a table past refusal 6
module _ {rules rows : List ℕ} {text : Bytes} {marks : List ℕ} (p : Passed (lent rules rows text) marks) where
  passed_lent : Lent rules rows p.table
  passed_lent = let i = table_is input_kinds rules rows p.table p.read in record { heads = sym i.rules; trees = sym i.rows }

  pub passed_given : Given rules rows text marks
  passed_given = record { table = p.table; lent = passed_lent; inside = p.inside; index = p.index; ended = p.ended }

  pub passed_few : (length rules ≤ full_rules) × (length rows ≤ full_rows)
  passed_few = let c = counts rules rows text p.counts in (c.rules_most, c.rows_most)

  one_table : {t : Table Span} → Lent rules rows t → p.table ≡ t
  one_table {t} l = same_words p.table t (sym passed_lent.heads ∙ l.heads) (sym passed_lent.trees ∙ l.trees)

  -- refusal 7
  pub tried_again : {a : Result ⊤ Refusal} {r : Refusal} (m : List ℕ) → a ≡ Err r → ((t : Table Span) → Lent rules rows t → ListsAnswer a (resolve_table text t) m) → Tried 7 (lent rules rows text) m
  tried_again {a} {r} m e f =
      let t : Table Bytes = resolve_table text p.table in
      let k = subst (λ (x : Result ⊤ Refusal). ListsAnswer x t m) e (f p.table passed_lent) in
      record {
        refuses = λ _. call_passed (lent rules rows text) marks p ∙ ap (λ (x : Bool). refuse_if x 7 (finish (stages t))) k.1;
        ready = λ z. absurd (omega arith);
        rest = λ z. absurd (omega arith);
      }

  -- or the lists are read
  module _ {a : Result ⊤ Refusal} (m : List ℕ) (e : a ≡ Ok tt) (f : (t : Table Span) → Lent rules rows t → ListsAnswer a (resolve_table text t) m) where
    read_all : (t : Table Span) → Lent rules rows t → ReadAll (resolve_table text t) m
    read_all t l = subst (λ (x : Result ⊤ Refusal). ListsAnswer x (resolve_table text t) m) e (f t l)

    lists_rest : (t : Table Span) → Lent rules rows t → of_words (lent rules rows text) ≡ finish (stages (resolve_table text t))
    lists_rest t l =
        let u : Table Bytes = resolve_table text p.table in
        subst (λ (x : Table Span). of_words (lent rules rows text) ≡ finish (stages (resolve_table text x))) (one_table l) (call_passed (lent rules rows text) marks p ∙ ap (λ (x : Bool). refuse_if x 7 (finish (stages u))) (read_all p.table passed_lent).never)

    -- the packed text's length
    module _ (g : Given rules rows text m) {n : ℕ} (s : (t : Table Span) (text : Bytes) → rule_words t ≡ rules → row_words t ≡ rows → Inside rows (length text) → NamesInside rules (length text) → n ≡ length (table_text (resolve_table text t))) where
      size_is : (t : Table Span) → Lent rules rows t → n ≡ length (table_text (resolve_table text t))
      size_is t l = s t text (sym l.heads) (sym l.trees) g.inside g.index.inside

      pub tried_large : max_text < n → Tried 8 (lent rules rows text) m
      tried_large h =
          let t : Table Span = p.table in
          record {
            refuses = λ _. lists_rest t passed_lent ∙ input_large (resolve_table text t) (text_large (resolve_table text t) (omega (arith, h, size_is t passed_lent)));
            ready = λ z. absurd (omega arith);
            rest = λ z. absurd (omega arith);
          }

      pub tried_fine : n ≤ max_text → Tried 0 (lent rules rows text) m
      tried_fine h =
          record {
            refuses = λ z. absurd (z refl);
            ready =
                λ _.
                record {
                  given = g;
                  few = passed_few.0;
                  zeros = λ t l. subst (λ (x : Table Span). zero_counts (resolve_table text x) ≡ false) (one_table l) p.zeros;
                  lists = λ t l. (read_all t l).lists;
                  fits = λ t l. text_fits (resolve_table text t) (omega (arith, resolved_count text t, length_rows t, ap length l.trees, passed_few.1)) (omega (arith, h, size_is t l));
                };
            rest = λ _. lists_rest;
          }

-- refusals 1 to 6 come first
pub admitted_short : {short : Bool} (w : Words) (marks : List ℕ) → short ≡ true → Admitted short 1 w marks
admitted_short w marks h =
    record {
      refuses = λ _. ap (λ (x : Bool). refuse_if x 1 (of_words w)) h;
      ready = λ z. absurd (omega arith);
      rest = λ z. absurd (omega arith);
      sizes = λ z. absurd (omega arith);
    }

pub admitted_tried : {short : Bool} {n : ℕ} {w : Words} {marks : List ℕ} → short ≡ false → Tried n w marks → Admitted short n w marks
admitted_tried {short} {n} {w} h t =
    let e : refuse_if short 1 (of_words w) ≡ of_words w = ap (λ (x : Bool). refuse_if x 1 (of_words w)) h in
    record { refuses = λ z. e ∙ t.refuses z; ready = t.ready; rest = λ z u l. e ∙ t.rest z u l; sizes = λ _. h }

pub checked_tried : {v : Result ⊤ Refusal} {r : Refusal} {w : Words} {marks : List ℕ} → v ≡ Err r → Checked v w marks → Tried (number_of r) w marks
checked_tried {v} {r} {w} {marks} e c =
    let z : 2 ≤ number_of r = c.refused r e in
    record {
      refuses = λ _. call_refused w r marks (subst (λ (x : Result ⊤ Refusal). Checked x w marks) e c);
      ready = λ y. absurd (omega (arith, z, y));
      rest = λ y. absurd (omega (arith, z, y));
    }
