-- From the tests over words to the number that the definitions give, and to what holds of a table that is not refused. Assumes nothing.
use Rattle.std.specs.Prelude.{⊤, Result, Ok, Err}
use mathlib.Core.Path.{◌≡◌, refl, sym, ap, ap₂, subst, ◌∙◌}
use mathlib.Core.Bool.{Bool, true, false, ◌||◌, not}
use mathlib.Core.List.{List}
use mathlib.Core.Logic.{inl, inr}
use mathlib.Core.Option.{Option, none, some}
use Prim.Native.Nat.{ℕ, ◌*◌, ◌/◌, ◌%◌, ◌^◌, ◌≤◌, ◌<◌}
use native.Mathlib.Omega.{arith}
use borrow.Author.Tests.{not-false, eqb-true, ltb-false}
use lib.Dec.{eqb, ltb}
use lib.ListN.{length}
use Rattle.grammar.specs.Numbers.{rule_width, row_width, number_of}
use Rattle.grammar.specs.declared.Refusal.{Refusal}
use Rattle.grammar.specs.declared.Refusal.TheVariants.{Size, Shape, Text}
use Rattle.grammar.specs.Basic.{Bytes}
use Rattle.grammar.specs.Table.{Table, Words, row_count, resolve_table}
use Rattle.grammar.specs.Reading.{read_table, input_kinds}
use Rattle.grammar.specs.Refusals.{max_text, full_rules, full_rows, bad_counts, bad_text, bad_names, zero_counts}
use Rattle.grammar.proofs.Words.{TableOf, table_is}
use Rattle.rows.specs.Rows.{Inside}
use Rattle.names.specs.Names.{rows_before, NamesInside}
use Rattle.names.proofs.Finding.{rule_count, rows_before_all, length_rows}
use Rattle.refusals.specs.Local.{up_to, IsTable}
use Rattle.refusals.specs.Bytes.{any_four, bad_name, bad_row, zero_row, NamesFine}
use Rattle.refusals.specs.Check.{lent, lowest_named, lowest_read, lowest, NamesChecked, Checked}
use Rattle.refusals.proofs.Fours.{neither_left, neither_right}
use Rattle.refusals.proofs.Texts.{zeros_are, bads_are, names_inside, rows_inside}
use Rattle.refusals.proofs.Apart.{names_fine, fine_names}

not_true : (b : Bool) → (b ≡ false → ⊥) → b ≡ true
not_true true f = refl
not_true false f = absurd (f refl)

not_some : {A : Type 0} (o : Option A) → ((a : A) → o ≡ some a → ⊥) → o ≡ none
not_some none f = refl
not_some (some a) f = absurd (f a refl)

module _ (rules rows : List ℕ) (text : Bytes) where
  abbrev w : Words
  w = lent rules rows text

  refused : (r : Refusal) (marks : List ℕ) → 2 ≤ number_of r → number_of r ≡ lowest w → Checked (Err r) w marks
  refused r marks l e = record { number = e; refused = λ s q. let z : r ≡ s = cc in rw z at l; fine = λ q. absurd (cc) }

  pub refused_2 : (marks : List ℕ) → bad_counts w ≡ true → Checked (Err Size) w marks
  unfolding lowest
  refused_2 marks c = refused Size marks (omega arith) (rw c)

  -- what counts that are not refused say
  pub record Counts : Type 0 where
    pub rules_4 : length rules % rule_width ≡ 0
    pub rows_4 : length rows % row_width ≡ 0
    pub rules_most : length rules ≤ full_rules
    pub rows_most : length rows ≤ full_rows
    pub text_most : length text ≤ max_text

  pub counts : bad_counts w ≡ false → Counts
  counts h =
      let a : Bool = not (eqb (length rules % rule_width) 0) in
      let b : Bool = not (eqb (length rows % row_width) 0) in
      let c : Bool = ltb full_rules (length rules) in
      let d : Bool = ltb full_rows (length rows) in
      let e : Bool = ltb max_text (length text) in
      let h₁ : (b || (c || (d || e))) ≡ false = neither_right a (b || (c || (d || e))) h in
      let h₂ : (c || (d || e)) ≡ false = neither_right b (c || (d || e)) h₁ in
      let h₃ : (d || e) ≡ false = neither_right c (d || e) h₂ in
      record {
        rules_4 = eqb-true (length rules % rule_width) 0 (not-false (eqb (length rules % rule_width) 0) (neither_left a (b || (c || (d || e))) h));
        rows_4 = eqb-true (length rows % row_width) 0 (not-false (eqb (length rows % row_width) 0) (neither_left b (c || (d || e)) h₁));
        rules_most = ltb-false full_rules (length rules) (neither_left c (d || e) h₂);
        rows_most = ltb-false full_rows (length rows) (neither_left d e h₃);
        text_most = ltb-false max_text (length text) (neither_right d e h₃);
      }

  module _ (c : bad_counts w ≡ false) where
    pub refused_3 : (marks : List ℕ) → (IsTable (up_to 18) rules rows → ⊥) → Checked (Err Shape) w marks
    unfolding lowest lowest_read
    refused_3 marks f =
        let e : read_table input_kinds rules rows ≡ none = not_some (read_table input_kinds rules rows) (λ t r. f (record { table = t; read = r })) in
        refused Shape marks (omega arith) (rw (c, e))

    module _ (t : IsTable (up_to 18) rules rows) where
      of : TableOf input_kinds rules rows t.table
      of = table_is input_kinds rules rows t.table t.read

      abbrev resolved : Table Bytes
      resolved = resolve_table text t.table

      bad_is : bad_text text t.table ≡ (any_four (bad_name text) rules || any_four (bad_row text) rows)
      bad_is = bads_are text t.table ∙ ap₂ (λ (a b : List ℕ). any_four (bad_name text) a || any_four (bad_row text) b) of.rules of.rows

      zero_is : zero_counts resolved ≡ any_four zero_row rows
      zero_is = zeros_are text t.table ∙ ap (any_four zero_row) of.rows

      pub few_rows : rows_before rules (length rules / rule_width) < 2 ^ 32
      few_rows =
          let n : length rules / rule_width ≡ length t.table = ap (λ (r : List ℕ). length r / rule_width) (sym of.rules) ∙ rule_count t.table in
          let m : rows_before rules (length t.table) ≡ row_count t.table = ap (λ (r : List ℕ). rows_before r (length t.table)) (sym of.rules) ∙ rows_before_all t.table in
          let k : length rows ≡ row_count t.table * row_width = ap length (sym of.rows) ∙ length_rows t.table in
          rw n (omega (arith, (counts c).rows_most))

      pub refused_4 : (marks : List ℕ) (b : Bool) → b ≡ (any_four (bad_name text) rules || any_four (bad_row text) rows) → b ≡ true → Checked (Err Text) w marks
      unfolding lowest lowest_read
      refused_4 marks b e h =
          let q : bad_text text t.table ≡ true = bad_is ∙ sym e ∙ h in
          refused Text marks (omega arith) (rw (c, t.read, q))

      module _ (b : Bool) (e : b ≡ (any_four (bad_name text) rules || any_four (bad_row text) rows)) (h : b ≡ false) where
        clean : (any_four (bad_name text) rules || any_four (bad_row text) rows) ≡ false
        clean = sym e ∙ h

        pub inside_names : NamesInside rules (length text)
        inside_names = names_inside text rules (counts c).rules_4 (neither_left (any_four (bad_name text) rules) (any_four (bad_row text) rows) clean)

        inside_rows : Inside rows (length text)
        inside_rows = rows_inside text rows (counts c).rows_4 (neither_right (any_four (bad_name text) rules) (any_four (bad_row text) rows) clean)

        lowest_is : lowest w ≡ lowest_named resolved
        unfolding lowest lowest_read
        lowest_is = let q : bad_text text t.table ≡ false = bad_is ∙ clean in rw (c, t.read, q)

        fine_is : NamesFine rules text → bad_names resolved ≡ false
        fine_is f = names_fine text t.table (subst (λ (r : List ℕ). NamesFine r text) (sym of.rules) f)

        is_fine : bad_names resolved ≡ false → NamesFine rules text
        is_fine q = subst (λ (r : List ℕ). NamesFine r text) of.rules (fine_names text t.table q)

        lowest_names : (n : ℕ) → n ≡ 5 → (NamesFine rules text → ⊥) → n ≡ lowest_named resolved
        unfolding lowest_named
        lowest_names n p f = let q : bad_names resolved ≡ true = not_true (bad_names resolved) (λ z. f (is_fine z)) in rw (p, q)

        lowest_zero : (n : ℕ) → n ≡ 6 → NamesFine rules text → any_four zero_row rows ≡ true → n ≡ lowest_named resolved
        unfolding lowest_named
        lowest_zero n p f z = let q : zero_counts resolved ≡ true = zero_is ∙ z in rw (p, fine_is f, q)

        lowest_none : NamesFine rules text → any_four zero_row rows ≡ false → 0 ≡ lowest_named resolved
        unfolding lowest_named
        lowest_none f z = let q : zero_counts resolved ≡ false = zero_is ∙ z in rw (fine_is f, q)

        pub checked : (v : Result ⊤ Refusal) (marks : List ℕ) → NamesChecked v rules rows text marks → Checked v w marks
        checked (Ok v) marks k =
            record {
              number = lowest_none k.0 k.1 ∙ sym lowest_is;
              refused = λ r q. absurd (cc);
              fine = λ _. record {
                table = t.table;
                read = t.read;
                counts = c;
                text' = bad_is ∙ clean;
                names = fine_is k.0;
                zeros = zero_is ∙ k.1;
                inside = inside_rows;
                index = k.2;
                ended = k.3;
              };
            }
        checked (Err r) marks (inl k) = refused r marks (omega (arith, k.0)) (lowest_names (number_of r) k.0 k.1 ∙ sym lowest_is)
        checked (Err r) marks (inr k) = refused r marks (omega (arith, k.0)) (lowest_zero (number_of r) k.0 k.1 k.2 ∙ sym lowest_is)
