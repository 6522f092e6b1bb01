-- A table that passed refusals 2 to 6, with its memories cleared; and the whole answer. Assumes nothing.
use Rattle.std.specs.Prelude.{⊤, Result, Ok, Err}
use mathlib.Core.Path.{◌≡◌, sym, ap, ◌∙◌, subst}
use mathlib.Core.Bool.{Bool, true, false, cond, ◌||◌}
use mathlib.Core.List.{List, []}
use mathlib.Core.Option.{Option}
use Prim.Native.Nat.{ℕ, zero, suc, ◌+◌, ◌/◌, ◌≤◌}
use native.Mathlib.Omega.{arith}
use borrow.Author.Tests.{ltb-false, ne_eqb}
use lib.Dec.{eqb, ltb}
use lib.ListN.{length}
use Rattle.grammar.specs.Numbers.{rule_width, number_of, number_in}
use Rattle.grammar.specs.declared.Refusal.{Refusal}
use Rattle.grammar.specs.declared.Refusal.TheVariants.{Area}
use Rattle.grammar.specs.Basic.{Bytes, or_else}
use Rattle.grammar.specs.Rows.{Span}
use Rattle.grammar.specs.Table.{Table, Words, resolve_table}
use Rattle.grammar.specs.Reading.{input_kinds}
use Rattle.grammar.specs.Refusals.{full_marks, short_marks}
use Rattle.grammar.proofs.Words.{table_is}
use Rattle.names.proofs.Marks.{marked_at}
use Rattle.skipper.specs.Lends.{Lent, Given}
use Rattle.skipper.proofs.Tables.{cleared, cleared_given, cleared_idle, cleared_known}
use Rattle.refusals.specs.Check.{lent, lowest, Passed, table_of, Checked}
use Rattle.refusals.proofs.Fours.{neither_left, neither_right}
use Rattle.refusals.proofs.Verdicts.{counts}
use Rattle.explanation.specs.Explain as explanation
use Rattle.explanation.specs.Explain.{full_list, answer_told, explain_words}
use Rattle.explainer.specs.Reading.{memory_at, unread}
use Rattle.explainer.specs.Answers.{seen_told, seen, Fresh}
use Rattle.explainer.specs.declared.Explained.{Explained}

-- ---- a table that passed

unread_most : (n : ℕ) (m : List ℕ) → unread n m ≤ n
unread_most zero m = omega arith
unread_most (suc n) m = go (eqb (memory_at m n) 0) (unread_most n m)
  where
    go : (b : Bool) → unread n m ≤ n → cond b 1 0 + unread n m ≤ suc n
    go true h = omega (arith, h)
    go false h = omega (arith, h)

module _ {rules rows : List ℕ} {text : Bytes} {m : List ℕ} (p : Passed (lent rules rows text) m) where
  passed_lent : Lent rules rows p.table
  passed_lent = let i = table_is input_kinds rules rows p.table p.read in record { heads = sym i.rules; trees = sym i.rows }

  passed_given : Given rules rows text m
  passed_given = record { table = p.table; lent = passed_lent; inside = p.inside; index = p.index; ended = p.ended }

  fresh : {l : List ℕ} → full_list ≤ length l → Fresh rules rows text (cleared (length rules / rule_width) m) l
  fresh {l} h =
      let n : ℕ = length rules / rule_width in
      let c = counts rules rows text p.counts in
      record {
        ready =
            record {
              given = cleared_given passed_given;
              few = c.rules_most;
              low = c.rows_most;
              clean = λ i b z _. absurd (z (marked_at (λ _. 0) 1 n m i (omega arith) p.index.long b));
              deep = omega (arith, unread_most n (cleared n m));
              room = omega (arith, h, c.rules_most);
            };
        known = cleared_known passed_given;
        idle = cleared_idle passed_given;
      }

  -- the marks m' are those with every memory cleared
  pub passed_fresh : {m' l : List ℕ} → m' ≡ cleared (length rules / rule_width) m → full_list ≤ length l → Fresh rules rows text m' l
  passed_fresh {m'} {l} e h = subst (λ (v : List ℕ). Fresh rules rows text v l) (sym e) (fresh h)

  -- what holds of every table that is lent holds of the one that the words are read as
  pub passed_told : (row : ℕ) (list : List ℕ) (a : Explained) {list' : List ℕ} → ((t : Table Span) → Lent rules rows t → seen_told a list' ≡ answer_told (explanation.explain (resolve_table text t) row) list) → seen_told a list' ≡ answer_told (explanation.explain (table_of (lent rules rows text)) row) list
  passed_told row list a f =
      let e : table_of (lent rules rows text) ≡ resolve_table text p.table = ap (λ (o : Option (Table Span)). resolve_table text (or_else o [])) p.read in
      f p.table passed_lent ∙ ap (λ (t : Table Bytes). answer_told (explanation.explain t row) list) (sym e)

-- ---- the whole answer

-- b says whether the list or the marks are short
module _ (list marks : List ℕ) {b : Bool} (short : b ≡ (ltb (length list) full_list || short_marks marks)) where
  pub full_areas : b ≡ false → (full_list ≤ length list) × (full_marks ≤ length marks)
  full_areas h = let e = sym short ∙ h in (ltb-false _ _ (neither_left (ltb (length list) full_list) (short_marks marks) e), ltb-false _ _ (neither_right (ltb (length list) full_list) (short_marks marks) e))

  module _ (w : Words) (row : ℕ) where
    pub short_is : b ≡ true → seen (Err Area) list ≡ explain_words w row list marks
    unfolding explain_words
    short_is h = rw (sym short ∙ h)

    module _ (fine : b ≡ false) {v : Result ⊤ Refusal} {m : List ℕ} (c : Checked v w m) where
      pub refused_is : {r : Refusal} → v ≡ Err r → seen (Err r) list ≡ explain_words w row list marks
      unfolding explain_words
      refused_is {r} h =
          let n : number_of r ≡ lowest w = ap number_in (sym h) ∙ c.number in
          rw (sym short ∙ fine, ← n, ne_eqb (number_of r) 0 (λ z. omega (arith, z, c.refused r h)))

      pub answered_is : (a : Explained) {list' : List ℕ} → v ≡ Ok tt → seen_told a list' ≡ answer_told (explanation.explain (table_of w) row) list → seen (Ok a) list' ≡ explain_words w row list marks
      unfolding explain_words
      answered_is a h g =
          let n : 0 ≡ lowest w = ap number_in (sym h) ∙ c.number in
          rw (sym short ∙ fine, ← n) g
