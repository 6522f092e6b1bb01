-- A table that passed refusals 2 to 6, as the lists ask for it; and the whole answer. Assumes nothing.
use Rattle.std.specs.Prelude.{Ok, Err}
use mathlib.Core.Path.{◌≡◌, sym, ap, ◌∙◌, subst}
use mathlib.Core.Bool.{true, false, ◌||◌}
use mathlib.Core.List.{List, ◌++◌}
use Prim.Native.Nat.{ℕ, suc, ◌+◌, ◌-◌, ◌*◌, ◌/◌, ◌≤◌, ◌<◌}
use native.Mathlib.Omega.{arith}
use borrow.Author.Tests.{ne_eqb, ltb-false}
use lib.Dec.{ltb}
use lib.ListN.{length, get_or, drop, length-append}
use lib.Seq.{sets-eq}
use native.Mathlib.Nat.{zero-add}
use Rattle.grammar.specs.declared.Refusal.TheVariants.{Area}
use Rattle.grammar.specs.Basic.{Bytes}
use Rattle.grammar.specs.Numbers.{number_of, rule_width, type_word, rows_word, mark_width}
use Rattle.grammar.specs.Tree.{size}
use Rattle.grammar.specs.Rows.{Span}
use Rattle.grammar.specs.Table.{Rule, Table, Words, rule_words, row_words, resolve_table}
use Rattle.grammar.specs.Reading.{input_kinds}
use Rattle.grammar.specs.Refusals.{full_marks, max_rows, short_marks}
use Rattle.grammar.specs.Optimize.{over}
use Rattle.grammar.proofs.Words.{table_is}
use Rattle.rows.specs.Rows.{At, StandsIn}
use Rattle.rows.proofs.Laws.{root, size_pos}
use Rattle.rows.proofs.Insides.{inside_within}
use Rattle.names.specs.Names.{end_word, rows_before}
use Rattle.names.proofs.Finding.{rule_count, there, rule_words_lem, body_at}
use Rattle.writing.specs.Writes.{stored}
use Rattle.refusals.specs.Check.{lent, lowest, Passed, table_of}
use Rattle.refusals.proofs.Fours.{neither_left}
use Rattle.refusals.proofs.Verdicts.{counts}
use Rattle.comparison.specs.Compare as compare
use Rattle.comparison.specs.Compare.{Entry, full_list, max_entries, list_words, left_entries, right_entries, compare_words}
use Rattle.comparison.proofs.Whole.{Fine, fine_table, fine_most}
use Rattle.comparer.specs.Pairs.{Paired, Kept}
use Rattle.comparer.specs.Lists.{Sound, Standing, RuleIs, Added, unmet_from, seen}
use Rattle.comparer.specs.declared.Refused.{Refused}
use Rattle.comparer.specs.declared.Side.TheVariants.{Left, Right}
use Rattle.comparer.proofs.Adding.{added_then, length_list}
use Rattle.comparer.proofs.Pairing.{kept_ended}
use Rattle.comparer.proofs.Lookups.{unmet_is}

-- ---- a table that passed

module _ {rules rows : List ℕ} {text : Bytes} {m : List ℕ} (p : Passed (lent rules rows text) m) where
  pub passed_stands : Standing p.table rules rows
  passed_stands = let i = table_is input_kinds rules rows p.table p.read in record { heads = i.rules; trees = i.rows }

  pub passed_side : {m' : List ℕ} → Kept m m' → full_marks ≤ length m → Sound rules rows text m'
  passed_side k l =
      let c = counts rules rows text p.counts in
      record {
        table = p.table;
        stands = passed_stands;
        few = c.rules_most;
        small = c.rows_most;
        inside = p.inside;
        names = p.index.inside;
        long = omega (arith, l, k.long);
        ended = kept_ended k p.ended;
      }

  pub passed_fine : Fine (lent rules rows text)
  passed_fine = record { table = p.table; read = p.read; counts' = p.counts; names' = p.names }

-- ---- a rule of a side

pub rule_at : {rules rows : List ℕ} {i : ℕ} {x : Rule Span} → RuleIs rules rows i x → At rows (rows_before rules (suc i) - 1) x.body
rule_at {rules} {rows} {i} {x} r =
    subst (λ (w : List ℕ). At w (rows_before rules (suc i) - 1) x.body) r.stands.trees
    (subst (λ (w : List ℕ). At (row_words r.table) (rows_before w (suc i) - 1) x.body) r.stands.heads (body_at r.table i x r.is))

pub rule_type : {rules rows : List ℕ} {i : ℕ} {x : Rule Span} → RuleIs rules rows i x → get_or rules (i * rule_width + type_word) 0 ≡ x.type
rule_type {i = i} {x} r = subst (λ (w : List ℕ). get_or w (i * rule_width + type_word) 0 ≡ x.type) r.stands.heads (rule_words_lem r.table i x r.is).type'

pub record SideRule (rules rows : List ℕ) (i : ℕ) : Type 0 where
  pub rule : Rule Span
  pub is : RuleIs rules rows i rule

module _ {rules rows : List ℕ} {text : Bytes} {m : List ℕ} (s : Sound rules rows text m) {i : ℕ} (l : i < length rules / rule_width) where
  pub side_rule : SideRule rules rows i
  side_rule = let t = there s.table i (omega (arith, l, rule_count s.table, ap length s.stands.heads)) in record { rule = t.rule; is = record { table = s.table; stands = s.stands; is = t.is } }

  -- where it ends, and its tree
  abbrev ends : ℕ
  ends = get_or m (i * mark_width + end_word) 0

  pub side_end : ends ≡ rows_before rules (suc i)
  side_end = s.ended.end i l

  pub side_stands : StandsIn rows (ends - 1) (length text)
  side_stands =
      let r = side_rule in
      let a = subst (λ (n : ℕ). At rows (n - 1) r.rule.body) (sym side_end) (rule_at r.is) in
      record { tree = r.rule.body; at = a; within = inside_within (length text) r.rule.body s.inside a }

  pub root_at : {x : Rule Span} → RuleIs rules rows i x → At rows (ends - 1) x.body
  root_at {x = x} r = subst (λ (n : ℕ). At rows (n - 1) x.body) (sym side_end) (rule_at r)

  -- it has no more rows than there are
  pub side_most : {x : Rule Span} → RuleIs rules rows i x → size x.body ≤ max_rows
  side_most r = let a = root (rule_at r) in omega (arith, a.most, a.inside, s.small)

  pub side_first : 1 ≤ ends
  side_first =
      let r = side_rule in
      let w : get_or rules (i * rule_width + rows_word) 0 ≡ size r.rule.body = subst (λ (v : List ℕ). get_or v (i * rule_width + rows_word) 0 ≡ size r.rule.body) r.is.stands.heads (rule_words_lem r.is.table i r.rule r.is.is).rows' in
      omega (arith, side_end, w, size_pos r.rule.body)

-- ---- the whole answer

over_is : (ws l : List ℕ) → length ws ≤ length l → stored l 0 ws ≡ over ws l
unfolding stored
over_is ws l h = sets-eq ws l 0 (omega (arith, h)) ∙ ap (λ (n : ℕ). ws ++ drop n l) (zero-add (length ws))

-- words that hold no more than 512 entries
module _ (left right : Words) (list m₁ m₂ : List ℕ) where
  pub short_is : (ltb (length list) full_list || (short_marks m₁ || short_marks m₂)) ≡ true → seen (Err (record { why = Area; side = Left })) list ≡ compare_words left right list m₁ m₂
  unfolding compare_words
  short_is h = rw h

  module _ (fine : (ltb (length list) full_list || (short_marks m₁ || short_marks m₂)) ≡ false) where
    pub left_is : (r : Refused) → (number_of r.why ≡ lowest left) × (2 ≤ lowest left) × (r.side ≡ Left) → seen (Err r) list ≡ compare_words left right list m₁ m₂
    unfolding compare_words
    left_is r k = rw (fine, ne_eqb (lowest left) 0 (λ z. omega (arith, z, k.1)), k.0, k.2)

    module _ (zero_left : 0 ≡ lowest left) where
      pub right_is : (r : Refused) → (number_of r.why ≡ lowest right) × (2 ≤ lowest right) × (r.side ≡ Right) → seen (Err r) list ≡ compare_words left right list m₁ m₂
      unfolding compare_words
      right_is r k = rw (fine, ← zero_left, ne_eqb (lowest right) 0 (λ z. omega (arith, z, k.1)), k.0, k.2)

      pub listed_is : {n : ℕ} {list' : List ℕ} → 0 ≡ lowest right → Added n 0 (compare.compare (table_of left) (table_of right)) list list' → length (compare.compare (table_of left) (table_of right)) ≤ max_entries → seen (Ok n) list' ≡ compare_words left right list m₁ m₂
      unfolding compare_words
      listed_is {n} {list'} zero_right a l =
          let es : List Entry = compare.compare (table_of left) (table_of right) in
          let c : n ≡ length es = a.count ∙ zero-add (length es) in
          let room : full_list ≤ length list = ltb-false _ _ (neither_left (ltb (length list) full_list) (short_marks m₁ || short_marks m₂) fine) in
          let d : list' ≡ over (list_words es) list = a.words ∙ over_is (list_words es) list (omega (arith, room, l, length_list es)) in
          rw (fine, ← zero_left, ← zero_right, c, d)

-- the list of two tables that passed
module _ {rules₁ rows₁ : List ℕ} {text₁ : Bytes} {rules₂ rows₂ : List ℕ} {text₂ : Bytes} {m₁ m₂ : List ℕ} (p : Passed (lent rules₁ rows₁ text₁) m₁) (q : Passed (lent rules₂ rows₂ text₂) m₂) where
  abbrev left_table : Table Bytes
  left_table = resolve_table text₁ p.table

  abbrev right_table : Table Bytes
  right_table = resolve_table text₂ q.table

  pub whole_most : length (compare.compare (table_of (lent rules₁ rows₁ text₁)) (table_of (lent rules₂ rows₂ text₂))) ≤ max_entries
  whole_most = fine_most (passed_fine p) (passed_fine q)

  module _ {m₁' m₂' : List ℕ} (pair : Paired (length rules₁ / rule_width) rules₁ text₁ rules₂ text₂ m₁' m₂') where
    unmet_all : unmet_from m₂' 0 (length rules₂ / rule_width) ≡ right_entries left_table 0 right_table
    unmet_all =
        let s = passed_stands p in
        let t = passed_stands q in
        let c : length rules₂ / rule_width ≡ length q.table = ap (λ (w : List ℕ). length w / rule_width) (sym t.heads) ∙ rule_count q.table in
        ap (unmet_from m₂' 0) c
        ∙ unmet_is text₁ p.table text₂ q.table
        (subst (λ (w : List ℕ). Paired (length w / rule_width) w text₁ (rule_words q.table) text₂ m₁' m₂') (sym s.heads)
        (subst (λ (w : List ℕ). Paired (length rules₁ / rule_width) rules₁ text₁ w text₂ m₁' m₂') (sym t.heads) pair))

    whole : left_entries 0 left_table right_table ++ unmet_from m₂' 0 (length rules₂ / rule_width) ≡ compare.compare (table_of (lent rules₁ rows₁ text₁)) (table_of (lent rules₂ rows₂ text₂))
    unfolding compare.compare passed_fine
    whole = rw (fine_table (passed_fine p), fine_table (passed_fine q)) (ap (λ (es : List Entry). left_entries 0 left_table right_table ++ es) unmet_all)

    module _ {n : ℕ} {l l' : List ℕ} (a : Added n 0 (left_entries 0 left_table right_table) l l') where
      pub rights_fit : n + length (unmet_from m₂' 0 (length rules₂ / rule_width)) ≤ max_entries
      rights_fit = omega (arith, a.count, ap length whole, length-append (left_entries 0 left_table right_table) (unmet_from m₂' 0 (length rules₂ / rule_width)), whole_most)

      pub whole_added : {k : ℕ} {l'' : List ℕ} → Added k n (unmet_from m₂' 0 (length rules₂ / rule_width)) l' l'' → Added k 0 (compare.compare (table_of (lent rules₁ rows₁ text₁)) (table_of (lent rules₂ rows₂ text₂))) l l''
      whole_added {k} {l''} b = subst (λ (es : List Entry). Added k 0 es l l'') whole (added_then a b)
