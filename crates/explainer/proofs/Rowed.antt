-- The answer for a row, by what is found there: its rule, its kind, whether step 1 changes its tree, its rule's type. Assumes nothing.
use mathlib.Core.Path.{◌≡◌, refl, sym, ap, ◌∙◌, subst}
use mathlib.Core.Bool.{Bool, true, false, false≢true}
use mathlib.Core.List.{List, []}
use mathlib.Core.Option.{some}
use Prim.Native.Nat.{ℕ, zero, suc, ◌+◌, ◌-◌, ◌*◌, ◌/◌, ◌≤◌, ◌<◌}
use native.Mathlib.Decide.{dec_le}
use native.Mathlib.Omega.{arith}
use borrow.Author.Tests.{eq-eqb, ne_eqb}
use lib.ListN.{length, get_or}
use Rattle.grammar.specs.Numbers.{rule_width, type_word, rows_word, row_width, k_rep}
use Rattle.grammar.specs.Basic.{Bytes}
use Rattle.grammar.specs.Tree.{E, Expr, size, any_node, as_rep, as_seq, same}
use Rattle.grammar.specs.Rows.{Span}
use Rattle.grammar.specs.Text.{resolve}
use Rattle.grammar.specs.Table.{Table, Atomic, rule_words, row_words, row_count, resolve_table}
use Rattle.grammar.specs.Steps.{rotate}
use Rattle.grammar.proofs.Logic.{same_eq, eq_same}
use Rattle.rows.specs.Rows.{At, Stands, kind_at}
use Rattle.rows.proofs.Views.{one_some, one_none}
use Rattle.names.specs.Names.{rows_before}
use Rattle.names.proofs.Finding.{There, rule_count, rule_words_lem, rows_before_all, length_rows, body_at}
use Rattle.scans.proofs.Laws.{rows_stand}
use Rattle.skipper.specs.Lends.{Lent}
use Rattle.skipper.proofs.Leaf.{read_found_lem, rule_there}
use Rattle.explanation.specs.Ends.{ends_in, ends_name}
use Rattle.explanation.specs.Explain.{not_rep, regroup, not_atomic, node_from, of_seq, explain}
use Rattle.explanation.proofs.Nests.{nests_at, flat_still, still_flat}
use Rattle.explainer.proofs.Nodes.{node_in, node_past}
use Rattle.explainer.proofs.Parts.{rep}

-- the rule that has row j
pub record Sited (rules : List ℕ) (n j : ℕ) : Type 0 where
  pub rule : ℕ
  pub below : rule < n
  pub low : rows_before rules rule ≤ j
  pub high : j < rows_before rules (suc rule)

abbrev pub site_of : {rules : List ℕ} {n j i : ℕ} → (i < n) × (rows_before rules i ≤ j) × (j < rows_before rules (suc i)) → Sited rules n j
site_of {i} h = record { rule = i; below = h.0; low = h.1; high = h.2 }

pub sited : (rules : List ℕ) (n j : ℕ) → j < rows_before rules n → Sited rules n j
sited rules zero j h = absurd (omega (arith, h))
sited rules (suc n) j h = go (dec_le (rows_before rules n) j) (sited rules n j)
  where
    go : Dec (rows_before rules n ≤ j) → (j < rows_before rules n → Sited rules n j) → Sited rules (suc n) j
    go (yes l) ih = record { rule = n; below = omega arith; low = l; high = h }
    go (no l) ih = let s = ih (omega (arith, l)) in record { rule = s.rule; below = omega (arith, s.below); low = s.low; high = s.high }

module _ {rules rows : List ℕ} {t : Table Span} (l : Lent rules rows t) where
  -- the rules use up the rows
  pub all_rows : rows_before rules (length rules / rule_width) ≡ length rows / row_width
  all_rows =
      let e : rows_before (rule_words t) (length (rule_words t) / rule_width) ≡ row_count t = ap (rows_before (rule_words t)) (rule_count t) ∙ rows_before_all t in
      let f : length (row_words t) / row_width ≡ row_count t = omega (arith, length_rows t) in
      rw (l.heads, l.trees) (e ∙ sym f)

  module _ {j : ℕ} (s : Sited rules (length rules / rule_width) j) where
    sited_rule : There t s.rule
    sited_rule = rule_there t l.heads s.rule s.below

    -- each row of a table is the root of a tree
    pub row_stands : Stands rows j
    row_stands =
        let r = sited_rule in
        let a : At rows (rows_before rules (suc s.rule) - 1) r.rule.body = subst (λ (w : List ℕ). At w (rows_before rules (suc s.rule) - 1) r.rule.body) (sym l.trees) (subst (λ (v : List ℕ). At (row_words t) (rows_before v (suc s.rule) - 1) r.rule.body) (sym l.heads) (body_at t s.rule r.rule r.is)) in
        let e : get_or rules (s.rule * rule_width + rows_word) 0 ≡ size r.rule.body = ap (λ (v : List ℕ). get_or v (s.rule * rule_width + rows_word) 0) l.heads ∙ (rule_words_lem t s.rule r.rule r.is).rows' in
        rows_stand r.rule.body a j (omega (arith, s.low, s.high, e)) (omega (arith, s.high))

    module _ (text : Bytes) {q : Expr Span} (at : At rows j q) where
      abbrev tree : E
      tree = resolve text q

      node : node_from 0 (resolve_table text t) j ≡ some (record { rule = s.rule; type = sited_rule.rule.type; tree = tree })
      node = node_in text l s.rule sited_rule.rule sited_rule.is j s.low s.high q at

      type_is : get_or rules (s.rule * rule_width + type_word) 0 ≡ sited_rule.rule.type
      type_is = ap (λ (v : List ℕ). get_or v (s.rule * rule_width + type_word) 0) l.heads ∙ (rule_words_lem t s.rule sited_rule.rule sited_rule.is).type'

      pub no_rep : (kind_at rows j ≡ k_rep → ⊥) → explain (resolve_table text t) j ≡ not_rep
      unfolding explain
      no_rep n = rw (node, one_none text 11 (read_found_lem at refl) at n)

      module _ (z : kind_at rows j ≡ k_rep) where
        pub rep_some : as_rep tree ≡ some (resolve text (rep text at z).child)
        rep_some = one_some text 11 z (rep text at z)

        pub nests : any_node nests_at tree ≡ true → explain (resolve_table text t) j ≡ regroup
        unfolding explain
        nests h = rw (node, rep_some, unlike (same (rotate tree) tree) refl)
          where
            unlike : (b : Bool) → same (rotate tree) tree ≡ b → same (rotate tree) tree ≡ false
            unlike true e = absurd (false≢true (sym (still_flat tree (same_eq (rotate tree) tree e)) ∙ h))
            unlike false e = e

        module _ (h : any_node nests_at tree ≡ false) where
          still : same (rotate tree) tree ≡ true
          still = eq_same (rotate tree) tree (flat_still tree h)

          pub not_atomic_lem : (get_or rules (s.rule * rule_width + type_word) 0 ≡ Atomic → ⊥) → explain (resolve_table text t) j ≡ not_atomic
          unfolding explain
          not_atomic_lem n = rw (node, rep_some, still, ne_eqb sited_rule.rule.type 2 (λ e. n (type_is ∙ e)))

          pub atomic : get_or rules (s.rule * rule_width + type_word) 0 ≡ Atomic → explain (resolve_table text t) j ≡ of_seq (as_seq (resolve text (rep text at z).child)) (ends_in (ends_name (suc (length (resolve_table text t))) (resolve_table text t) []) s.rule (j - 4))
          unfolding explain
          atomic e = rw (node, rep_some, still, eq-eqb sited_rule.rule.type 2 (sym type_is ∙ e))

  pub past : (text : Bytes) (j : ℕ) → length rows / row_width ≤ j → explain (resolve_table text t) j ≡ not_rep
  unfolding explain
  past text j h = rw (node_past text l j (omega (arith, all_rows, h)))
