-- The entries of two rules with one name: their types, then their trees. Assumes nothing.
use mathlib.Core.Path.{◌≡◌, sym, ap, ◌∙◌, subst}
use mathlib.Core.List.{List, ◌++◌, append-nil}
use mathlib.Core.Option.{Option, none, some}
use Prim.Native.Nat.{ℕ, ◌+◌, ◌*◌}
use Rattle.grammar.specs.Basic.{Bytes}
use Rattle.grammar.specs.Table.{Rule}
use Rattle.rows.specs.Rows.{cells}
use Rattle.writing.specs.Writes.{stored}
use Rattle.comparison.specs.Compare.{Entry, other_tree, entry_width, entry_words, first_unlike, type_entry, tree_entry, common_entries}
use Rattle.comparer.specs.Lists.{Added}
use Rattle.comparer.proofs.Adding.{added_one, added_then}

module _ (i j : ℕ) (r s : Rule Bytes) {a b m n : ℕ} {l l' : List ℕ} (ra : a ≡ r.type) (sb : b ≡ s.type) (t : Added m n (type_entry i j a b) l l') where
  typed : Added m n (type_entry i j r.type s.type) l l'
  typed = subst (λ (es : List Entry). Added m n es l l') (ap (λ (x : ℕ). type_entry i j x b) ra ∙ ap (type_entry i j r.type) sb) t

  entries : (o : Option ℕ) → o ≡ first_unlike (cells r.body) (cells s.body) → common_entries i j r s ≡ type_entry i j r.type s.type ++ tree_entry i j o
  unfolding common_entries
  entries o e = ap (λ (x : Option ℕ). type_entry i j r.type s.type ++ tree_entry i j x) (sym e)

  pub common_same : none ≡ first_unlike (cells r.body) (cells s.body) → Added m n (common_entries i j r s) l l'
  common_same e = subst (λ (es : List Entry). Added m n es l l') (sym (entries none e ∙ append-nil (type_entry i j r.type s.type))) typed

  pub common_differ : {k m' : ℕ} {l'' : List ℕ} → some k ≡ first_unlike (cells r.body) (cells s.body) → m' ≡ m + 1 → l'' ≡ stored l' (m * entry_width) (entry_words (other_tree i j k)) → Added m' n (common_entries i j r s) l l''
  common_differ {k} {m'} {l''} e c w = subst (λ (es : List Entry). Added m' n es l l'') (sym (entries (some k) e)) (added_then typed (added_one (other_tree i j k) c w))
