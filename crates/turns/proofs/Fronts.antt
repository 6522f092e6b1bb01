-- A packed table at the front of three areas: the parts that hold it, and the table that they stand for. Assumes nothing.
use mathlib.Core.Path.{◌≡◌, refl, sym, ap, ap₂, ◌∙◌, subst}
use mathlib.Core.List.{List, [], ◌∷◌, ◌++◌, append_assoc}
use Prim.Native.Nat.{ℕ, zero, suc, ◌+◌, ◌-◌, ◌*◌, ◌≤◌, ◌<◌}
use native.Mathlib.Decide.{dec_lt}
use native.Mathlib.Omega.{arith}
use lib.ListN.{length, take, get_or, length-append, length-take}
use mathlib.Core.Bool.{Bool, ◌||◌}
use Rattle.grammar.specs.Numbers.{rule_width, length_word, row_width}
use Rattle.grammar.specs.Refusals.{zero_un, zero_count, zero_counts}
use Rattle.grammar.specs.Basic.{Bytes}
use Rattle.grammar.specs.Tree.{E, size, lit, fixed, skip, un, bin, any_node}
use Rattle.grammar.specs.Rows.{Span}
use Rattle.grammar.specs.Text.{text_of, packed}
use Rattle.grammar.specs.Table.{Table, rule_words, row_words, row_count, rule_text, table_text, packed_from, resolve_table}
use Rattle.grammar.proofs.Packing.{table_resolved, packed_size}
use Rattle.rows.specs.Rows.{Inside, LitInside, Within}
use Rattle.rows.proofs.Insides.{within_rows}
use Rattle.writing.proofs.Keeps.{within_packed}
use Rattle.writing.specs.declared.Place.{Place}
use Rattle.passes.specs.Passes.{Holds, Front}
use Rattle.passes.proofs.Tables.{count_append, rules_length}
use Rattle.passes.proofs.Progress.{at_rule, rows_length}

-- every literal of a table lies in a text of n bytes
abbrev pub AllIn : ℕ → Table Span → Type 0
AllIn n [] = Unit {0}
AllIn n (r ∷ t) = Within n r.body × AllIn n t

from_inside : (n : ℕ) (done t : Table Span) (w : List ℕ) → AllIn n t → row_words (done ++ t) ≡ w → (k : ℕ) → row_count done ≤ k → k < row_count done + row_count t → LitInside w n k
from_inside n done [] w a e k p q = absurd (omega arith)
from_inside n done (r ∷ t) w a e k p q = go (dec_lt k (row_count done + size r.body)) (λ h. from_inside n (done ++ (r ∷ [])) t w a.1 (ap row_words (append_assoc done (r ∷ []) t) ∙ e) k (omega (arith, h, count_append done (r ∷ []))) (omega (arith, q, count_append done (r ∷ []))))
  where
    go : Dec (k < row_count done + size r.body) → ((k < row_count done + size r.body → ⊥) → LitInside w n k) → LitInside w n k
    go (yes h) f = let i = row_count done + size r.body - 1 in within_rows n r.body (at_rule done r t w e i (omega arith)) a.0 (row_count done) k (omega arith) p (omega arith)
    go (no h) f = f h

pub table_inside : (n : ℕ) (t : Table Span) (w : List ℕ) → AllIn n t → row_words t ≡ w → Inside w n
table_inside n t w a e i h = from_inside n [] t w a e i (omega arith) (omega (arith, h, ap length (sym e), rows_length t))

-- a packed table's literals and names lie in its text
pub packed_in : (n o : ℕ) (t : Table Bytes) → o + length (table_text t) ≤ n → AllIn n (packed_from o t)
packed_in n o [] h = tt
packed_in n o (r ∷ t) h =
    let a = length-append (rule_text r) (table_text t) in
    let b = length-append r.name (text_of r.body) in
    (within_packed n (o + length r.name) r.body (omega (arith, a, b, h)), packed_in n (o + length (rule_text r)) t (omega (arith, a, h)))

pub names_in : (n o : ℕ) (t : Table Bytes) → o + length (table_text t) ≤ n → (i : ℕ) → i < length t → get_or (rule_words (packed_from o t)) (i * rule_width) 0 + get_or (rule_words (packed_from o t)) (i * rule_width + length_word) 0 ≤ n
names_in n o [] h i l = absurd (omega arith)
names_in n o (r ∷ t) h zero l = omega (arith, length-append (rule_text r) (table_text t), length-append r.name (text_of r.body), h)
names_in n o (r ∷ t) h (suc i) l =
    let f = names_in n (o + length (rule_text r)) t (omega (arith, length-append (rule_text r) (table_text t), h)) i (omega arith) in
    subst (λ (k : ℕ). get_or (rule_words (packed_from o (r ∷ t))) k 0 + get_or (rule_words (packed_from o (r ∷ t))) (k + 1) 0 ≤ n) (four i) (subst (λ (m : ℕ). get_or (rule_words (packed_from (o + length (rule_text r)) t)) (i * 4) 0 + m ≤ n) (next i) f)
  where
    four : (i : ℕ) → suc (suc (suc (suc (i * 4)))) ≡ suc i * rule_width
    four i = omega arith

    next : (i : ℕ) → get_or (rule_words (packed_from (o + length (rule_text r)) t)) (i * rule_width + 1) 0 ≡ get_or (rule_words (packed_from o (r ∷ t))) (suc (suc (suc (suc (i * 4)))) + 1) 0
    next i = let e : suc (suc (suc (suc (i * 4)))) + 1 ≡ suc (suc (suc (suc (i * rule_width + 1)))) = omega arith in sym (ap (λ (k : ℕ). get_or (rule_words (packed_from o (r ∷ t))) k 0) e)

pub packed_length : (o : ℕ) (t : Table Bytes) → length (packed_from o t) ≡ length t
packed_length o [] = refl
packed_length o (r ∷ t) = omega (arith, packed_length (o + length (rule_text r)) t)

-- the parts that hold it
pub holds_front : {p : Place} (t : Table Bytes) {os o s : List ℕ} → Front p t os o s → Holds (packed_from 0 t) (take (length t * rule_width) os) (take (p.rows * row_width) o) (take p.text s)
holds_front {p} t {os} {o} {s} f =
    let n : length (take p.text s) ≡ length (table_text t) = ap length f.bytes in
    record {
      rules = sym f.rule_words_lem;
      rows = sym f.row_words_lem;
      inside = table_inside (length (take p.text s)) (packed_from 0 t) (take (p.rows * row_width) o) (packed_in (length (take p.text s)) 0 t (omega (arith, n))) (sym f.row_words_lem);
      names = λ i l. subst (λ (w : List ℕ). get_or w (i * rule_width) 0 + get_or w (i * rule_width + length_word) 0 ≤ length (take p.text s)) (sym f.rule_words_lem) (names_in (length (take p.text s)) 0 t (omega (arith, n)) i (omega (arith, l, ap length f.rule_words_lem, rules_length (packed_from 0 t), packed_length 0 t)));
    }

-- and what they stand for
pub front_is : {p : Place} (t : Table Bytes) {os o s : List ℕ} → Front p t os o s → resolve_table (take p.text s) (packed_from 0 t) ≡ t
front_is {p} t f = ap (λ (x : Bytes). resolve_table x (packed_from 0 t)) f.bytes ∙ table_resolved t

-- the areas hold it
pub front_within : {p : Place} (t : Table Bytes) {os o s : List ℕ} → Front p t os o s → (length t * rule_width ≤ length os) × (p.rows * row_width ≤ length o) × (p.text ≤ length s)
front_within {p} t {os} {o} {s} f =
    (omega (arith, ap length f.rule_words_lem, rules_length (packed_from 0 t), packed_length 0 t, length-take (length t * rule_width) os), omega (arith, ap length f.row_words_lem, rows_length (packed_from 0 t), packed_count 0 t, f.rows, length-take (p.rows * row_width) o), omega (arith, ap length f.bytes, f.text, length-take p.text s))
  where
    packed_count : (o : ℕ) (t : Table Bytes) → row_count (packed_from o t) ≡ row_count t
    packed_count o [] = refl
    packed_count o (r ∷ t) = omega (arith, packed_size (o + length r.name) r.body, packed_count (o + length (rule_text r)) t)

-- packing makes no zero count
packed_zero : (o : ℕ) (e : E) → any_node zero_count (packed o e) ≡ any_node zero_count e
packed_zero o (lit k s) = refl
packed_zero o (fixed f) = refl
packed_zero o (skip ss) = refl
packed_zero o (un u e) = ap (λ (b : Bool). zero_un u || b) (packed_zero o e)
packed_zero o (bin b l r) = ap₂ ◌||◌ (packed_zero o l) (packed_zero (o + length (text_of l)) r)

pub packed_zeros : (o : ℕ) (t : Table Bytes) → zero_counts (packed_from o t) ≡ zero_counts t
unfolding zero_counts
packed_zeros o [] = refl
packed_zeros o (r ∷ t) = ap₂ ◌||◌ (packed_zero (o + length r.name) r.body) (packed_zeros (o + length (rule_text r)) t)
