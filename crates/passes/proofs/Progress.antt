-- A pass, rule by rule: what is done stands packed in front, and the next rule's tree stands where its rows end. Assumes nothing.
use mathlib.Core.Path.{◌≡◌, refl, sym, ap, ap₂, ◌∙◌, subst}
use mathlib.Core.List.{List, [], ◌∷◌, ◌++◌, append_assoc, append-nil}
use Prim.Native.Nat.{ℕ, ◌+◌, ◌*◌, ◌/◌, ◌≤◌, ◌<◌}
use native.Mathlib.Nat.{zero-add, add-zero}
use native.Mathlib.Omega.{arith}
use lib.ListN.{length, take, get_or, length-append}
use lib.Seq.{get_or-append-add}
use Rattle.grammar.specs.Numbers.{rule_width, length_word, type_word, rows_word, row_width}
use Rattle.grammar.specs.Basic.{Bytes}
use Rattle.grammar.specs.Tree.{E, size}
use Rattle.grammar.specs.Rows.{Span, flat, row}
use Rattle.grammar.specs.Text.{bytes_at, resolve, text_of, packed}
use Rattle.grammar.specs.Table.{Rule, Table, rule_words, row_words, row_count, rule_text, table_text, packed_rule, packed_from, resolve_rule, resolve_table, rule_head}
use Rattle.grammar.specs.Steps.{each, on_rule}
use Rattle.grammar.proofs.Packing.{packed_size}
use Rattle.rows.specs.Rows.{At}
use Rattle.rows.proofs.Laws.{length_flat}
use Rattle.writing.specs.declared.Place.{Place}
use Rattle.writing.proofs.Runs.{take_stored}
use Rattle.passes.specs.Passes.{RuleFits, RuleKept, Holds, TableFits, Front}
use Rattle.passes.proofs.Tables.{rules_append, rows_append, count_append, text_append, packed_append, resolve_append, each_append, rules_length, each_length, resolve_length}

-- the first i rules are done, their rows end before `end`, and D, what the step F makes of them, stands up to p
pub record Progress (F : ℕ → E → E) (ts : Table Span) (text : Bytes) (i end : ℕ) (p : Place) (os o s : List ℕ) : Type 0 where
  pub done : Table Span
  pub rest : Table Span
  pub whole : ts ≡ done ++ rest
  pub count : length done ≡ i
  pub ends : end ≡ row_count done
  pub front : Front p (each F (resolve_table text done)) os o s

-- nothing is done yet
pub start : (F : ℕ → E → E) (ts : Table Span) (text : Bytes) (p : Place) (os o s : List ℕ) → p.rows ≡ 0 → p.text ≡ 0 → Progress F ts text 0 0 p os o s
start F ts text p os o s a b =
    record {
      done = [];
      rest = ts;
      whole = refl;
      count = refl;
      ends = refl;
      front = record { rows = a; text = b; rule_words_lem = refl; row_words_lem = ap (λ (n : ℕ). take (n * row_width) o) a; bytes = ap (λ (n : ℕ). take n s) b };
    }

pub rows_length : (t : Table Span) → length (row_words t) ≡ row_count t * row_width
rows_length [] = refl
rows_length (r ∷ t) = simp length-append (omega (arith, length_flat r.body, rows_length t))

-- the words of rule i
module _ (done : Table Span) (r : Rule Span) (rest : Table Span) (rs : List ℕ) (h : rule_words (done ++ (r ∷ rest)) ≡ rs) where
  pub rule_word : (k : ℕ) → get_or rs (length done * rule_width + k) 0 ≡ get_or (rule_words (r ∷ rest)) k 0
  rule_word k =
      ap (λ (l : List ℕ). get_or l (length done * row_width + k) 0) (sym h ∙ rules_append done (r ∷ rest))
      ∙ ap (λ (n : ℕ). get_or (rule_words done ++ rule_words (r ∷ rest)) (n + k) 0) (sym (rules_length done))
      ∙ get_or-append-add (rule_words done) (rule_words (r ∷ rest)) k 0

-- its tree
pub at_rule : (done : Table Span) (r : Rule Span) (rest : Table Span) (ws : List ℕ) → row_words (done ++ (r ∷ rest)) ≡ ws → (i : ℕ) → i + 1 ≡ row_count done + size r.body → At ws i r.body
at_rule done r rest ws h i k =
    record {
      before = row_words done;
      after = row_words rest;
      whole = sym h ∙ rows_append done (r ∷ rest);
      place = omega (arith, rows_length done, k);
    }

-- a table with one more rule stands in front
pub front_next : {q p : Place} {i y : ℕ} {n : Bytes} {e : E} {os os' o o' s s' : List ℕ} (D : Table Bytes) → Front p D os o s → RuleKept q p i y n e os os' o o' s s' → length D ≡ i → i < length os / rule_width → Front q (D ++ (record { name = n; type = y; body = e } ∷ [])) os' o' s'
front_next {q} {p} {i} {y} {n} {e} {os} {os'} {o} {o'} {s} {s'} D f k l m =
    record {
      rows = omega (arith, f.rows, k.rows, count_append D (r ∷ []));
      text = simp (text_append, append-nil, length-append) (omega (arith, f.text, k.text, length-append n (text_of e)));
      rule_words_lem = heads;
      row_words_lem = k.words ∙ ap₂ ◌++◌ f.row_words_lem (ap (λ (x : ℕ). flat (packed (x + length n) e)) f.text ∙ sym (append-nil (flat r₁.body))) ∙ sym (rows_append (packed_from 0 D) (r₁ ∷ [])) ∙ ap row_words (sym packs);
      bytes = k.bytes ∙ ap (λ (x : Bytes). x ++ (n ++ text_of e)) f.bytes ∙ ap (λ (x : Bytes). table_text D ++ x) (sym (append-nil (n ++ text_of e))) ∙ sym (text_append D (r ∷ []));
    }
  where
    r : Rule Bytes
    r = record { name = n; type = y; body = e }

    r₁ : Rule Span
    r₁ = packed_rule (length (table_text D)) r

    packs : packed_from 0 (D ++ (r ∷ [])) ≡ packed_from 0 D ++ (r₁ ∷ [])
    packs = packed_append 0 D (r ∷ []) ∙ ap (λ (x : ℕ). packed_from 0 D ++ (packed_rule x r ∷ [])) (zero-add (length (table_text D)))

    four : length (D ++ (r ∷ [])) * rule_width ≡ i * rule_width + rule_width
    four = omega (arith, length-append D (r ∷ []), l)

    heads : take (length (D ++ (r ∷ [])) * rule_width) os' ≡ rule_words (packed_from 0 (D ++ (r ∷ [])))
    heads =
        ap₂ take four k.heads
        ∙ take_stored os (rule_head (p.text, length n) y (size e)) (i * rule_width) (i * rule_width + rule_width) refl (omega (arith, m))
        ∙ ap₂ ◌++◌ (ap (λ (x : ℕ). take (x * rule_width) os) (sym l) ∙ f.rule_words_lem) (ap₂ (λ (x z : ℕ). row (x, length n, y) z) f.text (sym (packed_size (length (table_text D) + length n) e)))
        ∙ sym (rules_append (packed_from 0 D) (r₁ ∷ []))
        ∙ ap rule_words (sym packs)

-- what is left
abbrev pub Left : Table Span → (i n : ℕ) → Type 0
Left rest i n = (r : Rule Span) × (rest' : Table Span) × (rest ≡ r ∷ rest')

pub next_rule : (F : ℕ → E → E) (ts : Table Span) (text : Bytes) (i end : ℕ) (p : Place) (os o s rs : List ℕ) → rule_words ts ≡ rs → i < length rs / rule_width → (g : Progress F ts text i end p os o s) → Left g.rest i end
next_rule F ts text i end p os o s rs h l g = go g.rest g.whole
  where
    go : (rest : Table Span) → ts ≡ g.done ++ rest → Left rest i end
    go [] w = absurd (omega (arith, l, ap length (sym h), rules_length ts, ap length (w ∙ append-nil g.done), g.count))
    go (r ∷ rest) w = (r, rest, refl)

-- of the next rule: its words in the lent rules, and its tree in the lent rows
pub record Next (ts : Table Span) (rs ws : List ℕ) (text : Bytes) (i end : ℕ) (r : Rule Span) : Type 0 where
  pub offset : get_or rs (i * rule_width) 0 ≡ r.name.0
  pub len : get_or rs (i * rule_width + length_word) 0 ≡ r.name.1
  pub type : get_or rs (i * rule_width + type_word) 0 ≡ r.type
  pub count : get_or rs (i * rule_width + rows_word) 0 ≡ size r.body
  pub at : (k : ℕ) → k + 1 ≡ end + size r.body → At ws k r.body

module _ {F : ℕ → E → E} {ts : Table Span} {text : Bytes} {i end : ℕ} {p : Place} {os o s rs ws : List ℕ} (h : Holds ts rs ws text) (g : Progress F ts text i end p os o s) (r : Rule Span) (rest : Table Span) (w : g.rest ≡ r ∷ rest) where
  split : ts ≡ g.done ++ (r ∷ rest)
  split = g.whole ∙ ap (λ (x : Table Span). g.done ++ x) w

  word : (k : ℕ) → get_or rs (i * rule_width + k) 0 ≡ get_or (rule_words (r ∷ rest)) k 0
  word k = ap (λ (x : ℕ). get_or rs (x * rule_width + k) 0) (sym g.count) ∙ rule_word g.done r rest rs (ap rule_words (sym split) ∙ h.rules) k

  pub the_next : Next ts rs ws text i end r
  the_next =
      record {
        offset = ap (λ (x : ℕ). get_or rs x 0) (sym (add-zero (i * rule_width))) ∙ word 0;
        len = word 1;
        type = word 2;
        count = word 3;
        at = λ k e. at_rule g.done r rest ws (ap row_words (sym split) ∙ h.rows) k (omega (arith, e, g.ends));
      }

  whole_done : each F (resolve_table text ts) ≡ each F (resolve_table text g.done) ++ (on_rule F (resolve_rule text r) ∷ each F (resolve_table text rest))
  whole_done = ap (λ (x : Table Span). each F (resolve_table text x)) split ∙ ap (each F) (resolve_append text g.done (r ∷ rest)) ∙ each_append F (resolve_table text g.done) (resolve_table text (r ∷ rest))

  -- one rule further
  pub progress_next : {q : Place} {os' o' s' : List ℕ} (end' : ℕ) → end' ≡ end + size r.body → i < length os / rule_width → RuleKept q p i r.type (bytes_at text r.name) (F r.type (resolve text r.body)) os os' o o' s s' → Progress F ts text (i + 1) end' q os' o' s'
  progress_next {q} {os'} {o'} {s'} end' e m k =
      let D : Table Bytes = each F (resolve_table text g.done) in
      let l : length D ≡ i = each_length F (resolve_table text g.done) ∙ resolve_length text g.done ∙ g.count in
      record {
        done = g.done ++ (r ∷ []);
        rest = rest;
        whole = split ∙ sym (append_assoc g.done (r ∷ []) rest);
        count = length-append g.done (r ∷ []) ∙ omega (arith, g.count);
        ends = omega (arith, e, g.ends, count_append g.done (r ∷ []));
        front = subst (λ (x : Table Bytes). Front q x os' o' s') (sym (ap (each F) (resolve_append text g.done (r ∷ [])) ∙ each_append F (resolve_table text g.done) (resolve_table text (r ∷ [])))) (front_next D g.front k l m);
      }

  -- a rule that does not fit
  pub rule_fits : {os' : List ℕ} → TableFits (each F (resolve_table text ts)) os' o s → RuleFits p (bytes_at text r.name) (F r.type (resolve text r.body)) o s
  rule_fits {os'} f =
      let D : Table Bytes = each F (resolve_table text g.done) in
      let R : Table Bytes = each F (resolve_table text rest) in
      let x : Rule Bytes = on_rule F (resolve_rule text r) in
      let a : row_count (each F (resolve_table text ts)) ≡ row_count D + (size x.body + row_count R) = ap row_count whole_done ∙ count_append D (x ∷ R) in
      let b : length (table_text (each F (resolve_table text ts))) ≡ length (table_text D) + (length (rule_text x) + length (table_text R)) = ap (λ (t : Table Bytes). length (table_text t)) whole_done ∙ ap length (text_append D (x ∷ R)) ∙ length-append (table_text D) (table_text (x ∷ R)) ∙ ap (λ (n : ℕ). length (table_text D) + n) (length-append (rule_text x) (table_text R)) in
      record { rows = omega (arith, f.rows, a, g.front.rows); text = omega (arith, f.text, b, g.front.text) }

-- all rules are done
pub finished : {F : ℕ → E → E} {ts : Table Span} {text : Bytes} {i end : ℕ} {p : Place} {os o s rs : List ℕ} → rule_words ts ≡ rs → length rs / rule_width ≤ i → Progress F ts text i end p os o s → Front p (each F (resolve_table text ts)) os o s
finished {F} {ts} {text} {i} {end} {p} {os} {o} {s} {rs} h l g = go g.rest g.whole
  where
    go : (rest : Table Span) → ts ≡ g.done ++ rest → Front p (each F (resolve_table text ts)) os o s
    go [] w = subst (λ (x : Table Span). Front p (each F (resolve_table text x)) os o s) (sym (w ∙ append-nil g.done)) g.front
    go (r ∷ rest) w = absurd (omega (arith, l, ap length (sym h), rules_length ts, ap length w, length-append g.done (r ∷ rest), g.count))
