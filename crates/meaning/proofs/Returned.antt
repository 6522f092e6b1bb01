-- The words of an answer, as many as its counts say, stand for its table. Assumes nothing.
use mathlib.Core.Path.{◌≡◌, refl, ap, ap₂, ◌∙◌}
use mathlib.Core.List.{List, [], ◌∷◌}
use Prim.Native.Nat.{ℕ, ◌+◌, ◌*◌}
use native.Mathlib.Omega.{arith}
use lib.ListN.{length, take, drop, length-append}
use lib.Seq.{take_at}
use Rattle.grammar.specs.Numbers.{rule_width, row_width}
use Rattle.grammar.specs.Basic.{Bytes}
use Rattle.grammar.specs.Tree.{E, lit, fixed, skip, un, bin}
use Rattle.grammar.specs.Rows.{Span, flat}
use Rattle.grammar.specs.Text.{resolve}
use Rattle.grammar.specs.Table.{Table, Words, rule_words, row_words, row_count, table_text, rule_text, packed_rule, packed_from, words_of, resolve_table}
use Rattle.grammar.specs.Reading.{read_table, input_kinds}
use Rattle.grammar.specs.Steps.{each}
use Rattle.grammar.specs.Optimize.{answer, finished, over}
use Rattle.grammar.proofs.Words.{StrsAllowed, Allowed, AllowedTable, flat_length}
use Rattle.grammar.proofs.Packing.{packed_size, table_resolved, words_back}
use Rattle.meaning.specs.Demand3.{StandFor, all_kinds, returned}

rules_length : (o : ℕ) (t : Table Bytes) → length (rule_words (packed_from o t)) ≡ rule_width * length t
rules_length o [] = refl
rules_length o (r ∷ t) = omega (arith, rules_length (o + length (rule_text r)) t)

rows_length : (o : ℕ) (t : Table Bytes) → length (row_words (packed_from o t)) ≡ row_width * row_count t
rows_length o [] = refl
rows_length o (r ∷ t) =
    length-append (flat (packed_rule o r).body) (row_words (packed_from (o + length (rule_text r)) t))
    ∙ omega (arith, flat_length (packed_rule o r).body, packed_size (o + length r.name) r.body, rows_length (o + length (rule_text r)) t)

front : (n : ℕ) (new old : List ℕ) → length new ≡ n → take n (over new old) ≡ new
front n new old h = take_at new (drop (length new) old) n h

-- every tree is allowed
strs_allowed : (ss : List Bytes) → StrsAllowed all_kinds ss
strs_allowed [] = tt
strs_allowed (s ∷ ss) = (refl, strs_allowed ss)

allowed : (e : E) → Allowed all_kinds e
allowed (lit k w) = refl
allowed (fixed f) = refl
allowed (skip ss) = (strs_allowed ss, refl)
allowed (un u e) = (allowed e, refl)
allowed (bin b l r) = (allowed l, allowed r, refl)

pub given_allowed : (text : Bytes) (t : Table Span) → AllowedTable input_kinds t → AllowedTable all_kinds (resolve_table text t)
given_allowed text [] a = tt
given_allowed text (r ∷ t) a = (a.0, allowed (resolve text r.body), given_allowed text t a.2)

pub each_allowed : (f : ℕ → E → E) (t : Table Bytes) → AllowedTable all_kinds t → AllowedTable all_kinds (each f t)
each_allowed f [] a = tt
each_allowed f (r ∷ t) a = (a.0, allowed (f r.type r.body), each_allowed f t a.2)

pub words_stand : (out : Words) (report : List ℕ) (t : Table Bytes) → AllowedTable all_kinds t → StandFor all_kinds (returned (answer out (finished report t))) t
words_stand out report t a =
    let w : Words = words_of t in
    record {
      spans = packed_from 0 t;
      read = ap₂ (read_table all_kinds) (front (rule_width * length t) w.rules out.rules (rules_length 0 t)) (front (row_width * row_count t) w.rows out.rows (rows_length 0 t)) ∙ words_back all_kinds t a;
      means = ap (λ (text : Bytes). resolve_table text (packed_from 0 t)) (front (length (table_text t)) w.text out.text refl) ∙ table_resolved t;
    }
