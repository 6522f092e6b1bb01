-- Packed, then resolved, is the identity; what is packed has the same rows and its own text. Assumes nothing.
use mathlib.Core.Path.{◌≡◌, refl, sym, ap, ap₂, ◌∙◌}
use mathlib.Core.List.{List, [], ◌∷◌, ◌++◌, map, append_assoc, append-nil}
use mathlib.Core.Option.{some}
use Prim.Native.Nat.{ℕ, ◌+◌}
use lib.ListN.{length, take, drop}
use lib.Seq.{take-append_seam, drop-append_seam, drop-drop}
use native.Mathlib.Omega.{arith}
use Rattle.grammar.specs.Basic.{Bytes}
use Rattle.grammar.specs.Tree.{E, bin, fixed, lit, size, skip, un}
use Rattle.grammar.specs.Text.{bytes_at, joined, packed, resolve, spans, text_of}
use Rattle.grammar.specs.Table.{Table, packed_from, resolve_table, rule_text, table_text, words_of}
use Rattle.grammar.specs.Reading.{Kinds, read_table}
use Rattle.grammar.proofs.Words.{Allowed, AllowedTable, StrsAllowed, table_back}

-- the text has these bytes from offset o on
abbrev pub Has : Bytes → ℕ → Bytes → Bytes → Type 0
Has text o s rest = drop o text ≡ s ++ rest

pub span_back : (text : Bytes) (o : ℕ) (s rest : Bytes) → Has text o s rest → bytes_at text (o, length s) ≡ s
span_back text o s rest h = ap (take (length s)) h ∙ take-append_seam s rest

pub further : (text : Bytes) (o : ℕ) (s rest : Bytes) → Has text o s rest → drop (o + length s) text ≡ rest
further text o s rest h = sym (drop-drop (length s) o text) ∙ ap (drop (length s)) h ∙ drop-append_seam s rest

pub spans_back : (text : Bytes) (o : ℕ) (ss : List Bytes) (rest : Bytes) → Has text o (joined ss) rest → map (bytes_at text) (spans o ss) ≡ ss
spans_back text o [] rest h = refl
spans_back text o (s ∷ ss) rest h =
    let g : Has text o s (joined ss ++ rest) = h ∙ append_assoc s (joined ss) rest in
    ap₂ ◌∷◌ (span_back text o s (joined ss ++ rest) g) (spans_back text (o + length s) ss rest (further text o s (joined ss ++ rest) g))

pub packed_back : (text : Bytes) (o : ℕ) (e : E) (rest : Bytes) → Has text o (text_of e) rest → resolve text (packed o e) ≡ e
packed_back text o (lit k s) rest h = ap (lit k) (span_back text o s rest h)
packed_back text o (fixed f) rest h = refl
packed_back text o (skip ss) rest h = ap skip (spans_back text o ss rest h)
packed_back text o (un u e) rest h = ap (un u) (packed_back text o e rest h)
packed_back text o (bin b l r) rest h =
    let g : Has text o (text_of l) (text_of r ++ rest) = h ∙ append_assoc (text_of l) (text_of r) rest in
    ap₂ (bin b) (packed_back text o l (text_of r ++ rest) g) (packed_back text (o + length (text_of l)) r rest (further text o (text_of l) (text_of r ++ rest) g))

from_back : (text : Bytes) (o : ℕ) (t : Table Bytes) (rest : Bytes) → Has text o (table_text t) rest → resolve_table text (packed_from o t) ≡ t
from_back text o [] rest h = refl
from_back text o (r ∷ rs) rest h =
    ap₂ (λ (n : Bytes) (e : E). record { name = n; type = r.type; body = e } ∷ resolve_table text (packed_from (o + length (rule_text r)) rs)) (span_back text o r.name _ a) (packed_back text (o + length r.name) r.body _ b)
    ∙ ap (λ (q : Table Bytes). r ∷ q) (from_back text (o + length (rule_text r)) rs rest c)
  where
    w : Has text o (rule_text r) (table_text rs ++ rest)
    w = h ∙ append_assoc (rule_text r) (table_text rs) rest

    a : Has text o r.name (text_of r.body ++ (table_text rs ++ rest))
    a = w ∙ append_assoc r.name (text_of r.body) (table_text rs ++ rest)

    b : Has text (o + length r.name) (text_of r.body) (table_text rs ++ rest)
    b = further text o r.name _ a

    c : Has text (o + length (rule_text r)) (table_text rs) rest
    c = further text o (rule_text r) _ w

-- PACKED, THEN RESOLVED: a table's own text gives it back
pub table_resolved : (t : Table Bytes) → resolve_table (table_text t) (packed_from 0 t) ≡ t
table_resolved t = from_back (table_text t) 0 t [] (sym (append-nil (table_text t)))

-- packing changes no size
pub spans_length : (o : ℕ) (ss : List Bytes) → length (spans o ss) ≡ length ss
spans_length o [] = refl
spans_length o (s ∷ ss) = omega (arith, spans_length (o + length s) ss)

pub packed_size : (o : ℕ) (e : E) → size (packed o e) ≡ size e
packed_size o (lit k s) = refl
packed_size o (fixed f) = refl
packed_size o (skip ss) = omega (arith, spans_length o ss)
packed_size o (un u e) = omega (arith, packed_size o e)
packed_size o (bin b l r) = omega (arith, packed_size o l, packed_size (o + length (text_of l)) r)

-- nor the kinds of its rows
strs_allowed : (ok : Kinds) (o : ℕ) (ss : List Bytes) → StrsAllowed ok ss → StrsAllowed ok (spans o ss)
strs_allowed ok o [] p = tt
strs_allowed ok o (s ∷ ss) p = (p.0, strs_allowed ok (o + length s) ss p.1)

pub packed_allowed : (ok : Kinds) (o : ℕ) (e : E) → Allowed ok e → Allowed ok (packed o e)
packed_allowed ok o (lit k s) p = p
packed_allowed ok o (fixed f) p = p
packed_allowed ok o (skip ss) p = (strs_allowed ok o ss p.0, p.1)
packed_allowed ok o (un u e) p = (packed_allowed ok o e p.0, p.1)
packed_allowed ok o (bin b l r) p = (packed_allowed ok o l p.0, packed_allowed ok (o + length (text_of l)) r p.1, p.2)

pub packed_from_allowed : (ok : Kinds) (o : ℕ) (t : Table Bytes) → AllowedTable ok t → AllowedTable ok (packed_from o t)
packed_from_allowed ok o [] p = tt
packed_from_allowed ok o (r ∷ rs) p = (p.0, packed_allowed ok (o + length r.name) r.body p.1, packed_from_allowed ok (o + length (rule_text r)) rs p.2)

-- the words of an answer, read back, are its packed table
pub words_back : (ok : Kinds) (t : Table Bytes) → AllowedTable ok t → read_table ok (words_of t).rules (words_of t).rows ≡ some (packed_from 0 t)
words_back ok t p = table_back ok (packed_from 0 t) (packed_from_allowed ok 0 t p)
