-- Literals and text: the bytes that a span names, and packed text. Assumes nothing.
use Rattle.std.specs.Prelude.{List, [], ◌∷◌, ◌++◌, map, ℕ, ◌+◌, length, take, drop}
use Rattle.grammar.specs.Basic.{Bytes}
use Rattle.grammar.specs.Tree.{Expr, E, lit, fixed, skip, un, bin}
use Rattle.grammar.specs.Rows.{Span}

abbrev pub bytes_at : Bytes → Span → Bytes
bytes_at text s = take s.1 (drop s.0 text)

-- the same tree over the bytes that its spans name
abbrev pub resolve : Bytes → Expr Span → E
resolve text (lit k s) = lit k (bytes_at text s)
resolve text (fixed f) = fixed f
resolve text (skip ss) = skip (map (bytes_at text) ss)
resolve text (un u e) = un u (resolve text e)
resolve text (bin b l r) = bin b (resolve text l) (resolve text r)

abbrev pub joined : List Bytes → Bytes
joined [] = []
joined (s ∷ ss) = s ++ joined ss

-- the packed text of a tree: "the literals of its rows in row order, no gaps"
abbrev pub text_of : E → Bytes
text_of (lit k s) = s
text_of (fixed f) = []
text_of (skip ss) = joined ss
text_of (un u e) = text_of e
text_of (bin b l r) = text_of l ++ text_of r

-- the spans of packed literals, the first at offset o
abbrev pub spans : ℕ → List Bytes → List Span
spans o [] = []
spans o (s ∷ ss) = (o, length s) ∷ spans (o + length s) ss

abbrev pub packed : ℕ → E → Expr Span
packed o (lit k s) = lit k (o, length s)
packed o (fixed f) = fixed f
packed o (skip ss) = skip (spans o ss)
packed o (un u e) = un u (packed o e)
packed o (bin b l r) = bin b (packed o l) (packed (o + length (text_of l)) r)
