-- A tree over spans as its row words: "rows stand in postfix order: children first, left before right, the rule's root last". Assumes nothing.
use Rattle.std.specs.Prelude.{List, [], ◌∷◌, ◌++◌, ℕ, ◌+◌, length}
use Rattle.grammar.specs.Tree.{Head, lit_kind, fixed_head, un_head, bin_kind, Expr, lit, fixed, skip, un, bin, size}
use Rattle.grammar.specs.Numbers.{k_str, k_skip}

-- offset and length of a literal in a text
abbrev pub Span : Type 0
Span = ℕ × ℕ

-- "a row is four words: kind, x, y, size"
abbrev pub row : Head → ℕ → List ℕ
row h n = h.0 ∷ h.1 ∷ h.2 ∷ n ∷ []

-- the Str rows under a Skip
abbrev pub str_rows : List Span → List ℕ
str_rows [] = []
str_rows (s ∷ ss) = row (k_str, s.0, s.1) 1 ++ str_rows ss

abbrev pub flat : Expr Span → List ℕ
flat (lit k s) = row (lit_kind k, s.0, s.1) 1
flat (fixed f) = row (fixed_head f) 1
flat (skip ss) = str_rows ss ++ row (k_skip, length ss, 0) (length ss + 1)
flat (un u e) = flat e ++ row (un_head u) (size e + 1)
flat (bin b l r) = flat l ++ (flat r ++ row (bin_kind b, 0, 0) (size l + size r + 1))
