-- Arbitrary words read back into a table: none is refusal 3. Which kinds are allowed is a parameter. Assumes nothing.
use Rattle.std.specs.Prelude.{Bool, true, false, ◌&&◌, cond, List, [], ◌∷◌, ℕ, zero, suc, ◌*◌, take, drop, eqb, leb}
use Rattle.std.proofs.Math.Option.{Option, none, some}
use Rattle.grammar.specs.Basic.{◌>>=◌, test, ◌<|>◌, first_with}
use Rattle.grammar.specs.Numbers.{row_width, k_skip, k_push}
use Rattle.grammar.specs.Tree.{Head, Lit, Str, Insens, Ident, Fixed, Range, PeekSlice, PeekFrom, Un, PosPred, NegPred, Opt, Rep, RepOnce, Push, RestoreOnErr, RepExact, RepMin, RepMax, RepMinMax, Bin, Seq, Choice, Expr, lit, fixed, skip, un, bin, lit_kind, fixed_head, un_head, bin_kind, size, as_str}
use Rattle.grammar.specs.Rows.{Span}
use Rattle.grammar.specs.Table.{Rule, Table, NonAtomic}

-- A head is read as the one of the candidates that has it, so unused words are 0

abbrev pub same_head : Head → Head → Bool
same_head g h = eqb g.0 h.0 && (eqb g.1 h.1 && eqb g.2 h.2)

abbrev pub lit_of : Head → Option Lit
lit_of h = first_with (λ k. eqb (lit_kind k) h.0) (Str ∷ Insens ∷ Ident ∷ [])

abbrev pub all_fixed : ℕ → ℕ → List Fixed
all_fixed x y = Range x y ∷ PeekFrom x ∷ PeekSlice x y ∷ []

abbrev pub fixed_of : Head → Option Fixed
fixed_of h = first_with (λ f. same_head (fixed_head f) h) (all_fixed h.1 h.2)

abbrev pub all_un : ℕ → ℕ → List Un
all_un x y =
    PosPred ∷ NegPred ∷ Opt ∷ Rep ∷ RepOnce ∷ RepExact x ∷ RepMin x ∷ RepMax x ∷ RepMinMax x y ∷ Push ∷ RestoreOnErr ∷ []

abbrev pub un_of : Head → Option Un
un_of h = first_with (λ u. same_head (un_head u) h) (all_un h.1 h.2)

abbrev pub bin_of : Head → Option Bin
bin_of h = first_with (λ b. same_head (bin_kind b, 0, 0) h) (Seq ∷ Choice ∷ [])

-- the trees that the rows so far leave, the last on top
abbrev pub Stack : Type 0
Stack = List (Expr Span)

abbrev pub pop_un : Un → Stack → Option Stack
pop_un u [] = none
pop_un u (e ∷ st) = some (un u e ∷ st)

abbrev pub pop_bin : Bin → Stack → Option Stack
pop_bin b [] = none
pop_bin b (r ∷ []) = none
pop_bin b (r ∷ l ∷ st) = some (bin b l r ∷ st)

-- n strings under a Skip: `ss` are those already taken, which stand after the rest
abbrev pub pop_strs : ℕ → List Span → Stack → Option Stack
pop_strs zero ss st = some (skip ss ∷ st)
pop_strs (suc n) ss [] = none
pop_strs (suc n) ss (e ∷ st) = as_str e >>= λ s. pop_strs n (s ∷ ss) st

-- one row: the tree that it makes of the trees on top
abbrev pub build : Head → Stack → Option Stack
build h st =
    (lit_of h >>= λ k. some (lit k (h.1, h.2) ∷ st))
    <|> (fixed_of h >>= λ f. some (fixed f ∷ st))
    <|> (un_of h >>= λ u. pop_un u st)
    <|> (bin_of h >>= λ b. pop_bin b st)
    <|> (test (same_head (k_skip, h.1, 0) h) >>= λ _. pop_strs h.1 [] st)

-- the size word is the size of the tree that the row ends
abbrev pub size_is : ℕ → Stack → Option Stack
size_is n [] = none
size_is n (e ∷ st) = cond (eqb (size e) n) (some (e ∷ st)) none

-- which kinds are allowed
abbrev pub Kinds : Type 0
Kinds = ℕ → Bool

abbrev pub read_row : Kinds → Head → ℕ → Stack → Option Stack
read_row ok h n st = test (ok h.0) >>= λ _. build h st >>= size_is n

unfoldable pub read_rows : Kinds → List ℕ → Stack → Option Stack
read_rows ok [] st = some st
read_rows ok (k ∷ []) st = none
read_rows ok (k ∷ x ∷ []) st = none
read_rows ok (k ∷ x ∷ y ∷ []) st = none
read_rows ok (k ∷ x ∷ y ∷ n ∷ ws) st = read_row ok (k, x, y) n st >>= read_rows ok ws

-- "a rule whose rows aren't one tree"
abbrev pub one_tree : Stack → Option (Expr Span)
one_tree [] = none
one_tree (e ∷ []) = some e
one_tree (e ∷ f ∷ st) = none

unfoldable pub read_tree : Kinds → List ℕ → Option (Expr Span)
unfolding read_rows
read_tree ok ws = read_rows ok ws [] >>= one_tree

abbrev pub no_words : List ℕ → Bool
no_words [] = true
no_words (w ∷ ws) = false

-- a rule of four words, its tree, and the rules after it
abbrev pub with_rule : Span → ℕ → ℕ → Option (Expr Span) → Option (Table Span) → Option (Table Span)
with_rule name type n tree rules = do
  _ ← test (leb type NonAtomic)
  e ← tree
  _ ← test (eqb (size e) n)
  rs ← rules
  some (record { name = name; type = type; body = e } ∷ rs)

-- the table of rule words and row words, which the rules use up
unfoldable pub read_table : Kinds → List ℕ → List ℕ → Option (Table Span)
unfolding read_tree
read_table ok [] rows = test (no_words rows) >>= λ _. some []
read_table ok (o ∷ []) rows = none
read_table ok (o ∷ l ∷ []) rows = none
read_table ok (o ∷ l ∷ y ∷ []) rows = none
read_table ok (o ∷ l ∷ y ∷ n ∷ rules) rows =
    with_rule (o, l) y n (read_tree ok (take (row_width * n) rows)) (read_table ok rules (drop (row_width * n) rows))

-- of an input: "a kind above 18" is refused
abbrev pub input_kinds : Kinds
input_kinds k = leb k k_push
