-- The conditions of the eight refusals, each on its own (01, "The eight refusals"). Refusal 3 is that no table can be read (Reading). Assumes nothing.
use Rattle.std.specs.Prelude.{Bool, true, false, ◌&&◌, ◌||◌, not, List, [], ◌∷◌, map, ℕ, ◌+◌, ◌*◌, ◌%◌, length, eqb, ltb}
use Rattle.std.proofs.Math.Option.{Option, none, some}
use Rattle.grammar.specs.Basic.{Bytes, any, same_bytes, member}
use Rattle.grammar.specs.Numbers.{rule_width, row_width, mark_width, last_ascii}
use Rattle.grammar.specs.Tree.{Fixed, Range, PeekSlice, PeekFrom, Un, PosPred, NegPred, Opt, Rep, RepOnce, Push, RestoreOnErr, RepExact, RepMin, RepMax, RepMinMax, Expr, E, lit, fixed, skip, un, bin, lits, any_node}
use Rattle.grammar.specs.Rows.{Span}
use Rattle.grammar.specs.Text.{bytes_at}
use Rattle.grammar.specs.Table.{Rule, Table, Words, row_count, table_text}
use Rattle.grammar.specs.Lists.{ANY, loop_over, skip_list, is_again}
use Rattle.grammar.specs.Stack.{stack_names}
use Rattle.grammar.specs.Steps.{is_atomic, rotate}

-- "full size is 256 rules (1,024 words), 4,096 rows (16,384 words), 65,536 bytes of text"
abbrev pub max_rules : ℕ
max_rules = 256

abbrev pub max_rows : ℕ
max_rows = 4096

abbrev pub max_text : ℕ
max_text = 65536

-- in words, and the words of work for the rules
abbrev pub full_rules : ℕ
full_rules = rule_width * max_rules

abbrev pub full_rows : ℕ
full_rows = row_width * max_rows

abbrev pub full_marks : ℕ
full_marks = mark_width * max_rules

-- 1: "an output or work area is below full size"
abbrev pub short : Words → Bool
short a = ltb (length a.rules) full_rules || (ltb (length a.rows) full_rows || ltb (length a.text) max_text)

abbrev pub short_marks : List ℕ → Bool
short_marks marks = ltb (length marks) full_marks

-- 2: "a word count isn't a multiple of four, or the input is above full size"
abbrev pub bad_counts : Words → Bool
bad_counts w =
    not (eqb (length w.rules % rule_width) 0)
    || (not (eqb (length w.rows % row_width) 0)
    || (ltb full_rules (length w.rules) || (ltb full_rows (length w.rows) || ltb max_text (length w.text))))

-- 4: "offset plus length, as whole numbers, is above the text's length, or with a byte above 127; a Range word above 127"
abbrev pub bad_span : Bytes → Span → Bool
bad_span text s = ltb (length text) (s.0 + s.1) || any (ltb last_ascii) (bytes_at text s)

abbrev pub bad_fixed : Fixed → Bool
bad_fixed (Range a b) = ltb last_ascii a || ltb last_ascii b
bad_fixed (PeekFrom a) = false
bad_fixed (PeekSlice a b) = false

abbrev pub bad_range : {L : Type 0} → Expr L → Bool
bad_range (lit k s) = false
bad_range (fixed f) = bad_fixed f
bad_range (skip ss) = false
bad_range (un u e) = false
bad_range (bin b l r) = false

abbrev pub bad_rule : Bytes → Rule Span → Bool
bad_rule text r = bad_span text r.name || (any (bad_span text) (lits r.body) || any_node bad_range r.body)

unfoldable pub bad_text : Bytes → Table Span → Bool
bad_text text t = any (bad_rule text) t

-- 5: "two rules with equal names, or a rule named ANY, DROP or POP"
abbrev pub reserved : List Bytes
reserved = ANY ∷ stack_names

abbrev pub repeated : List Bytes → Bool
repeated [] = false
repeated (x ∷ xs) = member x xs || repeated xs

abbrev pub names : Table Bytes → List Bytes
names t = map (λ r. r.name) t

unfoldable pub bad_names : Table Bytes → Bool
unfolding same_bytes
bad_names t = repeated (names t) || any (λ x. member x reserved) (names t)

-- 6: "RepExact 0, RepMax 0, or RepMinMax with max 0"
abbrev pub zero_un : Un → Bool
zero_un PosPred = false
zero_un NegPred = false
zero_un Opt = false
zero_un Rep = false
zero_un RepOnce = false
zero_un Push = false
zero_un RestoreOnErr = false
zero_un (RepExact n) = eqb n 0
zero_un (RepMin n) = false
zero_un (RepMax n) = eqb n 0
zero_un (RepMinMax m n) = eqb n 0

abbrev pub zero_count : {L : Type 0} → Expr L → Bool
zero_count (lit k s) = false
zero_count (fixed f) = false
zero_count (skip ss) = false
zero_count (un u e) = zero_un u
zero_count (bin b l r) = false

unfoldable pub zero_counts : {L : Type 0} → Table L → Bool
zero_counts t = any (λ r. any_node zero_count r.body) t

-- 7: "a skip list meets a rule that is already being read". The loops are those of Atomic rules, rotated, as step 2 meets them
abbrev pub meets_in : Table Bytes → Option E → Bool
meets_in given none = false
meets_in given (some x) = is_again (skip_list given x)

unfoldable pub meets_at : Table Bytes → E → Bool
unfolding loop_over skip_list
meets_at given e = meets_in given (loop_over e)

unfoldable pub meets : Table Bytes → Bool
unfolding meets_at rotate
meets t = any (λ r. is_atomic r.type && any_node (meets_at t) (rotate r.body)) t

-- 8: "packed text or rows above full size"
unfoldable pub too_large : Table Bytes → Bool
too_large t = ltb max_rows (row_count t) || ltb max_text (length (table_text t))
