-- Skip lists (01, step 2): the list of an expression, none, or that the reading comes to a rule whose reading has not ended. Assumes nothing.
use Rattle.std.specs.Prelude.{Bool, true, false, List, [], ◌∷◌, ◌++◌, ℕ, zero, suc, length}
use Rattle.std.proofs.Math.Option.{Option, none, some}
use Rattle.grammar.specs.Basic.{Bytes, ◌>>=◌, test, same_bytes, member}
use Rattle.grammar.specs.Tree.{Lit, Str, Insens, Ident, Seq, Choice, E, lit, fixed, skip, un, bin, as_ident, as_neg_pred, as_rep, as_seq}
use Rattle.grammar.specs.Table.{Table, find}

pub data Reading : Type 0 where
  nothing : Reading
  strings : List Bytes → Reading
  again : Reading

-- this list, then that one: "read left to right; the first none ends it", and so does the first again
abbrev pub and_then : Reading → Reading → Reading
and_then nothing q = nothing
and_then again q = again
and_then (strings ss) nothing = nothing
and_then (strings ss) again = again
and_then (strings ss) (strings ts) = strings (ss ++ ts)

-- "Str s: the list s. Ident: the list of that rule's expression"; `look` reads a name
abbrev pub read_lit : (Bytes → Reading) → Lit → Bytes → Reading
read_lit look Str s = strings (s ∷ [])
read_lit look Insens s = nothing
read_lit look Ident x = look x

-- the left side of a Choice "must be Str or Ident"
abbrev pub read_left : (Bytes → Reading) → E → Reading
read_left look (lit k s) = read_lit look k s
read_left look (fixed f) = nothing
read_left look (skip ss) = nothing
read_left look (un u e) = nothing
read_left look (bin b l r) = nothing

-- "Choice: its list, then right's list. All else: none"
abbrev pub read_in : (Bytes → Reading) → E → Reading
read_in look (lit k s) = read_lit look k s
read_in look (fixed f) = nothing
read_in look (skip ss) = nothing
read_in look (un u e) = nothing
read_in look (bin Seq l r) = nothing
read_in look (bin Choice l r) = and_then (read_left look l) (read_in look r)

-- the list of a name: of no rule; of a rule that is being read; of any other
abbrev pub read_found : Option E → Bool → (E → Reading) → Reading
read_found none opened read = nothing
read_found (some e) true read = again
read_found (some e) false read = read e

-- `opened` are the rules that are being read. Each look adds one, so n, one more than the rules, is never used up (Readings, `read_name_enough`)
abbrev pub read_name : ℕ → Table Bytes → List Bytes → Bytes → Reading
read_name zero t opened x = again
read_name (suc n) t opened x = read_found (find t x) (member x opened) (read_in (read_name n t (x ∷ opened)))

unfoldable pub skip_list : Table Bytes → E → Reading
unfolding same_bytes
skip_list given e = read_in (read_name (suc (length given)) given []) e

abbrev pub ANY : Bytes
ANY = 65 ∷ 78 ∷ 89 ∷ []

-- e of (!e ~ ANY)*: "Rep of Seq of NegPred e and Ident ANY"
unfoldable pub loop_over : E → Option E
unfolding same_bytes
loop_over e = do
  s ← as_rep e
  (l, r) ← as_seq s
  x ← as_neg_pred l
  y ← as_ident r
  _ ← test (same_bytes y ANY)
  some x

abbrev pub as_strings : Reading → Option (List Bytes)
as_strings nothing = none
as_strings (strings ss) = some ss
as_strings again = none

abbrev pub is_again : Reading → Bool
is_again nothing = false
is_again (strings ss) = false
is_again again = true
