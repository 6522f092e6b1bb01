-- "Why did this loop stay a loop?" (02, No. 2): the answer for a table and a row, and the whole answer for any words. Assumes nothing.
use Rattle.std.specs.Prelude.{Bool, true, false, ◌||◌, not, cond, List, [], ◌∷◌, ℕ, suc, ◌+◌, ◌-◌, eqb, ltb, length, get_or}
use Rattle.std.proofs.Math.Option.{Option, none, some}
use Rattle.grammar.specs.Basic.{Bytes, same_bytes}
use Rattle.grammar.specs.Numbers.{refused_area}
use Rattle.grammar.specs.Tree.{Lit, Str, E, lit, fixed, skip, un, bin, size, as_rep, as_seq, as_neg_pred, as_ident, same}
use Rattle.grammar.specs.Table.{Table, Words}
use Rattle.grammar.specs.Reading.{read_table}
use Rattle.grammar.specs.Lists.{ANY}
use Rattle.grammar.specs.Steps.{rotate, is_atomic}
use Rattle.grammar.specs.Refusals.{short_marks}
use Rattle.grammar.specs.Optimize.{over}
use Rattle.refusals.specs.Check.{lowest, table_of}
use Rattle.explanation.specs.Ends.{Ends, reads, unknown, other, again, ends_in, ends_name}

-- the answers, in the order in which they are asked
pub data Answer : Type 0 where
  not_rep regroup not_atomic not_seq not_neg_pred not_any : Answer
  ends : Ends → Answer

-- ---- the row

-- the expression whose root is row k of a tree, counted from its first row. The rows of a Skip's strings are Str
abbrev pub node_at : E → ℕ → Option E
node_at (lit l s) k = cond (eqb k 0) (some (lit l s)) none
node_at (fixed f) k = cond (eqb k 0) (some (fixed f)) none
node_at (skip ss) k = cond (ltb k (length ss)) (some (lit Str (get_or ss k []))) (cond (eqb k (length ss)) (some (skip ss)) none)
node_at (un u e) k = cond (ltb k (size e)) (node_at e k) (cond (eqb k (size e)) (some (un u e)) none)
node_at (bin b l r) k =
    cond (ltb k (size l)) (node_at l k)
    (cond (ltb k (size l + size r)) (node_at r (k - size l)) (cond (eqb k (size l + size r)) (some (bin b l r)) none))

-- a row of the table: the number and the type of its rule, and its expression; the first rule has number i
pub record Node : Type 0 where
  pub rule : ℕ
  pub type : ℕ
  pub tree : E

abbrev pub in_rule : (rule type : ℕ) → Option E → Option Node
in_rule i type none = none
in_rule i type (some e) = some (record { rule = i; type = type; tree = e })

abbrev pub node_from : ℕ → Table Bytes → ℕ → Option Node
node_from i [] k = none
node_from i (r ∷ rs) k = cond (ltb k (size r.body)) (in_rule i r.type (node_at r.body k)) (node_from (suc i) rs (k - size r.body))

-- ---- the reason

-- "Rep of Seq of NegPred e and Ident ANY", part by part; e's root stands four rows before the Rep
abbrev pub of_right : Option Bytes → Answer → Answer
of_right none a = not_any
of_right (some y) a = cond (same_bytes y ANY) a not_any

abbrev pub of_left : Option E → Option Bytes → (E → Ends) → Answer
of_left none y read = not_neg_pred
of_left (some x) y read = of_right y (ends (read x))

abbrev pub of_seq : Option (E × E) → (E → Ends) → Answer
of_seq none read = not_seq
of_seq (some (l, r)) read = of_left (as_neg_pred l) (as_ident r) read

-- "not a Rep", then "regroup first" where step 1 would change the Rep's subtree, then "rule not Atomic", and on as step 2 reads
unfoldable pub of_rep : Table Bytes → (row : ℕ) → Node → Option E → Answer
unfolding same rotate same_bytes
of_rep t row n none = not_rep
of_rep t row n (some s) =
    cond (not (same (rotate n.tree) n.tree)) regroup
    (cond (not (is_atomic n.type)) not_atomic (of_seq (as_seq s) (ends_in (ends_name (suc (length t)) t []) n.rule (row - 4))))

abbrev pub of_node : Table Bytes → (row : ℕ) → Option Node → Answer
of_node t row none = not_rep
of_node t row (some n) = of_rep t row n (as_rep n.tree)

-- "also past the table"
unfoldable pub explain : Table Bytes → ℕ → Answer
unfolding of_rep
explain t row = of_node t row (node_from 0 t row)

-- ---- numbers

-- What the caller gets: number, answer, the rule and the row at which the reading ended, the rule met again, how many are being read; and the list afterwards
pub record Explained : Type 0 where
  pub number : ℕ
  pub answer : ℕ
  pub rule : ℕ
  pub at : ℕ
  pub met : ℕ
  pub open' : ℕ
  pub list : List ℕ

-- what an answer does not use is 0, and past the rules being read the list stays as it was
abbrev pub told : (answer rule at met : ℕ) (path list : List ℕ) → Explained
told a i at j o list = record { number = 0; answer = a; rule = i; at = at; met = j; open' = length o; list = over o list }

abbrev pub plain : (answer : ℕ) (list : List ℕ) → Explained
plain a list = told a 0 0 0 [] list

abbrev pub ends_told : Ends → List ℕ → Explained
ends_told reads list = plain 0 list
ends_told (unknown i at) list = told 7 i at 0 [] list
ends_told (other i at) list = told 8 i at 0 [] list
ends_told (again i at j o) list = told 9 i at j o list

abbrev pub answer_told : Answer → List ℕ → Explained
answer_told not_rep list = plain 1 list
answer_told regroup list = plain 2 list
answer_told not_atomic list = plain 3 list
answer_told not_seq list = plain 4 list
answer_told not_neg_pred list = plain 5 list
answer_told not_any list = plain 6 list
answer_told (ends e) list = ends_told e list

abbrev pub refused : ℕ → List ℕ → Explained
refused n list = record { number = n; answer = 0; rule = 0; at = 0; met = 0; open' = 0; list = list }

-- "a lent list of 256 words (fewer: refusal 1)", and marks below full size; "Refusals 1 to 6 come first"
abbrev pub full_list : ℕ
full_list = 256

unfoldable pub explain_words : Words → (row : ℕ) (list marks : List ℕ) → Explained
unfolding explain lowest read_table
explain_words w row list marks =
    cond (ltb (length list) full_list || short_marks marks) (refused refused_area list)
    (cond (not (eqb (lowest w) 0)) (refused (lowest w) list) (answer_told (explain (table_of w) row) list))
