-- Loops (!e ~ ANY)* of a table, and what reading their lists comes to. Assumes nothing.
use Rattle.std.specs.Prelude.{◌≡◌, Bool, true, false, ◌&&◌, List, [], ℕ, ◌+◌, ◌-◌, ⊤, None, Option as Option', Some, Result, Ok, Err}
use Rattle.std.proofs.Math.Option.{Option, none, some}
use Rattle.grammar.specs.declared.Refusal.{Refusal}
use Rattle.grammar.specs.declared.Refusal.TheVariants.{Cycle}
use Rattle.grammar.specs.Basic.{Bytes}
use Rattle.grammar.specs.Tree.{Expr, E, size, any_node}
use Rattle.grammar.specs.Rows.{Span}
use Rattle.grammar.specs.Text.{resolve}
use Rattle.grammar.specs.Table.{Table, Rule, resolve_table}
use Rattle.grammar.specs.Lists.{Reading, read_in, loop_over, is_again}
use Rattle.grammar.specs.Steps.{is_atomic, rotate}
use Rattle.rows.specs.Rows.{At}
use Rattle.skipper.specs.Memory.{Marks, Known, Grows, name_list, by_marks}
use Rattle.skipper.specs.Lends.{marks_of}

-- the expression x is what stands at row i
pub record OverAt (i : ℕ) (w : List ℕ) (s : Bytes) (x : Option E) : Type 0 where
  pub tree : Expr Span
  pub at : At w i tree
  pub is : x ≡ some (resolve s tree)

abbrev pub LoopAnswer : Option' ℕ → List ℕ → Bytes → Option E → Type 0
LoopAnswer (Some i) w s x = OverAt i w s x
LoopAnswer None w s x = x ≡ none

-- the rows from `from` to `end` are one tree
pub record TreeRows (w : List ℕ) (from end : ℕ) : Type 0 where
  pub tree : Expr Span
  pub at : At w (end - 1) tree
  pub rows : from + size tree ≡ end

-- a loop's list, read by `look`, comes to an open rule; the loop's own expression counts as rotated
abbrev pub open_in : (Bytes → Reading) → Option E → Bool
open_in look none = false
open_in look (some x) = is_again (read_in look (rotate x))

unfoldable pub open_at : (Bytes → Reading) → E → Bool
unfolding loop_over rotate
open_at look e = open_in look (loop_over e)

-- such a loop in a rule: "Atomic only"
abbrev pub rule_open : (Bytes → Reading) → Rule Bytes → Bool
rule_open look r = is_atomic r.type && any_node (open_at look) r.body

-- no rule is being read
abbrev pub Idle : Marks → Type 0
Idle st = (z : Bytes) → st z ≡ 1 → ⊥

-- what p asks is settled by the marks, and is not so
pub record Settled (t : Table Bytes) (st st' : Marks) (p : (Bytes → Reading) → Bool) : Type 0 where
  pub known : Known t st'
  pub grows : Grows st st'
  pub no : p (by_marks st') ≡ false

-- the answer of a reading of loops, of the table t with the text s, which changed the marks m to m': refusal 7 exactly when one of them
-- comes to an open rule, which p says
pub record LoopsOf (s : Bytes) (t : Table Span) (m m' : List ℕ) (a : Result ⊤ Refusal) (p : (Bytes → Reading) → Bool) : Type 0 where
  pub cycle : (r : Refusal) → a ≡ Err r → r ≡ Cycle
  pub met : Known (resolve_table s t) (marks_of (resolve_table s t) m) → Idle (marks_of (resolve_table s t) m) → a ≡ Err Cycle → p (name_list (resolve_table s t) []) ≡ true
  pub settled : Known (resolve_table s t) (marks_of (resolve_table s t) m) → Idle (marks_of (resolve_table s t) m) → a ≡ Ok (record {}) → Settled (resolve_table s t) (marks_of (resolve_table s t) m) (marks_of (resolve_table s t) m') p
