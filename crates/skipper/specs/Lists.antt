-- What reading the lists of a whole table comes to: refusal 7, or marks that settle every loop of the rotated table. Assumes nothing.
use Rattle.std.specs.Prelude.{◌≡◌, Bool, true, false, ◌&&◌, ⊤, List, ℕ, Result, Ok, Err}
use Rattle.std.proofs.Math.Option.{Option, none, some}
use Rattle.grammar.specs.declared.Refusal.{Refusal}
use Rattle.grammar.specs.declared.Refusal.TheVariants.{Cycle}
use Rattle.grammar.specs.Basic.{Bytes, any}
use Rattle.grammar.specs.Tree.{E, any_node}
use Rattle.grammar.specs.Table.{Table}
use Rattle.grammar.specs.Lists.{Reading, read_in, loop_over, is_again}
use Rattle.grammar.specs.Steps.{is_atomic, rotate}
use Rattle.grammar.specs.Refusals.{meets}
use Rattle.skipper.specs.Memory.{Known, by_marks}
use Rattle.skipper.specs.Lends.{lists_of}
use Rattle.skipper.specs.Ways.{Targets}

-- a loop of a rotated tree whose list is not read to its end by `look`
abbrev pub unread_in : (Bytes → Reading) → Option E → Bool
unread_in look none = false
unread_in look (some x) = is_again (read_in look x)

unfoldable pub unread_at : (Bytes → Reading) → E → Bool
unfolding loop_over
unread_at look e = unread_in look (loop_over e)

-- the marks m settle every loop that step 2 meets in the table t
pub record Lists (t : Table Bytes) (m : List ℕ) : Type 0 where
  pub known : Known t (lists_of t m)
  pub settled : any (λ r. is_atomic r.type && any_node (unread_at (by_marks (lists_of t m))) (rotate r.body)) t ≡ false
  pub targets : Targets t m

pub record ReadAll (t : Table Bytes) (m : List ℕ) : Type 0 where
  pub never : meets t ≡ false
  pub lists : Lists t m

abbrev pub ListsAnswer : Result ⊤ Refusal → Table Bytes → List ℕ → Type 0
ListsAnswer (Ok v) t m = ReadAll t m
ListsAnswer (Err r) t m = (r ≡ Cycle) × (meets t ≡ true)
