-- The literal of a row, as the caller sees it, and where a rule's rows begin. Assumes nothing.
use Rattle.std.specs.Prelude.{◌≡◌, List, ℕ, ◌+◌, ◌^◌, ◌≤◌, ◌<◌, Option, None, Some}
use Rattle.names.specs.Names.{rows_before}
use Rattle.comparison.specs.Shown as literal
use Rattle.comparer.specs.declared.Literal.{Literal}

abbrev pub seen_lit : Option Literal → literal.Shown
seen_lit None = literal.nothing
seen_lit (Some r) = record { found = 1; offset = r.offset; length' = r.length }

-- r is the first row of rule i, where it is among the first `most` or just after them; else r lies past them too
pub record Begins (rules : List ℕ) (i most r : ℕ) : Type 0 where
  pub there : rows_before rules i ≤ most → r ≡ rows_before rules i
  pub past : most < rows_before rules i → most < r
  pub small : r ≤ most + 2 ^ 32
