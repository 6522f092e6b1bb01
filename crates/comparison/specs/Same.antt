-- When two tables are the same up to the order of their rules. Assumes nothing.
use Rattle.std.specs.Prelude.{List, ◌∷◌}
use Rattle.grammar.specs.Basic.{Bytes}
use Rattle.grammar.specs.Table.{Rule, Table}

-- a rule stands in a table
pub data Among (r : Rule Bytes) : Table Bytes → Type 0 where
  here : {t : Table Bytes} → Among r (r ∷ t)
  there : {s : Rule Bytes} {t : Table Bytes} → Among r t → Among r (s ∷ t)

-- "the same rules up to order (name, type, tree over bytes)": each rule of one stands in the other. Names in a table are all different (refusal 5)
pub record SameRules (left right : Table Bytes) : Type 0 where
  pub found : (r : Rule Bytes) → Among r left → Among r right
  pub back : (r : Rule Bytes) → Among r right → Among r left
