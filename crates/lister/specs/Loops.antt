-- What list looks for in a Seq: a loop (a~b)* and after it a. Assumes nothing.
use Rattle.std.specs.Prelude.{◌≡◌}
use Rattle.grammar.specs.Tree.{E, Rep, Seq, un, bin}

pub record Loops (l r : E) : Type 0 where
  pub head : E
  pub tail : E
  pub loop : l ≡ un Rep (bin Seq head tail)
  pub again : head ≡ r
