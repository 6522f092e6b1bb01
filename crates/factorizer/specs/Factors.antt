-- Factor where it is known whether the rule is tight, that is Atomic or CompoundAtomic. Assumes nothing.
use Rattle.std.specs.Prelude.{Bool}
use Rattle.grammar.specs.Tree.{E}
use Rattle.grammar.specs.Steps.{top_down, or_same, children, factor?}

-- the factored tree
unfoldable pub factored : Bool → E → E
unfolding factor?
factored tight e = top_down (or_same (factor? tight)) e

-- the node as it is, with factored children: its own root is not tried
abbrev pub beneath : Bool → E → E
beneath tight e = children (factored tight) e
