-- What comparing answers by value, and the list afterwards, as a host sees them. Assumes nothing.
use Rattle.std.specs.Prelude.{List, ℕ}
use Rattle.comparison.specs.Compare.{Compared}
use Rattle.comparison.specs.Shown.{Shown}
use Rattle.arvedun.specs.declared.compare.ArvedunCompared.{ArvedunCompared}
use Rattle.arvedun.specs.declared.compare.ArvedunLiteral.{ArvedunLiteral}

abbrev pub seen_list : ArvedunCompared → List ℕ → Compared
seen_list r list = record { number = r.number; side = r.side; count = r.count; list = list }

abbrev pub seen_literal : ArvedunLiteral → Shown
seen_literal r = record { found = r.found; offset = r.offset; length' = r.length }
