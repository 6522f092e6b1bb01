-- What explaining answers by value, and the list afterwards, as a host sees them. Assumes nothing.
use Rattle.std.specs.Prelude.{List, ℕ}
use Rattle.explanation.specs.Explain.{Explained}
use Rattle.arvedun.specs.declared.explain.ArvedunExplained.{ArvedunExplained}

abbrev pub seen_explained : ArvedunExplained → List ℕ → Explained
seen_explained r list = record { number = r.number; answer = r.answer; rule = r.rule; at = r.at; met = r.met; open' = r.opened; list = list }
