-- The answer by value and the output areas afterwards, as a host sees them. Assumes nothing.
use Rattle.grammar.specs.Table.{Words}
use Rattle.grammar.specs.Optimize as grammar
use Rattle.arvedun.specs.declared.ArvedunAnswer.{ArvedunAnswer}

abbrev pub seen : ArvedunAnswer → Words → grammar.Answer
seen r out = record { number = r.number; rules = r.rules; rows = r.rows; text = r.text; report = r.report; out = out }
