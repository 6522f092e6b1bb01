use native.Mathlib.Omega.{arith}
use Rattle.names.proofs.Index.{cleared}
use Rattle.names.proofs.clear.Goals as goal

pub returns : goal.returns
returns c = cleared c.args.table.now.rules.now c.args.table.now.text.now c.args.marks.now (omega (arith, c.requires)) (omega (arith, c.requires)) c.halves-none.ensures c.fill.ensures c.fill-2.ensures
