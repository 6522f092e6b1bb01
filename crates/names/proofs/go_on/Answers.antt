use mathlib.Core.Path.{refl}
use native.Mathlib.Omega.{arith}
use Rattle.names.proofs.Index.{goes_same, goes_other}
use Rattle.names.proofs.go_on.Goals as goal

pub same_symbol-requires : goal.same_symbol-requires
same_symbol-requires c = (omega (arith, c.requires.names_inside c.args.k c.requires.k_in_bounds.0), c.requires.n_in_bounds)

pub returns-then-same_symbol : goal.returns-then-same_symbol
returns-then-same_symbol c = let a = c.args in (goes_same a.table.now.rules.now a.table.now.text.now a.marks.now _ a.k c.same_symbol.result c.half-d.ensures.0 refl refl c.same_symbol.ensures c.if-same_symbol.true, c.half.ensures.0)

pub returns : goal.returns
returns c = let a = c.args in (goes_other a.table.now.rules.now a.table.now.text.now a.marks.now _ a.k c.same_symbol.result c.half-d.ensures.0 refl refl c.same_symbol.ensures c.if-same_symbol.false, c.half-2.ensures.0)
