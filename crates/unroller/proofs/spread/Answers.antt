-- `spread` meets its contract. Assumes nothing.
use mathlib.Core.Path.{◌≡◌}
use Prim.Native.Nat.{◌-◌}
use native.Mathlib.Omega.{arith}
use lib.ListN.{length}
use Rattle.rows.proofs.Cells.{tells_yes, tells_no}
use Rattle.unroller.specs.Items.{items_of, count_of}
use Rattle.unroller.proofs.Lays.{source_rows}
use Rattle.unroller.proofs.Spreads.{some, items_count, fits_hold, holds_fit, nest_lay, closable, nested_answer}
use Rattle.unroller.proofs.spread.Goals as goal

pub overflow_sub-out : goal.overflow_sub-out
overflow_sub-out c = let s = c.requires.source in omega (arith, source_rows s, s.rows)

pub hold-requires : goal.hold-requires
hold-requires c = let s = c.requires.source in
    (omega (arith, c.requires.areas.words), omega (arith, c.requires.areas.words, source_rows s, s.rows), omega (arith, c.requires.areas.bytes, s.within), c.requires.most)

pub returns-then-not-hold : goal.returns-then-not-hold
returns-then-not-hold c = λ e s f. tells_no c.if-not-hold.true c.hold.ensures (fits_hold c.args.n s c.requires.least f)

pub lay-s-requires : goal.lay-s-requires
lay-s-requires c = let n = c.args.n in
    nest_lay n c.requires.source c.requires.least c.requires.areas (holds_fit n c.requires.source c.requires.least (tells_yes c.if-not-hold.false c.hold.ensures))

pub close-requires-clause-closable : goal.close-requires-clause-closable
close-requires-clause-closable c = let n = c.args.n in
    let f = holds_fit n c.requires.source c.requires.least (tells_yes c.if-not-hold.false c.hold.ensures) in
    let k : count_of n - 1 ≡ length (items_of n c.requires.tree) - 1 = omega (arith, items_count n c.requires.tree) in
    closable (items_of n c.requires.tree) (c.lay-s.ensures c.requires.tree c.requires.source) (some n c.requires.source c.requires.least) f k c.requires.areas.words

pub returns : goal.returns
returns c = λ e s.
    let n = c.args.n in
    let f = holds_fit n s c.requires.least (tells_yes c.if-not-hold.false c.hold.ensures) in
    let k : count_of n - 1 ≡ length (items_of n e) - 1 = omega (arith, items_count n e) in
    nested_answer (items_of n e) (c.lay-s.ensures e s) (some n s c.requires.least) f c.close.result _ k c.close.ensures
