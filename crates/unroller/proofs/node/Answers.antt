use native.Mathlib.Omega.{arith}
use Rattle.rows.proofs.Cells.{tells_yes, tells_no}
use Rattle.unroller.proofs.Lays.{source_rows}
use Rattle.unroller.proofs.Nodes.{node_spread, node_items, node_row}
use Rattle.unroller.proofs.node.Goals as goal

pub spread-requires : goal.spread-requires
spread-requires c = node_spread c.args.kind c.args.x c.args.y c.requires (tells_yes c.if-is_repeat.true c.is_repeat.ensures) (omega arith) (omega arith) c.items_for-n.ensures

pub returns-then-is_repeat : goal.returns-then-is_repeat
returns-then-is_repeat c = λ u e h s.
    node_items c.args.kind c.args.x c.args.y c.requires (tells_yes c.if-is_repeat.true c.is_repeat.ensures) (omega arith) (omega arith) c.items_for-n.ensures c.spread.result u e _ _ h (c.spread.ensures e s)

pub put_over-requires : goal.put_over-requires
put_over-requires c = let s = c.requires.source in
    (omega (arith, s.rows), omega (arith, c.requires.areas.words, source_rows s, s.rows))

pub returns : goal.returns
returns c = λ u e h s.
    node_row c.args.kind c.args.x c.args.y c.requires c.put_over.result u _ (tells_no c.if-is_repeat.false c.is_repeat.ensures) h s c.put_over.ensures
