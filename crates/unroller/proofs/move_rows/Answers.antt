use mathlib.Core.Path.{refl, sym, subst, ◌∙◌}
use mathlib.Core.List.{List}
use Prim.Native.Nat.{ℕ, ◌+◌}
use native.Mathlib.Omega.{arith}
use Rattle.writing.specs.Writes.{stored}
use Rattle.unroller.specs.Copies.{Movable}
use Rattle.unroller.proofs.Moves.{front_movable, move_more}
use Rattle.unroller.proofs.move_rows.Goals as goal

pub loop-k-init : goal.loop-k-init
unfolding stored
loop-k-init c = (omega arith, refl, refl)

pub move_row-requires-clause-movable : goal.move_row-requires-clause-movable
move_row-requires-clause-movable c = let k = c.loop-k.k in
    let v = c.loop-k.invariant in
    subst (λ (o : List ℕ). Movable c.args.d o (c.args.i + k)) (sym v.2) (front_movable c.args.d _ _ (c.args.i + k) c.args.j (omega arith) (c.requires.by_index k (omega arith)))

pub loop-k-preserved : goal.loop-k-preserved
loop-k-preserved c = let l = c.loop-k in
    (omega arith, c.move_row.auto.out ∙ l.invariant.1, move_more c.args.d c.args.out.now l.out _ c.args.i c.args.j l.k (omega arith) l.invariant.2 c.move_row.ensures)
