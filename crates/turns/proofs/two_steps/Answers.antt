-- the function's entry, from before the first turn, and that turn, from before the second
use Rattle.turns.proofs.Sizes.{sized_same, stood_rows, count_after}
use Rattle.turns.proofs.Runs.{second_turn}
use Rattle.turns.proofs.two_steps.Goals as goal

pub turn-q-requires : goal.turn-q-requires
turn-q-requires c = c.requires.first

pub turn-r-requires : goal.turn-r-requires
turn-r-requires c = let f = c.requires.first.stands in
    second_turn c.requires (sized_same c.turn-q.auto.heads2 c.turn-q.auto.rows2 c.turn-q.auto.text2 f.works.other) (c.turn-q.ensures c.requires.first.given f.table f.large c.requires.first.lent f.stood f.count)

pub shape_of-heads : goal.shape_of-heads
shape_of-heads c = c.turn-r.auto.heads2

pub shape_of-rows : goal.shape_of-rows
shape_of-rows c = c.turn-r.auto.rows2

pub shape_of-text : goal.shape_of-text
shape_of-text c = c.turn-r.auto.text2

pub shape_of-heads2 : goal.shape_of-heads2
shape_of-heads2 c = c.turn-q.auto.heads2

pub shape_of-rows2 : goal.shape_of-rows2
shape_of-rows2 c = c.turn-q.auto.rows2

pub shape_of-text2 : goal.shape_of-text2
shape_of-text2 c = c.turn-q.auto.text2

pub returns : goal.returns
returns c = λ gs t large g h n.
    let q = c.turn-q.ensures gs t large g h n in
    record { rows = stood_rows c.turn-q.result q; stood = c.turn-r.ensures gs _ _ g q (count_after c.args.step c.args.count _ t n) }
