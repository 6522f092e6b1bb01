-- the function's entry, from before step 1; step 1, from before steps 2 and 3; these, from before 4 and 5; these, from before 6; and 6, from before 7
use mathlib.Core.Path.{refl, ◌∙◌}
use native.Mathlib.Omega.{arith}
use Rattle.grammar.specs.Table.{resolve_table}
use Rattle.turns.proofs.Sizes.{sized_areas, sized_same, works_same}
use Rattle.turns.proofs.Runs.{After1, After3, After5, After6, first_passing, first_rules, first_stood, rotated_count, unrolled_count, factored_count, listed_count, skip_turns, join_turns, list_turning, restoring, seven_answer}
use Rattle.turns.proofs.all_steps.Goals as goal
use Rattle.turns.proofs.all_steps.Goals.{After-pass-p, After-two_steps-q, After-two_steps-r, After-turn-s}

-- what stands after steps 1, 3, 5 and 6
one : (c : After-pass-p) → After1 c.requires.ready c.pass-p.result c.pass-p.new.heads c.pass-p.new.out c.pass-p.new.lits c.args.b_rules.now c.args.b_rows.now c.args.b_text.now
one c = let w = c.requires.works in let z = sized_same c.pass-p.auto.heads c.pass-p.auto.out c.pass-p.auto.lits w.one in record { works = record { one = z; other = w.other }; stood = λ t l. first_stood c.requires.ready t l c.pass-p.result w.one z c.pass-p.ensures }

three : (c : After-two_steps-q) → After1 c.requires.ready c.pass-p.result c.pass-p.new.heads c.pass-p.new.out c.pass-p.new.lits c.args.b_rules.now c.args.b_rows.now c.args.b_text.now → After3 c.requires.ready c.two_steps-q.result c.two_steps-q.new.heads c.two_steps-q.new.rows c.two_steps-q.new.text c.two_steps-q.new.heads2 c.two_steps-q.new.rows2 c.two_steps-q.new.text2
three c k = record { works = works_same c.two_steps-q.auto.heads c.two_steps-q.auto.rows c.two_steps-q.auto.text c.two_steps-q.auto.heads2 c.two_steps-q.auto.rows2 c.two_steps-q.auto.text2 k.works; stood = λ t l. c.two_steps-q.ensures t _ _ l (k.stood t l) (rotated_count c.requires.ready t l) }

five : (c : After-two_steps-r) → After3 c.requires.ready c.two_steps-q.result c.two_steps-q.new.heads c.two_steps-q.new.rows c.two_steps-q.new.text c.two_steps-q.new.heads2 c.two_steps-q.new.rows2 c.two_steps-q.new.text2 → After5 c.requires.ready c.two_steps-r.result c.two_steps-r.new.heads c.two_steps-r.new.rows c.two_steps-r.new.text c.two_steps-r.new.heads2 c.two_steps-r.new.rows2 c.two_steps-r.new.text2
five c k = record { works = works_same c.two_steps-r.auto.heads c.two_steps-r.auto.rows c.two_steps-r.auto.text c.two_steps-r.auto.heads2 c.two_steps-r.auto.rows2 c.two_steps-r.auto.text2 k.works; stood = λ t l. c.two_steps-r.ensures t _ _ l (k.stood t l).stood (unrolled_count c.requires.ready t l) }

six : (c : After-turn-s) → After5 c.requires.ready c.two_steps-r.result c.two_steps-r.new.heads c.two_steps-r.new.rows c.two_steps-r.new.text c.two_steps-r.new.heads2 c.two_steps-r.new.rows2 c.two_steps-r.new.text2 → After6 c.requires.ready c.turn-s.result c.turn-s.new.heads2 c.turn-s.new.rows2 c.turn-s.new.text2 c.two_steps-r.new.heads c.two_steps-r.new.rows c.two_steps-r.new.text
six c k = record { works = record { one = sized_same c.turn-s.auto.heads2 c.turn-s.auto.rows2 c.turn-s.auto.text2 k.works.other; other = k.works.one }; stood = λ t l. c.turn-s.ensures t _ _ l (k.stood t l).stood (factored_count c.requires.ready t l) }

pub first_fired-stay-requires-clause-held : goal.first_fired-stay-requires-clause-held
first_fired-stay-requires-clause-held c = let q = first_passing c.requires.ready c.requires.works.one in record { table = q.table; holds = q.holds }

pub first_fired-stay-requires-clause-from_in_bounds : goal.first_fired-stay-requires-clause-from_in_bounds
first_fired-stay-requires-clause-from_in_bounds c = (omega arith, refl)

pub pass-p-requires-clause-passing : goal.pass-p-requires-clause-passing
pass-p-requires-clause-passing c = first_passing c.requires.ready c.requires.works.one

pub pass-p-requires-clause-leaves_from : goal.pass-p-requires-clause-leaves_from
pass-p-requires-clause-leaves_from c = c.first_fired-stay.ensures.2

pub pass-p-requires-clause-rules_in_bounds : goal.pass-p-requires-clause-rules_in_bounds
pass-p-requires-clause-rules_in_bounds c = first_rules c.requires.ready c.requires.works.one

pub pass-p-requires-clause-areas : goal.pass-p-requires-clause-areas
pass-p-requires-clause-areas c = sized_areas c.requires.works.one

pub two_steps-q-requires : goal.two_steps-q-requires
two_steps-q-requires c = skip_turns c.requires.ready (one (goal.at.two_steps-q-requires c).After-pass-p)

pub two_steps-r-requires : goal.two_steps-r-requires
two_steps-r-requires c = let p = goal.at.two_steps-r-requires c in join_turns c.requires.ready (three p.After-two_steps-q (one p.After-pass-p))

pub turn-s-requires : goal.turn-s-requires
turn-s-requires c = let p = goal.at.turn-s-requires c in list_turning c.requires.ready (five p.After-two_steps-r (three p.After-two_steps-q (one p.After-pass-p)))

pub restore-t-requires : goal.restore-t-requires
restore-t-requires c = let p = goal.at.restore-t-requires c in restoring c.requires.ready (six p.After-turn-s (five p.After-two_steps-r (three p.After-two_steps-q (one p.After-pass-p))))

pub shape_of-marks : goal.shape_of-marks
shape_of-marks c = c.restore-t.auto.marks

pub shape_of-a_rules : goal.shape_of-a_rules
shape_of-a_rules c = c.restore-t.auto.heads2 ∙ c.two_steps-r.auto.heads ∙ c.two_steps-q.auto.heads ∙ c.pass-p.auto.heads

pub shape_of-a_rows : goal.shape_of-a_rows
shape_of-a_rows c = c.restore-t.auto.rows2 ∙ c.two_steps-r.auto.rows ∙ c.two_steps-q.auto.rows ∙ c.pass-p.auto.out

pub shape_of-a_text : goal.shape_of-a_text
shape_of-a_text c = c.restore-t.auto.text2 ∙ c.two_steps-r.auto.text ∙ c.two_steps-q.auto.text ∙ c.pass-p.auto.lits

pub shape_of-b_rules : goal.shape_of-b_rules
shape_of-b_rules c = c.turn-s.auto.heads2 ∙ c.two_steps-r.auto.heads2 ∙ c.two_steps-q.auto.heads2

pub shape_of-b_rows : goal.shape_of-b_rows
shape_of-b_rows c = c.turn-s.auto.rows2 ∙ c.two_steps-r.auto.rows2 ∙ c.two_steps-q.auto.rows2

pub shape_of-b_text : goal.shape_of-b_text
shape_of-b_text c = c.turn-s.auto.text2 ∙ c.two_steps-r.auto.text2 ∙ c.two_steps-q.auto.text2

pub returns : goal.returns
returns c = let p = goal.at.returns c in
    let a = one p.After-pass-p in
    let b = three p.After-two_steps-q a in
    let d = five p.After-two_steps-r b in
    let f = six p.After-turn-s d in
    λ t l. seven_answer (resolve_table c.args.table.now.text.now t) c.pass-p.result c.turn-s.result c.restore-t.result c.joined.ensures (a.stood t l) (b.stood t l) (d.stood t l) (f.stood t l) (c.restore-t.ensures _ _ (f.stood t l) (listed_count c.requires.ready t l))
