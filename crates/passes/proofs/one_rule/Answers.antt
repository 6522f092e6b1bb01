-- `one_rule` meets its contract. Assumes nothing.
use native.Mathlib.Omega.{arith}
use mathlib.Core.Path.{sym}
use Rattle.rows.proofs.Laws.{length_part}
use Rattle.passes.proofs.Answers.{name_done, step_done, no_name, no_tree, rule_kept, name_length_lem, name_room, kept_within, prepared}
use Rattle.passes.proofs.one_rule.Goals as goal

pub returns-in_err-q : goal.returns-in_err-q
returns-in_err-q c = rw c.from_residual.ensures (λ gs r g a. no_name _ _ _ _ _ _ c.in_err-q.was c.put_name.ensures)

pub stepped-requires-clause-inside : goal.stepped-requires-clause-inside
stepped-requires-clause-inside c =
    c.requires.inside

pub stepped-requires-clause-stands : goal.stepped-requires-clause-stands
stepped-requires-clause-stands c =
    c.requires.stands

pub stepped-requires-clause-room : goal.stepped-requires-clause-room
stepped-requires-clause-room c = let n = name_done _ _ _ _ c.in_ok-q.was c.put_name.ensures in
    name_room n c.requires.room

pub stepped-requires-clause-prepared : goal.stepped-requires-clause-prepared
stepped-requires-clause-prepared c = let n = name_done _ _ _ _ c.in_ok-q.was c.put_name.ensures in
    prepared n c.requires.rule_prepared

pub stepped-requires-clause-leaves : goal.stepped-requires-clause-leaves
stepped-requires-clause-leaves c =
    c.requires.leaves

pub returns-in_err-s : goal.returns-in_err-s
returns-in_err-s c = rw c.from_residual-in_err-s.ensures (λ gs r g a.
    let n = name_done _ _ _ _ c.in_ok-q.was c.put_name.ensures in
    no_tree _ _ _ _ (name_length_lem n) n c.in_err-s.was (c.stepped.ensures gs r g a))

pub overflow_sub-size : goal.overflow_sub-size
overflow_sub-size c = let n = name_done _ _ _ _ c.in_ok-q.was c.put_name.ensures in
    let k = step_done _ _ _ _ _ _ c.in_ok-s.was (c.stepped.ensures c.requires.rule_prepared.table c.requires.stands.tree c.requires.rule_prepared.lent c.requires.stands.at) in
    omega (arith, n.rows, k.rows)

pub overflow_cast-p : goal.overflow_cast-p
overflow_cast-p c = omega (arith, c.requires.room.text, c.requires.room.areas.bytes)

pub overflow_cast-size : goal.overflow_cast-size
overflow_cast-size c = let n = name_done _ _ _ _ c.in_ok-q.was c.put_name.ensures in
    let k = step_done _ _ _ _ _ _ c.in_ok-s.was (c.stepped.ensures c.requires.rule_prepared.table c.requires.stands.tree c.requires.rule_prepared.lent c.requires.stands.at) in
    omega (arith, n.rows, k.rows, c.requires.room.areas.words, kept_within (name_room n c.requires.room).rows k)

pub set_rule-requires : goal.set_rule-requires
set_rule-requires c = c.requires.rule_ready.room

pub returns : goal.returns
returns c = λ gs r g a.
    let n = name_done _ _ _ _ c.in_ok-q.was c.put_name.ensures in
    let k = step_done _ _ _ _ _ _ c.in_ok-s.was (c.stepped.ensures gs r g a) in
    rule_kept n k (sym (length_part _ _ _ c.requires.rule_ready.name)) (omega (arith, n.rows, k.rows)) c.set_rule.ensures
