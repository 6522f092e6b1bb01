use mathlib.Core.Path.{sym, ◌∙◌}
use native.Mathlib.Omega.{arith}
use Rattle.rows.proofs.Laws.{row_found}
use Rattle.unroller.proofs.Climbs.{up_none, up_there, up_headed, up_more, up_full, up_all}
use Rattle.unroller.proofs.climb.Goals as goal

pub loop-i-init : goal.loop-i-init
loop-i-init c = up_none (omega (arith, c.requires.run_over c.requires.counted.tree c.requires.counted.at))

pub returns-in_err-row : goal.returns-in_err-row
returns-in_err-row c = absurd (up_there c.loop-i.invariant c.requires.counted c.requires.run_over c.loop-i-test.true (sym c.row_at.ensures ∙ c.in_err-row.was))

pub node-requires : goal.node-requires
node-requires c = up_headed c.loop-i.invariant c.requires.counted c.requires.run_over c.loop-i-test.true (row_found (sym c.row_at.ensures ∙ c.in_ok-row.was)) c.requires.standing

pub returns-in_err-s : goal.returns-in_err-s
returns-in_err-s c = rw c.from_residual-in_err-s.ensures (up_full c.loop-i.invariant c.requires.counted c.requires.run_over c.loop-i-test.true (row_found (sym c.row_at.ensures ∙ c.in_ok-row.was)) c.node.new.out c.node.new.lits c.node.result c.node.ensures c.in_err-s.was)

pub loop-i-preserved : goal.loop-i-preserved
loop-i-preserved c = up_more c.loop-i.invariant c.requires.counted c.requires.run_over c.loop-i-test.true (row_found (sym c.row_at.ensures ∙ c.in_ok-row.was)) c.node.new.out c.node.new.lits c.node.result c.node.ensures c.in_ok-s.was c.node.auto.out c.node.auto.lits

pub returns : goal.returns
returns c = up_all c.loop-i.invariant c.requires.counted c.requires.run_over (omega (arith, c.loop-i.invariant.high, c.loop-i-test.false))
