use mathlib.Core.Path.{sym, ◌∙◌}
use native.Mathlib.Omega.{arith}
use Rattle.rows.proofs.Laws.{row_found, row_there}
use Rattle.skipper.proofs.Falls.{up_more, up_full, up_all}
use Rattle.skipper.proofs.rise.Goals as goal

pub returns-in_err-row : goal.returns-in_err-row
returns-in_err-row c = absurd (row_there _ _ (omega (arith, c.requires.inside, c.loop-i-test.true)) (sym c.row_at.ensures ∙ c.in_err-row.was))

pub returns-in_err-s : goal.returns-in_err-s
returns-in_err-s c = rw c.from_residual-in_err-s.ensures (λ us r a l. up_full c.loop-i.invariant _ _ _ _ c.put_over.ensures c.loop-i-test.true c.in_err-s.was us r a l)

pub loop-i-preserved : goal.loop-i-preserved
loop-i-preserved c = up_more c.loop-i.invariant _ _ _ _ c.put_over.ensures c.loop-i-test.true c.in_ok-s.was (row_found (sym c.row_at.ensures ∙ c.in_ok-row.was)) c.put_over.auto.out

pub returns : goal.returns
returns c = let u = c.loop-i.invariant in λ us r a l. up_all u (omega (arith, u.high, c.loop-i-test.false)) us r a l
