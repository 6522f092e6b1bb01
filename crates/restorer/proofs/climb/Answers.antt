use mathlib.Core.Path.{sym, ◌∙◌}
use native.Mathlib.Omega.{arith}
use Rattle.rows.proofs.Laws.{row_found, row_there, root}
use Rattle.restorer.proofs.Showing.{fits_guarded}
use Rattle.restorer.proofs.Climbs.{up_more, up_full, up_all}
use Rattle.restorer.proofs.climb.Goals as goal

pub returns-in_err-row : goal.returns-in_err-row
returns-in_err-row c = absurd (row_there _ _ (omega (arith, (root c.requires.climbable.at).inside, c.loop-i-test.true)) (sym c.row_at.ensures ∙ c.in_err-row.was))

pub returns-in_err-s : goal.returns-in_err-s
returns-in_err-s c = rw c.from_residual-in_err-s.ensures (λ r a t e o l l₁ w f. up_full c.loop-i.invariant c.over.new.out (row_found (sym c.row_at.ensures ∙ c.in_ok-row.was)) c.over.result c.over.ensures.becomes c.loop-i-test.true c.in_err-s.was c.requires.climbable r a t e o l l₁ w (fits_guarded t _ _ f))

pub loop-i-preserved : goal.loop-i-preserved
loop-i-preserved c = up_more c.loop-i.invariant c.over.new.out (row_found (sym c.row_at.ensures ∙ c.in_ok-row.was)) c.over.result c.over.ensures.becomes c.loop-i-test.true c.in_ok-s.was c.over.ensures.over_answer c.over.auto.out

pub returns : goal.returns
returns c = let u = c.loop-i.invariant in λ r a t e o l l₁ w. c.guarded.ensures.becomes t _ o l l₁ (up_all u (omega (arith, u.high, c.loop-i-test.false)) c.requires.climbable r a t e o l l₁ w)
