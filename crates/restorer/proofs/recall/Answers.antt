-- By the tests that led there. Assumes nothing.
use borrow.Author.Tests.{eq-eqb, ne_eqb, lt-leb, le-leb}
use Rattle.restorer.specs.Walks.{recalled}
use Rattle.restorer.specs.Search.{OPEN}
use Rattle.restorer.proofs.recall.Goals as goal

pub returns-then-state-eq-YES : goal.returns-then-state-eq-YES
unfolding recalled
returns-then-state-eq-YES c = simp (eq-eqb _ _ c.if-state-eq-YES.true)

pub returns-then-state-eq-UNSEEN : goal.returns-then-state-eq-UNSEEN
unfolding recalled
returns-then-state-eq-UNSEEN c = simp (ne_eqb _ _ c.if-state-eq-YES.false, eq-eqb _ _ c.if-state-eq-UNSEEN.true)

pub returns-then-state-lt-OPEN : goal.returns-then-state-lt-OPEN
unfolding recalled
returns-then-state-lt-OPEN c = simp (ne_eqb _ _ c.if-state-eq-YES.false, ne_eqb _ _ c.if-state-eq-UNSEEN.false, lt-leb OPEN _ c.if-state-lt-OPEN.true)

pub returns : goal.returns
unfolding recalled
returns c = simp (ne_eqb _ _ c.if-state-eq-YES.false, ne_eqb _ _ c.if-state-eq-UNSEEN.false, le-leb OPEN _ c.if-state-lt-OPEN.false)
