use Rattle.unroller.proofs.next.Goals as goal

pub returns : goal.returns
returns c = λ e s. c.finish.ensures e _ _ _ (c.again-s.ensures e s)
