-- `refusal` meets its contract. Assumes nothing.
use Rattle.std.proofs.lemmas.Result.{err_from_is_err_and}
use Rattle.admission.proofs.Trying.{admitted_short, admitted_tried, checked_tried}
use Rattle.admission.proofs.refusal.Goals as goal

pub returns-then-short : goal.returns-then-short
returns-then-short c = admitted_short _ _ c.if-short.true

pub check-requires : goal.check-requires
check-requires c = c.requires c.if-short.false

pub returns-in_err-check : goal.returns-in_err-check
returns-in_err-check c =
    let p = err_from_is_err_and c.from_residual.result c.from_residual.ensures.1 in
    rw (p.1, p.2) (admitted_tried c.if-short.false (checked_tried c.in_err-check.was c.check.ensures))

pub lists_and_size-requires : goal.lists_and_size-requires
lists_and_size-requires c = c.check.ensures.fine c.in_ok-check.was

pub returns : goal.returns
returns c = admitted_tried c.if-short.false c.lists_and_size.ensures
