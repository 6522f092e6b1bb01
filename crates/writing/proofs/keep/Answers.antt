use Rattle.writing.proofs.Keeps.{fits_room, ready_fits, answer_kept}
use Rattle.writing.proofs.keep.Goals as goal

pub copy-requires-clause-inside : goal.copy-requires-clause-inside
copy-requires-clause-inside c =
    c.requires.inside

pub copy-requires-clause-stands : goal.copy-requires-clause-stands
copy-requires-clause-stands c = let r = c.requires.ready in
    record { tree = r.tree; at = r.at }

pub copy-requires-clause-room : goal.copy-requires-clause-room
copy-requires-clause-room c = let r = c.requires.ready in
    fits_room r.fits c.requires.areas

pub returns : goal.returns
returns c = λ r a. answer_kept c.copy.result _ _ _ _ _ _ (ready_fits c.requires.ready r a) (c.copy.ensures r a)
