-- A tree through which the stack cannot change is copied; of another the settled marks say what shows of a name, and the walk does the rest. Assumes nothing.
use Rattle.grammar.specs.Table.{resolve_table}
use Rattle.restorer.proofs.Showing.{sure, known}
use Rattle.restorer.proofs.Climbs.{bare_full, bare_written}
use Rattle.restorer.proofs.restore.Goals as goal

pub put-requires-clause-known : goal.put-requires-clause-known
put-requires-clause-known c = known c.requires.marked c.requires.settles

pub returns-in_err-q : goal.returns-in_err-q
returns-in_err-q c = rw c.from_residual.ensures (λ u r l a.
    let y = c.args.table.now.text.now in
    bare_full _ _ (c.in_err-q.ensures (resolve_table y u) r (sure y u l c.args.marks.now (c.requires.settles.settled u l)) a))

pub returns : goal.returns
returns c = λ u r l a.
    let y = c.args.table.now.text.now in
    bare_written (c.in_ok-q.ensures (resolve_table y u) r (sure y u l c.args.marks.now (c.requires.settles.settled u l)) a)
