-- `lay` meets its contract. Assumes nothing.
use Rattle.unroller.proofs.Lays.{source_written}
use Rattle.unroller.proofs.Spreads.{run_plain, run_opts, run_reps, runs_laid}
use Rattle.unroller.proofs.lay.Goals as goal

pub repeat-b-requires : goal.repeat-b-requires
repeat-b-requires c = run_plain c.requires c.first_of-f.result.item c.first_of-f.result.rest (c.first_of-f.ensures c.requires.tree) (c.finish-a.ensures _ _ _ _ (source_written c.requires.source))

pub repeat-c-requires : goal.repeat-c-requires
repeat-c-requires c = run_opts c.requires c.first_of-f.result.item c.first_of-f.result.rest (c.first_of-f.ensures c.requires.tree) (c.finish-a.ensures _ _ _ _ (source_written c.requires.source)) (c.repeat-b.ensures c.requires.tree)

pub repeat-requires : goal.repeat-requires
repeat-requires c = run_reps c.requires c.first_of-f.result.item c.first_of-f.result.rest (c.first_of-f.ensures c.requires.tree) (c.finish-a.ensures _ _ _ _ (source_written c.requires.source)) (c.repeat-b.ensures c.requires.tree) (c.repeat-c.ensures c.requires.tree)

pub returns : goal.returns
returns c = λ e s. let f = c.first_of-f in runs_laid c.args.n f.result.rest f.result.item (f.ensures e) s (c.finish-a.ensures e _ _ _ (source_written s)) (c.repeat-b.ensures e) (c.repeat-c.ensures e) (c.repeat.ensures e)
