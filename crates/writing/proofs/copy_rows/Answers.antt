use mathlib.Core.Path.{◌≡◌, refl, sym, ◌∙◌}
use native.Mathlib.Omega.{arith}
use Rattle.writing.proofs.Runs.{stored_none}
use Rattle.writing.proofs.Pendings.{none_pending, pending_length, pending_runs, moved_done, moved_full, moving_length, moving_more, moving_full, moving_done}
use Rattle.writing.proofs.copy_rows.Goals as goal

pub overflow_sub-out : goal.overflow_sub-out
overflow_sub-out c = omega (arith, c.requires.room.rows)

pub returns-then-out-first : goal.returns-then-out-first
returns-then-out-first c = λ f. omega (arith, f.rows, c.if-out-first.true)

pub loop-k-init : goal.loop-k-init
loop-k-init c = record { words = sym (stored_none _ _); pending = none_pending _ _ _ c.requires.room.text }

pub copy_row-requires-clause-j_in_bounds : goal.copy_row-requires-clause-j_in_bounds
copy_row-requires-clause-j_in_bounds c = omega (arith, moving_length c.loop-k.invariant, c.requires.room.rows, c.if-out-first.false, c.loop-k-test.true)

pub copy_row-requires-clause-inside : goal.copy_row-requires-clause-inside
copy_row-requires-clause-inside c = c.requires.inside

pub copy_row-requires-clause-runs : goal.copy_row-requires-clause-runs
copy_row-requires-clause-runs c = pending_runs c.loop-k.invariant.pending

pub copy_row-requires-clause-lits_len_bound : goal.copy_row-requires-clause-lits_len_bound
copy_row-requires-clause-lits_len_bound c = omega (arith, pending_length c.loop-k.invariant.pending, c.requires.room.areas.bytes)

pub loop-k-preserved : goal.loop-k-preserved
loop-k-preserved c = let m = c.loop-k.invariant in moving_more m _ _ (moved_done _ _ _ _ _ _ _ _ _ _ c.in_ok-g.was (c.copy_row.ensures _ _ _ m.pending))

pub copy_bytes-requires : goal.copy_bytes-requires
copy_bytes-requires c = let r = pending_runs c.loop-k.invariant.pending in (r.inside, r.room)

pub shape_of-out : goal.shape_of-out
shape_of-out c = moving_length c.loop-k.invariant

pub shape_of-lits : goal.shape_of-lits
shape_of-lits c = c.copy_bytes.auto.dst ∙ pending_length c.loop-k.invariant.pending

pub returns-in_err-g : goal.returns-in_err-g
returns-in_err-g c = rw c.from_residual.ensures (λ f. let m = c.loop-k.invariant in moving_full m c.args.n c.loop-k-test.true (moved_full _ _ _ _ _ _ _ _ _ _ c.in_err-g.was (c.copy_row.ensures _ _ _ m.pending)) f.text)

pub returns : goal.returns
returns c = let n : c.loop-k.k ≡ c.args.n = omega arith in rw (← n) (moving_done c.loop-k.invariant _ _ _ refl refl (omega (arith, n, c.if-out-first.false, c.requires.room.rows)) refl refl c.copy_bytes.ensures)
