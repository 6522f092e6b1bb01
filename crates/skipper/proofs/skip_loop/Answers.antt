-- `skip_loop` meets its contract. Assumes nothing.
-- the function's entry, and the room after the strings
use native.Mathlib.Omega.{arith}
use Rattle.grammar.specs.Tree.{skip}
use Rattle.skipper.proofs.Skipping.{skip_spells, skip_full, loop_rising, skip_done}
use Rattle.skipper.proofs.Falls.{fits_wrap}
use Rattle.skipper.proofs.skip_loop.Goals as goal

pub write_list-requires-clause-spelled : goal.write_list-requires-clause-spelled
write_list-requires-clause-spelled c = record { table = c.requires.skipped.table; lent = c.requires.skipped.lent; tree = c.requires.skipped.tree; at = c.requires.skipped.at; list = c.requires.skipped.list; spells = skip_spells _ _ c.requires.skipped.lent c.requires.skipped.reads }

pub returns-in_err-q : goal.returns-in_err-q
returns-in_err-q c = rw c.from_residual.ensures (λ t us d r ss l a b e h f. skip_full _ ss _ _ _ _ (c.write_list.ensures t r ss l e (skip_spells _ _ l h)) c.in_err-q.was (fits_wrap us f))

pub overflow_sub-n : goal.overflow_sub-n
overflow_sub-n c = (loop_rising c.requires.skipped _ _ _ _ c.write_list.ensures c.in_ok-q.was c.requires.room.areas c.requires.base_le_root).after

pub overflow_cast-n : goal.overflow_cast-n
overflow_cast-n c = let z = loop_rising c.requires.skipped _ _ _ _ c.write_list.ensures c.in_ok-q.was c.requires.room.areas c.requires.base_le_root in omega (arith, z.room, z.words)

pub crown-requires : goal.crown-requires
crown-requires c = loop_rising c.requires.skipped _ _ _ _ c.write_list.ensures c.in_ok-q.was c.requires.room.areas c.requires.base_le_root

pub returns : goal.returns
returns c = λ t us d r ss l a b e h. c.crown.ensures us d a b (skip ss) _ _ _ (λ z o' k. skip_done _ ss _ _ _ _ (c.write_list.ensures t r ss l e (skip_spells _ _ l h)) c.in_ok-q.was z o' k)
