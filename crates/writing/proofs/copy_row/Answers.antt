-- `copy_row` meets its contract. Assumes nothing.
use mathlib.Core.Path.{refl, sym, ◌∙◌}
use native.Mathlib.Omega.{arith}
use Rattle.rows.proofs.Cells.{in_text}
use Rattle.writing.proofs.Pendings.{word_found, ran_done, ran_full, lit_moved, other_moved}
use Rattle.writing.proofs.Copies.{lit_text}
use Rattle.writing.proofs.copy_row.Goals as goal

pub next_lit-requires-clause-n_in_bounds : goal.next_lit-requires-clause-n_in_bounds
next_lit-requires-clause-n_in_bounds c = in_text _ c.requires.inside (word_found _ _ _ refl c.requires.i_in_bounds) (sym c.shape_of.ensures ∙ c.in-Lit.is)

pub next_lit-requires-clause-runs : goal.next_lit-requires-clause-runs
next_lit-requires-clause-runs c =
    c.requires.runs

pub returns-in_err-h : goal.returns-in_err-h
returns-in_err-h c = λ o bs t p. rw c.from_residual.ensures rw (lit_text _ (word_found _ _ _ refl c.requires.i_in_bounds) (sym c.shape_of.ensures ∙ c.in-Lit.is)) (ran_full o _ _ _ _ c.in_err-h.was (c.next_lit.ensures o bs t p))

pub overflow_cast-end : goal.overflow_cast-end
overflow_cast-end c = omega (arith, c.requires.runs.room, c.requires.lits_len_bound)

pub returns-in_ok-h : goal.returns-in_ok-h
returns-in_ok-h c = λ o bs t p. let l = (sym c.shape_of.ensures ∙ c.in-Lit.is) in let f = word_found _ _ _ refl c.requires.i_in_bounds in lit_moved _ f _ _ refl _ _ _ _ l (in_text _ c.requires.inside f l) p (ran_done o _ _ _ _ c.in_ok-h.was (c.next_lit.ensures o bs t p)) c.set_words.ensures c.set_offset.ensures

pub returns-in_default : goal.returns-in_default
returns-in_default c = λ o bs t p. other_moved _ (word_found _ _ _ refl c.requires.i_in_bounds) _ _ refl _ _ (λ s. c.in_default.not-Lit (c.shape_of.ensures ∙ s)) p c.set_words.ensures
