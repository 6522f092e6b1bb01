use mathlib.Core.Path.{refl}
use native.Mathlib.Omega.{arith}
use mathlib.Core.Bool.{true≢false}
use Rattle.names.proofs.Index.{ends_inside, told_same, told_below, told_apart}
use borrow.Author.Rules.{rules}
use Rattle.names.proofs.beside.Goals as goal

pub tell_apart-requires : goal.tell_apart-requires
tell_apart-requires c = (omega arith, omega arith)

pub fork-requires-clause-slot_in_bounds : goal.fork-requires-clause-slot_in_bounds
fork-requires-clause-slot_in_bounds c =
    (ends_inside (omega (arith, c.requires.i_in_bounds.0)) c.requires.indexed c.requires.ends, omega (arith, c.requires.i_in_bounds.0, c.requires.indexed.long))

pub fork-requires-clause-i_bound : goal.fork-requires-clause-i_bound
fork-requires-clause-i_bound c = let x = told_below c.requires.indexed c.requires.i_in_bounds.0 c.requires.ends c.tell_apart.result c.requires.j_value.0 c.requires.j_value.1 refl refl refl refl c.tell_apart.ensures c.in-Some.is in
    (omega (arith, c.requires.i_in_bounds.0, c.requires.indexed.few), omega (arith, c.requires.indexed.few, c.requires.j_value.1), omega (arith, x, c.requires.i_in_bounds.1))

pub returns-in-None : goal.returns-in-None
returns-in-None c = record { yes = λ e. search rules; no = λ _. told_same c.requires.indexed c.requires.i_in_bounds.0 c.requires.ends c.tell_apart.result c.requires.j_value.0 c.requires.j_value.1 refl refl refl refl c.tell_apart.ensures c.in-None.is }

pub returns-in-Some : goal.returns-in-Some
returns-in-Some c = record { yes = λ _. told_apart c.requires.indexed c.requires.i_in_bounds.0 c.requires.ends c.tell_apart.result c.requires.j_value.0 c.requires.j_value.1 refl refl refl refl c.tell_apart.ensures c.in-Some.is c.requires.i_in_bounds.1 c.fork.ensures; no = λ e. absurd (true≢false e) }
