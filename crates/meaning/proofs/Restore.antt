-- Restore's law: a RestoreOnErr, wherever it is set, gives what its child gives. Assumes nothing.
use mathlib.Core.Bool.{◌||◌}
use Prim.Native.Nat.{ℕ}
use Rattle.grammar.specs.Basic.{Bytes}
use Rattle.grammar.specs.Tree.{RestoreOnErr, Seq, Choice, E, lit, fixed, skip, un, bin, is_un}
use Rattle.grammar.specs.Table.{Table}
use Rattle.grammar.specs.Stack.{changes}
use Rattle.grammar.specs.Steps.{guarded, restore_at, restore}
use Rattle.meaning.specs.Outcome.{Res, Out, restored}
use Rattle.meaning.proofs.Same.{Same, same, un_same, bin_same, cond_same, bottom_up_same}

module _ {t : Table Bytes} {s : Bytes} where
  inside : {e : E} {p : ℕ} {r : Res} → Out t s (un RestoreOnErr e) p r → Out t s e p r
  inside (restored d) = d

  guarded_same : (u : Table Bytes) (e : E) → Same t s e (guarded u e)
  unfolding guarded
  guarded_same u e = cond_same (changes u e) (record { to = restored; from = inside })

  restore_at_same : (u : Table Bytes) (e : E) → Same t s e (restore_at u e)
  unfolding restore_at
  restore_at_same u (lit k w) = same
  restore_at_same u (fixed f) = same
  restore_at_same u (skip ss) = same
  restore_at_same u (un v e) = un_same (cond_same (is_un 10 v || is_un 11 v) (guarded_same u e))
  restore_at_same u (bin Seq l r) = same
  restore_at_same u (bin Choice l r) = bin_same (guarded_same u l) (guarded_same u r)

  pub restore_same : (u : Table Bytes) (e : E) → Same t s e (restore u e)
  unfolding restore
  restore_same u e = bottom_up_same (restore_at_same u) e
