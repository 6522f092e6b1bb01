use mathlib.Core.Path.{◌≡◌}
use Prim.Native.Nat.{◌+◌, ◌-◌, ◌/◌, ◌≤◌}
use native.Mathlib.Omega.{arith}
use Rattle.std.proofs.lemmas.Result.{err_from_is_err_and}
use Rattle.skipper.proofs.Leaf.{given_steady}
use Rattle.skipper.proofs.Tables.{rules_met, rules_next, rules_end}
use Rattle.skipper.proofs.read_rules.Goals as goal

omega_lt : {k n m : Prim.Native.Nat.ℕ} → n ≡ m → Prim.Native.Nat.◌<◌ k n → Prim.Native.Nat.◌<◌ k m
omega_lt e h = omega arith

pub read_atomic-requires-clause-given : goal.read_atomic-requires-clause-given
read_atomic-requires-clause-given c = let inv = c.loop-k.invariant in
    given_steady c.requires inv.1.steady inv.1.long

pub returns-in_err-read_atomic-clause-loops_of : goal.returns-in_err-read_atomic-clause-loops_of
returns-in_err-read_atomic-clause-loops_of c = let b = omega_lt c.loop-k.invariant.0 c.loop-k-test.true in
    let p = err_from_is_err_and c.from_residual.result c.from_residual.ensures.1 in
    rw (p.1, p.2) (rules_met c.loop-k.invariant.1 b c.read_atomic.ensures.loops_of c.in_err-read_atomic.was)

pub loop-k-preserved : goal.loop-k-preserved
loop-k-preserved c = (c.loop-k.invariant.0, rules_next c.loop-k.invariant.1 (omega_lt c.loop-k.invariant.0 c.loop-k-test.true) c.read_atomic.ensures.loops_of c.read_atomic.ensures.steady c.read_atomic.auto.marks c.in_ok-read_atomic.was)

pub returns-clause-loops_of : goal.returns-clause-loops_of
returns-clause-loops_of c = rules_end c.loop-k.invariant.1 (omega (arith, c.loop-k-test.false, c.loop-k.invariant.0))
