use Prim.Native.Nat.{◌+◌, ◌*◌}
use native.Mathlib.Omega.{arith}
use Rattle.grammar.specs.Numbers.{rule_width}
use Rattle.names.proofs.Marks.{before_step, before_grows}
use Rattle.comparer.proofs.first_row.Goals as goal

pub returns-then-most-before : goal.returns-then-most-before
returns-then-most-before c = let l = c.loop-i in
    let e = before_step c.args.rules.now l.i l.before l.invariant.0 in
    record {
      there = λ h. absurd (omega (arith, e, h, c.if-most-before.true, before_grows c.args.rules.now (l.i + 1) c.args.rule (omega (arith, c.loop-i-test.true))));
      past = λ _. c.if-most-before.true;
      small = omega (arith, l.invariant.1, c.type_inv.rules (l.i * rule_width + 3));
    }
