use mathlib.Core.Path.{sym, ◌∙◌, ap}
use Prim.Native.Nat.{ℕ, ◌+◌, ◌-◌, ◌*◌, ◌%◌, ◌^◌}
use native.Mathlib.Omega.{arith}
use Rattle.grammar.specs.Text.{bytes_at}
use Rattle.names.specs.Names.{hash_from}
use Rattle.names.proofs.Marks.{hash_start, hash_step, hash_end}
use Rattle.names.proofs.hash_bytes.Goals as goal

pub loop-i-init : goal.loop-i-init
loop-i-init c = (omega arith, omega arith, let a = c.args in hash_start a.text.now a.x a.n (a.seed % 2 ^ 32))

pub loop-i-preserved : goal.loop-i-preserved
loop-i-preserved c = let a = c.args in
    let l = c.loop-i in (
      omega arith,
      omega arith,
      ap (λ (b : ℕ). hash_from ((l.h * 16777619 + b) % 2 ^ 32) (bytes_at a.text.now (a.x + (l.i + 1), a.n - (l.i + 1)))) c.byte.ensures.0
          ∙ sym (hash_step a.text.now a.x a.n l.i l.h c.loop-i-test.true c.requires)
          ∙ l.invariant.2,
    )

pub returns : goal.returns
returns c = sym (hash_end _ _ _ _ _ c.loop-i-test.false) ∙ c.loop-i.invariant.2
