use native.Mathlib.Omega.{arith}
use borrow.Author.Count.{below_more}
use Rattle.rows.specs.Rows.{kind_at}
use Rattle.restorer.proofs.Calms.{Calm, calm_other, calm_name, calm_table}
use mathlib.Core.Path.{◌≡◌, sym, ◌∙◌}
use Rattle.restorer.proofs.still.Goals as goal
use Rattle.restorer.proofs.still.Goals.{then-k-eq-IDENT, else-k-eq-IDENT}

pub loop-i-preserved : goal.loop-i-preserved
loop-i-preserved c = let v = c.loop-i.invariant in
    let p : kind_at c.args.table.now.rows.now c.loop-i.i ≡ 18 → ⊥ = λ e. c.if-k-eq-PUSH.false (c.kind_at-k.ensures ∙ e) in
    let h : Calm _ _ _ = elim c.if-k-eq-IDENT.branch [
      | then-k-eq-IDENT w ↦ calm_name _ _ _ _ p w.name_stirs.ensures (sym w.value-is ∙ c.if-name_stirs.false)
      | else-k-eq-IDENT w ↦ calm_other _ _ _ p (λ e. w.if-k-eq-IDENT.false (c.kind_at-k.ensures ∙ e))
    ] in
    (v.0, omega arith, below_more _ _ v.2 h)

pub returns : goal.returns
returns c = λ e t h. calm_table _ _ (λ j p. c.loop-i.invariant.2 j (omega arith)) t h
