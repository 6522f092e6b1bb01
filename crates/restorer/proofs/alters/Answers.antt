use mathlib.Core.Path.{sym}
use native.Mathlib.Omega.{arith}
use borrow.Author.Count.{below_more}
use Rattle.rows.specs.Rows.{kind_at}
use Rattle.rows.proofs.Laws.{root}
use Rattle.restorer.proofs.Stills.{Stills, still_other, still_name, restore_still}
use mathlib.Core.Path.{◌≡◌, ◌∙◌}
use Rattle.restorer.proofs.alters.Goals as goal
use Rattle.restorer.proofs.alters.Goals.{then-kind-eq-IDENT, else-kind-eq-IDENT}

pub overflow_add-i : goal.overflow_add-i
overflow_add-i c = omega (arith, (root c.requires.stands.at).inside)

pub size_at-requires : goal.size_at-requires
size_at-requires c = (root c.requires.stands.at).inside

pub overflow_step-i : goal.overflow_step-i
overflow_step-i c = let t = root c.requires.stands.at in omega (arith, t.rows, t.most, c.size_at.ensures)

pub overflow_add-i-end : goal.overflow_add-i-end
overflow_add-i-end c = omega (arith, (root c.requires.stands.at).inside)

pub loop-i-init : goal.loop-i-init
loop-i-init c = let t = root c.requires.stands.at in let e = c.size_at.ensures in (omega (arith, t.rows, t.most, e), omega (arith, t.rows, t.least, e), t.inside, λ j p q. absurd (omega (arith, e)))

pub loop-i-preserved : goal.loop-i-preserved
loop-i-preserved c = let v = c.loop-i.invariant in
    let p : kind_at c.args.table.now.rows.now c.loop-i.i ≡ 18 → ⊥ = λ e. c.if-kind-eq-PUSH.false (c.kind_at-kind.ensures ∙ e) in
    let h : Stills _ _ _ _ _ = elim c.if-kind-eq-IDENT.branch [
      | then-kind-eq-IDENT w ↦ still_name _ _ _ _ _ _ p w.name_alters.ensures (sym w.value-is ∙ c.if-name_alters.false)
      | else-kind-eq-IDENT w ↦ still_other _ _ _ _ _ p (λ e. w.if-kind-eq-IDENT.false (c.kind_at-kind.ensures ∙ e))
    ] in
    (omega arith, omega arith, v.2, below_more _ _ v.3 (λ q. h))

pub returns : goal.returns
returns c = λ e u r su a. restore_still u _ _ r a (λ j p q. c.loop-i.invariant.3 j (omega arith) (omega (arith, (root a).rows)) u su)
