-- `over` meets its contract: a row over two trees, or an Opt over the second and a Seq over both.
-- Assumes nothing.
use mathlib.Core.Path.{refl, sym}
use native.Mathlib.Omega.{arith}
use Rattle.grammar.specs.Tree.{Opt, Seq, Choice}
use Rattle.writing.proofs.Keeps.{kept_done, kept_full}
use Rattle.factorizer.proofs.Walks.{un_answer, bin_answer}
use Rattle.chains.proofs.Walks.{kept_same}
use Rattle.factorizer.proofs.Plans.{over_opt, over_choice, over_seq, opt_room, bin_room}
use Rattle.factorizer.proofs.over.Goals as goal

pub returns-in_err-e : goal.returns-in_err-e
returns-in_err-e c = λ x y o o₁ t t₁ t₂ w v h. absurd (kept_full _ _ _ _ _ _ c.in_err-e.was (un_answer c.put_over.result c.put_over.new.out Opt v refl (omega (arith, opt_room c.args.kind w v h c.if-kind-eq-OPT.true)) c.put_over.ensures))

pub returns-then-kind-eq-OPT : goal.returns-then-kind-eq-OPT
returns-then-kind-eq-OPT c = λ x y o o₁ t t₁ t₂ w v h.
    let k = c.if-kind-eq-OPT.true in
    let r = opt_room c.args.kind w v h k in
    let u = kept_done _ _ _ _ _ _ c.in_ok-e.was (un_answer c.put_over.result c.put_over.new.out Opt v refl (omega arith) c.put_over.ensures) in
    kept_same c.put_over-then-kind-eq-OPT.result _ _ _ _ _ (sym (over_opt c.args.kind x y k)) (bin_answer c.put_over-then-kind-eq-OPT.result c.put_over-then-kind-eq-OPT.new.out Seq w u refl (omega (arith, u.rows, v.rows, c.put_over.auto.out)) c.put_over-then-kind-eq-OPT.ensures)

pub returns-then-kind-eq-CHOICE : goal.returns-then-kind-eq-CHOICE
returns-then-kind-eq-CHOICE c = λ x y o o₁ t t₁ t₂ w v h. let e = over_choice c.args.kind x y c.if-kind-eq-CHOICE.true in kept_same c.put_over-then-kind-eq-CHOICE.result _ _ _ _ _ (sym e) (bin_answer c.put_over-then-kind-eq-CHOICE.result c.put_over-then-kind-eq-CHOICE.new.out Choice w v refl (bin_room c.args.kind w v h e) c.put_over-then-kind-eq-CHOICE.ensures)

pub returns : goal.returns
returns c = λ x y o o₁ t t₁ t₂ w v h. let e = over_seq c.args.kind x y c.if-kind-eq-OPT.false c.if-kind-eq-CHOICE.false in kept_same c.put_over-2.result _ _ _ _ _ (sym e) (bin_answer c.put_over-2.result c.put_over-2.new.out Seq w v refl (bin_room c.args.kind w v h e) c.put_over-2.ensures)
