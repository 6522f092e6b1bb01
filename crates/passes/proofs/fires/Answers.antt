-- `fires` meets its contract by the row's kind, or by what the step's own test answered. Assumes nothing.
use mathlib.Core.Path.{refl, sym, ap, ◌∙◌}
use mathlib.Core.Bool.{false≢true}
use Prim.Native.Nat.{ℕ, ◌/◌}
use native.Mathlib.Omega.{arith}
use borrow.Author.Tests.{leb-false}
use Rattle.grammar.specs.Steps.{is_tight}
use Rattle.grammar.specs.Text.{resolve}
use Rattle.rows.proofs.Laws.{root}
use Rattle.rotator.proofs.Quiets as rotator
use Rattle.skipper.proofs.Quiets as skipper
use Rattle.unroller.proofs.Quiets as unroller
use Rattle.concatenator.proofs.Quiets as concatenator
use Rattle.factorizer.proofs.Quiets as factorizer
use Rattle.lister.proofs.Quiets as lister
use Rattle.passes.specs.Passes.{node_of}
use Rattle.passes.proofs.Stills.{node_at, factor_none, list_none}
use Rattle.passes.proofs.fires.Goals as goal

pub kind_at-k-requires : goal.kind_at-k-requires
kind_at-k-requires c = (root c.requires.stands.at).inside

-- 1
pub fires-requires-clause-stands : goal.fires-requires-clause-stands
fires-requires-clause-stands c = c.requires.stands

pub fires-requires-clause-i_value : goal.fires-requires-clause-i_value
fires-requires-clause-i_value c = ap (λ (k : ℕ). k / 2) (sym c.kind_at-k.ensures) ∙ c.if-k-eq-PAIR.true

pub returns-then-k-eq-PAIR : goal.returns-then-k-eq-PAIR
unfolding node_of
returns-then-k-eq-PAIR c = λ h look x a. node_at look c.args.kind (resolve c.args.table.now.text.now x) 1 c.in-1.is (c.fires.ensures h _ x a)

pub returns-else-k-eq-PAIR : goal.returns-else-k-eq-PAIR
unfolding node_of
returns-else-k-eq-PAIR c = λ h look x a. node_at look c.args.kind (resolve c.args.table.now.text.now x) 1 c.in-1.is (rotator.other_quiet _ x a (λ e. c.if-k-eq-PAIR.false (ap (λ (k : ℕ). k / 2) c.kind_at-k.ensures ∙ e)))

-- 2
pub fires-requires-then-k-eq-REP-clause-stands : goal.fires-requires-then-k-eq-REP-clause-stands
fires-requires-then-k-eq-REP-clause-stands c = c.requires.stands

pub fires-requires-then-k-eq-REP-clause-i_value : goal.fires-requires-then-k-eq-REP-clause-i_value
fires-requires-then-k-eq-REP-clause-i_value c = sym c.kind_at-k.ensures ∙ c.if-k-eq-REP.true

pub returns-then-k-eq-REP : goal.returns-then-k-eq-REP
unfolding node_of
returns-then-k-eq-REP c = λ h look x a. node_at look c.args.kind (resolve c.args.table.now.text.now x) 2 c.in-2.is (c.fires-then-k-eq-REP.ensures h look _ x a)

pub returns-else-k-eq-REP : goal.returns-else-k-eq-REP
unfolding node_of
returns-else-k-eq-REP c = λ h look x a. node_at look c.args.kind (resolve c.args.table.now.text.now x) 2 c.in-2.is (skipper.row_quiet look _ x a (λ e. absurd (c.if-k-eq-REP.false (c.kind_at-k.ensures ∙ e))))

-- 3
pub returns-then-k-ge-REP_ONCE : goal.returns-then-k-ge-REP_ONCE
unfolding node_of
returns-then-k-ge-REP_ONCE c = λ h look x a. node_at look c.args.kind (resolve c.args.table.now.text.now x) 3 c.in-3.is (unroller.other_quiet _ x a (λ e. omega (arith, e.1, c.kind_at-k.ensures, leb-false c.kind_at-k.result 16 h)))

pub returns-else-k-ge-REP_ONCE : goal.returns-else-k-ge-REP_ONCE
unfolding node_of
returns-else-k-ge-REP_ONCE c = λ h look x a. node_at look c.args.kind (resolve c.args.table.now.text.now x) 3 c.in-3.is (unroller.other_quiet _ x a (λ e. omega (arith, e.0, c.kind_at-k.ensures, c.if-k-ge-REP_ONCE.false)))

-- 4
pub fires-requires-then-k-eq-SEQ-clause-stands : goal.fires-requires-then-k-eq-SEQ-clause-stands
fires-requires-then-k-eq-SEQ-clause-stands c = c.requires.stands

pub fires-requires-then-k-eq-SEQ-clause-i_value : goal.fires-requires-then-k-eq-SEQ-clause-i_value
fires-requires-then-k-eq-SEQ-clause-i_value c = sym c.kind_at-k.ensures ∙ c.if-k-eq-SEQ.true

pub returns-then-k-eq-SEQ : goal.returns-then-k-eq-SEQ
unfolding node_of
returns-then-k-eq-SEQ c = λ h look x a. node_at look c.args.kind (resolve c.args.table.now.text.now x) 4 c.in-4.is (c.fires-then-k-eq-SEQ.ensures h _ x a)

pub returns-else-k-eq-SEQ : goal.returns-else-k-eq-SEQ
unfolding node_of
returns-else-k-eq-SEQ c = λ h look x a. node_at look c.args.kind (resolve c.args.table.now.text.now x) 4 c.in-4.is (concatenator.other_quiet _ x a (λ e. c.if-k-eq-SEQ.false (c.kind_at-k.ensures ∙ e)))

-- 5
pub fires-requires-then-k-eq-CHOICE-clause-inside : goal.fires-requires-then-k-eq-CHOICE-clause-inside
fires-requires-then-k-eq-CHOICE-clause-inside c = c.requires.inside

pub fires-requires-then-k-eq-CHOICE-clause-stands : goal.fires-requires-then-k-eq-CHOICE-clause-stands
fires-requires-then-k-eq-CHOICE-clause-stands c = c.requires.stands

pub fires-requires-then-k-eq-CHOICE-clause-i_value : goal.fires-requires-then-k-eq-CHOICE-clause-i_value
fires-requires-then-k-eq-CHOICE-clause-i_value c = sym c.kind_at-k.ensures ∙ c.if-k-eq-CHOICE.true

pub returns-then-k-eq-CHOICE : goal.returns-then-k-eq-CHOICE
returns-then-k-eq-CHOICE c = λ h look x a. node_at look _ _ 5 c.in-5.is (factor_none look _ _ c.tight_rule.ensures (c.fires-then-k-eq-CHOICE.ensures h x a))

pub returns-else-k-eq-CHOICE : goal.returns-else-k-eq-CHOICE
returns-else-k-eq-CHOICE c = λ h look x a. node_at look _ _ 5 c.in-5.is (factor_none look _ _ refl (factorizer.other_idle (is_tight c.args.kind) _ x a (λ e. c.if-k-eq-CHOICE.false (c.kind_at-k.ensures ∙ e))))

-- 6
pub fires-requires-then-k-eq-SEQ-2-clause-inside : goal.fires-requires-then-k-eq-SEQ-2-clause-inside
fires-requires-then-k-eq-SEQ-2-clause-inside c = c.requires.inside

pub fires-requires-then-k-eq-SEQ-2-clause-stands : goal.fires-requires-then-k-eq-SEQ-2-clause-stands
fires-requires-then-k-eq-SEQ-2-clause-stands c = c.requires.stands

pub fires-requires-then-k-eq-SEQ-2-clause-i_value : goal.fires-requires-then-k-eq-SEQ-2-clause-i_value
fires-requires-then-k-eq-SEQ-2-clause-i_value c = sym c.kind_at-k.ensures ∙ c.if-k-eq-SEQ-2.true

pub returns-then-k-eq-SEQ-2 : goal.returns-then-k-eq-SEQ-2
returns-then-k-eq-SEQ-2 c = λ h look x a. node_at look _ _ 6 c.in-6.is (list_none look _ _ (c.fires-then-k-eq-SEQ-2.ensures h x a))

pub returns-else-k-eq-SEQ-2 : goal.returns-else-k-eq-SEQ-2
returns-else-k-eq-SEQ-2 c = λ h look x a. node_at look _ _ 6 c.in-6.is (list_none look _ _ (lister.other_idle _ x a (λ e. c.if-k-eq-SEQ-2.false (c.kind_at-k.ensures ∙ e))))

pub returns-in_default : goal.returns-in_default
returns-in_default c = λ h. absurd (false≢true (sym h))
