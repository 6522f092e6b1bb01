-- `plan_of` meets its contract, case by case. Assumes nothing.
use Rattle.factorizer.proofs.Walks.{told_heads, told_tail, told_first, told_plain}
use Rattle.factorizer.proofs.Plans.{seq_plan, choice_plan, heads_plan, tail_plan, first_plan, plain_plan}
use Rattle.factorizer.proofs.plan_of.Goals as goal

pub returns-then-kind-ne-CHOICE : goal.returns-then-kind-ne-CHOICE
returns-then-kind-ne-CHOICE c = λ b x y k c₁ c₂. seq_plan c.args.tight _ c.args.table.now.text.now b x y c.if-kind-ne-CHOICE.true k c₁ c₂

pub returns-in-Heads : goal.returns-in-Heads
returns-in-Heads c = λ b x y k c₁ c₂. choice_plan c.args.tight _ c.args.table.now.text.now b x y c.if-kind-ne-CHOICE.false k (heads_plan c.args.tight c.args.table.now.rows.now c.args.table.now.text.now x y c₁ c₂ (told_heads c.args.tight c.args.table.now.rows.now c.args.table.now.text.now x y (c.case_of.ensures x y c₁ c₂) c.in-Heads.is))

pub returns-in-Tail : goal.returns-in-Tail
returns-in-Tail c = λ b x y k c₁ c₂. choice_plan c.args.tight _ c.args.table.now.text.now b x y c.if-kind-ne-CHOICE.false k (tail_plan c.args.tight c.args.table.now.rows.now c.args.table.now.text.now x y c₁ c₂ (told_tail c.args.tight c.args.table.now.rows.now c.args.table.now.text.now x y (c.case_of.ensures x y c₁ c₂) c.in-Tail.is))

pub returns-in-First : goal.returns-in-First
returns-in-First c = λ b x y k c₁ c₂. choice_plan c.args.tight _ c.args.table.now.text.now b x y c.if-kind-ne-CHOICE.false k (first_plan c.args.tight c.args.table.now.rows.now c.args.table.now.text.now x y c₁ c₂ (told_first c.args.tight c.args.table.now.rows.now c.args.table.now.text.now x y (c.case_of.ensures x y c₁ c₂) c.in-First.is) (λ e p. c.untried.ensures c.args.tight c.args.table.now.text.now x e c₁ p))

pub returns-in-Plain : goal.returns-in-Plain
returns-in-Plain c = λ b x y k c₁ c₂. choice_plan c.args.tight _ c.args.table.now.text.now b x y c.if-kind-ne-CHOICE.false k (plain_plan c.args.tight c.args.table.now.rows.now c.args.table.now.text.now x y c₁ c₂ (told_plain c.args.tight c.args.table.now.rows.now c.args.table.now.text.now x y (c.case_of.ensures x y c₁ c₂) c.in-Plain.is))
