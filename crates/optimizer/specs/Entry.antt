-- The whole call: its answer as the caller sees it. Assumes nothing.
use Rattle.std.specs.Prelude.{◌≡◌, List, [], ◌∷◌, ℕ, ◌/◌, ◌≤◌, ◌<◌, ◌^◌, length, Result, Ok, Err}
use Rattle.grammar.specs.Numbers.{rule_width, number_of}
use Rattle.grammar.specs.declared.Refusal.{Refusal}
use Rattle.grammar.specs.Table.{Words}
use Rattle.grammar.specs.Optimize as grammar
use Rattle.grammar.specs.Refusals.{max_text, full_rules, full_rows, full_marks}
use Rattle.turns.specs.declared.Seven.{Seven}
use Rattle.optimizer.specs.declared.Answer.{Answer}

-- the answer by value and the output areas afterwards
abbrev pub seen : Result Answer Refusal → Words → grammar.Answer
seen (Ok a) out = record { number = 0; rules = a.rules; rows = a.rows; text = a.text; report = a.report; out = out }
seen (Err r) out = grammar.answer out (grammar.refused (number_of r))

-- areas of full size or more
pub record AtLeast (os o s : List ℕ) : Type 0 where
  pub rules : full_rules ≤ length os
  pub rows : full_rows ≤ length o
  pub text : max_text ≤ length s

-- the outputs, both work tables and the marks
pub record Lengths (os o s os₁ o₁ s₁ os₂ o₂ s₂ marks : List ℕ) : Type 0 where
  pub out : AtLeast os o s
  pub one : AtLeast os₁ o₁ s₁
  pub other : AtLeast os₂ o₂ s₂
  pub marked : full_marks ≤ length marks

-- counts that a word holds
pub record Small (count n : ℕ) (a : Seven) : Type 0 where
  pub rules : count < 2 ^ 32
  pub first : n < 2 ^ 32
  pub second : a.rotated < 2 ^ 32
  pub third : a.skipped < 2 ^ 32
  pub fourth : a.unrolled < 2 ^ 32
  pub fifth : a.concatenated < 2 ^ 32
  pub sixth : a.factored < 2 ^ 32
  pub seventh : a.listed < 2 ^ 32
  pub rows : a.place.rows < 2 ^ 32
  pub text : a.place.text < 2 ^ 32

-- what is told of a finished table
pub record Said (r : Answer) (count first : ℕ) (a : Seven) : Type 0 where
  pub rules : r.rules ≡ count / rule_width
  pub rows : r.rows ≡ a.place.rows
  pub text : r.text ≡ a.place.text
  pub report : r.report ≡ first ∷ a.rotated ∷ a.rotated ∷ a.skipped ∷ a.skipped ∷ a.unrolled ∷ a.unrolled ∷ a.concatenated ∷ a.concatenated ∷ a.factored ∷ a.factored ∷ a.listed ∷ a.listed ∷ a.place.rows ∷ []
