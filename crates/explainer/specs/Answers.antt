-- Answers by value, with the list afterwards, and marks in which nothing is remembered. Assumes nothing.
use Rattle.std.specs.Prelude.{List, ℕ, Result, Ok, Err}
use Rattle.grammar.specs.Numbers as Numbers
use Rattle.grammar.specs.declared.Refusal.{Refusal}
use Rattle.grammar.specs.Basic.{Bytes}
use Rattle.grammar.specs.Rows.{Span}
use Rattle.grammar.specs.Table.{Table, resolve_table}
use Rattle.skipper.specs.Memory.{Known}
use Rattle.skipper.specs.Lends.{marks_of, Lent}
use Rattle.skipper.specs.Loops.{Idle}
use Rattle.explanation.specs.Explain as explanation
use Rattle.explainer.specs.declared.Explained.{Explained}
use Rattle.explainer.specs.Reading.{number_of, Ready}

-- an answer that is no refusal
abbrev pub seen_told : Explained → List ℕ → explanation.Explained
seen_told a list = record { number = 0; answer = number_of a.answer; rule = a.rule; at = a.at; met = a.met; open' = a.opened; list = list }

abbrev pub seen : Result Explained Refusal → List ℕ → explanation.Explained
seen (Ok a) list = seen_told a list
seen (Err r) list = explanation.refused (Numbers.number_of r) list

-- nothing was read, and nothing is being read
pub record Fresh (rules rows : List ℕ) (text : Bytes) (m l : List ℕ) : Type 0 where
  pub ready : Ready rules rows text m l 0
  pub known : (t : Table Span) → Lent rules rows t → Known (resolve_table text t) (marks_of (resolve_table text t) m)
  pub idle : (t : Table Span) → Lent rules rows t → Idle (marks_of (resolve_table text t) m)
