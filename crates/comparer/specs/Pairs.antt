-- Which rules of two tables have one name, as the memories of their marks say it. Assumes nothing.
use Rattle.std.specs.Prelude.{◌≡◌, List, ℕ, zero, suc, ◌+◌, ◌*◌, ◌/◌, ◌<◌, length, get_or, set, None, Option, Some}
use Rattle.grammar.specs.Basic.{Bytes}
use Rattle.grammar.specs.Numbers.{rule_width, mark_width}
use Rattle.names.specs.Names.{memory_word, ways_word, end_word, name_of, Finds}

-- the memory of rule i
abbrev pub memory_at : List ℕ → ℕ → ℕ
memory_at marks i = get_or marks (i * mark_width + memory_word) 0

abbrev pub with_memory : List ℕ → (i v : ℕ) → List ℕ
with_memory marks i v = set marks (i * mark_width + memory_word) v

-- a left rule's memory is 0, or one more than the number of the right rule with its name
abbrev pub partner : ℕ → Option ℕ
partner zero = None
partner (suc j) = Some j

abbrev pub memory_of : Option ℕ → ℕ
memory_of None = 0
memory_of (Some j) = j + 1

-- and that right rule's memory is 1
abbrev pub met_by : Option ℕ → List ℕ → List ℕ
met_by None marks = marks
met_by (Some j) marks = with_memory marks j 1

-- some of the first n left rules has this name
pub record Met (n : ℕ) (rules : List ℕ) (text name : Bytes) : Type 0 where
  pub rule : ℕ
  pub below : rule < n
  pub same : name_of rules text rule ≡ name

-- the memories say it of the first n left rules
pub record Paired (n : ℕ) (rules₁ : List ℕ) (text₁ : Bytes) (rules₂ : List ℕ) (text₂ : Bytes) (marks₁ marks₂ : List ℕ) : Type 0 where
  pub left : (i : ℕ) → i < n → Finds (length rules₂ / rule_width) rules₂ text₂ (name_of rules₁ text₁ i) (partner (memory_at marks₁ i))
  pub met : (j : ℕ) → j < length rules₂ / rule_width → (memory_at marks₂ j ≡ 0 → ⊥) → Met n rules₁ text₁ (name_of rules₂ text₂ j)
  pub unmet : (j : ℕ) → j < length rules₂ / rule_width → memory_at marks₂ j ≡ 0 → Met n rules₁ text₁ (name_of rules₂ text₂ j) → ⊥

-- rule i is paired: what its name finds, and the memories with it
pub record PairedOne (i : ℕ) (rules₁ : List ℕ) (text₁ : Bytes) (rules₂ : List ℕ) (text₂ : Bytes) (marks₁ marks₁' marks₂ marks₂' : List ℕ) : Type 0 where
  pub found : Option ℕ
  pub finds : Finds (length rules₂ / rule_width) rules₂ text₂ (name_of rules₁ text₁ i) found
  pub left : marks₁' ≡ with_memory marks₁ i (memory_of found)
  pub right : marks₂' ≡ met_by found marks₂

-- nothing but memories has changed
pub record Kept (m m' : List ℕ) : Type 0 where
  pub long : length m' ≡ length m
  pub slots : (i : ℕ) → get_or m' (i * mark_width) 0 ≡ get_or m (i * mark_width) 0
  pub ways : (i : ℕ) → get_or m' (i * mark_width + ways_word) 0 ≡ get_or m (i * mark_width + ways_word) 0
  pub ends : (i : ℕ) → get_or m' (i * mark_width + end_word) 0 ≡ get_or m (i * mark_width + end_word) 0
