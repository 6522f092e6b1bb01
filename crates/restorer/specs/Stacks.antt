-- The stack of the rules that are open in a search. Assumes nothing.
use Rattle.std.specs.Prelude.{◌≡◌, cond, List, ◌⊎◌, ℕ, zero, suc, ◌+◌, ◌*◌, ◌/◌, ◌^◌, ◌≤◌, ◌<◌, length, get_or, eqb}
use Rattle.names.specs.Names.{memory_word}
use Rattle.grammar.specs.Numbers.{rule_width, mark_width}
use Rattle.grammar.specs.Basic.{Bytes}
use Rattle.restorer.specs.Search.{OPEN, state_of, nowhere}
use Rattle.restorer.specs.Lends.{Given, Steady}
use Rattle.restorer.specs.declared.Outcome.{Outcome}
use Rattle.restorer.specs.declared.Outcome.TheVariants.{Reached, Silent}

-- how many of the first n rules were not seen
abbrev pub unseen : ℕ → List ℕ → ℕ
unseen zero m = 0
unseen (suc n) m = cond (eqb (state_of m n) 0) 1 0 + unseen n m

-- of n rules, those that are open are the first `top` of the stack, each at the position that its memory says; there is room for the others
pub record Stacked (n : ℕ) (m stack : List ℕ) (top : ℕ) : Type 0 where
  pub below : (p : ℕ) → p < top → get_or stack p 0 < n
  pub place : (p : ℕ) → p < top → state_of m (get_or stack p 0) ≡ OPEN + p
  pub back : (i p : ℕ) → i < n → state_of m i ≡ OPEN + p → (p < top) × (get_or stack p 0 ≡ i)
  pub room : top + unseen n m ≤ n

-- what a search is given
pub record Searching (rules rows : List ℕ) (text : Bytes) (marks stack : List ℕ) (top : ℕ) : Type 0 where
  pub given : Given rules rows text marks
  pub stacked : Stacked (length rules / rule_width) marks stack top
  pub long : length rules / rule_width ≤ length stack
  pub few : length rules / rule_width < 2 ^ 30

-- of n rules none is forgotten, and the stack grows to `high`
pub record Ran (n : ℕ) (m m' stack' : List ℕ) (top high : ℕ) : Type 0 where
  pub steady : Steady m m'
  pub fewer : unseen n m' ≤ unseen n m
  pub grown : top ≤ high
  pub stacked : Stacked n m' stack' high

abbrev pub top_of : Outcome → ℕ
top_of (Reached high) = high
top_of (Silent low high) = high

-- a rule that was looked into stays open only where a rule below it was named
abbrev pub Left : Outcome → ℕ → Type 0
Left (Reached high) top = Unit {0}
Left (Silent low high) top = (low < top) ⊎ (high ≡ top)

-- the rules from position `from` to `top` of the stack have marks
pub record Within (m stack : List ℕ) (from top : ℕ) : Type 0 where
  pub low : from ≤ top
  pub long : top ≤ length stack
  pub marks : (p : ℕ) → p < top → get_or stack p 0 * mark_width + memory_word < length m

-- the rules from position `from` on are settled as `to`, and the stack ends there
pub record Closes (n : ℕ) (m m' stack : List ℕ) (from to : ℕ) : Type 0 where
  pub stacked : Stacked n m' stack from
  pub turned : (i : ℕ) → i < n → OPEN + from ≤ state_of m i → state_of m' i ≡ to
  pub kept : (i : ℕ) → i < n → state_of m i < OPEN + from → state_of m' i ≡ state_of m i
  pub fewer : unseen n m' ≤ unseen n m

-- the rule at position `top` is left: where no rule below it was named, it and those above it are settled as ones without a change
abbrev pub Leaves : Outcome → Outcome → ℕ → (m m' stack : List ℕ) → Type 0
Leaves (Reached high) b top m m' stack = (b ≡ Reached high) × (m' ≡ m)
Leaves (Silent low high) b top m m' stack = ((low < top) × (b ≡ Silent low high) × (m' ≡ m)) ⊎ ((top ≤ low) × (b ≡ Silent nowhere top) × ((n : ℕ) → Stacked n m stack high → Closes n m m' stack top 2))
