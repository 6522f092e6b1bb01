-- Searching for a change of the stack through the rules of a table, with a memory for each rule: word 1 of its mark is 0 where the rule was not
-- seen, 2 where the stack cannot change through it, 3 where it can, and OPEN + p where the rule is open: its rows are being walked, or lead to a
-- rule whose rows are, and it stands at position p among those. Assumes nothing.
use Rattle.std.specs.Prelude.{◌≡◌, Bool, true, false, ◌||◌, not, cond, List, [], ◌∷◌, ℕ, suc, ◌+◌, ◌*◌, ◌≤◌, ◌<◌, length, get_or, eqb, leb}
use Rattle.std.proofs.Math.Option.{some}
use Rattle.std.proofs.Math.ListN.{get_elem?}
use Rattle.names.specs.Names.{memory_word}
use Rattle.grammar.specs.Numbers.{mark_width}
use Rattle.grammar.specs.Basic.{Bytes, same_bytes}
use Rattle.grammar.specs.Tree.{E}
use Rattle.grammar.specs.Table.{Rule, Table}
use Rattle.grammar.specs.Stack.{Reaches, changes_in}
use Rattle.restorer.specs.declared.Outcome.{Outcome}
use Rattle.restorer.specs.declared.Outcome.TheVariants.{Reached, Silent}

-- the memory of the open rule at position 0
abbrev pub OPEN : ℕ
OPEN = 4

-- the memory of rule i in the marks m
abbrev pub state_of : List ℕ → ℕ → ℕ
state_of m i = get_or m (i * mark_width + memory_word) 0

-- the memory of a name is that of the first rule with that name, where the first rule is numbered i; through a name of no rule nothing changes
abbrev pub memory_from : ℕ → Table Bytes → List ℕ → Bytes → ℕ
memory_from i [] m x = 2
memory_from i (r ∷ rs) m x = cond (same_bytes r.name x) (state_of m i) (memory_from (suc i) rs m x)

unfoldable pub memory_of : Table Bytes → List ℕ → Bytes → ℕ
memory_of t m x = memory_from 0 t m x

-- settled as one through which the stack cannot change, or open at position `low` or above
abbrev pub is_quiet : ℕ → ℕ → Bool
is_quiet low s = eqb s 2 || leb (OPEN + low) s

abbrev pub loud : Table Bytes → List ℕ → ℕ → Bytes → Bool
loud t m low x = not (is_quiet low (memory_of t m x))

-- no Push, no DROP or POP, and no name but quiet ones
abbrev pub Quiet : Table Bytes → List ℕ → ℕ → E → Type 0
Quiet t m low e = changes_in (loud t m low) e ≡ false

-- what is settled is right
pub record Right (t : Table Bytes) (m : List ℕ) : Type 0 where
  pub states : (i : ℕ) → i < length t → state_of m i ≡ 1 → ⊥
  pub no : (i : ℕ) (r : Rule Bytes) → get_elem? t i ≡ some r → state_of m i ≡ 2 → Reaches t r.body → ⊥
  pub yes : (i : ℕ) (r : Rule Bytes) → get_elem? t i ≡ some r → state_of m i ≡ 3 → Reaches t r.body

-- a change is reached from rule i
abbrev pub RuleReaches : Table Bytes → ℕ → Type 0
RuleReaches t i = (r : Rule Bytes) → get_elem? t i ≡ some r → Reaches t r.body

-- and from every rule with such a memory
abbrev pub Reach : Table Bytes → List ℕ → (ℕ → Type 0) → Type 0
Reach t m such = (i : ℕ) → such (state_of m i) → RuleReaches t i

-- rules that were seen keep their memories
pub record Kept (t : Table Bytes) (m m' : List ℕ) : Type 0 where
  pub same : (i : ℕ) → i < length t → 1 ≤ state_of m i → state_of m' i ≡ state_of m i

-- a search that changes the marks m to m' forgets nothing, what it settles is right, and the rules that it leaves open stand at `top` or above
-- and reach a change if all do that were open before
pub record Searches (t : Table Bytes) (top : ℕ) (m m' : List ℕ) : Type 0 where
  pub right : Right t m'
  pub kept : Kept t m m'
  pub was : (i : ℕ) → i < length t → OPEN ≤ state_of m' i → state_of m' i < OPEN + top → state_of m i ≡ state_of m' i
  pub spreads : Reach t m (λ s. OPEN ≤ s) → Reach t m' (λ s. OPEN ≤ s)

-- the rules that it leaves open are quiet
abbrev pub Closed : Table Bytes → ℕ → List ℕ → List ℕ → Type 0
Closed t low m m' = (i : ℕ) (r : Rule Bytes) → get_elem? t i ≡ some r → state_of m i ≡ 0 → OPEN ≤ state_of m' i → Quiet t m' low r.body

-- the lowest position that was named, where none was
abbrev pub nowhere : ℕ
nowhere = 4294967295

-- it found a change
pub record Changing (t : Table Bytes) (top : ℕ) (m m' : List ℕ) (Reaching : Type 0) : Type 0 where
  pub searches : Searches t top m m'
  pub reaches : Reaching

-- it found none: all is quiet from `low` on, and if the rule at `low` reaches a change, so does what was searched
pub record Passing (t : Table Bytes) (top low : ℕ) (m m' : List ℕ) (Quietly Reaching : Type 0) : Type 0 where
  pub searches : Searches t top m m'
  pub closed : Closed t low m m'
  pub quiet : Quietly
  pub leads : low < nowhere → Reach t m' (λ s. s ≡ OPEN + low) → Reaching

abbrev pub Answers : Outcome → Table Bytes → ℕ → List ℕ → List ℕ → (ℕ → Type 0) → Type 0 → Type 0
Answers (Reached high) t top m m' quietly reaching = Changing t top m m' reaching
Answers (Silent low high) t top m m' quietly reaching = Passing t top low m m' (quietly low) reaching

-- its answer on an expression, and on rule i
abbrev pub Walked : Outcome → Table Bytes → ℕ → List ℕ → List ℕ → E → Type 0
Walked a t top m m' e = Answers a t top m m' (λ low. Quiet t m' low e) (Reaches t e)

abbrev pub Looked : Outcome → Table Bytes → ℕ → List ℕ → List ℕ → ℕ → Type 0
Looked a t top m m' i = (2 ≤ state_of m' i) × Answers a t top m m' (λ low. is_quiet low (state_of m' i) ≡ true) (RuleReaches t i)

-- rule i is settled, and what was settled stays so
pub record RuleSettled (t : Table Bytes) (m m' : List ℕ) (i : ℕ) : Type 0 where
  pub right : Right t m'
  pub here : 2 ≤ state_of m' i
  pub kept : Kept t m m'

-- every rule is settled
pub record Settled (t : Table Bytes) (m : List ℕ) : Type 0 where
  pub right : Right t m
  pub done : (i : ℕ) → i < length t → 2 ≤ state_of m i
  pub states : (i : ℕ) → i < length t → state_of m i ≤ 3
