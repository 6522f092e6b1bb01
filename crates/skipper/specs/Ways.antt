-- In which rule's expression the strings of a rule are read: rules that only name another are passed over. Assumes nothing.
use Rattle.std.specs.Prelude.{◌≡◌, cond, List, ℕ, ◌+◌, ◌-◌, ◌*◌, ◌<◌, length, get_or, leb}
use Rattle.std.proofs.Math.Option.{some}
use Rattle.std.proofs.Math.ListN.{get_elem?}
use Rattle.names.specs.Names.{memory_word}
use Rattle.grammar.specs.Numbers.{mark_width}
use Rattle.grammar.specs.Basic.{Bytes}
use Rattle.grammar.specs.Rows.{Span}
use Rattle.grammar.specs.Table.{Rule, Table, resolve_table}
use Rattle.grammar.specs.Lists.{Reading, strings, read_in, read_name}
use Rattle.skipper.specs.Lends.{capped, Lent, Given, Steady}

-- the reading f, with names read through at most n rules, gives the strings ss
pub record Spells (t : Table Bytes) (n : ℕ) (f : (Bytes → Reading) → Reading) (ss : List Bytes) : Type 0 where
  pub opened : List Bytes
  pub reads : f (read_name n t opened) ≡ strings ss

-- there is a rule k, whose expression gives whatever strings that of rule i gives
pub record Gives (t : Table Bytes) (i k : ℕ) : Type 0 where
  pub rule : Rule Bytes
  pub is : get_elem? t k ≡ some rule
  pub same : (r : Rule Bytes) (n : ℕ) (ss : List Bytes) → get_elem? t i ≡ some r → Spells t n (λ look. read_in look r.body) ss → Spells t n (λ look. read_in look rule.body) ss

-- the rule that a memory w tells rule i: k where w is 3 + k, else rule i itself
abbrev pub told_by : ℕ → ℕ → ℕ
told_by w i = cond (leb 3 w) (w - 3) i

abbrev pub told_at : List ℕ → ℕ → ℕ
told_at m i = told_by (get_or m (i * mark_width + memory_word) 0) i

-- each of the first n rules is told a rule that gives its strings
pub record TargetsOf (n : ℕ) (t : Table Bytes) (m : List ℕ) : Type 0 where
  pub to : (i : ℕ) → i < n → Gives t i (told_at m i)

abbrev pub Targets : Table Bytes → List ℕ → Type 0
Targets t m = TargetsOf (length t) t m

-- each rule of some table of n rules is told such a rule
pub record Leading (n : ℕ) (m : List ℕ) : Type 0 where
  pub table : Table Bytes
  pub long : length table ≡ n
  pub targets : Targets table m

-- no more than memories of lists may differ
pub record Relisted (m m' : List ℕ) : Type 0 where
  pub steady : Steady m m'
  pub lists : (i : ℕ) → capped (get_or m' (i * mark_width + memory_word) 0) ≡ capped (get_or m (i * mark_width + memory_word) 0)

-- a table is lent with its marks, and each of its rules is told a rule that gives its strings
pub record Led (rules rows : List ℕ) (text : Bytes) (marks : List ℕ) : Type 0 where
  pub given : Given rules rows text marks
  pub targets : (t : Table Span) → Lent rules rows t → Targets (resolve_table text t) marks
