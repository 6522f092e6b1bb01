-- A reading of rows that tells where it ends: the marks that it goes by, the rules that it is in, and what it answers. Assumes nothing.
use Rattle.std.specs.Prelude.{◌≡◌, cond, List, [], ◌++◌, ℕ, zero, suc, ◌+◌, ◌-◌, ◌*◌, ◌/◌, ◌≤◌, ◌<◌, eqb, length, get_or}
use Rattle.grammar.specs.Numbers.{rule_width, mark_width}
use Rattle.grammar.specs.Basic.{Bytes}
use Rattle.grammar.specs.Refusals.{full_rules, full_rows}
use Rattle.grammar.specs.Rows.{Span}
use Rattle.grammar.specs.Table.{Table, resolve_table}
use Rattle.grammar.specs.Lists.{Reading}
use Rattle.grammar.proofs.Readings.{unopened}
use Rattle.names.specs.Names.{memory_word, ways_word, end_word}
use Rattle.writing.specs.Writes.{stored}
use Rattle.skipper.specs.Memory.{Marks, Opened, Known}
use Rattle.skipper.specs.Lends.{marks_of, Given, ReadsOf}
use Rattle.explanation.specs.Ends.{Ends, reads, unknown, other, again, Look, ends_name}
use Rattle.explanation.specs.Explain.{ends_told}
use Rattle.explanation.proofs.Ties.{Numbers}
use Rattle.explainer.specs.declared.Explained.{Explained}
use Rattle.explainer.specs.declared.Reason.{Reason}
use Rattle.explainer.specs.declared.Reason.TheVariants.{BecomesSkip, NotRep, Regroup, NotAtomic, NotSeq, NotNegPred, NotAny, Unknown, Other, MetAgain}

-- the answers by their numbers
abbrev pub number_of : Reason → ℕ
number_of BecomesSkip = 0
number_of NotRep = 1
number_of Regroup = 2
number_of NotAtomic = 3
number_of NotSeq = 4
number_of NotNegPred = 5
number_of NotAny = 6
number_of Unknown = 7
number_of Other = 8
number_of MetAgain = 9

-- an answer and the numbers that tell where
abbrev pub Numbered : Explained → Reason → (rule at met count : ℕ) → Type 0
Numbered a r i at j k = (a.answer ≡ r) × (a.rule ≡ i) × (a.at ≡ at) × (a.met ≡ j) × (a.opened ≡ k)

-- the memory of rule i
abbrev pub memory_at : List ℕ → ℕ → ℕ
memory_at m i = get_or m (i * mark_width + memory_word) 0

-- how many of the first n rules were not read
abbrev pub unread : ℕ → List ℕ → ℕ
unread zero m = 0
unread (suc n) m = cond (eqb (memory_at m n) 0) 1 0 + unread n m

-- a memory is 0 for a rule that was not read, 1 for one that is being read, 3 for one that was read to a list
abbrev pub Clean : ℕ → List ℕ → Type 0
Clean n m = (i : ℕ) → i < n → (memory_at m i ≡ 0 → ⊥) → (memory_at m i ≡ 1 → ⊥) → memory_at m i ≡ 3

-- a reading changes nothing but memories, and forgets none of the first n
pub record Steady (n : ℕ) (m m' : List ℕ) : Type 0 where
  pub fewer : unread n m' ≤ unread n m
  pub slots : (i : ℕ) → get_or m' (i * mark_width) 0 ≡ get_or m (i * mark_width) 0
  pub ways : (i : ℕ) → get_or m' (i * mark_width + ways_word) 0 ≡ get_or m (i * mark_width + ways_word) 0
  pub end : (i : ℕ) → get_or m' (i * mark_width + end_word) 0 ≡ get_or m (i * mark_width + end_word) 0

-- a table is lent, with its marks and a list; d rules are being read
pub record Ready (rules rows : List ℕ) (text : Bytes) (m l : List ℕ) (d : ℕ) : Type 0 where
  pub given : Given rules rows text m
  pub few : length rules ≤ full_rules
  pub low : length rows ≤ full_rows
  pub clean : Clean (length rules / rule_width) m
  pub deep : d + unread (length rules / rule_width) m ≤ length rules / rule_width
  pub room : length rules / rule_width ≤ length l

-- the rules o are being read, outermost first: d of them, with the names l
pub record Within (t : Table Bytes) (st : Marks) (o : List ℕ) (l : List Bytes) (d : ℕ) : Type 0 where
  pub all : Opened st l
  pub numbers : Numbers t o l
  pub deep : length o ≡ d
  pub room : unopened t l + d ≤ length t

-- the rules on the way from o, which are d, to where a rule was met again; n words have room for them
abbrev pub Way : Ends → (o : List ℕ) (d n : ℕ) (tail : List ℕ) → Type 0
Way reads o d n tail = tail ≡ []
Way (unknown i at) o d n tail = tail ≡ []
Way (other i at) o d n tail = tail ≡ []
Way (again i at j p) o d n tail = (p ≡ o ++ tail) × (d + length tail ≤ n)

-- the answer a says that a reading ended in w; the list l became l', with what is behind the first d rules on the way
pub record Says (a : Explained) (w : Ends) (o : List ℕ) (d : ℕ) (l l' : List ℕ) : Type 0 where
  pub answer : number_of a.answer ≡ (ends_told w []).answer
  pub rule : a.rule ≡ (ends_told w []).rule
  pub at : a.at ≡ (ends_told w []).at
  pub met : a.met ≡ (ends_told w []).met
  pub count : a.opened ≡ (ends_told w []).open'
  pub tail : List ℕ
  pub way : Way w o d (length l) tail
  pub list : l' ≡ stored l d tail

-- the reading f of the table t with the text s and n rules, with its places e, while d rules are being read: it answered a, and changed the marks m to m' and
-- the list l to l'
pub record ReadSo (s : Bytes) (t : Table Span) (n d : ℕ) (m m' l l' : List ℕ) (a : Explained) (f : (Bytes → Reading) → Reading) (e : Look → Ends) : Type 0 where
  pub steady : Steady n m m'
  pub clean : a.answer ≡ BecomesSkip → Clean n m'
  pub reads' : a.answer ≡ BecomesSkip → ReadsOf s t m m' 3 f
  pub says : (o : List ℕ) (names : List Bytes) → Known (resolve_table s t) (marks_of (resolve_table s t) m) → Within (resolve_table s t) (marks_of (resolve_table s t) m) o names d → Says a (e (ends_name (suc (length (resolve_table s t)) - d) (resolve_table s t) o)) o d l l'
