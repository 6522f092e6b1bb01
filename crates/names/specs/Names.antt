-- Names of rules given as words, their marks, and which rule a search finds. Assumes nothing.
use Rattle.std.specs.Prelude.{◌≡◌, Bool, true, false, cond, List, [], ◌∷◌, ℕ, zero, suc, ◌+◌, ◌-◌, ◌*◌, ◌/◌, ◌%◌, ◌^◌, ◌<◌, ◌≤◌, eqb, ltb, length, get_or, set, drop, None, Option, Some}
use Rattle.grammar.specs.Numbers.{rule_width, length_word, rows_word, mark_width}
use Rattle.grammar.specs.Basic.{Bytes}
use Rattle.grammar.specs.Rows.{Span}
use Rattle.grammar.specs.Text.{bytes_at}

-- the words of a mark: the index of names has word 0 and word 2, the phase that runs word 1, and word 3 is the row after the rule's last
abbrev pub memory_word : ℕ
memory_word = 1

abbrev pub ways_word : ℕ
ways_word = 2

abbrev pub end_word : ℕ
end_word = 3

-- the index stands in halves of words: so many in a mark, where a node has the slots to go on with, and so many values a half has
abbrev pub halves : ℕ
halves = 8

-- from the halves of word 0 to those of word 2
abbrev pub stride : ℕ
stride = 4

abbrev pub if_not : ℕ
if_not = 4

abbrev pub if_so : ℕ
if_so = 5

abbrev pub half_size : ℕ
half_size = 65536

-- so many rules, with as many nodes, have numbers of a half
abbrev pub few_rules : ℕ
few_rules = 32768

-- the name of rule i: offset and length, and its bytes
abbrev pub name_span : List ℕ → ℕ → Span
name_span rules i = (get_or rules (i * rule_width) 0, get_or rules (i * rule_width + length_word) 0)

abbrev pub name_of : List ℕ → Bytes → ℕ → Bytes
name_of rules text i = bytes_at text (name_span rules i)

-- the rows of the rules before rule i, where rule i's rows start; at suc i, where they end
abbrev pub rows_before : List ℕ → ℕ → ℕ
rows_before rules zero = 0
rows_before rules (suc i) = rows_before rules i + get_or rules (i * rule_width + rows_word) 0

-- so many of a name's last bytes count for its bucket, and its length: it costs little however long the name is
abbrev pub last_bytes : ℕ
last_bytes = 8

abbrev pub hash_from : ℕ → Bytes → ℕ
hash_from h [] = h
hash_from h (b ∷ s) = hash_from ((h * 16777619 + b) % 2 ^ 32) s

-- the bucket of a name, where there are n
unfoldable pub bucket_of : ℕ → Bytes → ℕ
bucket_of n s = hash_from (length s % 2 ^ 32) (drop (length s - last_bytes) s) % n

-- the marks m with word j of the first n marks set to f, and all else as it was
abbrev pub marked : (ℕ → ℕ) → ℕ → ℕ → List ℕ → List ℕ
marked f j zero m = m
marked f j (suc i) m = set (marked f j i m) (i * mark_width + j) (f i)

abbrev pub with_ends : List ℕ → List ℕ → List ℕ
with_ends rules m = marked (λ i. rows_before rules (suc i)) end_word (length rules / rule_width) m

-- every name lies in a text of n bytes
abbrev pub NamesInside : List ℕ → ℕ → Type 0
NamesInside rules n = (i : ℕ) → i < length rules / rule_width → get_or rules (i * rule_width) 0 + get_or rules (i * rule_width + length_word) 0 ≤ n

-- the marks by halves of their words: half h is that of word h / 2, the lower one where h is even
unfoldable pub half_at : List ℕ → ℕ → ℕ
half_at m h = cond (eqb (h % 2) 0) (get_or m (h / 2) 0 % half_size) (get_or m (h / 2) 0 / half_size)

unfoldable pub with_half : List ℕ → ℕ → ℕ → List ℕ
with_half m h v = set m (h / 2) (cond (eqb (h % 2) 0) (get_or m (h / 2) 0 / half_size * half_size + v) (v * half_size + get_or m (h / 2) 0 % half_size))

-- what stands at a position of a name: 0 past its end
unfoldable pub symbol_at : Bytes → ℕ → ℕ
symbol_at s d = cond (ltb d (length s)) (suc (get_or s d 0)) 0

-- Names are found along a tree for each bucket. Half 1 of mark b is the slot where the tree of bucket b starts. Node k, in the mark of rule k, asks at
-- the position in half 0 whether a name has there what rule k's has: half 5 is the slot to go on with if so, half 4 if not. Of n rules a slot
-- holds a rule below n, or n for none, or n + k for node k.
pub record Slot (n s : ℕ) : Type 0 where
  pub inside : s < n * halves
  pub word : s % stride < 2
  pub place : 0 < s % halves

-- the slot that a key goes on with at node k; the rules have these names
unfoldable pub onward : (ℕ → Bytes) → List ℕ → Bytes → ℕ → ℕ
onward name m key k = cond (eqb (symbol_at (name k) (half_at m (k * halves))) (symbol_at key (half_at m (k * halves)))) (k * halves + if_so) (k * halves + if_not)

-- the way of a key from slot s to slot e, through nodes below k
pub data Way (n k : ℕ) (name : ℕ → Bytes) (m : List ℕ) (key : Bytes) : ℕ → ℕ → Type 0 where
  stay : {s : ℕ} → Way n k name m key s s
  step : {s e : ℕ} (j : ℕ) → half_at m s ≡ n + j → 1 ≤ j → j < k → Way n k name m key (onward name m key j) e → Way n k name m key s e

-- a key's way from the start of its bucket ends at slot s
pub record Ends (n k : ℕ) (name : ℕ → Bytes) (m : List ℕ) (key : Bytes) (s : ℕ) : Type 0 where
  pub way : Way n k name m key (bucket_of n key * halves + 1) s
  pub last : half_at m s ≤ n

-- it ends with rule i
pub record Leads (n k : ℕ) (name : ℕ → Bytes) (m : List ℕ) (key : Bytes) (i : ℕ) : Type 0 where
  pub slot : ℕ
  pub way : Way n k name m key (bucket_of n key * halves + 1) slot
  pub is : half_at m slot ≡ i

-- slots hold rules below k, nothing, or nodes below k; a node leads to nodes after it; the slots of further nodes are empty
pub record Shaped (n k : ℕ) (m : List ℕ) : Type 0 where
  pub rule : (s : ℕ) → Slot n s → half_at m s < n → half_at m s < k
  pub most : (s : ℕ) → Slot n s → half_at m s ≤ n + (k - 1)
  pub later : (s : ℕ) → Slot n s → (s % halves ≡ 1 → ⊥) → n < half_at m s → n + s / halves < half_at m s
  pub empty : (s : ℕ) → Slot n s → (s % halves ≡ 1 → ⊥) → k * halves ≤ s → half_at m s ≡ n

-- the first k rules are found by their names
pub record Indexed (k : ℕ) (rules : List ℕ) (text : Bytes) (marks : List ℕ) : Type 0 where
  pub few : length rules / rule_width < few_rules
  pub up_to : k ≤ length rules / rule_width
  pub long : length rules / rule_width * mark_width ≤ length marks
  pub shaped : Shaped (length rules / rule_width) k marks
  pub leads : (i : ℕ) → i < k → Leads (length rules / rule_width) k (name_of rules text) marks (name_of rules text i) i

-- some are
pub record Walkable (rules : List ℕ) (text : Bytes) (marks : List ℕ) : Type 0 where
  pub up_to : ℕ
  pub indexed : Indexed up_to rules text marks

-- all are
pub record AllIndexed (rules : List ℕ) (text : Bytes) (marks : List ℕ) : Type 0 where
  pub inside : NamesInside rules (length text)
  pub long : length rules / rule_width * mark_width ≤ length marks
  pub indexed : Indexed (length rules / rule_width) rules text marks

-- two rules have one name
pub record Twice (rules : List ℕ) (text : Bytes) : Type 0 where
  pub first : ℕ
  pub second : ℕ
  pub order : first < second
  pub there : second < length rules / rule_width
  pub same : name_of rules text first ≡ name_of rules text second

-- whether the first k rules are found by their names, or two have one
pub record IndexAnswer (b : Bool) (k : ℕ) (rules : List ℕ) (text : Bytes) (marks : List ℕ) : Type 0 where
  pub yes : b ≡ true → Indexed k rules text marks
  pub no : b ≡ false → Twice rules text

pub record NamesAnswer (b : Bool) (rules : List ℕ) (text : Bytes) (marks : List ℕ) : Type 0 where
  pub yes : b ≡ true → AllIndexed rules text marks
  pub no : b ≡ false → Twice rules text

-- two names in a text of n bytes differ at a position, or are the same
abbrev pub ApartAnswer : Option ℕ → ℕ → Bytes → Bytes → Type 0
ApartAnswer (Some d) n a b = (d < n) × (symbol_at a d ≡ symbol_at b d → ⊥)
ApartAnswer None n a b = a ≡ b

-- word 3 of each rule's mark is the row after its last row
pub record Ended (rules marks : List ℕ) : Type 0 where
  pub end : (i : ℕ) → i < length rules / rule_width → get_or marks (i * mark_width + end_word) 0 ≡ rows_before rules (suc i)

-- rule i is the first of m rules that has the name key
pub record First (m : ℕ) (rules : List ℕ) (text key : Bytes) (i : ℕ) : Type 0 where
  pub below : i < m
  pub same : name_of rules text i ≡ key
  pub first : (j : ℕ) → j < i → name_of rules text j ≡ key → ⊥

-- what a search for the name key among the first m rules finds
abbrev pub Finds : ℕ → List ℕ → Bytes → Bytes → Option ℕ → Type 0
Finds m rules text key (Some i) = First m rules text key i
Finds m rules text key None = (j : ℕ) → j < m → name_of rules text j ≡ key → ⊥

-- key is the name of a rule
pub record IsName (rules : List ℕ) (text key : Bytes) : Type 0 where
  pub rule : ℕ
  pub is : First (length rules / rule_width) rules text key rule
