-- The memory of skip lists that were read: a mark for each name. Assumes nothing.
use Rattle.std.specs.Prelude.{◌≡◌, true, cond, List, [], ℕ, suc, ◌≤◌, ◌<◌, length, eqb}
use Rattle.grammar.specs.Basic.{Bytes, member, same_bytes}
use Rattle.grammar.specs.Table.{Table}
use Rattle.grammar.specs.Lists.{Reading, nothing, strings, again, read_name}

-- 1: the reading comes to a rule that is being read; 2: none; 3: a list
abbrev pub mark_of : Reading → ℕ
mark_of again = 1
mark_of nothing = 2
mark_of (strings ss) = 3

-- the reading of a name while the rules o are being read
unfoldable pub name_list : Table Bytes → List Bytes → Bytes → Reading
unfolding same_bytes
name_list t o x = read_name (suc (length t)) t o x

-- a mark for each name: 0 for one that was not read, 1 for one that is being read, 2 for one without a list, 3 for one with a list
abbrev pub Marks : Type 0
Marks = Bytes → ℕ

-- a reading that goes by marks alone; what was not read to its end counts as being read
abbrev pub by_mark : ℕ → Reading
by_mark s = cond (eqb s 2) nothing (cond (eqb s 3) (strings []) again)

abbrev pub by_marks : Marks → Bytes → Reading
by_marks st x = by_mark (st x)

-- none of these was read to its end
abbrev pub Unfinished : Marks → List Bytes → Type 0
Unfinished st o = (z : Bytes) → member z o ≡ true → st z < 2

-- what the marks say is so, whichever unfinished rules are being read
pub record Known (t : Table Bytes) (st : Marks) : Type 0 where
  pub so : (y : Bytes) (o : List Bytes) → 2 ≤ st y → Unfinished st o → mark_of (name_list t o y) ≡ st y

-- o are the rules that are being read
pub record Opened (st : Marks) (o : List Bytes) : Type 0 where
  pub all : (z : Bytes) → st z ≡ 1 → member z o ≡ true
  pub only : (z : Bytes) → member z o ≡ true → st z ≡ 1

-- more names are finished, and the same are being read
pub record Grows (st st' : Marks) : Type 0 where
  pub done : (z : Bytes) → 2 ≤ st z → st' z ≡ st z
  pub still : (z : Bytes) → st z ≡ 1 → st' z ≡ 1
  pub same : (z : Bytes) → st' z ≡ 1 → st z ≡ 1

-- a is the mark of the reading f, which went on from the marks st to st'; f is over how a name is read
pub record Reads (t : Table Bytes) (st st' : Marks) (a : ℕ) (f : (Bytes → Reading) → Reading) : Type 0 where
  pub met : a ≡ 1 → (o : List Bytes) → Opened st o → mark_of (f (name_list t o)) ≡ 1
  pub known : 2 ≤ a → Known t st'
  pub grows : 2 ≤ a → Grows st st'
  pub settled : 2 ≤ a → mark_of (f (by_marks st')) ≡ a
