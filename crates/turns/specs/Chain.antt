-- The seven steps from one work table to the other: what is asked, and what is answered. Assumes nothing.
use Rattle.std.specs.Prelude.{◌≡◌, Bool, true, false, ◌||◌, List, [], ◌∷◌, map, ℕ, ◌*◌, length, take, None, Option, Some}
use Rattle.grammar.specs.Numbers.{rule_width}
use Rattle.grammar.specs.Basic.{Bytes, any}
use Rattle.grammar.specs.Rows.{Span}
use Rattle.grammar.specs.Table.{Table, Words, row_count, table_text, packed_from, resolve_table, words_of}
use Rattle.grammar.specs.Steps.{each}
use Rattle.grammar.specs.Optimize.{last_of}
use Rattle.grammar.specs.Refusals.{max_text, full_rules, full_rows, too_large}
use Rattle.names.specs.Names.{AllIndexed}
use Rattle.writing.specs.declared.Place.{Place}
use Rattle.passes.specs.Passes.{AsksAll, Lent, Front, step_of}
use Rattle.turns.specs.declared.Two.{Two}
use Rattle.turns.specs.declared.Seven.{Seven}

-- work areas of full size, no less and no more: what does not fit them is too large
pub record Sized (os o s : List ℕ) : Type 0 where
  pub rules : length os ≡ full_rules
  pub rows : length o ≡ full_rows
  pub text : length s ≡ max_text

-- both work tables, of full size
pub record Works (os o s os₂ o₂ s₂ : List ℕ) : Type 0 where
  pub one : Sized os o s
  pub other : Sized os₂ o₂ s₂

-- the table t after a step that looks into the table `look`
abbrev pub after : ℕ → (look t : Table Bytes) → Table Bytes
after step look t = each (step_of step look) t

-- what steps came to whose last table is t: it stands in front of three areas, or one of the tables so far is too large, which `large` says
pub record Stood (a : Option Place) (large : Bool) (t : Table Bytes) (os o s : List ℕ) : Type 0 where
  pub full : a ≡ None → large ≡ true
  pub fits : (q : Place) → a ≡ Some q → large ≡ false
  pub front : (q : Place) → a ≡ Some q → Front q t os o s

-- the rows of that table
abbrev pub rows_of : Option Place → ℕ
rows_of (Some q) = q.rows
rows_of None = 0

-- such a table, of n words of rules, in one work table, and the other free
pub record Stands (n : ℕ) (a : Option Place) (os o s os₂ o₂ s₂ : List ℕ) : Type 0 where
  pub table : Table Bytes
  pub large : Bool
  pub stood : Stood a large table os o s
  pub count : n ≡ length table * rule_width
  pub works : Works os o s os₂ o₂ s₂

-- a step is put on it
pub record Turning (step : ℕ) (rs₀ ws₀ : List ℕ) (text₀ : Bytes) (marks : List ℕ) (n : ℕ) (a : Option Place) (os o s os₂ o₂ s₂ : List ℕ) : Type 0 where
  pub given : Table Span
  pub lent : Lent given rs₀ ws₀
  pub stands : Stands n a os o s os₂ o₂ s₂
  pub asks : let t : Table Bytes = stands.table in AsksAll step rs₀ ws₀ text₀ marks (words_of t).rows (table_text t) (packed_from 0 t)

-- and another on what that gives
pub record Turns (step next : ℕ) (rs₀ ws₀ : List ℕ) (text₀ : Bytes) (marks : List ℕ) (n : ℕ) (a : Option Place) (os o s os₂ o₂ s₂ : List ℕ) : Type 0 where
  pub first : Turning step rs₀ ws₀ text₀ marks n a os o s os₂ o₂ s₂
  pub asks₂ :
      let t : Table Bytes = after step (resolve_table text₀ first.given) first.stands.table in AsksAll next rs₀ ws₀ text₀ marks (words_of t).rows (table_text t) (packed_from 0 t)

-- two steps gave the tables t and u
pub record Paired (a : Two) (large : Bool) (t u : Table Bytes) (os o s : List ℕ) : Type 0 where
  pub rows : (large || too_large t) ≡ false → rows_of a.first ≡ row_count t
  pub stood : Stood a.last ((large || too_large t) || too_large u) u os o s

-- step 7 is put on a table whose names the marks index
pub record Restoring (marks : List ℕ) (n : ℕ) (a : Option Place) (os o s os₂ o₂ s₂ : List ℕ) : Type 0 where
  pub stands : Stands n a os o s os₂ o₂ s₂
  pub index : (q : Place) → a ≡ Some q → AllIndexed (take n os) (take q.text s) marks

-- the tables ts that steps gave, one after the other: their rows are ns, and the last stands in front of three areas up to q
pub record Ran (ns : List ℕ) (q : Place) (ts : List (Table Bytes)) (os o s : List ℕ) : Type 0 where
  pub counts : ns ≡ map row_count ts
  pub fits : any too_large ts ≡ false
  pub front : Front q (last_of ts) os o s

-- the rows after each of seven steps
abbrev pub rows_in : Seven → List ℕ
rows_in a = a.rotated ∷ a.skipped ∷ a.unrolled ∷ a.concatenated ∷ a.factored ∷ a.listed ∷ a.place.rows ∷ []

-- that, or one of them is too large
abbrev pub SevenAnswer : Option Seven → List (Table Bytes) → (os o s : List ℕ) → Type 0
SevenAnswer (Some a) ts os o s = Ran (rows_in a) a.place ts os o s
SevenAnswer None ts os o s = any too_large ts ≡ true

-- the answer of six steps' rows and the seventh's
abbrev pub seven_of : (i j k l m n : ℕ) → Option Place → Option Seven
seven_of i j k l m n (Some q) = Some (record { rotated = i; skipped = j; unrolled = k; concatenated = l; factored = m; listed = n; place = q })
seven_of i j k l m n None = None

-- the table t after each of the steps
abbrev pub rotated : Table Bytes → Table Bytes
rotated t = after 1 t t

abbrev pub skipped : Table Bytes → Table Bytes
skipped t = after 2 t (rotated t)

abbrev pub unrolled : Table Bytes → Table Bytes
unrolled t = after 3 t (skipped t)

abbrev pub concatenated : Table Bytes → Table Bytes
concatenated t = after 4 t (unrolled t)

abbrev pub factored : Table Bytes → Table Bytes
factored t = after 5 t (concatenated t)

abbrev pub listed : Table Bytes → Table Bytes
listed t = after 6 t (factored t)

abbrev pub restored : Table Bytes → Table Bytes
restored t = after 7 (listed t) (listed t)

abbrev pub all_seven : Table Bytes → List (Table Bytes)
all_seven t = rotated t ∷ skipped t ∷ unrolled t ∷ concatenated t ∷ factored t ∷ listed t ∷ restored t ∷ []
