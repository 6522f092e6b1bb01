-- Demand 3, in the customer's words: what an accepted grammar has to meet, and what is then certain. Assumes nothing.
use Rattle.std.specs.Prelude.{◌≡◌, Bool, true, false, ◌&&◌, not, [], ◌∷◌, ◌↔◌, ℕ, ◌*◌, take, get_or, ltb}
use Rattle.std.proofs.Math.Option.{some}
use Rattle.grammar.specs.Numbers.{rule_width, row_width, last_ascii, k_rep_min_max, k_push}
use Rattle.grammar.specs.Basic.{Bytes, any, member, same_bytes}
use Rattle.grammar.specs.Tree.{Str, Insens, Ident, Range, PeekSlice, PeekFrom, Un, E, lit, fixed, skip, un, bin, is_un, un_head, any_node}
use Rattle.grammar.specs.Rows.{Span}
use Rattle.grammar.specs.Table.{Table, Words, resolve_table, find}
use Rattle.grammar.specs.Reading.{Kinds, read_table}
use Rattle.grammar.specs.Lists.{ANY}
use Rattle.grammar.specs.Steps.{is_tight}
use Rattle.grammar.specs.Refusals.{names}
use Rattle.grammar.specs.Optimize.{stages, Answer}
use Rattle.meaning.specs.Outcome.{Res, Out}

-- The table that words stand for, read with these kinds allowed

pub record StandFor (kinds : Kinds) (w : Words) (t : Table Bytes) : Type 0 where
  pub spans : Table Span
  pub read : read_table kinds w.rules w.rows ≡ some spans
  pub means : resolve_table w.text spans ≡ t

abbrev pub all_kinds : Kinds
all_kinds k = true

-- the returned words: as many as the counts say, of each output area
abbrev pub returned : Answer → Words
returned a = record { rules = take (rule_width * a.rules) a.out.rules; rows = take (row_width * a.rows) a.out.rows; text = take a.text a.out.text }

-- "the table after the first n steps"
unfoldable pub after : ℕ → Table Bytes → Table Bytes
unfolding stages
after n t = get_or (stages t) n []

-- The premises, one by one

-- no expression of a rule, at any depth, passes the test
abbrev pub Nowhere : (E → Bool) → Table Bytes → Type 0
Nowhere test t = any (λ r. any_node test r.body) t ≡ false

-- an Ident of neither ANY nor a rule
abbrev pub unknown : Table Bytes → E → Bool
unfolding same_bytes
unknown t (lit Str w) = false
unknown t (lit Insens w) = false
unknown t (lit Ident x) = not (member x (ANY ∷ names t))
unknown t (fixed f) = false
unknown t (skip ss) = false
unknown t (un u e) = false
unknown t (bin b l r) = false

abbrev pub of_un : (Un → Bool) → E → Bool
of_un test (lit k w) = false
of_un test (fixed f) = false
of_un test (skip ss) = false
of_un test (un u e) = test u
of_un test (bin b l r) = false

abbrev pub is_push : E → Bool
is_push e = of_un (is_un k_push) e

abbrev pub is_peek : E → Bool
is_peek (lit k w) = false
is_peek (fixed (Range a b)) = false
is_peek (fixed (PeekSlice a b)) = true
is_peek (fixed (PeekFrom a)) = true
is_peek (skip ss) = false
is_peek (un u e) = false
is_peek (bin b l r) = false

-- a minimum above its maximum: of a RepMinMax, kind 16, they are x and y
abbrev pub crossed_un : Un → Bool
crossed_un u = is_un k_rep_min_max u && ltb (un_head u).2 (un_head u).1

abbrev pub crossed : E → Bool
crossed e = of_un crossed_un e

-- The proof uses `counts` alone, and of "accepted" refusals 5 and 6 (Counterexamples: it has to). The other premises the model does not need:
-- without implicit whitespace a rule's type is of no account, and a name of no rule, a Push and a PeekSlice have no outcome, before and after
pub record Premises (t : Table Bytes) : Type 0 where
  -- "every rule Atomic or CompoundAtomic"
  pub types : any (λ r. not (is_tight r.type)) t ≡ false
  -- "every name ANY or a rule of the table"
  pub known : Nowhere (unknown t) t
  -- "no Push, no PeekSlice"
  pub no_push : Nowhere is_push t
  pub no_peek : Nowhere is_peek t
  -- "no minimum above its maximum"
  pub counts : Nowhere crossed t

-- What is certain

-- "input is a list of bytes 0 to 127". The proof does not use it: ANY and Range take one byte of whatever value
abbrev pub Ascii : Bytes → Type 0
Ascii s = any (ltb last_ascii) s ≡ false

-- "For every rule, ASCII input and start position", u "fails, or succeeds at an end, exactly when" t does
pub record SameOutcomes (t u : Table Bytes) : Type 0 where
  pub rules : names u ≡ names t
  pub outcomes : (s : Bytes) → Ascii s → (x : Bytes) (e f : E) → find t x ≡ some e → find u x ≡ some f → (p : ℕ) (r : Res) → Out t s e p r ↔ Out u s f p r

-- of the table t that was lent, and the answer to it
pub record Demand3 (t : Table Bytes) (a : Answer) : Type 0 where
  -- "the table after the first five steps"
  pub five : SameOutcomes t (after 5 t)
  -- the returned words stand for the returned table
  pub words : StandFor all_kinds (returned a) (after 7 t)
  -- "Where listing fires nowhere, the returned table does so too"
  pub seven : after 6 t ≡ after 5 t → SameOutcomes t (after 7 t)
