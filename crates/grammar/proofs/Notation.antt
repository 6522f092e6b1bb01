-- How the examples are written. Assumes nothing.
use mathlib.Core.List.{List, [], ◌∷◌}
use Prim.Native.Nat.{ℕ}
use lib.ListN.{replicate}
use Rattle.grammar.specs.Basic.{Bytes}
use Rattle.grammar.specs.Tree.{Choice, E, Ident, NegPred, Opt, Push, Rep, RestoreOnErr, Seq, Str, bin, lit, un}
use Rattle.grammar.specs.Table.{Rule, Table, Words, words_of}
use Rattle.grammar.specs.Lists.{ANY}
use Rattle.grammar.specs.Optimize.{Answer, Result, finished, of_words, optimize, refused}
use Rattle.grammar.specs.Refusals.{max_text, full_rules, full_rows, full_marks}

-- output and work areas of full size; what stands in them before the call is any number, here 165 in each byte
abbrev pub full : Words
full = record { rules = replicate full_rules 2779096485; rows = replicate full_rows 2779096485; text = replicate max_text 165 }

unfoldable pub call : Words → Answer
unfolding optimize
call w = optimize w full full full (replicate full_marks 0)

-- An example: words and the whole answer; words and the table that they give, or their number; the same for a table, packed
pub data Example : Type 0 where
  whole : Words → Answer → Example
  makes : Words → Table Bytes → Example
  numbered : Words → ℕ → Example
  gives : Table Bytes → Table Bytes → Example
  refuses : Table Bytes → ℕ → Example

-- of a `whole` everything is compared, else how the call ends; of a table that is given back all but the report
pub data Seen : Type 0 where
  all : Answer → Seen
  end : Result → Seen

unfoldable pub found : Example → Seen
unfolding call of_words
found (whole w a) = all (call w)
found (makes w u) = end (of_words w)
found (numbered w n) = end (of_words w)
found (gives t u) = end (of_words (words_of t))
found (refuses t n) = end (of_words (words_of t))

abbrev report_of : Result → List ℕ
report_of (refused n) = []
report_of (finished report t) = report

-- what the document says
unfoldable pub wanted : Example → Seen
unfolding of_words
wanted (whole w a) = all a
wanted (makes w u) = end (finished (report_of (of_words w)) u)
wanted (numbered w n) = end (refused n)
wanted (gives t u) = end (finished (report_of (of_words (words_of t))) u)
wanted (refuses t n) = end (refused n)

-- bytes: the letters a, b, c, d, r, x, y and z
abbrev pub a : Bytes
a = 97 ∷ []

abbrev pub b : Bytes
b = 98 ∷ []

abbrev pub c : Bytes
c = 99 ∷ []

abbrev pub d : Bytes
d = 100 ∷ []

abbrev pub r : Bytes
r = 114 ∷ []

abbrev pub x : Bytes
x = 120 ∷ []

abbrev pub y : Bytes
y = 121 ∷ []

abbrev pub z : Bytes
z = 122 ∷ []

infixr 60 ◌~◌
infixr 50 ◌or◌
abbrev pub ◌~◌ : E → E → E
l ~ e = bin Seq l e

-- an ordered Choice
abbrev pub ◌or◌ : E → E → E
l or e = bin Choice l e

abbrev pub str : Bytes → E
str s = lit Str s

abbrev pub id : Bytes → E
id s = lit Ident s

abbrev pub opt : E → E
opt e = un Opt e

abbrev pub rep : E → E
rep e = un Rep e

abbrev pub push : E → E
push e = un Push e

abbrev pub restored : E → E
restored e = un RestoreOnErr e

-- (!e ~ ANY)*
abbrev pub until : E → E
until e = rep (un NegPred e ~ id ANY)

abbrev pub rule : Bytes → ℕ → E → Rule Bytes
rule n t e = record { name = n; type = t; body = e }

-- a sole rule r
abbrev pub sole : ℕ → E → Table Bytes
sole t e = rule r t e ∷ []
