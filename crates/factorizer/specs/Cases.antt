-- What is found out at a Choice of two subtrees x and y of the words w with the text t. Assumes nothing.
use Rattle.std.specs.Prelude.{◌≡◌, Bool, true, List, ℕ, None, Option, Some}
use Rattle.std.proofs.Math.Option.{none}
use Rattle.grammar.specs.Basic.{Bytes}
use Rattle.grammar.specs.Tree.{Expr, Seq, Choice, bin, as_seq}
use Rattle.grammar.specs.Rows.{Span}
use Rattle.grammar.specs.Text.{resolve}
use Rattle.grammar.specs.Steps.{factor?}
use Rattle.rows.specs.Rows.{At}
use Rattle.factorizer.specs.declared.Sides.{Sides}
use Rattle.factorizer.specs.declared.Case.{Case}
use Rattle.factorizer.specs.declared.Case.TheVariants.{Heads, Tail, First, Plain}

-- x is a Seq whose sides stand at rows a and b
pub record SeqAt (w : List ℕ) (a b : ℕ) (x : Expr Span) : Type 0 where
  pub head : Expr Span
  pub tail : Expr Span
  pub is : x ≡ bin Seq head tail
  pub at_head : At w a head
  pub at_tail : At w b tail

abbrev pub SidesTold : Option Sides → List ℕ → Bytes → Expr Span → Type 0
SidesTold (Some s) w t x = SeqAt w s.head s.tail x
SidesTold None w t x = as_seq (resolve t x) ≡ none

-- (a~b)|(a~c)
pub record HeadsTold (w : List ℕ) (t : Bytes) (a b c : ℕ) (x y : Expr Span) : Type 0 where
  pub row : ℕ
  pub left : SeqAt w a b x
  pub right : SeqAt w row c y
  pub same : resolve t left.head ≡ resolve t right.head

-- (a~b)|a in a tight rule
pub record TailTold (tight : Bool) (w : List ℕ) (t : Bytes) (a b : ℕ) (x y : Expr Span) : Type 0 where
  pub rule : tight ≡ true
  pub left : SeqAt w a b x
  pub right : as_seq (resolve t y) ≡ none
  pub same : resolve t left.head ≡ resolve t y

-- a|(a~b)
pub record FirstTold (w : List ℕ) (t : Bytes) (x y : Expr Span) : Type 0 where
  pub row : ℕ
  pub next : ℕ
  pub left : as_seq (resolve t x) ≡ none
  pub right : SeqAt w row next y
  pub same : resolve t x ≡ resolve t right.head

abbrev pub CaseTold : Case → Bool → List ℕ → Bytes → (x y : Expr Span) → Type 0
CaseTold (Heads a b c) tight w t x y = HeadsTold w t a b c x y
CaseTold (Tail a b) tight w t x y = TailTold tight w t a b x y
CaseTold First tight w t x y = FirstTold w t x y
CaseTold Plain tight w t x y = factor? tight (bin Choice (resolve t x) (resolve t y)) ≡ none
