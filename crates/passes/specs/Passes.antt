-- A step by its number, and what a pass over the rules of a table leaves in three areas. Assumes nothing.
use Rattle.std.specs.Prelude.{◌≡◌, Bool, true, false, not, ◌||◌, cond, List, [], ◌∷◌, ◌++◌, ℕ, ◌+◌, ◌*◌, ◌/◌, ◌≤◌, ◌<◌, length, take, get_or, eqb, None, Option, Some}
use Rattle.grammar.specs.Numbers.{rule_width, length_word, type_word, row_width}
use Rattle.grammar.specs.Basic.{Bytes}
use Rattle.grammar.specs.Tree.{Expr, E, size, any_node}
use Rattle.grammar.specs.Rows.{Span, row, flat}
use Rattle.grammar.specs.Text.{bytes_at, resolve, text_of, packed}
use Rattle.grammar.specs.Table.{Table, Words, row_count, rule_words, row_words, table_text, resolve_table, words_of, Atomic, rule_head}
use Rattle.grammar.specs.Steps.{each, or_same, rotate_at, skip?, unroll_at, concat?, is_tight, factor?, list?, restore_at, rotate, skip_to, unroll, concatenate, factor, list, restore}
use Rattle.grammar.specs.Refusals.{zero_count}
use Rattle.rows.specs.Rows.{At, Inside}
use Rattle.names.specs.Names.{rows_before}
use Rattle.skipper.specs.Lends.{Given}
use Rattle.skipper.specs.Skips.{Settles}
use Rattle.restorer.specs.Lends as restorer
use Rattle.restorer.specs.Lends.{Marked}
use Rattle.writing.specs.Writes.{Fits, Areas, stored}
use Rattle.writing.specs.Keeps.{Kept}
use Rattle.writing.specs.declared.Place.{Place}

-- the steps by number
abbrev pub rotate_step : ℕ
rotate_step = 1

abbrev pub skip_step : ℕ
skip_step = 2

abbrev pub unroll_step : ℕ
unroll_step = 3

abbrev pub concatenate_step : ℕ
concatenate_step = 4

abbrev pub factor_step : ℕ
factor_step = 5

abbrev pub list_step : ℕ
list_step = 6

abbrev pub restore_step : ℕ
restore_step = 7

-- steps 1 to 7. Skip reads its lists in the table as given, restore looks into the table that it is put on: that is `look`. Any other number changes nothing
unfoldable pub step_of : ℕ → (look : Table Bytes) → ℕ → E → E
step_of n look type e =
    cond (eqb n rotate_step) (rotate e)
    (cond (eqb n unroll_step) (unroll e)
    (cond (eqb n concatenate_step) (concatenate type e) (cond (eqb n factor_step) (factor type e) (cond (eqb n list_step) (list e) (cond (eqb n skip_step) (skip_to look type e) (cond (eqb n restore_step) (restore look e) e))))))

-- a step's rewrite of one node, which the step maps over a tree
unfoldable pub node_of : ℕ → (look : Table Bytes) → ℕ → E → E
node_of n look type e =
    cond (eqb n rotate_step) (rotate_at e)
    (cond (eqb n skip_step) (or_same (skip? look) e)
    (cond (eqb n unroll_step) (unroll_at e)
    (cond (eqb n concatenate_step) (or_same concat? e) (cond (eqb n factor_step) (or_same (factor? (is_tight type)) e) (cond (eqb n list_step) (or_same list? e) (cond (eqb n restore_step) (restore_at look e) e))))))

-- a step leaves the tree of row `root`, of a rule of that type, as it is
abbrev pub Leaves : (step type : ℕ) (ws : List ℕ) (text : Bytes) (root : ℕ) → Type 0
Leaves step type ws text root = (look : Table Bytes) (r : Expr Span) → At ws root r → step_of step look type (resolve text r) ≡ resolve text r

-- so it does with each rule from rule i on, before rule n
abbrev pub LeavesFrom : (step : ℕ) (rs ws : List ℕ) (text : Bytes) (i n : ℕ) → Type 0
LeavesFrom step rs ws text i n = (j : ℕ) → j < n → i ≤ j → (root : ℕ) → root + 1 ≡ rows_before rs (j + 1) → Leaves step (get_or rs (j * rule_width + type_word) 0) ws text root

-- rotate, concatenate, factor and list cannot grow
abbrev pub grows : ℕ → Bool
grows n = not (eqb n rotate_step || (eqb n concatenate_step || (eqb n factor_step || eqb n list_step)))

-- the answer of a step, whether it can grow or not
abbrev pub StepAnswer : Option Place → Place → E → List ℕ → List ℕ → List ℕ → List ℕ → Type 0
StepAnswer (Some q) p e o o' t t' = Kept q p e o o' t t'
StepAnswer None p e o o' t t' = Fits p e o t → ⊥

-- the table's words stand lent
pub record Lent (t : Table Span) (rs ws : List ℕ) : Type 0 where
  pub rules : rule_words t ≡ rs
  pub rows : row_words t ≡ ws

-- what a step asks of the tree r of a rule: unroll, that no count is 0; skip, that the marks settle the lists of the loops of an Atomic rule;
-- restore, that it looks into the very table that it reads, which the marks settle
pub record Asks (step type : ℕ) (rs₀ ws₀ : List ℕ) (text₀ : Bytes) (marks ws : List ℕ) (text : Bytes) (r : Expr Span) : Type 0 where
  pub counts : step ≡ unroll_step → any_node zero_count r ≡ false
  pub given : step ≡ skip_step → Given rs₀ ws₀ text₀ marks
  pub settles : step ≡ skip_step → type ≡ Atomic → (gs : Table Span) → Lent gs rs₀ ws₀ → Settles (resolve_table text₀ gs) marks (resolve text r)
  pub marked : step ≡ restore_step → Marked rs₀ ws text marks
  pub known : step ≡ restore_step → restorer.Settles rs₀ ws text marks
  pub same_rows : step ≡ restore_step → ws₀ ≡ ws
  pub same_text : step ≡ restore_step → text₀ ≡ text

abbrev pub AsksAll : (step : ℕ) (rs₀ ws₀ : List ℕ) (text₀ : Bytes) (marks ws : List ℕ) (text : Bytes) → Table Span → Type 0
AsksAll step rs₀ ws₀ text₀ marks ws text [] = Unit {0}
AsksAll step rs₀ ws₀ text₀ marks ws text (r ∷ t) = Asks step r.type rs₀ ws₀ text₀ marks ws text r.body × AsksAll step rs₀ ws₀ text₀ marks ws text t

-- a step that cannot grow asks that the tree fits
pub record Prepared (step type : ℕ) (rs₀ ws₀ : List ℕ) (text₀ : Bytes) (marks ws : List ℕ) (text : Bytes) (root : ℕ) (p : Place) (o t : List ℕ) : Type 0 where
  pub fits : grows step ≡ false → (r : Expr Span) → At ws root r → Fits p (resolve text r) o t
  pub asks : (r : Expr Span) → At ws root r → Asks step type rs₀ ws₀ text₀ marks ws text r

-- a name's bytes s at p
pub record NamePut (q p : Place) (s t t' : List ℕ) : Type 0 where
  pub fits : p.text + length s ≤ length t
  pub rows : q.rows ≡ p.rows
  pub text : q.text ≡ p.text + length s
  pub bytes : t' ≡ stored t p.text s

abbrev pub NameAnswer : Option Place → Place → (s t t' : List ℕ) → Type 0
NameAnswer (Some q) p s t t' = NamePut q p s t t'
NameAnswer None p s t t' = p.text + length s ≤ length t → ⊥

-- rule i of the words rs has its name in a text of n bytes, and there is room for its words in os
pub record RuleReady (rs : List ℕ) (i n : ℕ) (os : List ℕ) : Type 0 where
  pub there : i < length rs / rule_width
  pub name : get_or rs (i * rule_width) 0 + get_or rs (i * rule_width + length_word) 0 ≤ n
  pub room : i < length os / rule_width

-- a rule's name s and its tree e fit at p
pub record RuleFits (p : Place) (s : Bytes) (e : E) (o t : List ℕ) : Type 0 where
  pub rows : p.rows + size e ≤ length o / row_width
  pub text : p.text + length (s ++ text_of e) ≤ length t

-- what a step asks of a rule with the name s
pub record RulePrepared (step type : ℕ) (rs₀ ws₀ : List ℕ) (text₀ : Bytes) (marks ws : List ℕ) (text : Bytes) (root : ℕ) (p : Place) (s : Bytes) (o t : List ℕ) : Type 0 where
  pub table : Table Span
  pub lent : Lent table rs₀ ws₀
  pub fits : grows step ≡ false → (r : Expr Span) → At ws root r → RuleFits p s (resolve text r) o t
  pub asks : (r : Expr Span) → At ws root r → Asks step type rs₀ ws₀ text₀ marks ws text r

-- the rule's name and its packed tree stand from p to q, and its words at rule i; past that the areas of rows and text hold anything
pub record RuleKept (q p : Place) (i y : ℕ) (s : Bytes) (e : E) (os os' o o' t t' : List ℕ) : Type 0 where
  pub rows : q.rows ≡ p.rows + size e
  pub text : q.text ≡ p.text + length (s ++ text_of e)
  pub heads : os' ≡ stored os (i * rule_width) (rule_head (p.text, length s) y (size e))
  pub words : take (q.rows * row_width) o' ≡ take (p.rows * row_width) o ++ flat (packed (p.text + length s) e)
  pub bytes : take q.text t' ≡ take p.text t ++ (s ++ text_of e)

abbrev pub RuleAnswer : Option Place → Place → (i y : ℕ) → Bytes → E → (os os' o o' t t' : List ℕ) → Type 0
RuleAnswer (Some q) p i y s e os os' o o' t t' = RuleKept q p i y s e os os' o o' t t'
RuleAnswer None p i y s e os os' o o' t t' = RuleFits p s e o t → ⊥

-- a table stands in lent words and text
pub record Holds (t : Table Span) (rs ws : List ℕ) (text : Bytes) : Type 0 where
  pub rules : rule_words t ≡ rs
  pub rows : row_words t ≡ ws
  pub inside : Inside ws (length text)
  pub names : (i : ℕ) → i < length rs / rule_width → get_or rs (i * rule_width) 0 + get_or rs (i * rule_width + length_word) 0 ≤ length text

-- some table does
pub record Held (rs ws : List ℕ) (text : Bytes) : Type 0 where
  pub table : Table Span
  pub holds : Holds table rs ws text

-- a table of trees over bytes fits three areas
pub record TableFits (t : Table Bytes) (os o s : List ℕ) : Type 0 where
  pub rules : length t * rule_width ≤ length os
  pub rows : row_count t ≤ length o / row_width
  pub text : length (table_text t) ≤ length s

-- a pass: the table that the step looks into, the table that it reads, and what it asks of that
pub record Passing (step : ℕ) (rs₀ ws₀ : List ℕ) (text₀ : Bytes) (marks rs ws : List ℕ) (text : Bytes) (os o s : List ℕ) : Type 0 where
  pub given : Table Span
  pub lent : Lent given rs₀ ws₀
  pub table : Table Span
  pub holds : Holds table rs ws text
  pub fits : grows step ≡ false → TableFits (resolve_table text table) os o s
  pub asks : AsksAll step rs₀ ws₀ text₀ marks ws text table

-- the packed table t stands at the front of three areas, up to q
pub record Front (q : Place) (t : Table Bytes) (os o s : List ℕ) : Type 0 where
  pub rows : q.rows ≡ row_count t
  pub text : q.text ≡ length (table_text t)
  pub rule_words_lem : take (length t * rule_width) os ≡ (words_of t).rules
  pub row_words_lem : take (q.rows * row_width) o ≡ (words_of t).rows
  pub bytes : take q.text s ≡ table_text t

-- the answer of a pass: the new table stands in front, or does not fit
abbrev pub PassAnswer : Option Place → Table Bytes → (os o s os' o' s' : List ℕ) → Type 0
PassAnswer (Some q) t os o s os' o' s' = Front q t os' o' s'
PassAnswer None t os o s os' o' s' = TableFits t os o s → ⊥
