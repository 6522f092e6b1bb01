-- What is written of a restored tree, and what shows of it. Assumes nothing.
use Rattle.std.specs.Prelude.{◌≡◌, Bool, true, false, ◌||◌, cond, List, [], ◌∷◌, ℕ, ◌+◌, ◌-◌, ◌*◌, ◌/◌, ◌^◌, ◌≤◌, ◌<◌, length, get_or, eqb, None, Option, Some}
use Rattle.grammar.specs.Numbers.{rule_width, row_width, mark_width, k_choice, k_opt, k_rep, k_push, k_restore_on_err}
use Rattle.grammar.specs.Basic.{Bytes, member}
use Rattle.grammar.specs.Tree.{Head, Un, Ident, Expr, E, lit, un, un_head}
use Rattle.grammar.specs.Rows.{Span}
use Rattle.grammar.specs.Table.{Table}
use Rattle.grammar.specs.Stack.{stack_names, changes}
use Rattle.grammar.specs.Steps.{guarded}
use Rattle.rows.specs.Rows.{Inside, At as Stands, kind_at, x_at, y_at}
use Rattle.writing.specs.Writes.{RowPut, Fits, Written}
use Rattle.writing.specs.declared.Place.{Place}
use Rattle.names.specs.Names.{AllIndexed, Finds, end_word}
use Rattle.chains.specs.Runs.{ups}
use Rattle.restorer.specs.Search.{state_of}

-- Opt, Rep and Choice: what is below gets RestoreOnErr
abbrev pub is_guard : ℕ → Bool
is_guard k = eqb k k_choice || (eqb k k_opt || eqb k k_rep)

unfoldable pub guarded_if : Table Bytes → Bool → E → E
unfolding guarded
guarded_if t g e = cond g (guarded t e) e

-- the nodes us over e, the outermost first, each over what is below it, guarded where the node guards
abbrev pub climbed : Table Bytes → List Un → E → E
climbed t [] e = e
climbed t (u ∷ us) e = un u (guarded_if t (is_guard (un_head u).0) (climbed t us e))

-- what shows through a row of kind k, where b shows below it: all of a Push, nothing of a RestoreOnErr
abbrev pub shows_through : ℕ → Bool → Bool
shows_through k b = cond (eqb k k_push) true (cond (eqb k k_restore_on_err) false b)

-- what the marks say of a rule that was found
abbrev pub says_found : List ℕ → Option ℕ → Bool
says_found m (Some i) = eqb (state_of m i) 3
says_found m None = false

-- the marks say of every name whether the stack can change through it
pub record Sure (t : Table Bytes) (rules : List ℕ) (text : Bytes) (m : List ℕ) : Type 0 where
  pub name : (key : Bytes) (f : Option ℕ) → Finds (length rules / rule_width) rules text key f → changes t (lit Ident key) ≡ (member key stack_names || says_found m f)

-- the table and the marks of a source
pub record Known (rules marks rows : List ℕ) (text : Bytes) : Type 0 where
  pub table : Table Bytes
  pub sure : Sure table rules text marks
  pub index : AllIndexed rules text marks
  pub inside : Inside rows (length text)

-- row i, as it was read
pub record RowIs (w : List ℕ) (i k x y : ℕ) : Type 0 where
  pub kind : kind_at w i ≡ k
  pub first : x_at w i ≡ x
  pub second : y_at w i ≡ y

-- no row of a tree of n rows up to row i is a RestoreOnErr
abbrev pub Unset : List ℕ → ℕ → ℕ → Type 0
Unset w i n = (j : ℕ) → i < j + n → j ≤ i → kind_at w j ≡ k_restore_on_err → ⊥

-- the tree whose last row is row `root` is rule i's, through which the stack cannot change
pub record SettledNo (rules m : List ℕ) (i root : ℕ) : Type 0 where
  pub below : i < length rules / rule_width
  pub no : state_of m i ≡ 2
  pub ends : root + 1 ≡ get_or m (i * mark_width + end_word) 0

-- the tree e stands at p, and b says whether the stack can change through it; or it does not fit
pub record Shown (q p : Place) (b : Bool) (t : Table Bytes) (e : E) (o o' l l' : List ℕ) : Type 0 where
  pub written : Written q p e o o' l l'
  pub shows : b ≡ changes t e

abbrev pub RestoredAnswer : Option (Place × Bool) → Place → Table Bytes → E → (o o' l l' : List ℕ) → Type 0
RestoredAnswer (Some (q, b)) p t e o o' l l' = Shown q p b t e o o' l l'
RestoredAnswer None p t e o o' l l' = Fits p e o l → ⊥

-- a row goes over what stands from p to q
pub record Over (p q : Place) (o : List ℕ) : Type 0 where
  pub low : p.rows ≤ q.rows
  pub high : q.rows ≤ length o / row_width
  pub words : length o < 2 ^ 32

-- its head is h, and c shows through it where b shows below
pub record NodePut (s p q : Place) (c : Bool) (h : Head) (b : Bool) (o o' : List ℕ) : Type 0 where
  pub row : RowPut s q h (q.rows - p.rows + 1) o o'
  pub shows : c ≡ shows_through h.0 b

abbrev pub NodeAnswer : Option (Place × Bool) → Place → Place → Head → Bool → (o o' : List ℕ) → Type 0
NodeAnswer (Some (s, c)) p q h b o o' = NodePut s p q c h b o o'
NodeAnswer None p q h b o o' = q.rows < length o / row_width → ⊥

-- the place that is told is over p too
abbrev pub OverAnswer : Option (Place × Bool) → Place → List ℕ → Type 0
OverAnswer (Some (s, b)) p o = Over p s o
OverAnswer None p o = Unit {0}

-- whatever tree stands from p to q, of which b shows, becomes f of it
abbrev pub Becomes : Option (Place × Bool) → (q p : Place) → Bool → (Table Bytes → E → E) → (o₁ o₂ : List ℕ) → Type 0
Becomes a q p b f o₁ o₂ = (t : Table Bytes) (e : E) (o l l₁ : List ℕ) → Shown q p b t e o o₁ l l₁ → RestoredAnswer a p t (f t e) o o₂ l l₁

-- the run of the tree at row `root` of the words w stands over row `base`
pub record Climbable (w : List ℕ) (base root : ℕ) : Type 0 where
  pub tree : Expr Span
  pub at : Stands w root tree
  pub run : base + length (ups tree) ≡ root
