-- A search over rows from a tree's last row to its first: what is left to look at is a run of trees, the last on top. Assumes nothing.
use Rattle.std.specs.Prelude.{◌≡◌, Bool, true, false, cond, List, [], ◌∷◌, ℕ, ◌+◌, ◌-◌, ◌/◌, ◌≤◌, ◌<◌, length, eqb, leb}
use Rattle.grammar.specs.Numbers.{rule_width, k_skip, k_push, k_restore_on_err}
use Rattle.grammar.specs.Basic.{Bytes}
use Rattle.grammar.specs.Tree.{Expr, E, lit, fixed, skip, un, bin, size, is_un}
use Rattle.grammar.specs.Rows.{Span}
use Rattle.grammar.specs.Text.{resolve}
use Rattle.grammar.specs.Table.{Table}
use Rattle.grammar.specs.Stack.{Reaches, changes_lit}
use Rattle.rows.specs.Rows.{At}
use Rattle.restorer.specs.Search.{OPEN, state_of, nowhere, loud, Answers, Looked}
use Rattle.restorer.specs.declared.Outcome.{Outcome}
use Rattle.restorer.specs.declared.Outcome.TheVariants.{Reached, Silent}
use Rattle.restorer.specs.declared.Step.{Step}
use Rattle.restorer.specs.declared.Step.TheVariants.{Changes, Next, Into}

-- the trees stand one after the other from row `from` up to row i
abbrev pub Run : List ℕ → ℕ → ℕ → List (Expr Span) → Type 0
Run w from i [] = i ≡ from
Run w from i (q ∷ qs) = (1 ≤ i) × (At w (i - 1) q × Run w from (i - size q) qs)

-- what is to be looked at below a root: "children of a RestoreOnErr already set are not looked at"
abbrev pub below : Expr Span → List (Expr Span)
below (lit k s) = []
below (fixed f) = []
below (skip ss) = []
below (un u e) = cond (is_un k_restore_on_err u) [] (e ∷ [])
below (bin b l r) = r ∷ l ∷ []

-- whether the stack can change at a root itself: `look` says whether it can through a name
abbrev pub changes_at : (Bytes → Bool) → E → Bool
changes_at look (lit k s) = changes_lit look k s
changes_at look (fixed f) = false
changes_at look (skip ss) = false
changes_at look (un u e) = is_un k_push u
changes_at look (bin b l r) = false

abbrev pub pick : Bool → Step → Step → Step
pick true a b = a
pick false a b = b

-- the step from a row of kind k that is no Ident, row i, with the size n: a Push changes the stack; past a Skip or a RestoreOnErr, or on to the
-- row before
unfoldable pub step_from : ℕ → ℕ → ℕ → Step
step_from k i n =
    pick (eqb k k_push) Changes (pick (eqb k k_skip) (Next (i + 1 - n) nowhere) (pick (eqb k k_restore_on_err) (Next (i + 1 - n) nowhere) (Next i nowhere)))

-- the position that a memory tells
abbrev pub position_of : ℕ → ℕ
position_of s = cond (leb OPEN s) (s - OPEN) nowhere

-- the step from row i, which names rule k, whose memory is s: that rule is asked where it was not seen
unfoldable pub recalled : ℕ → ℕ → ℕ → Step
recalled s k i = pick (eqb s 3) Changes (pick (eqb s 0) (Into k) (Next i (position_of s)))

-- what a search answers at the root of the tree r
abbrev pub AtRoot : Outcome → Bytes → Table Bytes → ℕ → List ℕ → List ℕ → Expr Span → Type 0
AtRoot a s t top m m' r = Answers a t top m m' (λ low. changes_at (loud t m' low) (resolve s r) ≡ false) (Reaches t (resolve s r))

-- a change is reached from there, or none is found there, or rule k is to say which
abbrev pub Visited : Step → Bytes → Table Bytes → List ℕ → Expr Span → Type 0
Visited Changes s t m r = (top : ℕ) → AtRoot (Reached top) s t top m m r
Visited (Next j low) s t m r = (top : ℕ) → AtRoot (Silent low top) s t top m m r
Visited (Into k) s t m r = (a : Outcome) (top : ℕ) (m' : List ℕ) → Looked a t top m m' k → AtRoot a s t top m m' r

-- where it is none, what is below the root, row i, stands up to row j
abbrev pub GoesOn : Step → List ℕ → ℕ → Expr Span → Type 0
GoesOn Changes w i r = Unit {0}
GoesOn (Next j low) w i r = (j ≤ i) × Run w (i + 1 - size r) j (below r)
GoesOn (Into k) w i r = (i ≤ i) × Run w (i + 1 - size r) i (below r)

-- a rule that is to be asked was not seen
abbrev pub Unseen : Step → List ℕ → List ℕ → Type 0
Unseen Changes rules m = Unit {0}
Unseen (Next j low) rules m = Unit {0}
Unseen (Into k) rules m = (k < length rules / rule_width) × (state_of m k ≡ 0)
