-- A repeat as items: how many of each, what `unrolled` nests, and where no count is zero. Assumes nothing.
use Rattle.std.specs.Prelude.{◌≡◌, Bool, true, false, List, ◌++◌, ℕ, ◌+◌, ◌-◌, ◌*◌, ◌≤◌, ◌<◌, min, replicate, eqb}
use Rattle.grammar.specs.Numbers.{k_rep_once, k_rep_exact, k_rep_min, k_rep_max}
use Rattle.grammar.specs.Tree.{Opt, Rep, Expr, E, un, any_node}
use Rattle.grammar.specs.Rows.{Span}
use Rattle.grammar.specs.Refusals.{zero_count}
use Rattle.rows.specs.Rows.{At}
use Rattle.unroller.specs.declared.Item.{Item}
use Rattle.unroller.specs.declared.Item.TheVariants.{Once, Maybe, Many}
use Rattle.unroller.specs.declared.Items.{Items}

-- a tree stands at row i, and no count in it is a zero that refusal 6 forbids
pub record Counted (w : List ℕ) (i : ℕ) : Type 0 where
  pub tree : Expr Span
  pub at : At w i tree
  pub counts : any_node zero_count tree ≡ false

-- a kind that is unrolled: RepOnce, RepExact, RepMin, RepMax, RepMinMax
abbrev pub IsRepeat : ℕ → Type 0
IsRepeat k = (11 < k) × (k < 17)

-- e, e? or e*
abbrev pub item_of : Item → E → E
item_of Once e = e
item_of Maybe e = un Opt e
item_of Many e = un Rep e

-- the items in order: e, then e?, then e*
abbrev pub items_of : Items → E → List E
items_of n e = replicate n.plain e ++ (replicate n.opts (un Opt e) ++ replicate n.reps (un Rep e))

-- how many there are
abbrev pub count_of : Items → ℕ
count_of n = n.plain + (n.opts + n.reps)

abbrev pub items : ℕ → ℕ → ℕ → Items
items a b c = record { plain = a; opts = b; reps = c }

abbrev pub pick_items : Bool → Items → Items → Items
pick_items true a b = a
pick_items false a b = b

-- the items of a repeat, by its row: RepOnce, RepExact, RepMin, RepMax, RepMinMax
unfoldable pub items_for : ℕ → ℕ → ℕ → Items
items_for k x y =
    pick_items (eqb k k_rep_once) (items 1 0 1)
    (pick_items (eqb k k_rep_exact) (items x 0 0)
    (pick_items (eqb k k_rep_min) (items x 0 1)
    (pick_items (eqb k k_rep_max) (items 0 x 0) (items (min x y) (y - x) 0))))

-- so many rows and bytes hold the items of a tree with s rows and b bytes: each item has a Seq row, but for the last
pub record Holds (rows text s b : ℕ) (n : Items) : Type 0 where
  pub bytes : count_of n * b ≤ text
  pub words : n.plain * (s + 1) + (n.opts + n.reps) * (s + 2) ≤ rows + 1
