-- `node_of` meets its contract. Assumes nothing.
use mathlib.Core.Path.{◌≡◌, sym, ap, ◌∙◌}
use mathlib.Core.Logic.{◌⊎◌, inl, inr}
use Prim.Native.Nat.{ℕ}
use Rattle.rows.specs.Rows.{shape_of}
use Rattle.rows.specs.declared.Shape.{Shape}
use Rattle.rows.specs.declared.Shape.TheVariants.{Lit, Num, Skips}
use Rattle.skipper.specs.declared.Node.TheVariants.{Leaf}
use Rattle.skipper.specs.Skips.{node_of, node_by}
use Rattle.skipper.proofs.node_of.Goals as goal

leaf_shape : {s : Shape} (k : ℕ) → s ≡ shape_of k → (s ≡ Lit) ⊎ ((s ≡ Num) ⊎ (s ≡ Skips)) → Leaf ≡ node_of k
unfolding node_of
leaf_shape k e (inl h) = ap node_by (sym h ∙ e)
leaf_shape k e (inr (inl h)) = ap node_by (sym h ∙ e)
leaf_shape k e (inr (inr h)) = ap node_by (sym h ∙ e)

pub returns-in-Lit : goal.returns-in-Lit
unfolding node_of
returns-in-Lit c = leaf_shape c.args.kind c.shape_of.ensures c.in-Lit.is

pub returns-in-One : goal.returns-in-One
unfolding node_of
returns-in-One c = ap node_by (sym c.in-One.is ∙ c.shape_of.ensures)

pub returns-in-Two : goal.returns-in-Two
unfolding node_of
returns-in-Two c = ap node_by (sym c.in-Two.is ∙ c.shape_of.ensures)
