-- `is_name` meets its contract. Assumes nothing.
use mathlib.Core.Path.{◌≡◌, subst}
use mathlib.Core.Bool.{false}
use mathlib.Core.List.{List}
use Prim.Native.Nat.{ℕ}
use borrow.Author.Tests.{ne_eqb}
use Rattle.grammar.specs.Text.{bytes_at}
use Rattle.rows.specs.Rows.{Tells}
use Rattle.names.proofs.Marks.{tells_same, part_whole, part_differ}
use Rattle.names.proofs.is_name.Goals as goal

pub returns-then-n-name : goal.returns-then-n-name
returns-then-n-name c = let a = c.args in
    tells_same c.same_bytes.result _ _ (subst (λ (s : List ℕ). Tells c.same_bytes.result (bytes_at a.text.now (a.x, a.n) ≡ s)) (part_whole a.name.now a.n c.if-n-name.true) c.same_bytes.ensures)

pub returns-else-n-name : goal.returns-else-n-name
returns-else-n-name c = rw (ne_eqb _ _ c.if-n-name.false) (tells_same false _ _ (part_differ _ _ _ _ c.requires c.if-n-name.false))
