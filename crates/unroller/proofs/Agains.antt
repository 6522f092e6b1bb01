-- A copy of a tree that stands in the areas is that tree, packed further on. Assumes nothing.
use mathlib.Core.Path.{◌≡◌, ◌∙◌}
use mathlib.Core.List.{List}
use Prim.Native.Nat.{ℕ, ◌+◌, ◌-◌, ◌*◌, ◌<◌}
use native.Mathlib.Omega.{arith}
use lib.ListN.{length}
use Rattle.grammar.specs.Numbers.{row_width}
use Rattle.grammar.specs.Tree.{E, size}
use Rattle.grammar.specs.Rows.{flat}
use Rattle.grammar.specs.Text.{bytes_at, text_of, packed}
use Rattle.rows.proofs.Laws.{size_pos}
use Rattle.writing.specs.declared.Place.{Place}
use Rattle.writing.specs.Writes.{stored, Written}
use Rattle.unroller.specs.declared.Item.TheVariants.{Once}
use Rattle.unroller.specs.Copies.{moved, Movable, Source, Copyable}
use Rattle.unroller.proofs.Moves.{tree_moved, tree_inside}

module _ {p q at : Place} {o t : List ℕ} (c : Copyable p q at Once o t) where
  -- its offsets can be moved
  pub again_movable : (k : ℕ) → k < q.rows - p.rows → Movable (at.text - p.text) o (p.rows + k)
  again_movable k h z =
      let s = c.source in
      let e = c.tree in
      let f = tree_inside p.text (q.rows - 1) p.rows (p.rows + k) e s.at (omega (arith, s.rows, size_pos e)) (omega arith) (omega arith) z in
      omega (arith, f, s.text, c.beyond, c.fits.text, c.areas.bytes)

  pub again_written : {a : Place} {e : E} {o' t' : List ℕ} → a.rows ≡ at.rows + (q.rows - p.rows) → a.text ≡ at.text + (q.text - p.text)
      → o' ≡ stored o (at.rows * row_width) (moved (at.text - p.text) o p.rows (q.rows - p.rows))
      → t' ≡ stored t at.text (bytes_at t (p.text, q.text - p.text)) → Source p q e o t → Written a at e o o' t t'
  again_written {a} {e} {o'} {t'} er et ew eb s =
      let n : q.rows - p.rows ≡ size e = omega (arith, s.rows) in
      let m : q.text - p.text ≡ length (text_of e) = omega (arith, s.text) in
      let d : p.text + (at.text - p.text) ≡ at.text = omega (arith, s.text, c.beyond) in
      let f : moved (at.text - p.text) o p.rows (size e) ≡ flat (packed at.text e) = tree_moved (at.text - p.text) o p.text (q.rows - 1) p.rows e s.at (omega (arith, s.rows, size_pos e)) ∙ rw d in
      record {
        fits = record { rows = omega (arith, c.fits.rows, c.source.rows, s.rows); text = omega (arith, c.fits.text, c.source.text, s.text) };
        rows = omega (arith, er, s.rows);
        text = omega (arith, et, s.text);
        words = ew ∙ rw (n, f);
        bytes = eb ∙ rw (m, s.bytes);
      }
