-- A node with one child, unrolled: its items, or its row. Assumes nothing.
use Rattle.std.specs.Prelude.{None, Option, Some}
use mathlib.Core.Path.{◌≡◌, refl, sym, ap, subst, ◌∙◌}
use mathlib.Core.Bool.{false}
use mathlib.Core.List.{List}
use Prim.Native.Nat.{ℕ, ◌+◌, ◌-◌, ◌*◌, ◌/◌, ◌^◌, ◌≤◌, ◌<◌}
use native.Mathlib.Nat.{add-mul, mul-le-mul_left, mul-le-mul_right}
use native.Mathlib.Omega.{arith}
use lib.ListN.{length}
use Rattle.grammar.specs.Numbers.{row_width}
use Rattle.grammar.specs.Tree.{Head, Un, PosPred, NegPred, Opt, Rep, RepOnce, Push, RestoreOnErr, RepExact, RepMin, RepMax, RepMinMax, E, un, un_head, size}
use Rattle.grammar.specs.Rows.{flat}
use Rattle.grammar.specs.Text.{text_of, packed}
use Rattle.grammar.specs.Steps.{nest, unrolled}
use Rattle.grammar.specs.Refusals.{zero_un}
use Rattle.rows.proofs.Cells.{un_same}
use Rattle.writing.specs.declared.Place.{Place}
use Rattle.writing.specs.Writes.{RowAnswer, Fits, Written, Answer}
use Rattle.writing.proofs.Trees.{un_tree, length_packed, written_out, written_lits}
use Rattle.unroller.specs.declared.Items.{Items}
use Rattle.unroller.specs.Items.{items_of, items_for, count_of, IsRepeat}
use Rattle.unroller.specs.Copies.{Source, Spreadable, Headed}
use Rattle.unroller.proofs.Repeats.{Unrolls, unrolls, items_most}
use Rattle.unroller.proofs.Lays.{source_written}
use Rattle.unroller.proofs.Stores.{stored_over}
use Rattle.unroller.proofs.Spreads.{items_weigh, items_bytes, items_count, nest_weigh, nest_weighs}

-- any other node stays
pub not_repeat : (u : Un) (e : E) → (IsRepeat (un_head u).0 → ⊥) → unrolled u e ≡ un u e
not_repeat PosPred e n = refl
not_repeat NegPred e n = refl
not_repeat Opt e n = refl
not_repeat Rep e n = refl
not_repeat RepOnce e n = absurd (n (omega arith, omega arith))
not_repeat Push e n = refl
not_repeat RestoreOnErr e n = refl
not_repeat (RepExact m) e n = absurd (n (omega arith, omega arith))
not_repeat (RepMin m) e n = absurd (n (omega arith, omega arith))
not_repeat (RepMax m) e n = absurd (n (omega arith, omega arith))
not_repeat (RepMinMax m k) e n = absurd (n (omega arith, omega arith))

module _ {p q : Place} (k x y : ℕ) {o t : List ℕ} (c : Headed p q (k, x, y) o t) where
  same_op : (u : Un) → (k, x, y) ≡ un_head u → c.op ≡ u
  same_op u h = un_same c.op u (sym c.is ∙ h)

  module _ (r : IsRepeat k) (lx : x < 2 ^ 32) (ly : y < 2 ^ 32) {n : Items} (en : n ≡ items_for k x y) where
    items_are : Unrolls n c.op × (count_of n ≤ 2 ^ 32)
    items_are =
        let ek : k ≡ (un_head c.op).0 = ap (λ (h : Head). h.0) c.is in
        let ex : x ≡ (un_head c.op).1 = ap (λ (h : Head). h.1) c.is in
        let ey : y ≡ (un_head c.op).2 = ap (λ (h : Head). h.2) c.is in
        let a : 11 < (un_head c.op).0 = omega (arith, r.0) in
        let b : (un_head c.op).0 < 17 = omega (arith, r.1) in
        rw (en, ek, ex, ey) (unrolls c.op a b c.counts, items_most c.op a b (omega arith) (omega arith))

    pub node_spread : Spreadable p q n o t
    node_spread = record { tree = c.tree; source = c.source; least = items_are.0.least; most = items_are.1; areas = c.areas }

    pub node_items : (a : Option Place) (u : Un) (e : E) (o' t' : List ℕ) → (k, x, y) ≡ un_head u → Answer a p (nest (items_of n e)) o o' t t' → Answer a p (unrolled u e) o o' t t'
    node_items a u e o' t' h w = subst (λ (z : E). Answer a p z o o' t t') (sym (items_are.0.is e) ∙ ap (λ (z : Un). unrolled z e) (same_op u h)) w

  pub node_row : (a : Option Place) (u : Un) {e : E} (o' : List ℕ) → (IsRepeat k → ⊥) → (k, x, y) ≡ un_head u → Source p q e o t → RowAnswer a q (k, x, y) (q.rows - p.rows + 1) o o' → Answer a p (unrolled u e) o o' t t
  node_row a u {e} o' n h s w =
      let ek : k ≡ (un_head u).0 = ap (λ (h : Head). h.0) h in
      rw (not_repeat u e (rw ek at n)) (un_tree (source_written s) a u (k, x, y) (q.rows - p.rows + 1) o' h (omega (arith, s.rows)) w)

-- ---- a node holds its child

pub record Larger (e f : E) : Type 0 where
  pub rows : size e ≤ size f
  pub text : length (text_of e) ≤ length (text_of f)

repeat_larger : {n : Items} {u : Un} (e : E) → Unrolls n u → Larger e (unrolled u e)
repeat_larger {n} {u} e r =
    let es = items_of n e in
    let m = length (text_of e) in
    let h : 1 ≤ length es = omega (arith, items_count n e, r.least) in
    let a : 1 * (size e + 1) ≤ count_of n * (size e + 1) = mul-le-mul_right (size e + 1) r.least in
    let b : (n.opts + n.reps) * (size e + 1) ≤ (n.opts + n.reps) * (size e + 2) = mul-le-mul_left (n.opts + n.reps) (omega arith) in
    let c : 1 * m ≤ count_of n * m = mul-le-mul_right m r.least in
    rw (r.is e) (record {
      rows = omega (arith, nest_weigh es h, items_weigh n e, a, b, add-mul n.plain (n.opts + n.reps) (size e + 1));
      text = omega (arith, nest_weighs es h, items_bytes n e, c);
    })

pub unrolled_larger : (u : Un) (e : E) → zero_un u ≡ false → Larger e (unrolled u e)
unrolled_larger PosPred e z = record { rows = omega arith; text = omega arith }
unrolled_larger NegPred e z = record { rows = omega arith; text = omega arith }
unrolled_larger Opt e z = record { rows = omega arith; text = omega arith }
unrolled_larger Rep e z = record { rows = omega arith; text = omega arith }
unrolled_larger RepOnce e z = repeat_larger e (unrolls RepOnce (omega arith) (omega arith) z)
unrolled_larger Push e z = record { rows = omega arith; text = omega arith }
unrolled_larger RestoreOnErr e z = record { rows = omega arith; text = omega arith }
unrolled_larger (RepExact n) e z = repeat_larger e (unrolls (RepExact n) (omega arith) (omega arith) z)
unrolled_larger (RepMin n) e z = repeat_larger e (unrolls (RepMin n) (omega arith) (omega arith) z)
unrolled_larger (RepMax n) e z = repeat_larger e (unrolls (RepMax n) (omega arith) (omega arith) z)
unrolled_larger (RepMinMax m n) e z = repeat_larger e (unrolls (RepMinMax m n) (omega arith) (omega arith) z)

-- what is written over its child is written
pub answer_over : {q p : Place} {e : E} {o o₁ t t₁ : List ℕ} → Written q p e o o₁ t t₁ → (f : E) → Larger e f → (a : Option Place) (o₂ t₂ : List ℕ) → Answer a p f o₁ o₂ t₁ t₂ → Answer a p f o o₂ t t₂
answer_over {q} {p} {e} {o} {o₁} {t} {t₁} w f l (Some z) o₂ t₂ v =
    let lo = written_out w in
    let lt = written_lits w in
    let x = p.text in
    let fr : p.rows + size f ≤ length o / row_width = omega (arith, v.fits.rows, lo) in
    let ft : p.text + length (text_of f) ≤ length t = omega (arith, v.fits.text, lt) in
    record {
      fits = record { rows = fr; text = ft };
      rows = v.rows;
      text = v.text;
      words = v.words ∙ rw w.words (stored_over o (flat (packed x e)) (flat (packed x f)) (p.rows * row_width) (omega (arith, length_packed x e, length_packed x f, l.rows)) (omega (arith, length_packed x f)));
      bytes = v.bytes ∙ rw w.bytes (stored_over t (text_of e) (text_of f) x l.text ft);
    }
answer_over {q} {p} {e} {o} {o₁} {t} {t₁} w f l None o₂ t₂ v = λ g. v (record { rows = omega (arith, g.rows, written_out w); text = omega (arith, g.text, written_lits w) })

pub fits_larger : {p : Place} {e f : E} {o t : List ℕ} → Larger e f → Fits p f o t → Fits p e o t
fits_larger l g = record { rows = omega (arith, l.rows, g.rows); text = omega (arith, l.text, g.text) }
