-- Literals that stand side by side, copied as one. Assumes nothing.
use Rattle.std.specs.Prelude.{None, Option, Some}
use mathlib.Core.Path.{◌≡◌, refl, sym, ap, ap₂, subst, ◌∙◌}
use mathlib.Core.List.{List, [], ◌++◌, append_assoc, append-nil}
use Prim.Native.Nat.{ℕ, suc, ◌+◌, ◌-◌, ◌*◌, ◌/◌, ◌≤◌, ◌<◌}
use native.Mathlib.Nat.{add-zero}
use native.Mathlib.Numerals.{add-one}
use native.Mathlib.Omega.{arith}
use lib.ListN.{length, get_or, take, drop, set, length-append}
use lib.Seq.{take-add, drop-drop, set-set, set_comm}
use Rattle.grammar.specs.Numbers.{row_width}
use Rattle.grammar.specs.Basic.{Bytes}
use Rattle.grammar.specs.Rows.{row}
use Rattle.grammar.specs.Text.{bytes_at}
use Rattle.rows.specs.declared.Shape.TheVariants.{Lit}
use Rattle.rows.specs.Rows.{kind_at, x_at, y_at, size_at, shape_of}
use Rattle.rows.proofs.Laws.{Found, length_part}
use Rattle.writing.specs.declared.Place.{Place}
use Rattle.writing.specs.declared.Run.{Run}
use Rattle.writing.specs.Writes.{stored, Put}
use Rattle.writing.specs.Copies.{row_text, row_words, run_text, run_words, Runs, Pending, RanAnswer, Moved, MovedAnswer}
use Rattle.writing.proofs.Runs.{length_stored, stored_none, stored_then}
use Rattle.writing.proofs.Copies.{lit_text, lit_words, other_text, other_words, text_append, text_more, words_more, length_words}

-- two parts of a text, side by side
pub part_append : (s : Bytes) (x m n : ℕ) → bytes_at s (x, m) ++ bytes_at s (x + m, n) ≡ bytes_at s (x, m + n)
part_append s x m n = ap (λ (l : List ℕ). take m (drop x s) ++ take n l) (sym (drop-drop m x s)) ∙ sym (take-add m n (drop x s))

-- nothing is pending
pub none_pending : (o : ℕ) (s t : List ℕ) → o ≤ length t → Pending (record { from = 0; size = 0; at = o }) o s [] t t
none_pending o s t h = record {
  copied = [];
  runs = record { inside = omega arith; room = omega arith };
  place = sym (add-zero o);
  is = refl;
  bytes = sym (stored_none t o);
}

module _ {g : Run} {o : ℕ} {s bs t t' : List ℕ} (p : Pending g o s bs t t') where
  pub pending_length : length t' ≡ length t
  pending_length = ap length p.bytes ∙ length_stored t o p.copied

  -- where what comes next goes
  pub pending_end : g.at + g.size ≡ o + length bs
  pending_end = omega (arith, p.place, ap length p.is, length-append p.copied (bytes_at s (g.from, g.size)), length_part s g.from g.size p.runs.inside)

  pub pending_runs : Runs g s t'
  pending_runs = record { inside = p.runs.inside; room = omega (arith, p.runs.room, pending_length) }

  -- the run, copied
  pub pending_copied : (t'' : List ℕ) → t'' ≡ stored t' g.at (bytes_at s (g.from, g.size)) → t'' ≡ stored t o bs
  pending_copied t'' h = stored_then t t' t'' p.copied (bytes_at s (g.from, g.size)) o g.at p.bytes p.place h ∙ ap (stored t o) (sym p.is)

  -- one literal more: it does not fit, it stands next to the run, it begins another
  module _ (x n : ℕ) (l : x + n ≤ length s) where
    more_length : length (bs ++ bytes_at s (x, n)) ≡ length bs + n
    more_length = length-append bs (bytes_at s (x, n)) ∙ ap (λ (k : ℕ). length bs + k) (length_part s x n l)

    pub lit_full : length t' - (g.at + g.size) < n → o + length (bs ++ bytes_at s (x, n)) ≤ length t → ⊥
    lit_full h f = omega (arith, more_length, pending_end, pending_length)

    pub lit_joins : (n ≤ length t' - (g.at + g.size)) → x ≡ g.from + g.size → Pending (record { from = g.from; size = g.size + n; at = g.at }) o s (bs ++ bytes_at s (x, n)) t t'
    lit_joins h e = record {
      copied = p.copied;
      runs = record { inside = omega arith; room = omega (arith, p.runs.room, pending_length) };
      place = p.place;
      is =
          ap₂ (λ (u v : List ℕ). u ++ v) p.is (ap (λ (k : ℕ). bytes_at s (k, n)) e)
          ∙ append_assoc p.copied (bytes_at s (g.from, g.size)) (bytes_at s (g.from + g.size, n))
          ∙ ap (λ (u : List ℕ). p.copied ++ u) (part_append s g.from g.size n);
      bytes = p.bytes;
    }

    pub lit_begins : (t'' : List ℕ) → (n ≤ length t' - (g.at + g.size)) → t'' ≡ stored t' g.at (bytes_at s (g.from, g.size)) → Pending (record { from = x; size = n; at = g.at + g.size }) o s (bs ++ bytes_at s (x, n)) t t''
    lit_begins t'' h e = record {
      copied = bs;
      runs = record { inside = l; room = omega (arith, p.runs.room, pending_length) };
      place = pending_end;
      is = refl;
      bytes = pending_copied t'' e;
    }

-- an answer that is known
pub ran_done : {a : Option Run} {g : Run} (o : ℕ) (s bs t t' : List ℕ) → a ≡ Some g → RanAnswer a o s bs t t' → Pending g o s bs t t'
ran_done o s bs t t' d h = subst (λ (z : Option Run). RanAnswer z o s bs t t') d h

pub ran_full : {a : Option Run} (o : ℕ) (s bs t t' : List ℕ) → a ≡ None → RanAnswer a o s bs t t' → o + length bs ≤ length t → ⊥
ran_full o s bs t t' d h = subst (λ (z : Option Run). RanAnswer z o s bs t t') d h

pub moved_done : {a : Option Run} {g : Run} (o : ℕ) (s w : List ℕ) (i j : ℕ) (bs u u' t t' : List ℕ) → a ≡ Some g → MovedAnswer a o s w i j bs u u' t t' → Moved g o s w i j bs u u' t t'
moved_done o s w i j bs u u' t t' d h = subst (λ (z : Option Run). MovedAnswer z o s w i j bs u u' t t') d h

pub moved_full : {a : Option Run} (o : ℕ) (s w : List ℕ) (i j : ℕ) (bs u u' t t' : List ℕ) → a ≡ None → MovedAnswer a o s w i j bs u u' t t' → o + length (bs ++ row_text s w i) ≤ length t → ⊥
moved_full o s w i j bs u u' t t' d h = subst (λ (z : Option Run). MovedAnswer z o s w i j bs u u' t t') d h

-- a row's offset, set after its four words
offset_set : (l : List ℕ) (i k x y n v : ℕ) → set (stored l i (row (k, x, y) n)) (i + 1) v ≡ stored l i (row (k, v, y) n)
unfolding stored
offset_set l i k x y n v =
    let c : List ℕ = set l i k in
    ap (λ (m : ℕ). set (set (set (set c (suc i) x) (suc (suc i)) y) (suc (suc (suc i))) n) m v) (add-one i)
    ∙ set_comm (set (set c (suc i) x) (suc (suc i)) y) (suc (suc (suc i))) (suc i) n v (λ e. omega (arith, e))
    ∙ ap (λ (z : List ℕ). set z (suc (suc (suc i))) n) (set_comm (set c (suc i) x) (suc (suc i)) (suc i) y v (λ e. omega (arith, e)))
    ∙ ap (λ (z : List ℕ). set (set z (suc (suc i)) y) (suc (suc (suc i))) n) (set-set c (suc i) x v)

-- the words of row i, which begins at word `at`
pub word_found : (w : List ℕ) (at i : ℕ) → at ≡ i * row_width → i < length w / row_width → Found w i (get_or w at 0) (get_or w (at + 1) 0) (get_or w (at + 2) 0) (get_or w (at + 3) 0)
unfolding kind_at x_at y_at size_at
word_found w at i e b =
    record {
      within = b;
      kind = ap (λ (k : ℕ). get_or w k 0) (sym e);
      x = ap (λ (k : ℕ). get_or w (k + 1) 0) (sym e);
      y = ap (λ (k : ℕ). get_or w (k + 2) 0) (sym e);
      rows = ap (λ (k : ℕ). get_or w (k + 3) 0) (sym e);
    }

-- one row, written from word `to` on
module _ (s : Bytes) {w : List ℕ} {i k x y n : ℕ} (f : Found w i k x y n) {o : ℕ} {bs t t' : List ℕ} (to j : ℕ) (m : to ≡ j * row_width) (u : List ℕ) where
  pub lit_moved : {g h : Run} (u₁ u' t'' : List ℕ) → shape_of k ≡ Lit → x + y ≤ length s → Pending g o s bs t t' → Pending h o s (bs ++ bytes_at s (x, y)) t t''
      → u₁ ≡ stored u to (row (k, x, y) n) → u' ≡ set u₁ (to + 1) (g.at + g.size) → Moved h o s w i j bs u u' t t''
  lit_moved {g} {h} u₁ u' t'' c l p q d e = record {
    words = e ∙ rw (d, lit_words s f (o + length bs) c, length_part s x y l, ← (pending_end p)) (offset_set u to k x y n (g.at + g.size)) ∙ ap (λ (z : ℕ). stored u z (row_words (o + length bs) s w i)) m;
    pending = rw (lit_text s f c) q;
  }

  pub other_moved : {g : Run} (u' : List ℕ) → (shape_of k ≡ Lit → ⊥) → Pending g o s bs t t' → u' ≡ stored u to (row (k, x, y) n) → Moved g o s w i j bs u u' t t'
  other_moved {g} u' c p e = record {
    words = rw (other_words s f (o + length bs) c, ← m) e;
    pending = rw (other_text s f c, append-nil) p;
  }

-- k rows of a run by now
pub record Moving (g : Run) (o : ℕ) (s w : List ℕ) (i j k : ℕ) (u u' t t' : List ℕ) : Type 0 where
  pub words : u' ≡ stored u (j * row_width) (run_words o s w i k)
  pub pending : Pending g o s (run_text s w i k) t t'

module _ {g : Run} {o : ℕ} {s w : List ℕ} {i j k : ℕ} {u u' t t' : List ℕ} (m : Moving g o s w i j k u u' t t') where
  pub moving_length : length u' ≡ length u
  moving_length = ap length m.words ∙ length_stored u (j * row_width) _

  pub moving_more : {h : Run} (u'' t'' : List ℕ) → Moved h o s w (i + k) (j + k) (run_text s w i k) u' u'' t t'' → Moving h o s w i j (k + 1) u u'' t t''
  moving_more u'' t'' v = record {
    words = stored_then u u' u'' _ _ (j * row_width) ((j + k) * row_width) m.words (omega (arith, length_words s w o i k)) v.words ∙ ap (stored u (j * row_width)) (sym (words_more s w o i k));
    pending = rw (text_more s w i k) v.pending;
  }

  -- a row whose literal does not fit, and so all the rows
  pub moving_full : (n : ℕ) → k < n → (o + length (run_text s w i k ++ row_text s w (i + k)) ≤ length t → ⊥) → o + length (run_text s w i n) ≤ length t → ⊥
  moving_full n l h f =
      let e : n ≡ k + 1 + (n - (k + 1)) = omega arith in
      h (omega (arith, f, ap (λ (z : ℕ). length (run_text s w i z)) e, ap length (text_append s w i (k + 1) (n - (k + 1))), length-append (run_text s w i (k + 1)) (run_text s w (i + (k + 1)) (n - (k + 1))), ap length (text_more s w i k)))

  pub moving_done : (p q : Place) (t'' : List ℕ) → p.rows ≡ j → p.text ≡ o → j + k ≤ length u / row_width → q.rows ≡ j + k → q.text ≡ g.at + g.size → t'' ≡ stored t' g.at (bytes_at s (g.from, g.size)) → Put q p k (run_words p.text s w i k) (run_text s w i k) u u' t t''
  moving_done p q t'' er et l qr qt e = record {
    fits = record { rows = omega arith; text = omega (arith, pending_end m.pending, m.pending.runs.room) };
    rows = qr ∙ ap (λ (z : ℕ). z + k) (sym er);
    text = qt ∙ pending_end m.pending ∙ ap (λ (z : ℕ). z + length (run_text s w i k)) (sym et);
    words = rw (er, et) m.words;
    bytes = rw et (pending_copied m.pending t'' e);
  }
