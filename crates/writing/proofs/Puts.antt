-- Rows and text put at a place, and more after them. Assumes nothing.
use Rattle.std.specs.Prelude.{None, Option, Some}
use mathlib.Core.Path.{◌≡◌, sym, ap, subst, ◌∙◌}
use mathlib.Core.List.{List, [], ◌++◌}
use Prim.Native.Nat.{ℕ, ◌+◌, ◌*◌, ◌/◌, ◌≤◌, ◌<◌}
use native.Mathlib.Nat.{add-zero}
use native.Mathlib.Omega.{arith}
use lib.ListN.{length, length-append}
use Rattle.grammar.specs.Numbers.{row_width}
use Rattle.grammar.specs.Tree.{Head}
use Rattle.grammar.specs.Rows.{row}
use Rattle.writing.specs.declared.Place.{Place}
use Rattle.writing.specs.Writes.{stored, Areas, Room, Fit, Put, PutAnswer, RowPut, RowAnswer, LitAnswer}
use Rattle.writing.proofs.Runs.{length_stored, stored_none, stored_then}

-- an answer that is known
pub put_done : {a : Option Place} {q : Place} (p : Place) (n : ℕ) (ws bs o o' t t' : List ℕ) → a ≡ Some q → PutAnswer a p n ws bs o o' t t' → Put q p n ws bs o o' t t'
put_done p n ws bs o o' t t' h w = subst (λ (z : Option Place). PutAnswer z p n ws bs o o' t t') h w

pub put_full : {a : Option Place} (p : Place) (n : ℕ) (ws bs o o' t t' : List ℕ) → a ≡ None → PutAnswer a p n ws bs o o' t t' → Fit p n (length bs) o t → ⊥
put_full p n ws bs o o' t t' h w = subst (λ (z : Option Place). PutAnswer z p n ws bs o o' t t') h w

pub row_done : {a : Option Place} {q : Place} (p : Place) (h : Head) (n : ℕ) (o o' : List ℕ) → a ≡ Some q → RowAnswer a p h n o o' → RowPut q p h n o o'
row_done p h n o o' d w = subst (λ (z : Option Place). RowAnswer z p h n o o') d w

pub row_full : {a : Option Place} (p : Place) (h : Head) (n : ℕ) (o o' : List ℕ) → a ≡ None → RowAnswer a p h n o o' → p.rows < length o / row_width → ⊥
row_full p h n o o' d w = subst (λ (z : Option Place). RowAnswer z p h n o o') d w

-- a row that is set where the next one goes
pub row_set : (q p : Place) (h : Head) (n : ℕ) (o o' : List ℕ) → p.rows < length o / row_width → q.rows ≡ p.rows + 1 → q.text ≡ p.text → o' ≡ stored o (p.rows * row_width) (row h n) → RowPut q p h n o o'
row_set q p h n o o' l r t w = record { room = l; rows = r; text = t; words = w }

-- nothing, and a row
pub put_none : (p : Place) (o t : List ℕ) → p.rows ≤ length o / row_width → p.text ≤ length t → Put p p 0 [] [] o o t t
put_none p o t h k = record {
  fits = record { rows = omega arith; text = omega arith };
  rows = sym (add-zero _);
  text = sym (add-zero _);
  words = sym (stored_none o _);
  bytes = sym (stored_none t _);
}

pub put_row : (a : Option Place) (p : Place) (h : Head) (n : ℕ) (o o' t : List ℕ) → p.text ≤ length t → RowAnswer a p h n o o' → PutAnswer a p 1 (row h n) [] o o' t t
put_row (Some q) p h n o o' t l r = record {
  fits = record { rows = omega (arith, r.room); text = omega arith };
  rows = r.rows;
  text = r.text ∙ sym (add-zero _);
  words = r.words;
  bytes = sym (stored_none t _);
}
put_row None p h n o o' t l r = λ f. r (omega (arith, f.rows))

-- a literal's bytes, and then its row
pub lit_put : (a : Option Place) (p : Place) (k n : ℕ) (s o o' t t' : List ℕ) → length s ≡ n → p.text + n ≤ length t → t' ≡ stored t p.text s
    → RowAnswer a (record { rows = p.rows; text = p.text + n }) (k, p.text, n) 1 o o' → LitAnswer a p k s o o' t t'
lit_put (Some q) p k n s o o' t t' e l b r = record {
  fits = record { rows = omega (arith, r.room); text = omega arith };
  rows = r.rows;
  text = rw e r.text;
  words = rw e r.words;
  bytes = b;
}
lit_put None p k n s o o' t t' e l b r = λ f. r (omega (arith, f.rows))

-- the areas keep their lengths, and the place after what was put lies in them
module _ {q p : Place} {n : ℕ} {ws bs o o' t t' : List ℕ} (w : Put q p n ws bs o o' t t') where
  pub put_out : length o' ≡ length o
  put_out = ap length w.words ∙ length_stored o _ ws

  pub put_lits : length t' ≡ length t
  put_lits = ap length w.bytes ∙ length_stored t _ bs

  pub put_room : Areas o t → Room q o' t'
  put_room a = record {
    rows = omega (arith, w.rows, w.fits.rows, put_out);
    text = omega (arith, w.text, w.fits.text, put_lits);
    areas = record { words = omega (arith, a.words, put_out); bytes = omega (arith, a.bytes, put_lits) };
  }

-- what is put after it
module _ {q p : Place} {n : ℕ} {ws bs o o₁ t t₁ : List ℕ} (w : Put q p n ws bs o o₁ t t₁) (l : length ws ≡ n * row_width) where
  pub put_then : (a : Option Place) (m : ℕ) (us cs o₂ t₂ : List ℕ) → PutAnswer a q m us cs o₁ o₂ t₁ t₂ → PutAnswer a p (n + m) (ws ++ us) (bs ++ cs) o o₂ t t₂
  put_then (Some s) m us cs o₂ t₂ v =
      let b = length-append bs cs in
      record {
        fits = record { rows = omega (arith, w.rows, v.fits.rows, put_out w); text = omega (arith, b, w.text, v.fits.text, put_lits w) };
        rows = omega (arith, w.rows, v.rows);
        text = omega (arith, b, w.text, v.text);
        words = stored_then o o₁ o₂ ws us (p.rows * row_width) (q.rows * row_width) w.words (omega (arith, w.rows)) v.words;
        bytes = stored_then t t₁ t₂ bs cs p.text q.text w.bytes w.text v.bytes;
      }
  put_then None m us cs o₂ t₂ v = λ f. v (record {
    rows = omega (arith, w.rows, f.rows, put_out w);
    text = omega (arith, w.text, f.text, length-append bs cs, put_lits w);
  })

-- what does not fit does not fit with more after it
pub fit_front : {p : Place} (n m : ℕ) (bs cs : List ℕ) {o t : List ℕ} → Fit p (n + m) (length (bs ++ cs)) o t → Fit p n (length bs) o t
fit_front n m bs cs f = record { rows = omega (arith, f.rows); text = omega (arith, f.text, length-append bs cs) }
