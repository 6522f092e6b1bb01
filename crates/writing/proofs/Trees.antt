-- A tree is written by its children and then its root's row; strings, by one after the other. Assumes nothing.
use Rattle.std.specs.Prelude.{None, Option, Some}
use mathlib.Core.Path.{◌≡◌, refl, sym, ap, subst, ◌∙◌}
use mathlib.Core.List.{List, [], ◌∷◌, ◌++◌, append_assoc, append-nil}
use Prim.Native.Nat.{ℕ, ◌+◌, ◌*◌, ◌/◌, ◌≤◌}
use native.Mathlib.Nat.{add-zero}
use native.Mathlib.Omega.{arith}
use lib.ListN.{length, length-append}
use Rattle.grammar.specs.Numbers.{row_width}
use Rattle.grammar.specs.Basic.{Bytes}
use Rattle.grammar.specs.Tree.{Head, Lit, Fixed, Un, Bin, E, lit, fixed, skip, un, bin, lit_kind, fixed_head, un_head, bin_kind, size}
use Rattle.grammar.specs.Rows.{row, str_rows, flat}
use Rattle.grammar.specs.Text.{joined, text_of, spans, packed}
use Rattle.rows.proofs.Laws.{length_flat, length_str_rows}
use Rattle.writing.specs.declared.Place.{Place}
use Rattle.writing.specs.Writes.{Areas, Room, Fit, Put, PutAnswer, RowAnswer, LitAnswer, StrsAnswer, Fits, Written, Answer}
use Rattle.writing.proofs.Puts.{put_none, put_row, put_then, put_out, put_lits, put_room}

-- ---- packed words

pub length_spans : (o : ℕ) (ss : List Bytes) → length (spans o ss) ≡ length ss
length_spans o [] = refl
length_spans o (s ∷ ss) = rw (length_spans (o + length s) ss)

pub size_packed : (o : ℕ) (e : E) → size (packed o e) ≡ size e
size_packed o (lit k s) = refl
size_packed o (fixed f) = refl
size_packed o (skip ss) = rw (length_spans o ss)
size_packed o (un u e) = rw (size_packed o e)
size_packed o (bin b l r) = rw (size_packed o l, size_packed (o + length (text_of l)) r)

pub length_packed : (o : ℕ) (e : E) → length (flat (packed o e)) ≡ size e * row_width
length_packed o e = length_flat (packed o e) ∙ ap (λ (n : ℕ). n * row_width) (size_packed o e)

pub length_packed_strs : (o : ℕ) (ss : List Bytes) → length (str_rows (spans o ss)) ≡ length ss * row_width
length_packed_strs o ss = length_str_rows (spans o ss) ∙ ap (λ (n : ℕ). n * row_width) (length_spans o ss)

-- ---- what is written is put, and back

module _ {p : Place} {e : E} {o t : List ℕ} where
  pub fits_fit : Fits p e o t → Fit p (size e) (length (text_of e)) o t
  fits_fit f = record { rows = f.rows; text = f.text }

  pub fit_fits : Fit p (size e) (length (text_of e)) o t → Fits p e o t
  fit_fits f = record { rows = f.rows; text = f.text }

pub written_put : {q p : Place} {e : E} {o o' t t' : List ℕ} → Written q p e o o' t t' → Put q p (size e) (flat (packed p.text e)) (text_of e) o o' t t'
written_put w = record { fits = fits_fit w.fits; rows = w.rows; text = w.text; words = w.words; bytes = w.bytes }

pub put_answer : (a : Option Place) (p : Place) (e : E) (o o' t t' : List ℕ) → PutAnswer a p (size e) (flat (packed p.text e)) (text_of e) o o' t t' → Answer a p e o o' t t'
put_answer (Some q) p e o o' t t' w = record { fits = fit_fits w.fits; rows = w.rows; text = w.text; words = w.words; bytes = w.bytes }
put_answer None p e o o' t t' n = λ f. n (fits_fit f)

-- an answer that is known
pub done_written : {a : Option Place} {q : Place} (p : Place) (e : E) (o o' t t' : List ℕ) → a ≡ Some q → Answer a p e o o' t t' → Written q p e o o' t t'
done_written p e o o' t t' h w = subst (λ (z : Option Place). Answer z p e o o' t t') h w

pub full_not : {a : Option Place} (p : Place) (e : E) (o o' t t' : List ℕ) → a ≡ None → Answer a p e o o' t t' → Fits p e o t → ⊥
full_not p e o o' t t' h w = subst (λ (z : Option Place). Answer z p e o o' t t') h w

-- the areas keep their lengths, and the place after a written tree lies in them
module _ {q p : Place} {e : E} {o o' t t' : List ℕ} (w : Written q p e o o' t t') where
  pub written_out : length o' ≡ length o
  written_out = put_out (written_put w)

  pub written_lits : length t' ≡ length t
  written_lits = put_lits (written_put w)

  pub written_room : Areas o t → Room q o' t'
  written_room a = put_room (written_put w) a

-- ---- leaves

pub lit_tree : (a : Option Place) (p : Place) (k : Lit) (s o o' t t' : List ℕ) → LitAnswer a p (lit_kind k) s o o' t t' → Answer a p (lit k s) o o' t t'
lit_tree a p k s o o' t t' h = put_answer a p (lit k s) o o' t t' h

pub fixed_tree : (a : Option Place) (p : Place) (f : Fixed) (g : Head) (o o' t : List ℕ) → g ≡ fixed_head f → p.text ≤ length t → RowAnswer a p g 1 o o' → Answer a p (fixed f) o o' t t
fixed_tree a p f g o o' t e l h = put_answer a p (fixed f) o o' t t (put_row a p (fixed_head f) 1 o o' t l (subst (λ (g : Head). RowAnswer a p g 1 o o') e h))

-- ---- a node with one child

module _ {q p : Place} {e : E} {o o₁ t t₁ : List ℕ} (w : Written q p e o o₁ t t₁) where
  after : q.text ≤ length t₁
  after = omega (arith, w.text, w.fits.text, written_lits w)

  pub un_tree : (a : Option Place) (u : Un) (g : Head) (n : ℕ) (o₂ : List ℕ) → g ≡ un_head u → n ≡ size e + 1 → RowAnswer a q g n o₁ o₂ → Answer a p (un u e) o o₂ t t₁
  un_tree a u g n o₂ d h r =
      let v : PutAnswer a p (size e + 1) (flat (packed p.text e) ++ row g n) (text_of e ++ []) o o₂ t t₁ = put_then (written_put w) (length_packed p.text e) a 1 (row g n) [] o₂ t₁ (put_row a q g n o₁ o₂ t₁ after r) in
      put_answer a p (un u e) o o₂ t t₁ (rw (size_packed p.text e) (rw (append-nil, d, h) at v))

  -- ---- a node with two children

  module _ {s : Place} {f : E} {o₂ t₂ : List ℕ} (v : Written s q f o₁ o₂ t₁ t₂) where
    both : Put s p (size e + size f) (flat (packed p.text e) ++ flat (packed q.text f)) (text_of e ++ text_of f) o o₂ t t₂
    both = put_then (written_put w) (length_packed p.text e) (Some s) (size f) _ (text_of f) o₂ t₂ (written_put v)

    pub bin_tree : (a : Option Place) (b : Bin) (g : Head) (n : ℕ) (o₃ : List ℕ) → g ≡ (bin_kind b, 0, 0) → n ≡ size e + size f + 1 → RowAnswer a s g n o₂ o₃ → Answer a p (bin b e f) o o₃ t t₂
    bin_tree a b g n o₃ d h r =
        let x = p.text in
        let l : length (flat (packed x e) ++ flat (packed q.text f)) ≡ (size e + size f) * row_width = simp length-append (omega (arith, length_packed x e, length_packed q.text f)) in
        let z : s.text ≤ length t₂ = omega (arith, v.text, v.fits.text, written_lits v) in
        let y : PutAnswer a p (size e + size f + 1) ((flat (packed x e) ++ flat (packed q.text f)) ++ row g n) ((text_of e ++ text_of f) ++ []) o o₃ t t₂ = put_then both l a 1 (row g n) [] o₃ t₂ (put_row a s g n o₂ o₃ t₂ z r) in
        put_answer a p (bin b e f) o o₃ t t₂ (rw (size_packed x e, size_packed (x + length (text_of e)) f) (rw (append-nil, append_assoc, d, h, w.text) at y))

-- ---- what fits: a smaller tree, in areas as long, and the parts of a tree

pub fits_less : {p : Place} {e : E} (e' : E) {o t : List ℕ} → size e' ≤ size e → length (text_of e') ≤ length (text_of e) → Fits p e o t → Fits p e' o t
fits_less e' h k f = record { rows = omega (arith, f.rows); text = omega (arith, f.text) }

pub fits_areas : {p : Place} {e : E} {o t : List ℕ} (o' t' : List ℕ) → length o' ≡ length o → length t' ≡ length t → Fits p e o t → Fits p e o' t'
fits_areas o' t' h k f = record { rows = omega (arith, f.rows); text = omega (arith, f.text) }

pub fits_un : {p : Place} {u : Un} {e : E} {o t : List ℕ} → Fits p (un u e) o t → Fits p e o t
fits_un f = record { rows = omega (arith, f.rows); text = f.text }

pub fits_left : {p : Place} {b : Bin} {l r : E} {o t : List ℕ} → Fits p (bin b l r) o t → Fits p l o t
fits_left {l} {r} f = record { rows = omega (arith, f.rows); text = omega (arith, f.text, length-append (text_of l) (text_of r)) }

pub fits_right : {q p : Place} {b : Bin} {l r : E} {o o₁ t t₁ : List ℕ} → Written q p l o o₁ t t₁ → Fits p (bin b l r) o t → Fits q r o₁ t₁
fits_right {l} {r} w f = record {
  rows = omega (arith, f.rows, w.rows, written_out w);
  text = omega (arith, f.text, w.text, length-append (text_of l) (text_of r), written_lits w);
}

-- ---- strings, and a Skip

pub strs_none : (p : Place) (o t : List ℕ) → p.rows ≤ length o / row_width → p.text ≤ length t → StrsAnswer (Some p) p [] o o t t
strs_none p o t h k = put_none p o t h k

pub strs_one : (a : Option Place) (p : Place) (s o o' t t' : List ℕ) → LitAnswer a p 0 s o o' t t' → StrsAnswer a p (s ∷ []) o o' t t'
strs_one a p s o o' t t' h = subst (λ (b : List ℕ). PutAnswer a p 1 (row (0, p.text, length s) 1) b o o' t t') (sym (append-nil s)) h

spans_append : (o : ℕ) (ss ts : List Bytes) → str_rows (spans o (ss ++ ts)) ≡ str_rows (spans o ss) ++ str_rows (spans (o + length (joined ss)) ts)
spans_append o [] ts = rw add-zero
spans_append o (s ∷ ss) ts =
    let e : o + length s + length (joined ss) ≡ o + length (s ++ joined ss) = simp length-append (omega arith) in
    rw (spans_append (o + length s) ss ts, e)

joined_append : (ss ts : List Bytes) → joined (ss ++ ts) ≡ joined ss ++ joined ts
joined_append [] ts = refl
joined_append (s ∷ ss) ts = rw (joined_append ss ts) (simp append_assoc)

module _ {q p : Place} (ss : List Bytes) {o o₁ t t₁ : List ℕ} (w : Put q p (length ss) (str_rows (spans p.text ss)) (joined ss) o o₁ t t₁) where
  pub strs_append : (a : Option Place) (ts : List Bytes) (o₂ t₂ : List ℕ) → StrsAnswer a q ts o₁ o₂ t₁ t₂ → StrsAnswer a p (ss ++ ts) o o₂ t t₂
  strs_append a ts o₂ t₂ h =
      let y : PutAnswer a p (length ss + length ts) (str_rows (spans p.text ss) ++ str_rows (spans q.text ts)) (joined ss ++ joined ts) o o₂ t t₂ = put_then w (length_packed_strs p.text ss) a (length ts) _ (joined ts) o₂ t₂ h in
      rw (length-append ss ts, spans_append p.text ss ts, joined_append ss ts) (rw w.text at y)

  pub skip_tree : (a : Option Place) (g : Head) (n : ℕ) (o₂ : List ℕ) → g ≡ (17, length ss, 0) → n ≡ length ss + 1 → RowAnswer a q g n o₁ o₂ → Answer a p (skip ss) o o₂ t t₁
  skip_tree a g n o₂ d h r =
      let z : q.text ≤ length t₁ = omega (arith, w.text, w.fits.text, put_lits w) in
      let y : PutAnswer a p (length ss + 1) (str_rows (spans p.text ss) ++ row g n) (joined ss ++ []) o o₂ t t₁ = put_then w (length_packed_strs p.text ss) a 1 (row g n) [] o₂ t₁ (put_row a q g n o₁ o₂ t₁ z r) in
      put_answer a p (skip ss) o o₂ t t₁ (rw (length_spans p.text ss) (rw (append-nil, d, h) at y))

pub fits_strs : {p : Place} {ss : List Bytes} {o t : List ℕ} → Fits p (skip ss) o t → Fit p (length ss) (length (joined ss)) o t
fits_strs f = record { rows = omega (arith, f.rows); text = f.text }
