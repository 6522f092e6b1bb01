-- A tree that stands at the end of what was written: how it comes there, and how it is read again. Assumes nothing.
use Rattle.std.specs.Prelude.{None, Option, Some, IsSome}
use mathlib.Core.Path.{◌≡◌, refl, sym, ap, subst, ◌∙◌}
use mathlib.Core.List.{List, [], ◌∷◌, ◌++◌, append_assoc, map}
use Prim.Native.Nat.{ℕ, ◌+◌, ◌-◌, ◌*◌, ◌/◌, ◌≤◌, ◌<◌}
use native.Mathlib.Omega.{arith}
use lib.ListN.{length, take, drop, length-append, length-take, take-append-drop}
use lib.Seq.{length-take-le, take-append_seam, drop-append_seam}
use Rattle.grammar.specs.Numbers.{row_width}
use Rattle.grammar.specs.Basic.{Bytes}
use Rattle.grammar.specs.Tree.{Head, Un, Bin, Expr, E, lit, fixed, skip, un, bin, un_head, bin_kind, size}
use Rattle.grammar.specs.Rows.{Span, flat}
use Rattle.grammar.specs.Text.{bytes_at, resolve, joined, text_of, spans, packed}
use Rattle.rows.specs.Rows.{At, AllWithin, Within, StandsIn}
use Rattle.rows.proofs.Laws.{size_pos}
use Rattle.rows.proofs.Views.{OneView, TwoView, left_at, at_unique}
use Rattle.writing.specs.declared.Place.{Place}
use Rattle.writing.specs.Writes.{Areas, Room, RowPut, Fits, Written, Answer}
use Rattle.writing.specs.Keeps.{Kept, KeptAnswer, Ready}
use Rattle.writing.proofs.Runs.{take_stored, take_front}
use Rattle.writing.proofs.Trees.{size_packed, length_packed, fits_un, fits_left}

-- ---- room

pub fits_room : {p : Place} {e : E} {o t : List ℕ} → Fits p e o t → Areas o t → Room p o t
fits_room f a = record { rows = omega (arith, f.rows); text = omega (arith, f.text); areas = a }

-- the tree that fits is the one that stands there
pub ready_fits : {w : List ℕ} {s : Bytes} {i : ℕ} {p : Place} {o t : List ℕ} → Ready w s i p o t → (r : Expr Span) → At w i r → Fits p (resolve s r) o t
ready_fits {s} d r a = rw (at_unique r d.tree a d.at) d.fits

-- ---- answers

-- what is written with nothing else changed is kept
pub written_kept : {q p : Place} {e : E} {o o' t t' : List ℕ} → Written q p e o o' t t' → Kept q p e o o' t t'
written_kept {q} {p} {e} {o} {o'} {t} {t'} w = record {
  rows = w.rows;
  text = w.text;
  words = rw w.words (take_stored o _ (p.rows * row_width) (q.rows * row_width) (omega (arith, w.rows, length_packed p.text e)) (omega (arith, w.rows, w.fits.rows)));
  bytes = rw w.bytes (take_stored t _ p.text q.text w.text (omega (arith, w.text, w.fits.text)));
}

-- an exact answer where the tree fits
pub answer_kept : (a : Option Place) (p : Place) (e : E) (o o' t t' : List ℕ) → Fits p e o t → Answer a p e o o' t t' → KeptAnswer a p e o o' t t'
answer_kept (Some q) p e o o' t t' f w = written_kept w
answer_kept None p e o o' t t' f n = n f

-- an answer that is known
pub kept_done : {a : Option Place} {q : Place} (p : Place) (e : E) (o o' t t' : List ℕ) → a ≡ Some q → KeptAnswer a p e o o' t t' → Kept q p e o o' t t'
kept_done p e o o' t t' h w = subst (λ (z : Option Place). KeptAnswer z p e o o' t t') h w

pub kept_full : {a : Option Place} (p : Place) (e : E) (o o' t t' : List ℕ) → a ≡ None → KeptAnswer a p e o o' t t' → ⊥
kept_full p e o o' t t' h w = subst (λ (z : Option Place). KeptAnswer z p e o o' t t') h w

pub kept_some : (a : Option Place) (p : Place) (e : E) (o o' t t' : List ℕ) → KeptAnswer a p e o o' t t' → IsSome a
kept_some (Some q) p e o o' t t' w = refl
kept_some None p e o o' t t' w = absurd w

-- the children of a tree that was read, and fits, stand ready
module _ (s : Bytes) {w : List ℕ} {i k x y n : ℕ} {r : Expr Span} {p : Place} {o t : List ℕ} where
  pub ready_child : OneView w i k x y n r → Fits p (resolve s r) o t → Ready w s (i - 1) p o t
  ready_child v f = record { tree = v.child; at = v.at; fits = fits_un (rw v.is at f) }

  pub ready_left : (v : TwoView w i k x y n r) (m : ℕ) → m ≡ size v.right → Fits p (resolve s r) o t → Ready w s (i - 1 - m) p o t
  ready_left v m e f = record { tree = v.left; at = left_at v m e; fits = fits_left (rw v.is at f) }

-- where a tree e' that is no larger than e stands, there is room for the root row over e, and for what comes beside e
module _ {q p : Place} {e' : E} {o o₁ t t₁ : List ℕ} (w : Kept q p e' o o₁ t t₁) (e : E) (s : size e' ≤ size e) (lo : length o₁ ≡ length o) where
  pub row_room : {u : Un} → Fits p (un u e) o t → q.rows < length o₁ / row_width
  row_room f = omega (arith, w.rows, f.rows)

  pub right_fits : {b : Bin} {r : E} → length (text_of e') ≤ length (text_of e) → length t₁ ≡ length t → Fits p (bin b e r) o t → Fits q r o₁ t₁
  right_fits {r} h lt f = record {
    rows = omega (arith, w.rows, f.rows);
    text = omega (arith, w.text, f.text, length-append (text_of e) (text_of r));
  }

pub ready_right : (s : Bytes) {w : List ℕ} {i k x y n : ℕ} {r : Expr Span} {q p : Place} {l' : E} {o o₁ t t₁ : List ℕ} (v : TwoView w i k x y n r)
    → Kept q p l' o o₁ t t₁ → size l' ≤ size (resolve s v.left) → length (text_of l') ≤ length (text_of (resolve s v.left))
    → length o₁ ≡ length o → length t₁ ≡ length t → Fits p (resolve s r) o t → Ready w s (i - 1) q o₁ t₁
ready_right s v c h k lo lt f = record {
  tree = v.right;
  at = v.at_right;
  fits = right_fits c (resolve s v.left) h lo k lt (rw v.is at f);
}

-- ---- a tree is kept by its children and then its root's row

module _ {q p : Place} {e : E} {o o₁ t t₁ : List ℕ} (w : Kept q p e o o₁ t t₁) where
  pub kept_un : {a : Place} (u : Un) (g : Head) (n : ℕ) {o₂ : List ℕ} → g ≡ un_head u → n ≡ size e + 1 → RowPut a q g n o₁ o₂ → Kept a p (un u e) o o₂ t t₁
  kept_un {a} u g n {o₂} d h r = record {
    rows = omega (arith, w.rows, r.rows);
    text = r.text ∙ w.text;
    words = rw r.words (take_stored o₁ _ (q.rows * row_width) (a.rows * row_width) (omega (arith, r.rows)) (omega (arith, r.rows, r.room)) ∙ rw (w.words, d, h, size_packed p.text e) (simp append_assoc));
    bytes = rw r.text w.bytes;
  }

  pub kept_bin : {a s : Place} {f : E} {o₂ t₂ : List ℕ} → Kept s q f o₁ o₂ t₁ t₂ → (b : Bin) (g : Head) (n : ℕ) {o₃ : List ℕ} → g ≡ (bin_kind b, 0, 0) → n ≡ size e + size f + 1 → RowPut a s g n o₂ o₃ → Kept a p (bin b e f) o o₃ t t₂
  kept_bin {a} {s} {f} {o₂} {t₂} v b g n {o₃} d h r =
      let l = length-append (text_of e) (text_of f) in
      record {
        rows = omega (arith, w.rows, v.rows, r.rows);
        text = r.text ∙ omega (arith, w.text, v.text, l);
        words = rw r.words (take_stored o₂ _ (s.rows * row_width) (a.rows * row_width) (omega (arith, r.rows)) (omega (arith, r.rows, r.room)) ∙ rw (v.words, w.words, d, h, w.text, size_packed p.text e, size_packed (p.text + length (text_of e)) f) (simp append_assoc));
        bytes = rw r.text (v.bytes ∙ rw w.bytes (simp append_assoc));
      }

-- ---- a kept tree is read again

-- packed text gives the tree back, whatever stands before and after it
bytes_here : (u : Bytes) (o : ℕ) (x s y : Bytes) → u ≡ x ++ (s ++ y) → length x ≡ o → bytes_at u (o, length s) ≡ s
bytes_here u o x s y h l = rw (h, ← l, drop-append_seam, take-append_seam)

resolve_strs : (u : Bytes) (o : ℕ) (x y : Bytes) (ss : List Bytes) → u ≡ x ++ (joined ss ++ y) → length x ≡ o → map (bytes_at u) (spans o ss) ≡ ss
resolve_strs u o x y [] h l = refl
resolve_strs u o x y (s ∷ ss) h l =
    let p : bytes_at u (o, length s) ≡ s = bytes_here u o x s (joined ss ++ y) (h ∙ simp append_assoc) l in
    let q : map (bytes_at u) (spans (o + length s) ss) ≡ ss = resolve_strs u (o + length s) (x ++ s) y ss (h ∙ simp append_assoc) (simp length-append (omega arith)) in
    cc

pub resolve_packed : (u : Bytes) (o : ℕ) (x y : Bytes) (e : E) → u ≡ x ++ (text_of e ++ y) → length x ≡ o → resolve u (packed o e) ≡ e
resolve_packed u o x y (lit k s) h l = ap (lit k) (bytes_here u o x s y h l)
resolve_packed u o x y (fixed f) h l = refl
resolve_packed u o x y (skip ss) h l = ap skip (resolve_strs u o x y ss h l)
resolve_packed u o x y (un v e) h l = ap (un v) (resolve_packed u o x y e h l)
resolve_packed u o x y (bin b e f) h l =
    let p : resolve u (packed o e) ≡ e = resolve_packed u o x (text_of f ++ y) e (h ∙ simp append_assoc) l in
    let q : resolve u (packed (o + length (text_of e)) f) ≡ f = resolve_packed u (o + length (text_of e)) (x ++ text_of e) y f (h ∙ simp append_assoc) (simp length-append (omega arith)) in
    cc

strs_packed : (n o : ℕ) (ss : List Bytes) → o + length (joined ss) ≤ n → AllWithin n (spans o ss)
strs_packed n o [] h = tt
strs_packed n o (s ∷ ss) h = let l = length-append s (joined ss) in (omega arith, strs_packed n (o + length s) ss (omega arith))

pub within_packed : (n o : ℕ) (e : E) → o + length (text_of e) ≤ n → Within n (packed o e)
within_packed n o (lit k s) h = h
within_packed n o (fixed f) h = tt
within_packed n o (skip ss) h = strs_packed n o ss h
within_packed n o (un u e) h = within_packed n o e h
within_packed n o (bin b l r) h =
    let s = length-append (text_of l) (text_of r) in
    (within_packed n o l (omega arith), within_packed n (o + length (text_of l)) r (omega arith))

-- a tree at the end of what was written stands in the area, with its root at the last row
pub at_end : (o x : List ℕ) (n i : ℕ) (r : Expr Span) → take n o ≡ x ++ flat r → length x + size r * row_width ≡ i * row_width + row_width → At o i r
at_end o x n i r e h = record { before = x; after = drop n o; whole = sym (take-append-drop n o) ∙ rw e (append_assoc x (flat r) (drop n o)); place = h }

module _ {q p : Place} {e : E} {o o' t t' : List ℕ} (w : Kept q p e o o' t t') where
  pub kept_at : p.rows ≤ length o / row_width → At o' (q.rows - 1) (packed p.text e)
  kept_at h =
      at_end o' (take (p.rows * row_width) o) (q.rows * row_width) (q.rows - 1) (packed p.text e) w.words
      (omega (arith, w.rows, size_packed p.text e, size_pos e, length-take-le (p.rows * row_width) o (omega arith)))

  -- what was there before it is still there
  pub kept_rows : p.rows ≤ length o / row_width → take (p.rows * row_width) o' ≡ take (p.rows * row_width) o
  kept_rows h = take_front o o' _ (p.rows * row_width) (q.rows * row_width) (omega (arith, w.rows)) (omega arith) w.words

  pub kept_text : p.text ≤ length t → take p.text t' ≡ take p.text t
  kept_text h = take_front t t' _ p.text q.text (omega (arith, w.text)) h w.bytes

  -- its literals lie in the text, and are its bytes
  pub kept_resolve : p.text ≤ length t → resolve t' (packed p.text e) ≡ e
  kept_resolve h =
      resolve_packed t' p.text (take p.text t) (drop q.text t') e
      (sym (take-append-drop q.text t') ∙ rw w.bytes (append_assoc (take p.text t) (text_of e) (drop q.text t')))
      (length-take-le p.text t h)

  pub kept_end : p.text ≤ length t → q.text ≤ length t'
  kept_end h =
      let n : length (take q.text t') ≡ p.text + length (text_of e) = ap length w.bytes ∙ simp length-append (omega (arith, length-take-le p.text t h)) in
      omega (arith, w.text, length-take q.text t')

  pub kept_stands : p.rows ≤ length o / row_width → p.text ≤ length t → StandsIn o' (q.rows - 1) (length t')
  kept_stands h k = record {
    tree = packed p.text e;
    at = kept_at h;
    within = within_packed (length t') p.text e (omega (arith, w.text, kept_end k));
  }
