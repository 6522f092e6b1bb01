-- Trees that stand in the areas, items of them, and trees laid one after another. Assumes nothing.
use Rattle.std.specs.Prelude.{Some}
use mathlib.Core.Path.{◌≡◌, refl, sym, ap, subst, ◌∙◌}
use mathlib.Core.List.{List, [], ◌∷◌, ◌++◌, append-nil}
use Prim.Native.Nat.{ℕ, zero, suc, ◌+◌, ◌-◌, ◌*◌, ◌/◌, ◌≤◌, ◌<◌}
use native.Mathlib.Nat.{add-zero, suc-mul, zero-mul, add-mul, one-mul, mul-le-mul_right}
use native.Mathlib.Omega.{arith}
use lib.ListN.{length, take, drop, replicate, length-append, replicate-append-replicate}
use lib.Seq.{length-take-le}
use Rattle.grammar.specs.Numbers.{row_width}
use Rattle.grammar.specs.Tree.{Un, un_head, E, un, size}
use Rattle.grammar.specs.Rows.{flat}
use Rattle.grammar.specs.Text.{bytes_at, text_of, packed}
use Rattle.rows.specs.Rows.{At}
use Rattle.rows.proofs.Laws.{root, at_un, size_pos}
use Rattle.writing.specs.declared.Place.{Place}
use Rattle.writing.specs.Writes.{Put, RowPut, Written}
use Rattle.writing.proofs.Puts.{put_out, put_lits, put_then, put_none}
use Rattle.writing.proofs.Trees.{size_packed, length_packed, written_put, written_lits, un_tree}
use Rattle.chains.specs.Chains.{sizes, flats, texts, packs}
use Rattle.chains.proofs.Trees.{sizes_append, flats_append, texts_append, packs_append, sizes_packs}
use Rattle.chains.proofs.Closes.{length_flats}
use Rattle.unroller.specs.declared.Item.{Item}
use Rattle.unroller.specs.declared.Item.TheVariants.{Once, Maybe, Many}
use Rattle.unroller.specs.Items.{item_of}
use Rattle.unroller.specs.Copies.{Source, Copyable, Repeatable, Laid, behind_of}
use Rattle.unroller.proofs.Stores.{stored_parts, stored_run, stored_front, stored_before, stored_same, at_front, at_run}

add_one_mul : (k m : ℕ) → (k + 1) * m ≡ k * m + m
add_one_mul k m = add-mul k 1 m ∙ ap (λ (x : ℕ). k * m + x) (one-mul m)

-- ---- a tree that stands

pub written_source : {q p : Place} {e : E} {o o' t t' : List ℕ} → Written q p e o o' t t' → Source p q e o' t'
written_source {q} {p} {e} {o} {o'} {t} {t'} w =
    let l = length_packed p.text e in
    let f : p.rows * row_width ≤ length o = omega (arith, w.fits.rows) in
    record {
      rows = w.rows;
      text = w.text;
      at = record {
        before = take (p.rows * row_width) o;
        after = drop (p.rows * row_width + length (flat (packed p.text e))) o;
        whole = w.words ∙ stored_parts o _ (p.rows * row_width) (omega (arith, l, w.fits.rows));
        place = omega (arith, length-take-le (p.rows * row_width) o f, size_packed p.text e, w.rows, size_pos e);
      };
      bytes = ap (λ (u : List ℕ). bytes_at u (p.text, length (text_of e))) w.bytes ∙ stored_run t (text_of e) p.text (length (text_of e)) refl w.fits.text;
      within = omega (arith, w.text, w.fits.text, written_lits w);
    }

module _ {p q : Place} {e : E} {o t : List ℕ} (s : Source p q e o t) where
  pub source_rows : q.rows ≤ length o / row_width
  source_rows = omega (arith, (root s.at).inside, s.rows, size_pos e)

  pub source_written : Written q p e o o t t
  source_written = record {
    fits = record { rows = omega (arith, source_rows, s.rows); text = omega (arith, s.text, s.within) };
    rows = s.rows;
    text = s.text;
    words = sym (stored_same o (flat (packed p.text e)) (p.rows * row_width) (size e * row_width) (at_run (p.rows * row_width) s.at (ap (λ (n : ℕ). n * row_width) (sym (size_packed p.text e))) (omega (arith, s.rows, size_pos e))) (omega (arith, source_rows, s.rows)));
    bytes = sym (stored_same t (text_of e) p.text (length (text_of e)) s.bytes (omega (arith, s.text, s.within)));
  }

  -- what is put behind it leaves it
  pub source_put : {z at : Place} {n : ℕ} {ws bs o' t' : List ℕ} → q.rows ≤ at.rows → q.text ≤ at.text → Put z at n ws bs o o' t t' → Source p q e o' t'
  source_put {z} {at} {n} {ws} {bs} {o'} {t'} h k w = record {
    rows = s.rows;
    text = s.text;
    at = at_front (ap (take ((q.rows - 1) * row_width + row_width)) w.words ∙ stored_front o ws (at.rows * row_width) ((q.rows - 1) * row_width + row_width) (omega (arith, s.rows, size_pos e))) s.at;
    bytes = ap (λ (u : List ℕ). bytes_at u (p.text, length (text_of e))) w.bytes ∙ stored_before t bs at.text p.text (length (text_of e)) (omega (arith, s.text)) ∙ s.bytes;
    within = omega (arith, s.within, put_lits w);
  }

-- ---- an item

pub item_size : (i : Item) (e : E) → size (item_of i e) ≡ size e + behind_of i
item_size Once e = omega arith
item_size Maybe e = refl
item_size Many e = refl

pub item_text : (i : Item) (e : E) → text_of (item_of i e) ≡ text_of e
item_text Once e = refl
item_text Maybe e = refl
item_text Many e = refl

-- the tree of an item that stands
pub item_source : (i : Item) {p q z : Place} {e : E} {o t : List ℕ} → q.rows ≡ p.rows + size e → q.text ≡ z.text → Source p z (item_of i e) o t → Source p q e o t
item_source i {p} {q} {z} {e} {o} {t} h k s = record {
  rows = h;
  text = k ∙ s.text ∙ ap (λ (u : List ℕ). p.text + length u) (item_text i e);
  at = child i s;
  bytes = subst (λ (u : List ℕ). bytes_at t (p.text, length u) ≡ u) (item_text i e) s.bytes;
  within = omega (arith, s.within);
}
  where
    child : (i : Item) → Source p z (item_of i e) o t → At o (q.rows - 1) (packed p.text e)
    child Once s = let l : z.rows - 1 ≡ q.rows - 1 = omega (arith, s.rows) in rw l at s.at
    child Maybe s = let l : z.rows - 1 - 1 ≡ q.rows - 1 = omega (arith, s.rows) in rw l at (at_un s.at)
    child Many s = let l : z.rows - 1 - 1 ≡ q.rows - 1 = omega (arith, s.rows) in rw l at (at_un s.at)

-- ---- an item that is finished

pub item_is : {i j : Item} {a p : Place} (e : E) {o o' t t' : List ℕ} → i ≡ j → Written a p (item_of j e) o o' t t' → Written a p (item_of i e) o o' t t'
item_is {a} {p} e {o} {o'} {t} {t'} h w = subst (λ (k : Item). Written a p (item_of k e) o o' t t') (sym h) w

pub finished : (u : Un) {a q p : Place} {e : E} {o o₁ o₂ t t₁ : List ℕ} → Written q p e o o₁ t t₁ → RowPut a q (un_head u) (q.rows - p.rows + 1) o₁ o₂ → Written a p (un u e) o o₂ t t₁
finished u {a} {q} {p} {e} {o₂} w r = un_tree w (Some a) u (un_head u) (q.rows - p.rows + 1) o₂ refl (omega (arith, w.rows)) r

-- ---- one after another

pub laid_append : {z q p : Place} (es fs : List E) {o o₁ o₂ t t₁ t₂ : List ℕ} → Laid q p es o o₁ t t₁ → Laid z q fs o₁ o₂ t₁ t₂ → Laid z p (es ++ fs) o o₂ t t₂
laid_append {z} {q} {p} es fs {o} {o₁} {o₂} {t} {t₁} {t₂} w v =
    let l : length (flats (packs p.text es)) ≡ sizes es * row_width = length_flats (packs p.text es) ∙ ap (λ (n : ℕ). n * row_width) (sizes_packs p.text es) in
    let y = put_then w l (Some z) (sizes fs) (flats (packs q.text fs)) (texts fs) o₂ t₂ v in
    rw (sizes_append es fs, packs_append p.text es fs, flats_append (packs p.text es) (packs (p.text + length (texts es)) fs), texts_append es fs) (rw w.text at y)

pub written_laid : {q p : Place} {e : E} {o o' t t' : List ℕ} → Written q p e o o' t t' → Laid q p (e ∷ []) o o' t t'
written_laid {p} {e} w = rw (add-zero (size e), append-nil (flat (packed p.text e)), append-nil (text_of e)) (written_put w)

pub sizes_replicate : (n : ℕ) (e : E) → sizes (replicate n e) ≡ n * size e
sizes_replicate zero e = sym (zero-mul (size e))
sizes_replicate (suc n) e = omega (arith, sizes_replicate n e, suc-mul n (size e))

pub texts_replicate : (n : ℕ) (e : E) → length (texts (replicate n e)) ≡ n * length (text_of e)
texts_replicate zero e = sym (zero-mul (length (text_of e)))
texts_replicate (suc n) e = simp length-append (omega (arith, texts_replicate n e, suc-mul n (length (text_of e))))

-- ---- n items

pub laid_none : (p : Place) (o t : List ℕ) → p.rows ≤ length o / row_width → p.text ≤ length t → Laid p p [] o o t t
laid_none p o t h k = put_none p o t h k

pub laid_more : {z q p : Place} (n : ℕ) (e : E) {o o₁ o₂ t t₁ t₂ : List ℕ} → Laid q p (replicate n e) o o₁ t t₁ → Written z q e o₁ o₂ t₁ t₂ → Laid z p (replicate (n + 1) e) o o₂ t t₂
laid_more n e w v = rw (← (replicate-append-replicate n 1 e)) (laid_append (replicate n e) (e ∷ []) w (written_laid v))

-- the next of n items can be written
pub repeat_copyable : {p q at s : Place} {n k : ℕ} {i : Item} {o o' t t' : List ℕ} (r : Repeatable p q at n i o t) → k < n → Laid s at (replicate k (item_of i r.tree)) o o' t t' → Copyable p q s i o' t'
repeat_copyable {p} {q} {at} {s} {n} {k} {i} {o} {o'} {t} {t'} r h w =
    let x = item_of i r.tree in
    let b : length (text_of x) ≡ length (text_of r.tree) = ap length (item_text i r.tree) in
    let m₁ : (k + 1) * size x ≤ n * size x = mul-le-mul_right (size x) (omega arith) in
    let m₂ : (k + 1) * length (text_of x) ≤ n * length (text_of x) = mul-le-mul_right (length (text_of x)) (omega arith) in
    let e₂ : n * length (text_of x) ≡ n * length (text_of r.tree) = ap (λ (m : ℕ). n * m) b in
    record {
      tree = r.tree;
      source = source_put r.source r.behind r.beyond w;
      behind = omega (arith, r.behind, w.rows);
      beyond = omega (arith, r.beyond, w.text);
      fits = record {
        rows = omega (arith, r.fits.rows, w.rows, put_out w, sizes_replicate k x, add_one_mul k (size x));
        text = omega (arith, r.fits.text, w.text, put_lits w, texts_replicate k x, add_one_mul k (length (text_of x)));
      };
      areas = record { words = omega (arith, r.areas.words, put_out w); bytes = omega (arith, r.areas.bytes, put_lits w) };
    }
