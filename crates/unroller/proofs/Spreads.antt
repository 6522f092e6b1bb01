-- The items of a repeat: laid one after another, then nested; and whether they fit. Assumes nothing.
use Rattle.std.specs.Prelude.{None, Option, Some}
use mathlib.Core.Path.{◌≡◌, refl, sym, ap, ◌∙◌}
use mathlib.Core.List.{List, [], ◌∷◌, ◌++◌, append-nil}
use Prim.Native.Nat.{ℕ, ◌+◌, ◌-◌, ◌*◌, ◌/◌, ◌^◌, ◌≤◌, ◌<◌}
use native.Mathlib.Nat.{add-mul}
use native.Mathlib.Omega.{arith}
use lib.ListN.{length, take, replicate, length-append, length-replicate}
use Rattle.grammar.specs.Numbers.{row_width}
use Rattle.grammar.specs.Tree.{Opt, Rep, Bin, Seq, bin_kind, Expr, E, un, size}
use Rattle.grammar.specs.Rows.{Span, flat}
use Rattle.grammar.specs.Text.{text_of, packed}
use Rattle.grammar.specs.Steps.{nest}
use Rattle.writing.specs.declared.Place.{Place}
use Rattle.writing.specs.Writes.{stored, Areas, Fit, Fits, Written, Answer}
use Rattle.writing.proofs.Puts.{put_out, put_lits}
use Rattle.writing.proofs.Trees.{size_packed, written_out}
use Rattle.chains.specs.Chains.{chain, sizes, flats, texts, packs, Forest, Closable, ClosedAnswer}
use Rattle.chains.proofs.Trees.{nest_chain, packed_chain, text_chain, sizes_append, flats_append, texts_append, packs_append, sizes_packs, length_packs}
use Rattle.chains.proofs.Closes.{forest_stored, chain_stored}
use Rattle.unroller.specs.declared.Item.{Item}
use Rattle.unroller.specs.declared.Item.TheVariants.{Once, Maybe, Many}
use Rattle.unroller.specs.declared.Items.{Items}
use Rattle.unroller.specs.Items.{item_of, items_of, count_of, Holds}
use Rattle.unroller.specs.Copies.{Source, Repeatable, Layable, Laid}
use Rattle.unroller.proofs.Sizes.{weigh, nest_size, weigh_append, weigh_replicate, bytes_of, nest_bytes, bytes_append, bytes_replicate}
use Rattle.unroller.proofs.Lays.{source_rows, written_source, source_put, item_size, item_text, item_source, laid_append, written_laid, sizes_replicate, texts_replicate}

-- ---- laying

-- a tree stands from p to q, and `at` is behind it
pub record Ahead (p q at : Place) (e : E) (o t : List ℕ) : Type 0 where
  pub source : Source p q e o t
  pub behind : q.rows ≤ at.rows
  pub beyond : q.text ≤ at.text

-- and the trees es fit at `at`
pub record Pending (p q at : Place) (es : List E) (e : E) (o t : List ℕ) : Type 0 where
  pub ahead : Ahead p q at e o t
  pub fits : Fit at (sizes es) (length (texts es)) o t
  pub areas : Areas o t

-- behind the first item
pub ahead_first : (i : Item) {p q a : Place} {e : E} {o o₁ t : List ℕ} → Source p q e o t → Written a p (item_of i e) o o₁ t t → Ahead p q a e o₁ t
ahead_first i {p} {q} {a} {e} s w =
    let k : q.text ≡ a.text = omega (arith, s.text, w.text, ap length (item_text i e)) in
    record { source = item_source i s.rows k (written_source w); behind = omega (arith, s.rows, w.rows, item_size i e); beyond = omega arith }

pub ahead_next : {p q at b : Place} {e : E} (es : List E) {o o' t t' : List ℕ} → Ahead p q at e o t → Laid b at es o o' t t' → Ahead p q b e o' t'
ahead_next es h w = record { source = source_put h.source h.behind h.beyond w; behind = omega (arith, h.behind, w.rows); beyond = omega (arith, h.beyond, w.text) }

module _ {p q : Place} {n : Items} {o t : List ℕ} (c : Layable p q n o t) (i : Item) (es : List E) (f : items_of n c.tree ≡ item_of i c.tree ∷ es) where
  pub pending_first : {a : Place} {o₁ : List ℕ} → Written a p (item_of i c.tree) o o₁ t t → Pending p q a es c.tree o₁ t
  pending_first w = record {
    ahead = ahead_first i c.source w;
    fits = record {
      rows = omega (arith, w.rows, c.fits.rows, ap sizes f, written_out w);
      text = omega (arith, w.text, c.fits.text, ap (λ (l : List E). length (texts l)) f, length-append (text_of (item_of i c.tree)) (texts es));
    };
    areas = record { words = omega (arith, c.areas.words, written_out w); bytes = c.areas.bytes };
  }

module _ {p q at : Place} (es fs : List E) {e : E} {o t : List ℕ} (h : Pending p q at (es ++ fs) e o t) where
  pub pending_next : {b : Place} {o' t' : List ℕ} → Laid b at es o o' t t' → Pending p q b fs e o' t'
  pending_next w = record {
    ahead = ahead_next es h.ahead w;
    fits = record {
      rows = omega (arith, w.rows, h.fits.rows, sizes_append es fs, put_out w);
      text = omega (arith, w.text, h.fits.text, ap length (texts_append es fs), length-append (texts es) (texts fs), put_lits w);
    };
    areas = record { words = omega (arith, h.areas.words, put_out w); bytes = omega (arith, h.areas.bytes, put_lits w) };
  }

  pub pending_repeat : (k : ℕ) (i : Item) → es ≡ replicate k (item_of i e) → Repeatable p q at k i o t
  pending_repeat k i r =
      let x = item_of i e in
      let b : k * length (text_of x) ≡ k * length (text_of e) = ap (λ (u : List ℕ). k * length u) (item_text i e) in
      record {
        tree = e;
        source = h.ahead.source;
        behind = h.ahead.behind;
        beyond = h.ahead.beyond;
        fits = record {
          rows = omega (arith, h.fits.rows, sizes_append es fs, ap sizes r, sizes_replicate k x);
          text = omega (arith, h.fits.text, ap length (texts_append es fs), length-append (texts es) (texts fs), ap (λ (l : List E). length (texts l)) r, texts_replicate k x);
        };
        areas = h.areas;
      }

-- after the first item, whose others are m: what the three runs of items ask, one after another
module _ {p q a : Place} {n : Items} {o o₁ t : List ℕ} (c : Layable p q n o t) (i : Item) (m : Items) (f : items_of n c.tree ≡ item_of i c.tree ∷ items_of m c.tree) (w : Written a p (item_of i c.tree) o o₁ t t) where
  abbrev plains : List E
  plains = replicate m.plain c.tree

  abbrev opts : List E
  opts = replicate m.opts (un Opt c.tree)

  abbrev reps : List E
  reps = replicate m.reps (un Rep c.tree)

  left₁ : Pending p q a (plains ++ (opts ++ reps)) c.tree o₁ t
  left₁ = pending_first c i (items_of m c.tree) f w

  pub run_plain : Repeatable p q a m.plain Once o₁ t
  run_plain = pending_repeat plains (opts ++ reps) left₁ m.plain Once refl

  module _ {b : Place} {o₂ t₂ : List ℕ} (x : Source p q c.tree o₁ t → Laid b a plains o₁ o₂ t t₂) where
    left₂ : Pending p q b (opts ++ reps) c.tree o₂ t₂
    left₂ = pending_next plains (opts ++ reps) left₁ (x left₁.ahead.source)

    pub run_opts : Repeatable p q b m.opts Maybe o₂ t₂
    run_opts = pending_repeat opts reps left₂ m.opts Maybe refl

    module _ {d : Place} {o₃ t₃ : List ℕ} (y : Source p q c.tree o₂ t₂ → Laid d b opts o₂ o₃ t₂ t₃) where
      left₃ : Pending p q d (reps ++ []) c.tree o₃ t₃
      left₃ = rw (append-nil reps) (pending_next opts reps left₂ (y left₂.ahead.source))

      pub run_reps : Repeatable p q d m.reps Many o₃ t₃
      run_reps = pending_repeat reps [] left₃ m.reps Many refl

-- the runs stand one after another
pub runs_laid : {p q a b d z : Place} (n m : Items) (i : Item) {e : E} {o o₁ o₂ o₃ o₄ t t₂ t₃ t₄ : List ℕ} → items_of n e ≡ item_of i e ∷ items_of m e → Source p q e o t → Written a p (item_of i e) o o₁ t t → (Source p q e o₁ t → Laid b a (replicate m.plain e) o₁ o₂ t t₂) → (Source p q e o₂ t₂ → Laid d b (replicate m.opts (un Opt e)) o₂ o₃ t₂ t₃) → (Source p q e o₃ t₃ → Laid z d (replicate m.reps (un Rep e)) o₃ o₄ t₃ t₄) → Laid z p (items_of n e) o o₄ t t₄
runs_laid n m i {e = e} f s w x y z =
    let xs = replicate m.plain e in
    let ys = replicate m.opts (un Opt e) in
    let zs = replicate m.reps (un Rep e) in
    let h₁ = ahead_first i s w in
    let v₁ = x h₁.source in
    let h₂ = ahead_next xs h₁ v₁ in
    let v₂ = y h₂.source in
    let v₃ = z (ahead_next ys h₂ v₂).source in
    rw f (laid_append (item_of i e ∷ []) (items_of m e) (written_laid w) (laid_append xs (ys ++ zs) v₁ (laid_append ys zs v₂ v₃)))

-- ---- how large the items are

module _ (n : Items) (e : E) where
  pub items_weigh : weigh (items_of n e) ≡ n.plain * (size e + 1) + (n.opts + n.reps) * (size e + 2)
  items_weigh =
      let a = replicate n.plain e in
      let b = replicate n.opts (un Opt e) in
      let c = replicate n.reps (un Rep e) in
      omega (arith, weigh_append a (b ++ c), weigh_append b c, weigh_replicate n.plain e, weigh_replicate n.opts (un Opt e), weigh_replicate n.reps (un Rep e), add-mul n.opts n.reps (size e + 2))

  pub items_bytes : bytes_of (items_of n e) ≡ count_of n * length (text_of e)
  items_bytes =
      let a = replicate n.plain e in
      let b = replicate n.opts (un Opt e) in
      let c = replicate n.reps (un Rep e) in
      let m = length (text_of e) in
      omega (arith, bytes_append a (b ++ c), bytes_append b c, bytes_replicate n.plain e, bytes_replicate n.opts (un Opt e), bytes_replicate n.reps (un Rep e), add-mul n.plain (n.opts + n.reps) m, add-mul n.opts n.reps m)

  pub items_count : length (items_of n e) ≡ count_of n
  items_count =
      let a = replicate n.plain e in
      let b = replicate n.opts (un Opt e) in
      let c = replicate n.reps (un Rep e) in
      omega (arith, length-append a (b ++ c), length-append b c, length-replicate n.plain e, length-replicate n.opts (un Opt e), length-replicate n.reps (un Rep e))

pub weigh_sizes : (es : List E) → weigh es ≡ sizes es + length es
weigh_sizes [] = omega arith
weigh_sizes (e ∷ es) = omega (arith, weigh_sizes es)

pub bytes_texts : (es : List E) → bytes_of es ≡ length (texts es)
bytes_texts [] = refl
bytes_texts (e ∷ es) = simp length-append (omega (arith, bytes_texts es))

pub nest_weigh : (es : List E) → 1 ≤ length es → size (nest es) + 1 ≡ weigh es
nest_weigh [] h = absurd (omega arith)
nest_weigh (e ∷ es) h = nest_size e es

pub nest_weighs : (es : List E) → 1 ≤ length es → length (text_of (nest es)) ≡ bytes_of es
nest_weighs [] h = absurd (omega arith)
nest_weighs (e ∷ es) h = nest_bytes e es

-- the size test is exact
module _ {p q : Place} {e : E} {o t : List ℕ} (n : Items) (s : Source p q e o t) (h : 1 ≤ count_of n) where
  pub some : 1 ≤ length (items_of n e)
  some = omega (arith, items_count n e)

  same_size : q.rows - p.rows ≡ size e
  same_size = omega (arith, s.rows)

  same_bytes : q.text - p.text ≡ length (text_of e)
  same_bytes = omega (arith, s.text)

  abbrev Test : Type 0
  Test = Holds (length o / row_width - p.rows) (length t - p.text) (q.rows - p.rows) (q.text - p.text) n

  pub fits_hold : Fits p (nest (items_of n e)) o t → Test
  fits_hold f = rw (same_size, same_bytes) (record {
    bytes = omega (arith, f.text, nest_weighs (items_of n e) some, items_bytes n e);
    words = omega (arith, f.rows, nest_weigh (items_of n e) some, items_weigh n e);
  })

  pub holds_fit : Test → Fits p (nest (items_of n e)) o t
  holds_fit g = let k : Holds (length o / row_width - p.rows) (length t - p.text) (size e) (length (text_of e)) n = rw (same_size, same_bytes) at g in record {
    rows = omega (arith, k.words, nest_weigh (items_of n e) some, items_weigh n e, source_rows s, s.rows);
    text = omega (arith, k.bytes, nest_weighs (items_of n e) some, items_bytes n e, s.text, s.within);
  }

  -- and the items lie in what they are nested to
  pub nest_lay : Areas o t → Fits p (nest (items_of n e)) o t → Layable p q n o t
  nest_lay a f =
      let es = items_of n e in
      record {
        tree = e;
        source = s;
        least = h;
        fits = record {
          rows = omega (arith, f.rows, nest_weigh es some, weigh_sizes es, some);
          text = omega (arith, f.text, nest_weighs es some, bytes_texts es);
        };
        areas = a;
      }

-- ---- nesting

-- the last of some trees, and those before
record Ends (es : List E) : Type 0 where
  init : List E
  last : E
  is : es ≡ init ++ (last ∷ [])

as_ends : (es : List E) → 1 ≤ length es → Ends es
as_ends [] h = absurd (omega arith)
as_ends (e ∷ []) h = record { init = []; last = e; is = refl }
as_ends (e ∷ f ∷ es) h = let v = as_ends (f ∷ es) (omega arith) in record { init = e ∷ v.init; last = v.last; is = ap (λ (l : List E). e ∷ l) v.is }

module _ {s p : Place} (es : List E) {o o₁ t t₁ : List ℕ} (l : Laid s p es o o₁ t t₁) (h : 1 ≤ length es) (f : Fits p (nest es) o t) where
  abbrev v : Ends es
  v = as_ends es h

  abbrev xs : List (Expr Span)
  xs = packs p.text v.init

  abbrev r : Expr Span
  r = packed (p.text + length (texts v.init)) v.last

  laid_words : o₁ ≡ stored o (p.rows * row_width) (flats xs ++ flat r)
  laid_words =
      l.words
      ∙ ap (λ (x : List E). stored o (p.rows * row_width) (flats (packs p.text x))) v.is
      ∙ rw (packs_append p.text v.init (v.last ∷ []), flats_append xs (r ∷ []), append-nil (flat r))

  laid_rows : s.rows ≡ p.rows + (sizes xs + size r)
  laid_rows =
      omega (arith, l.rows, ap sizes v.is, sizes_append v.init (v.last ∷ []), sizes_packs p.text v.init, size_packed (p.text + length (texts v.init)) v.last)

  laid_room : s.rows ≤ length o / row_width
  laid_room = omega (arith, l.rows, l.fits.rows)

  abbrev before : List ℕ
  before = take (p.rows * row_width) o

  forest : Forest o₁ s.rows before xs r
  forest = forest_stored o o₁ p.rows s.rows xs r laid_words laid_rows laid_room

  count : {n : ℕ} → n ≡ length es - 1 → length xs ≡ n
  count c = omega (arith, length_packs p.text v.init, ap length v.is, length-append v.init (v.last ∷ []), c)

  pub closable : {n : ℕ} → n ≡ length es - 1 → length o < 2 ^ 32 → Closable o₁ s.rows n
  closable c w = record {
    before = before;
    trees = xs;
    tree = r;
    forest = forest;
    count = count c;
    room = omega (arith, f.rows, nest_weigh es h, weigh_sizes es, l.rows, put_out l, c);
    words = omega (arith, w, put_out l);
  }

  nest_is : nest es ≡ chain Seq v.init v.last
  nest_is = ap nest v.is ∙ nest_chain v.init v.last

  nest_text : text_of (nest es) ≡ texts es
  nest_text = ap text_of nest_is ∙ text_chain Seq v.init v.last ∙ sym (ap texts v.is ∙ texts_append v.init (v.last ∷ []) ∙ ap (λ (u : List ℕ). texts v.init ++ u) (append-nil (text_of v.last)))

  nested : (a : Option Place) (o₂ : List ℕ) → ClosedAnswer a s Seq xs r o₁ o₂ → Answer a p (nest es) o o₂ t t₁
  nested (Some q) o₂ c = record {
    fits = f;
    rows = omega (arith, c.rows, l.rows, nest_weigh es h, weigh_sizes es, count refl, h);
    text = omega (arith, c.text, l.text, nest_weighs es h, bytes_texts es);
    words = chain_stored o o₁ p.rows s.rows xs r laid_words laid_rows laid_room refl c ∙ rw (nest_is, packed_chain p.text Seq v.init v.last);
    bytes = l.bytes ∙ rw nest_text;
  }
  nested None o₂ c = absurd c

  pub nested_answer : (a : Option Place) {n : ℕ} (o₂ : List ℕ) → n ≡ length es - 1
      → ((b : Bin) (before : List ℕ) (ys : List (Expr Span)) (z : Expr Span) → 8 ≡ bin_kind b → Forest o₁ s.rows before ys z → length ys ≡ n → ClosedAnswer a s b ys z o₁ o₂)
      → Answer a p (nest es) o o₂ t t₁
  nested_answer a o₂ c k = nested a o₂ (k Seq before xs r refl forest (count c))
