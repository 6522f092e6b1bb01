-- A turn of closing: the trees that are still to be joined, and the rows that join the others. Assumes nothing.
use Rattle.std.specs.Prelude.{None, Option, Some}
use mathlib.Core.Path.{◌≡◌, refl, sym, ap, subst, ◌∙◌}
use mathlib.Core.List.{List, [], ◌∷◌, ◌++◌, append_assoc, append-nil}
use Prim.Native.Nat.{ℕ, ◌+◌, ◌-◌, ◌*◌, ◌/◌, ◌≤◌, ◌<◌}
use native.Mathlib.Omega.{arith}
use lib.ListN.{length, take, drop, length-append, take-append-drop}
use lib.Seq.{sets-eq, length-take-le}
use Rattle.grammar.specs.Numbers.{row_width}
use Rattle.grammar.specs.Tree.{Bin, bin_kind, Expr, size}
use Rattle.grammar.specs.Rows.{Span, row, flat}
use Rattle.rows.specs.Rows.{At}
use Rattle.rows.proofs.Laws.{size_pos, length_flat, Found, found_size}
use Rattle.writing.proofs.Runs.{length_stored, stored_none, stored_then, take_stored}
use Rattle.writing.specs.Writes.{stored}
use Rattle.writing.specs.declared.Place.{Place}
use Rattle.chains.specs.Chains.{chain, sizes, flats, closing, Forest, Closable, Closed, ClosedAnswer, IsBin}
use Rattle.chains.proofs.Trees.{Snoc, as_snoc, flat_chain, size_chain, length_closing, sizes_append, flats_append}

pub length_flats : (xs : List (Expr Span)) → length (flats xs) ≡ sizes xs * row_width
length_flats [] = refl
length_flats (x ∷ xs) = simp length-append (omega (arith, length_flat x, length_flats xs))

-- the last of some trees is where the words end
pub last_at : {o : List ℕ} {i : ℕ} {before : List ℕ} {xs : List (Expr Span)} {r : Expr Span} → Forest o i before xs r → At o (i - 1) r
last_at {o} {i} {before} {xs} {r} f = record {
  before = before ++ flats xs;
  after = drop (i * row_width) o;
  whole = sym (take-append-drop (i * row_width) o) ∙ rw f.words (simp append_assoc);
  place = simp length-append (omega (arith, f.place, length_flats xs, size_pos r));
}

-- of the trees xs and then r up to row i of the words o₀, those from row `first` on are joined by the rows from i to `at`
pub record Turn (o₀ : List ℕ) (i : ℕ) (b : Bin) (before : List ℕ) (xs : List (Expr Span)) (r : Expr Span) (o : List ℕ) (at first : ℕ) : Type 0 where
  pub left : List (Expr Span)
  pub done : List (Expr Span)
  pub split : xs ≡ left ++ done
  pub end : at ≡ i + length done
  pub start : length before + sizes left * row_width ≡ first * row_width
  pub words : o ≡ stored o₀ (i * row_width) (closing b done r)

module _ {o₀ : List ℕ} {i : ℕ} {b : Bin} {before : List ℕ} {xs : List (Expr Span)} {r : Expr Span} (f : Forest o₀ i before xs r) where
  pub turn_none : {m : ℕ} → m ≡ size r → Turn o₀ i b before xs r o₀ i (i - m)
  turn_none e = record { left = xs; done = []; split = sym (append-nil xs); end = omega arith; start = omega (arith, f.place); words = sym (stored_none o₀ (i * row_width)) }

  module _ {o : List ℕ} {at first : ℕ} (t : Turn o₀ i b before xs r o at first) where
    pub counts : length xs ≡ length t.left + length t.done
    counts = ap length t.split ∙ length-append t.left t.done

    pub rows_here : sizes xs ≡ sizes t.left + sizes t.done
    rows_here = ap sizes t.split ∙ sizes_append t.left t.done

    -- where no tree is left, the chain is closed
    pub turn_all : (s q : Place) → s.rows ≡ i → i + length xs ≤ at → q.rows ≡ at → q.text ≡ s.text → Closed q s b xs r o₀ o
    turn_all s q e h d g = none t.left refl
      where
        none : (l : List (Expr Span)) → t.left ≡ l → Closed q s b xs r o₀ o
        none [] z = let y : xs ≡ t.done = t.split ∙ ap (λ (u : List (Expr Span)). u ++ t.done) z in rw y (record { rows = omega (arith, t.end); text = g; words = rw e t.words })
        none (x ∷ l) z = absurd (omega (arith, counts, t.end, ap length z))

    -- the tree before those that are joined
    module _ (room : i + length xs ≤ length o₀ / row_width) (more : at < i + length xs) where
      abbrev here : Snoc t.left
      here = as_snoc t.left (omega (arith, counts, t.end))

      split_here : xs ≡ here.init ++ (here.last ∷ t.done)
      split_here = t.split ∙ ap (λ (l : List (Expr Span)). l ++ t.done) here.is ∙ append_assoc here.init (here.last ∷ []) t.done

      flats_here : flats xs ≡ flats here.init ++ (flat here.last ++ flats t.done)
      flats_here = ap flats split_here ∙ flats_append here.init (here.last ∷ t.done)

      sizes_here : sizes t.left ≡ sizes here.init + size here.last
      sizes_here = ap sizes here.is ∙ sizes_append here.init (here.last ∷ []) ∙ omega arith

      pub turn_at : At o (first - 1) here.last
      unfolding stored
      turn_at = record {
        before = before ++ flats here.init;
        after = flats t.done ++ (flat r ++ (closing b t.done r ++ drop (i * row_width + length (closing b t.done r)) o₀));
        whole = t.words
            ∙ sets-eq (closing b t.done r) o₀ (i * row_width) (omega (arith, length_closing b t.done r, counts))
            ∙ rw (f.words, flats_here) (simp append_assoc);
        place = simp length-append (omega (arith, t.start, sizes_here, length_flats here.init, size_pos here.last));
      }

      -- it lies after the words before
      pub turn_least : size here.last ≤ first
      turn_least = omega (arith, t.start, sizes_here)

      pub turn_more : {kind k : ℕ} {o₁ : List ℕ} → kind ≡ bin_kind b → k ≡ size here.last
          → o₁ ≡ stored o (at * row_width) (row (kind, 0, 0) (at + 1 - (first - k))) → Turn o₀ i b before xs r o₁ (at + 1) (first - k)
      turn_more {kind} {k} {o₁} e g w =
          let z : at + 1 - (first - k) ≡ size (chain b (here.last ∷ t.done) r) = omega (arith, size_chain b t.done r, t.end, t.start, f.place, rows_here, sizes_here) in
          let p : at * row_width ≡ i * row_width + length (closing b t.done r) = omega (arith, t.end, length_closing b t.done r) in
          record {
            left = here.init;
            done = here.last ∷ t.done;
            split = split_here;
            end = omega (arith, t.end);
            start = omega (arith, t.start, sizes_here);
            words = stored_then o₀ o o₁ (closing b t.done r) _ (i * row_width) (at * row_width) t.words p (w ∙ rw (e, z));
          }

-- the turn of whatever trees stand there
abbrev pub Turns : List ℕ → ℕ → ℕ → ℕ → List ℕ → ℕ → ℕ → Type 0
Turns o₀ i kind n o at first =
    (b : Bin) (before : List ℕ) (xs : List (Expr Span)) (r : Expr Span) → kind ≡ bin_kind b → Forest o₀ i before xs r → length xs ≡ n → Turn o₀ i b before xs r o at first

module _ {o₀ o : List ℕ} {i kind n at first : ℕ} (q : IsBin kind) (z : Closable o₀ i n) (t : Turns o₀ i kind n o at first) where
  abbrev own : Turn o₀ i q.op z.before z.trees z.tree o at first
  own = t q.op z.before z.trees z.tree q.is z.forest z.count

  pub same_words : length o ≡ length o₀
  same_words = ap length own.words ∙ length_stored o₀ _ _

  -- the bounds of a turn
  module _ (more : at < i + n) where
    abbrev room : i + length z.trees ≤ length o₀ / row_width
    room = omega (arith, z.room, z.count)

    abbrev more_here : at < i + length z.trees
    more_here = omega (arith, z.count)

    pub left_at : At o (first - 1) (here z.forest own room more_here).last
    left_at = turn_at z.forest own room more_here

    pub left_least : size (here z.forest own room more_here).last ≤ first
    left_least = turn_least z.forest own room more_here

    pub first_least : 1 ≤ first
    first_least = omega (arith, left_least, size_pos (here z.forest own room more_here).last)

    pub first_most : first ≤ at
    first_most = omega (arith, own.end, own.start, z.forest.place, rows_here z.forest own)

    pub read_most : {k x y m : ℕ} → Found o (first - 1) k x y m → m ≤ first
    read_most g = omega (arith, left_least, found_size g left_at)

    -- the row that was read, and the row that joins its tree
    pub turns_more : {k x y m : ℕ} {o₁ : List ℕ} → Found o (first - 1) k x y m → o₁ ≡ stored o (at * row_width) (row (kind, 0, 0) (at + 1 - (first - m))) → Turns o₀ i kind n o₁ (at + 1) (first - m)
    turns_more g w b before xs r e f c =
        let u = t b before xs r e f c in
        let l : i + length xs ≤ length o₀ / row_width = omega (arith, z.room) in
        let h : at < i + length xs = omega arith in
        turn_more f u l h e (found_size g (turn_at f u l h)) w

-- trees that were written one after the other from row p on, closed: the chain is written from row p on
module _ (o o₁ : List ℕ) (p i : ℕ) (xs : List (Expr Span)) (r : Expr Span) (w : o₁ ≡ stored o (p * row_width) (flats xs ++ flat r)) (e : i ≡ p + (sizes xs + size r)) (room : i ≤ length o / row_width) where
  words_here : length (flats xs ++ flat r) ≡ (sizes xs + size r) * row_width
  words_here = simp length-append (omega (arith, length_flats xs, length_flat r))

  pub forest_stored : Forest o₁ i (take (p * row_width) o) xs r
  forest_stored = record {
    words = ap (take (i * row_width)) w ∙ take_stored o _ (p * row_width) (i * row_width) (omega (arith, words_here)) (omega arith);
    place = omega (arith, length-take-le (p * row_width) o (omega arith));
  }

  pub chain_stored : {b : Bin} {q s : Place} {o₂ : List ℕ} → s.rows ≡ i → Closed q s b xs r o₁ o₂ → o₂ ≡ stored o (p * row_width) (flat (chain b xs r))
  chain_stored {b} {s} {o₂} d c =
      stored_then o o₁ o₂ (flats xs ++ flat r) (closing b xs r) (p * row_width) (s.rows * row_width) w (omega (arith, words_here)) c.words ∙ rw (flat_chain b xs r) (simp append_assoc)

-- trees that stand up to s, closed: the chain stands up to q
pub chain_stands : {o o₁ : List ℕ} {b : Bin} {q s : Place} {before : List ℕ} {xs : List (Expr Span)} {r : Expr Span} → Forest o s.rows before xs r → s.rows + length xs ≤ length o / row_width
    → Closed q s b xs r o o₁ → take (q.rows * row_width) o₁ ≡ before ++ flat (chain b xs r)
chain_stands {o} {b} {q} {s} {xs} {r} f room c =
    ap (take (q.rows * row_width)) c.words
    ∙ take_stored o _ (s.rows * row_width) (q.rows * row_width) (omega (arith, c.rows, length_closing b xs r)) (omega (arith, c.rows))
    ∙ rw (f.words, flat_chain b xs r) (simp append_assoc)

-- an answer that is known
module _ {a : Option Place} (s : Place) (b : Bin) (xs : List (Expr Span)) (r : Expr Span) (o o' : List ℕ) where
  pub closed_done : {q : Place} → a ≡ Some q → ClosedAnswer a s b xs r o o' → Closed q s b xs r o o'
  closed_done d w = subst (λ (z : Option Place). ClosedAnswer z s b xs r o o') d w

  pub closed_full : a ≡ None → ClosedAnswer a s b xs r o o' → ⊥
  closed_full d w = subst (λ (z : Option Place). ClosedAnswer z s b xs r o o') d w
