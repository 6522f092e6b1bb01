-- A subtree that was read is concatenated by what its children's calls answer. Assumes nothing.
use mathlib.Core.Path.{◌≡◌, refl, ap, ◌∙◌}
use mathlib.Core.Bool.{Bool, true, false, cond}
use mathlib.Core.List.{List, ◌++◌, append_assoc}
use Prim.Native.Nat.{ℕ, ◌+◌, ◌-◌, ◌*◌, ◌/◌, ◌≤◌, ◌<◌}
use native.Mathlib.Omega.{arith}
use borrow.Author.Tests.{ne_eqb}
use lib.ListN.{length, take, length-append}
use lib.Seq.{length-take-le}
use Rattle.grammar.specs.Numbers.{row_width}
use Rattle.grammar.specs.Basic.{Bytes}
use Rattle.grammar.specs.Tree.{E, Expr, Bin, lit, fixed, skip, un, bin, bin_kind}
use Rattle.grammar.specs.Rows.{Span, flat}
use Rattle.grammar.specs.Text.{resolve, text_of, packed}
use Rattle.grammar.specs.Table.{Atomic}
use Rattle.grammar.specs.Steps.{concatenate}
use Rattle.grammar.proofs.TopDown.{size_pos}
use Rattle.rows.specs.Rows.{kind_at}
use Rattle.rows.proofs.Laws.{head_of, root}
use Rattle.rows.proofs.Views.{TwoView, shape_in}
use Rattle.writing.specs.declared.Place.{Place}
use Rattle.writing.specs.Writes.{Areas}
use Rattle.writing.specs.Keeps.{Kept}
use Rattle.writing.proofs.Runs.{take_stored, take_front}
use Rattle.writing.proofs.Puts.{row_set}
use Rattle.writing.proofs.Trees.{size_packed}
use Rattle.writing.proofs.Keeps.{kept_bin, kept_at, kept_rows, at_end}
use Rattle.chains.proofs.Walks.{Leaf}
use Rattle.chains.proofs.Nodes.{Step, Both}
use Rattle.concatenator.specs.Joins.{joins_of, Order, Ended}
use Rattle.concatenator.proofs.Concats.{kind_in, lit_of, joined, join_kind, concat_lit, concat_fixed, concat_skip, concat_un, concat_bin, concat_size, concat_text}

pub concat_leaf : (t : Bytes) (r : Expr Span) → Leaf (shape_in r) → concatenate Atomic (resolve t r) ≡ resolve t r
concat_leaf t (lit k s) h = concat_lit k _
concat_leaf t (fixed f) h = concat_fixed f
concat_leaf t (skip ss) h = concat_skip _
concat_leaf t (un u e) h = absurd h
concat_leaf t (bin b l r) h = absurd h

kind_packed : (o : ℕ) (e : E) → (head_of (packed o e)).0 ≡ kind_in e
kind_packed o (lit k s) = refl
kind_packed o (fixed f) = refl
kind_packed o (skip ss) = refl
kind_packed o (un u e) = refl
kind_packed o (bin b l r) = refl

-- two trees that were written one after the other, and what ends their node
module _ {p q s : Place} {e f : E} {o o₁ o₂ b b₁ b₂ : List ℕ} (w : Kept q p e o o₁ b b₁) (v : Kept s q f o₁ o₂ b₁ b₂) (ro : p.rows ≤ length o / row_width) (ro₁ : q.rows ≤ length o₁ / row_width) where
  first_words : take (q.rows * row_width) o₂ ≡ take (p.rows * row_width) o ++ flat (packed p.text e)
  first_words = kept_rows v ro₁ ∙ w.words

  front_words : take (p.rows * row_width) o₂ ≡ take (p.rows * row_width) o
  front_words = take_front o o₂ _ (p.rows * row_width) (q.rows * row_width) (omega (arith, w.rows)) (omega arith) first_words

  first_kind : kind_at o₂ (q.rows - 1) ≡ kind_in e
  first_kind =
      (root (at_end o₂ (take (p.rows * row_width) o) (q.rows * row_width) (q.rows - 1) (packed p.text e) first_words (omega (arith, w.rows, size_packed p.text e, size_pos e, length-take-le (p.rows * row_width) o (omega arith))))).kind
      ∙ kind_packed p.text e

  second_kind : kind_at o₂ (s.rows - 1) ≡ kind_in f
  second_kind = (root (kept_at v ro₁)).kind ∙ kind_packed q.text f

  -- their literals are adjacent
  both_bytes : take s.text b₂ ≡ take p.text b ++ (text_of e ++ text_of f)
  both_bytes = v.bytes ∙ rw w.bytes (append_assoc (take p.text b) (text_of e) (text_of f))

  module _ (room : s.rows < length o₂ / row_width) where
    ended_kept : (j : Bool) (a : Place) (c : Bin) (o₃ : List ℕ) → joins_of (bin_kind c) (kind_in e) (kind_in f) ≡ j → Ended j a p s (bin_kind c) (kind_in e) o₂ o₃
        → Kept a p (cond j (lit (lit_of (kind_in e)) (text_of e ++ text_of f)) (bin c e f)) o o₃ b b₂
    ended_kept true a c o₃ h x =
        let l = length-append (text_of e) (text_of f) in
        let n : s.text - p.text ≡ length (text_of e ++ text_of f) = omega (arith, w.text, v.text, l) in
        record {
          rows = x.rows;
          text = x.text ∙ omega (arith, w.text, v.text, l);
          words = rw x.words (take_stored o₂ _ (p.rows * row_width) (a.rows * row_width) (omega (arith, x.rows)) (omega (arith, x.rows, v.rows, w.rows)) ∙ rw (front_words, n, join_kind (bin_kind c) (kind_in e) (kind_in f) h));
          bytes = rw x.text both_bytes;
        }
    ended_kept false a c o₃ h x = kept_bin w v c (bin_kind c, 0, 0) (s.rows - p.rows + 1) refl (omega (arith, w.rows, v.rows)) (row_set a s (bin_kind c, 0, 0) (s.rows - p.rows + 1) o₂ o₃ room x.rows x.text x.words)

    pub end_kept : (a : Place) (c : Bin) (o₃ : List ℕ) → Ended (joins_of (bin_kind c) (kind_at o₂ (q.rows - 1)) (kind_at o₂ (s.rows - 1))) a p s (bin_kind c) (kind_at o₂ (q.rows - 1)) o₂ o₃
        → Kept a p (joined c e f) o o₃ b b₂
    end_kept a c o₃ h = ended_kept (joins_of (bin_kind c) (kind_in e) (kind_in f)) a c o₃ refl (rw (first_kind, second_kind) at h)

-- ---- a node of two children

pub concat_step : Step (concatenate Atomic)
concat_step = record { over = concat_un; rows = concat_size; text = λ e. omega (arith, ap length (concat_text e)) }

module _ {t : Bytes} {w : List ℕ} {i k x y n : ℕ} {r : Expr Span} (v : TwoView w i k x y n r) {p q s : Place} {o o₁ o₂ b b₁ b₂ : List ℕ} (h : Both (concatenate Atomic) t q p s v.left v.right o o₁ o₂ b b₁ b₂) where
  pub two_order : Areas o₂ b₂ → Order p q s o₂
  two_order a = record {
    first = omega (arith, h.first.rows, size_pos (concatenate Atomic (resolve t v.left)));
    second = omega (arith, h.second.rows, size_pos (concatenate Atomic (resolve t v.right)));
    room = h.room;
    words = a.words;
    text = omega (arith, h.first.text, h.second.text);
    bytes = omega (arith, a.bytes, h.end);
  }

  pub two_kept : {kind : ℕ} {a : Place} {o₃ : List ℕ} → kind ≡ k → Ended (joins_of kind (kind_at o₂ (q.rows - 1)) (kind_at o₂ (s.rows - 1))) a p s kind (kind_at o₂ (q.rows - 1)) o₂ o₃
      → Kept a p (concatenate Atomic (resolve t r)) o o₃ b b₂
  two_kept {a} {o₃} e g = rw (v.is, concat_bin v.op (resolve t v.left) (resolve t v.right)) (end_kept h.first h.second h.rows h.rows₁ h.room a v.op o₃ (rw (e ∙ v.kind) at g))

-- by a rule's type
pub concat_atomic : (type : ℕ) → type ≡ 2 → (e : E) → concatenate Atomic e ≡ concatenate type e
concat_atomic type h e = rw h

pub concat_other : (type : ℕ) → (type ≡ 2 → ⊥) → (e : E) → concatenate type e ≡ e
unfolding concatenate
concat_other type h e = rw (ne_eqb type 2 h)
