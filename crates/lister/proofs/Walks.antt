-- A subtree that was read is listed by what its children's calls answer. Assumes nothing.
use Rattle.std.specs.Prelude.{None, Option, Some}
use mathlib.Core.Path.{◌≡◌, refl, ap, ◌∙◌}
use mathlib.Core.List.{List, ◌++◌, append_assoc}
use Prim.Native.Nat.{ℕ, ◌*◌, ◌/◌, ◌≤◌, ◌<◌}
use native.Mathlib.Omega.{arith}
use lib.ListN.{length, take}
use lib.Seq.{length-take-le}
use Rattle.grammar.specs.Numbers.{row_width}
use Rattle.grammar.specs.Basic.{Bytes}
use Rattle.grammar.specs.Tree.{E, Expr, Bin, lit, fixed, skip, un, bin, bin_kind}
use Rattle.grammar.specs.Rows.{Span, flat}
use Rattle.grammar.specs.Text.{resolve, text_of, packed}
use Rattle.grammar.specs.Steps.{list, list?, or_same}
use Rattle.rows.proofs.Views.{TwoView, shape_in}
use Rattle.writing.specs.declared.Place.{Place}
use Rattle.writing.specs.Keeps.{Kept, KeptAnswer}
use Rattle.chains.proofs.Walks.{Leaf}
use Rattle.chains.proofs.Nodes.{Step, Both}
use Rattle.lister.specs.Mends.{Pair}
use Rattle.lister.proofs.Lists.{list_un, list_bin, list_size, list_text}
use Rattle.lister.proofs.Pairs.{front_of}

-- ---- leaves are as they were

pub list_leaf : (t : Bytes) (r : Expr Span) → Leaf (shape_in r) → list (resolve t r) ≡ resolve t r
unfolding list list?
list_leaf t (lit k s) h = refl
list_leaf t (fixed f) h = refl
list_leaf t (skip ss) h = refl
list_leaf t (un u e) h = absurd h
list_leaf t (bin b l r) h = absurd h

-- ---- two children

-- the two trees as they stand after both calls
module _ {p q s : Place} {e f : E} {o o₁ o₂ b b₁ b₂ : List ℕ} (w : Kept q p e o o₁ b b₁) (v : Kept s q f o₁ o₂ b₁ b₂) (ro : p.rows ≤ length o / row_width) (rb : p.text ≤ length b) where
  both_words : take (s.rows * row_width) o₂ ≡ take (p.rows * row_width) o ++ (flat (packed p.text e) ++ flat (packed q.text f))
  both_words = v.words ∙ rw w.words (append_assoc (take (p.rows * row_width) o) (flat (packed p.text e)) (flat (packed q.text f)))

  both_bytes : take s.text b₂ ≡ take p.text b ++ (text_of e ++ text_of f)
  both_bytes = v.bytes ∙ rw w.bytes (append_assoc (take p.text b) (text_of e) (text_of f))

  front_rows : take (p.rows * row_width) o₂ ≡ take (p.rows * row_width) o
  front_rows = front_of o₂ (take (p.rows * row_width) o) _ (p.rows * row_width) (s.rows * row_width) (omega (arith, w.rows, v.rows)) both_words (length-take-le (p.rows * row_width) o (omega arith))

  front_text : take p.text b₂ ≡ take p.text b
  front_text = front_of b₂ (take p.text b) _ p.text s.text (omega (arith, w.text, v.text)) both_bytes (length-take-le p.text b rb)

  pub pair_of : s.rows < length o₂ / row_width → s.text ≤ length b₂ → Pair p q s e f o₂ b₂
  pair_of h k = record {
    rows₁ = w.rows;
    text₁ = w.text;
    rows₂ = v.rows;
    text₂ = v.text;
    words = rw front_rows both_words;
    bytes = rw front_text both_bytes;
    room = h;
    end = k;
  }

  -- what was there before is what was there at first
  pub kept_before : (a : Option Place) (g : E) (o₃ : List ℕ) → KeptAnswer a p g o₂ o₃ b₂ b₂ → KeptAnswer a p g o o₃ b b₂
  kept_before None g o₃ h = h
  kept_before (Some a) g o₃ h = record { rows = h.rows; text = h.text; words = h.words ∙ rw front_rows; bytes = h.bytes ∙ rw front_text }

pub list_step : Step list
list_step = record { over = list_un; rows = λ e. omega (arith, list_size e); text = λ e. omega (arith, ap length (list_text e)) }

module _ {t : Bytes} {w : List ℕ} {i k x y n : ℕ} {r : Expr Span} (v : TwoView w i k x y n r) {p q s : Place} {o o₁ o₂ b b₁ b₂ : List ℕ} (h : Both list t q p s v.left v.right o o₁ o₂ b b₁ b₂) where
  pub two_pair : Pair p q s (list (resolve t v.left)) (list (resolve t v.right)) o₂ b₂
  two_pair = pair_of h.first h.second h.rows h.text h.room h.end

  pub two_kept : {kind : ℕ} → kind ≡ k → (a : Option Place) (o₃ : List ℕ) → ((e : Bin) (g f : E) → kind ≡ bin_kind e → Pair p q s g f o₂ b₂ → KeptAnswer a p (or_same list? (bin e g f)) o₂ o₃ b₂ b₂)
      → KeptAnswer a p (list (resolve t r)) o o₃ b b₂
  two_kept e a o₃ g = rw (v.is, list_bin) (kept_before h.first h.second h.rows h.text a _ o₃ (g v.op _ _ (e ∙ v.kind) two_pair))
