-- A run of rows with its literals packed, whatever trees they are of; literals that stand side by side are copied as one. Assumes nothing.
use Rattle.std.specs.Prelude.{◌≡◌, List, [], ◌++◌, ℕ, zero, suc, ◌+◌, ◌*◌, ◌≤◌, length, None, Option, Some}
use Rattle.grammar.specs.Numbers.{row_width}
use Rattle.grammar.specs.Basic.{Bytes}
use Rattle.grammar.specs.Rows.{row}
use Rattle.grammar.specs.Text.{bytes_at}
use Rattle.rows.specs.declared.Shape.{Shape}
use Rattle.rows.specs.declared.Shape.TheVariants.{Lit, Num, One, Two, Skips}
use Rattle.rows.specs.Rows.{kind_at, x_at, y_at, size_at, shape_of}
use Rattle.writing.specs.Writes.{stored}
use Rattle.writing.specs.declared.Run.{Run}

-- the text of a row: its literal, if it has one
abbrev pub text_by : Shape → Bytes → ℕ → ℕ → Bytes
text_by Lit t x y = bytes_at t (x, y)
text_by Num t x y = []
text_by One t x y = []
text_by Two t x y = []
text_by Skips t x y = []

-- the words of a row with its literal s at offset o
abbrev pub words_by : Shape → ℕ → Bytes → ℕ → ℕ → ℕ → ℕ → List ℕ
words_by Lit o s k x y n = row (k, o, length s) n
words_by Num o s k x y n = row (k, x, y) n
words_by One o s k x y n = row (k, x, y) n
words_by Two o s k x y n = row (k, x, y) n
words_by Skips o s k x y n = row (k, x, y) n

-- row i of the words w with the text t
unfoldable pub row_text : Bytes → List ℕ → ℕ → Bytes
row_text t w i = text_by (shape_of (kind_at w i)) t (x_at w i) (y_at w i)

unfoldable pub row_words : ℕ → Bytes → List ℕ → ℕ → List ℕ
row_words o t w i = words_by (shape_of (kind_at w i)) o (row_text t w i) (kind_at w i) (x_at w i) (y_at w i) (size_at w i)

-- n rows from row i on, their literals packed from offset o on
abbrev pub run_text : Bytes → List ℕ → ℕ → ℕ → Bytes
run_text t w i zero = []
run_text t w i (suc n) = row_text t w i ++ run_text t w (i + 1) n

abbrev pub run_words : ℕ → Bytes → List ℕ → ℕ → ℕ → List ℕ
run_words o t w i zero = []
run_words o t w i (suc n) = row_words o t w i ++ run_words (o + length (row_text t w i)) t w (i + 1) n

-- a run that lies in the text s, and fits in the area t
pub record Runs (g : Run) (s t : List ℕ) : Type 0 where
  pub inside : g.from + g.size ≤ length s
  pub room : g.at + g.size ≤ length t

-- bs is what goes to offset o of the area t: `copied` stands there by now, in t', and the rest of it is the run
pub record Pending (g : Run) (o : ℕ) (s bs t t' : List ℕ) : Type 0 where
  pub copied : List ℕ
  pub runs : Runs g s t
  pub place : g.at ≡ o + length copied
  pub is : bs ≡ copied ++ bytes_at s (g.from, g.size)
  pub bytes : t' ≡ stored t o copied

-- full only where bs does not fit
abbrev pub RanAnswer : Option Run → ℕ → (s bs t t' : List ℕ) → Type 0
RanAnswer (Some g) o s bs t t' = Pending g o s bs t t'
RanAnswer None o s bs t t' = o + length bs ≤ length t → ⊥

-- row i of the words w is row j, its literal after bs
pub record Moved (g : Run) (o : ℕ) (s w : List ℕ) (i j : ℕ) (bs u u' t t' : List ℕ) : Type 0 where
  pub words : u' ≡ stored u (j * row_width) (row_words (o + length bs) s w i)
  pub pending : Pending g o s (bs ++ row_text s w i) t t'

abbrev pub MovedAnswer : Option Run → ℕ → (s w : List ℕ) → (i j : ℕ) → (bs u u' t t' : List ℕ) → Type 0
MovedAnswer (Some g) o s w i j bs u u' t t' = Moved g o s w i j bs u u' t t'
MovedAnswer None o s w i j bs u u' t t' = o + length (bs ++ row_text s w i) ≤ length t → ⊥
