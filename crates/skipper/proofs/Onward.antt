-- The strings of an expression, written in a loop: what is still to come, and what its writing says of the whole. Assumes nothing.
use Rattle.std.specs.Prelude.{None, Option, Some}
use mathlib.Core.Path.{◌≡◌, refl, ◌∙◌}
use mathlib.Core.List.{List}
use Prim.Native.Nat.{ℕ, ◌+◌, ◌-◌, ◌*◌, ◌^◌, ◌≤◌, ◌<◌}
use native.Mathlib.Omega.{arith}
use lib.ListN.{length}
use Rattle.grammar.specs.Basic.{Bytes}
use Rattle.grammar.specs.Tree.{Expr}
use Rattle.grammar.specs.Rows.{Span}
use Rattle.grammar.specs.Text.{resolve}
use Rattle.grammar.specs.Table.{Table, resolve_table}
use Rattle.grammar.specs.Lists.{read_left, read_in}
use Rattle.rows.specs.Rows.{At, kind_at, x_at, y_at, size_at}
use Rattle.rows.proofs.Laws.{Found, root, found_row}
use Rattle.rows.proofs.Views.{TwoView}
use Rattle.names.specs.Names.{IsName}
use Rattle.writing.specs.Writes.{Room, LitAnswer, StrsAnswer}
use Rattle.writing.specs.declared.Place.{Place}
use Rattle.skipper.specs.Lends.{Lent}
use Rattle.skipper.specs.Ways.{Spells}
use Rattle.skipper.specs.Skips.{Spelled, literal_at, BodyAt}
use Rattle.skipper.proofs.Leaf.{left_stands, choice_view}
use Rattle.skipper.proofs.Spelling.{Split, spell_str, spell_ident, spell_name, spell_leaf, spell_choice, name_fuel, str_wrote, strs_room, strs_both, strs_over}
use Rattle.skipper.proofs.Ways.{spells_known}

-- a row as it stands
pub here : {w : List ℕ} {i : ℕ} {r : Expr Span} → At w i r → Found w i (kind_at w i) (x_at w i) (y_at w i) (size_at w i)
here {w} {i} a = found_row w i (root a).inside

-- both sides of a Choice
module _ {w : List ℕ} {i : ℕ} {r : Expr Span} (a : At w i r) (z : kind_at w i ≡ 9) where
  abbrev pub fork : TwoView w i (kind_at w i) (x_at w i) (y_at w i) (size_at w i) r
  fork = choice_view (here a) a z

  pub fork_left : {j : ℕ} → j ≡ i - 1 - size_at w (i - 1) → At w j fork.left
  fork_left e = left_stands fork e

  pub fork_small : (j : ℕ) → j ≡ i - 1 - size_at w (i - 1) → size_at w j < size_at w i
  fork_small j e = omega (arith, (root (fork_left e)).rows, fork.rows)

  pub fork_less : size_at w (i - 1) < size_at w i
  fork_less = omega (arith, (root fork.at_right).rows, fork.rows)

-- what row i of the words v with the text s gives through n rules is still to be written, at q of the areas o and l: with it the strings ss
-- stand from p on in o₀ and l₀
pub record Onward (v : List ℕ) (s u : Bytes) (t : Table Span) (ss : List Bytes) (p : Place) (o₀ l₀ : List ℕ) (i n : ℕ) (q : Place) (o l : List ℕ) : Type 0 where
  pub tree : Expr Span
  pub at : At v i tree
  pub rest : List Bytes
  pub spells : Spells (resolve_table u t) n (λ look. read_in look (resolve s tree)) rest
  pub wrote : (a : Option Place) (o₂ l₂ : List ℕ) → StrsAnswer a q rest o o₂ l l₂ → StrsAnswer a p ss o₀ o₂ l₀ l₂

module _ {v : List ℕ} {s u : Bytes} {t : Table Span} {ss : List Bytes} {p : Place} {o₀ l₀ : List ℕ} {i n : ℕ} {q : Place} {o l : List ℕ} (h : Onward v s u t ss p o₀ l₀ i n q o l) where
  -- a Choice: its left side, then its right side
  module _ (z : kind_at v i ≡ 9) where
    pub parts : Split (resolve_table u t) n (resolve s (fork h.at z).left) (resolve s (fork h.at z).right) h.rest
    parts = spell_choice s (here h.at) h.at z h.spells

    pub left_done : {a : Option Place} {p' : Place} (o₁ l₁ : List ℕ) → a ≡ Some p' → StrsAnswer a q parts.front o o₁ l l₁ → Onward v s u t ss p o₀ l₀ (i - 1) n p' o₁ l₁
    left_done o₁ l₁ d k = record {
      tree = (fork h.at z).right;
      at = (fork h.at z).at_right;
      rest = parts.rest;
      spells = parts.right;
      wrote = λ b o₂ l₂ j. h.wrote b o₂ l₂ (strs_both q o o₁ l l₁ parts.front d k b parts.rest o₂ l₂ parts.is j);
    }

    pub left_full : {a : Option Place} (o₁ l₁ : List ℕ) → a ≡ None → StrsAnswer a q parts.front o o₁ l l₁ → StrsAnswer None p ss o₀ o₁ l₀ l₁
    left_full o₁ l₁ d k = h.wrote None o₁ l₁ (λ f. strs_over q o o₁ l l₁ parts.front parts.rest h.rest d k parts.is f)

  -- the last leaf
  module _ (no_choice : kind_at v i ≡ 9 → ⊥) where
    pub last_leaf : Spells (resolve_table u t) n (λ look. read_left look (resolve s h.tree)) h.rest
    last_leaf = spell_leaf s (here h.at) h.at no_choice h.spells

    pub last_str : kind_at v i ≡ 0 → (a : Option Place) (o₂ l₂ : List ℕ) → LitAnswer a q 0 (literal_at v s i) o o₂ l l₂ → StrsAnswer a p ss o₀ o₂ l₀ l₂
    last_str z a o₂ l₂ k = h.wrote a o₂ l₂ (str_wrote a q o o₂ l l₂ refl (spell_str s (here h.at) h.at z last_leaf) k)

    -- a name: the expression of its rule, through a rule less
    module _ (no-str : kind_at v i ≡ 0 → ⊥) where
      pub is_name : kind_at v i ≡ 3
      is_name = spell_ident s (here h.at) h.at no-str last_leaf

      as_name : Spells (resolve_table u t) n (λ look. look (literal_at v s i)) h.rest
      as_name = spell_name s (here h.at) h.at is_name last_leaf

      pub name_has : 1 ≤ n
      name_has = name_fuel (literal_at v s i) n as_name

      pub name_is : {rules w : List ℕ} → Lent rules w t → IsName rules u (literal_at v s i)
      name_is l = spells_known u (literal_at v s i) n l as_name

      pub name_body : {w : List ℕ} {j : ℕ} → BodyAt j w u t (literal_at v s i) → Onward w u u t ss p o₀ l₀ j (n - 1) q o l
      name_body b = record { tree = b.tree; at = b.at; rest = h.rest; spells = b.gives n h.rest as_name; wrote = h.wrote }

-- the same of whatever the expression at row `top` gives, with room for it: what a loop keeps
pub record Going (rules w : List ℕ) (u : Bytes) (v : List ℕ) (s : Bytes) (top fuel : ℕ) (p : Place) (o₀ l₀ : List ℕ) (i n : ℕ) (q : Place) (o l : List ℕ) : Type 0 where
  pub first : Spelled rules w u v s top fuel read_in
  pub goes : (t : Table Span) (r : Expr Span) (ss : List Bytes) → Lent rules w t → At v top r → Spells (resolve_table u t) fuel (λ look. read_in look (resolve s r)) ss → Onward v s u t ss p o₀ l₀ i n q o l
  pub room : Room q o l
  pub words : length o ≡ length o₀
  pub bytes : length l ≡ length l₀
  pub less : n * 2 ^ 64 + size_at v i ≤ fuel * 2 ^ 64 + size_at v top

pub go_first : {rules w : List ℕ} {u : Bytes} {v : List ℕ} {s : Bytes} {top fuel : ℕ} {p : Place} {o l : List ℕ} → Spelled rules w u v s top fuel read_in → Room p o l → Going rules w u v s top fuel p o l top fuel p o l
go_first d m = record { first = d; goes = λ t r ss e a h. record { tree = r; at = a; rest = ss; spells = h; wrote = λ b o₂ l₂ k. k }; room = m; words = refl; bytes = refl; less = omega arith }

-- what is written of the whole, and of a leaf at row j
abbrev pub AllWrote : Option Place → (rules w : List ℕ) → Bytes → List ℕ → Bytes → (top fuel : ℕ) → Place → (o₀ o₁ l₀ l₁ : List ℕ) → Type 0
AllWrote a rules w u v s top fuel p o₀ o₁ l₀ l₁ = (t : Table Span) (r : Expr Span) (ss : List Bytes) → Lent rules w t → At v top r → Spells (resolve_table u t) fuel (λ look. read_in look (resolve s r)) ss → StrsAnswer a p ss o₀ o₁ l₀ l₁

abbrev pub LeafWrote : Option Place → (rules w : List ℕ) → Bytes → List ℕ → Bytes → (j n : ℕ) → Place → (o o₁ l l₁ : List ℕ) → Type 0
LeafWrote a rules w u v s j n q o o₁ l l₁ = (t : Table Span) (r : Expr Span) (ss : List Bytes) → Lent rules w t → At v j r → Spells (resolve_table u t) n (λ look. read_left look (resolve s r)) ss → StrsAnswer a q ss o o₁ l l₁

module _ {rules w : List ℕ} {u : Bytes} {v : List ℕ} {s : Bytes} {top fuel : ℕ} {p : Place} {o₀ l₀ : List ℕ} {i n : ℕ} {q : Place} {o l : List ℕ} (g : Going rules w u v s top fuel p o₀ l₀ i n q o l) where
  pub ahead : Onward v s u g.first.table g.first.list p o₀ l₀ i n q o l
  ahead = g.goes g.first.table g.first.tree g.first.list g.first.lent g.first.at g.first.spells

  module _ (z : kind_at v i ≡ 9) {j : ℕ} (e : j ≡ i - 1 - size_at v (i - 1)) where
    pub go_spelled : Spelled rules w u v s j n read_left
    go_spelled = record { table = g.first.table; lent = g.first.lent; tree = (fork ahead.at z).left; at = fork_left ahead.at z e; list = (parts ahead z).front; spells = (parts ahead z).left }

    module _ {a : Option Place} (o₁ l₁ : List ℕ) where
      pub go_left : {p' : Place} → a ≡ Some p' → LeafWrote a rules w u v s j n q o o₁ l l₁ → length o₁ ≡ length o → length l₁ ≡ length l → Going rules w u v s top fuel p o₀ l₀ (i - 1) n p' o₁ l₁
      go_left d k ho hl = record {
        first = g.first;
        goes = λ t r ss f b m. let h = g.goes t r ss f b m in left_done h z o₁ l₁ d (k t (fork h.at z).left (parts h z).front f (fork_left h.at z e) (parts h z).left);
        room = strs_room q o o₁ l l₁ (parts ahead z).front d (k g.first.table (fork ahead.at z).left (parts ahead z).front g.first.lent (fork_left ahead.at z e) (parts ahead z).left) g.room.areas;
        words = ho ∙ g.words;
        bytes = hl ∙ g.bytes;
        less = omega (arith, g.less, fork_less ahead.at z);
      }

      pub go_full : a ≡ None → LeafWrote a rules w u v s j n q o o₁ l l₁ → AllWrote None rules w u v s top fuel p o₀ o₁ l₀ l₁
      go_full d k t r ss f b m = let h = g.goes t r ss f b m in left_full h z o₁ l₁ d (k t (fork h.at z).left (parts h z).front f (fork_left h.at z e) (parts h z).left)

  -- the last leaf
  module _ (no_choice : kind_at v i ≡ 9 → ⊥) where
    pub go_last : Spelled rules w u v s i n read_left
    go_last = record { table = g.first.table; lent = g.first.lent; tree = ahead.tree; at = ahead.at; list = ahead.rest; spells = last_leaf ahead no_choice }

    pub go_end : (a : Option Place) (o₂ l₂ : List ℕ) → LeafWrote a rules w u v s i n q o o₂ l l₂ → AllWrote a rules w u v s top fuel p o₀ o₂ l₀ l₂
    go_end a o₂ l₂ k t r ss f b m = let h = g.goes t r ss f b m in h.wrote a o₂ l₂ (k t h.tree h.rest f h.at (last_leaf h no_choice))

-- a name as the last leaf of a rule
module _ {rules w : List ℕ} {u : Bytes} {top fuel : ℕ} {p : Place} {o₀ l₀ : List ℕ} {i n : ℕ} {q : Place} {o l : List ℕ} (g : Going rules w u w u top fuel p o₀ l₀ i n q o l) (no_choice : kind_at w i ≡ 9 → ⊥) (no-str : kind_at w i ≡ 0 → ⊥) {j : ℕ} (k : (t : Table Span) → Lent rules w t → BodyAt j w u t (literal_at w u i)) (b : length w < 2 ^ 64) where
  pub body_less : (n - 1) * 2 ^ 64 + size_at w j < n * 2 ^ 64 + size_at w i
  body_less =
      let h = root (k g.first.table g.first.lent).at in
      omega (arith, h.rows, h.most, h.inside, name_has (ahead g) no_choice no-str, b)

  pub go_body : Going rules w u w u top fuel p o₀ l₀ j (n - 1) q o l
  go_body = record {
    first = g.first;
    goes = λ t r ss e a h. name_body (g.goes t r ss e a h) no_choice no-str (k t e);
    room = g.room;
    words = g.words;
    bytes = g.bytes;
    less = omega (arith, g.less, body_less);
  }
