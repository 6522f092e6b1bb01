-- Rows up to offsets: two trees are equal exactly when their rows agree one by one, literals by their bytes. Assumes nothing.
use mathlib.Core.Path.{◌≡◌, refl, sym, ap, subst, subst₂, ◌∙◌}
use mathlib.Core.Bool.{Bool, true, false, cond}
use mathlib.Core.List.{List, [], ◌∷◌, ◌++◌, append_assoc, append-nil, map}
use Prim.Native.Nat.{ℕ, zero, suc, ◌+◌, ◌-◌, ◌*◌, ◌≤◌, ◌<◌}
use native.Mathlib.Omega.{arith}
use native.Mathlib.Nat.{zero-add, add-zero}
use borrow.Author.Tests.{eqb-true, eqb-false}
use lib.Dec.{eqb}
use lib.ListN.{length, get_or, length-append, length-map}
use lib.Seq.{ext_get_or}
use Rattle.grammar.specs.Numbers.{row_width}
use Rattle.grammar.specs.Basic.{Bytes, holds, bytes_discrete, same_bytes}
use Rattle.grammar.specs.Tree as tree
use Rattle.grammar.specs.Tree.{Head, Str, Insens, Ident, Fixed, Range, PeekSlice, PeekFrom, Un, PosPred, NegPred, Opt, Rep, RepOnce, Push, RestoreOnErr, RepExact, RepMin, RepMax, RepMinMax, Bin, Seq, Choice, Expr, lit, fixed, skip, un, bin, E, lit_kind, fixed_head, un_head, bin_kind, size, same_discrete, same}
use Rattle.grammar.specs.Rows.{Span, str_rows, flat}
use Rattle.grammar.specs.Text.{bytes_at, resolve}
use Rattle.rows.specs.declared.Shape.{Shape}
use Rattle.rows.specs.declared.Shape.TheVariants.{Lit, Num, One, Two, Skips}
use Rattle.rows.specs.Rows.{kind_at, x_at, y_at, At, Cell, cell, str_cells, cells, shape_of, cell_by, cell_of, cell_at, Tells, LitInside, Inside}
use types.Run.{OneOf}
use denote.Enum.Declared.{tag_of}
use mathlib.Core.Logic.{⊎_elim}
use Rattle.rows.specs.contracts.Shape as shape
use Rattle.rows.proofs.Laws.{length_flat, flat_at, Found, length_part}

-- ---- the shapes of the kinds, and the tags back from their words

pub lit_shape : (k : tree.Lit) → shape_of (lit_kind k) ≡ Lit
unfolding shape_of
lit_shape Str = refl
lit_shape Insens = refl
lit_shape Ident = refl

pub fixed_shape : (f : Fixed) → shape_of (fixed_head f).0 ≡ Num
unfolding shape_of
fixed_shape (Range a b) = refl
fixed_shape (PeekSlice a b) = refl
fixed_shape (PeekFrom a) = refl

pub un_shape : (u : Un) → shape_of (un_head u).0 ≡ One
unfolding shape_of
un_shape PosPred = refl
un_shape NegPred = refl
un_shape Opt = refl
un_shape Rep = refl
un_shape RepOnce = refl
un_shape Push = refl
un_shape RestoreOnErr = refl
un_shape (RepExact n) = refl
un_shape (RepMin n) = refl
un_shape (RepMax n) = refl
un_shape (RepMinMax m n) = refl

pub bin_shape : (b : Bin) → shape_of (bin_kind b) ≡ Two
unfolding shape_of
bin_shape Seq = refl
bin_shape Choice = refl

pub skip_shape : shape_of 17 ≡ Skips
unfolding shape_of
skip_shape = refl

-- what the else of `if let Shape::Lit` knows: the shape is one of the others
pub not_lit : (s : Shape) → OneOf (1 ∷ 2 ∷ 3 ∷ 4 ∷ []) (tag_of shape.the_type s) → s ≡ Lit → ⊥
not_lit s o e =
    let p : OneOf (1 ∷ 2 ∷ 3 ∷ 4 ∷ []) 0 = subst (λ (s : Shape). OneOf (1 ∷ 2 ∷ 3 ∷ 4 ∷ []) (tag_of shape.the_type s)) e o in
    ⊎_elim (λ e. omega arith) (λ q. ⊎_elim (λ e. omega arith) (λ q. ⊎_elim (λ e. omega arith) (λ e. omega arith) q) q) p

abbrev lit_from : ℕ → tree.Lit
lit_from k = cond (eqb k 0) Str (cond (eqb k 1) Insens Ident)

abbrev fixed_from : Head → Fixed
fixed_from h = cond (eqb h.0 2) (Range h.1 h.2) (cond (eqb h.0 4) (PeekFrom h.1) (PeekSlice h.1 h.2))

abbrev un_from : Head → Un
un_from h =
    cond (eqb h.0 6) PosPred
    (cond (eqb h.0 7) NegPred
    (cond (eqb h.0 10) Opt
    (cond (eqb h.0 11) Rep
    (cond (eqb h.0 12) RepOnce
    (cond (eqb h.0 18) Push
    (cond (eqb h.0 19) RestoreOnErr
    (cond (eqb h.0 13) (RepExact h.1)
    (cond (eqb h.0 14) (RepMin h.1)
    (cond (eqb h.0 15) (RepMax h.1) (RepMinMax h.1 h.2))))))))))

abbrev bin_from : ℕ → Bin
bin_from k = cond (eqb k 8) Seq Choice

lit_back : (k : tree.Lit) → lit_from (lit_kind k) ≡ k
lit_back Str = refl
lit_back Insens = refl
lit_back Ident = refl

fixed_back : (f : Fixed) → fixed_from (fixed_head f) ≡ f
fixed_back (Range a b) = refl
fixed_back (PeekSlice a b) = refl
fixed_back (PeekFrom a) = refl

un_back : (u : Un) → un_from (un_head u) ≡ u
un_back PosPred = refl
un_back NegPred = refl
un_back Opt = refl
un_back Rep = refl
un_back RepOnce = refl
un_back Push = refl
un_back RestoreOnErr = refl
un_back (RepExact n) = refl
un_back (RepMin n) = refl
un_back (RepMax n) = refl
un_back (RepMinMax m n) = refl

bin_back : (b : Bin) → bin_from (bin_kind b) ≡ b
bin_back Seq = refl
bin_back Choice = refl

-- a tag is known by its words
pub lit_same : (a b : tree.Lit) → lit_kind a ≡ lit_kind b → a ≡ b
lit_same a b e = sym (lit_back a) ∙ ap lit_from e ∙ lit_back b

pub fixed_same : (a b : Fixed) → fixed_head a ≡ fixed_head b → a ≡ b
fixed_same a b e = sym (fixed_back a) ∙ ap fixed_from e ∙ fixed_back b

pub un_same : (a b : Un) → un_head a ≡ un_head b → a ≡ b
un_same a b e = sym (un_back a) ∙ ap un_from e ∙ un_back b

pub bin_same : (a b : Bin) → bin_kind a ≡ bin_kind b → a ≡ b
bin_same a b e = sym (bin_back a) ∙ ap bin_from e ∙ bin_back b

-- ---- a stack machine that reads a tree's cells back

abbrev push_un : Un → List E → List E
push_un u [] = []
push_un u (e ∷ st) = un u e ∷ st

abbrev push_bin : Bin → List E → List E
push_bin b [] = []
push_bin b (r ∷ []) = []
push_bin b (r ∷ l ∷ st) = bin b l r ∷ st

-- the last n trees of the stack are the strings of a Skip
abbrev pop_strs : ℕ → List E → List Bytes → List E
pop_strs zero st acc = skip acc ∷ st
pop_strs (suc n) [] acc = []
pop_strs (suc n) (lit k s ∷ st) acc = pop_strs n st (s ∷ acc)
pop_strs (suc n) (fixed f ∷ st) acc = []
pop_strs (suc n) (skip ss ∷ st) acc = []
pop_strs (suc n) (un u e ∷ st) acc = []
pop_strs (suc n) (bin b l r ∷ st) acc = []

abbrev push_strs : List Bytes → List E → List E
push_strs [] st = st
push_strs (s ∷ ss) st = push_strs ss (lit Str s ∷ st)

pop_push : (ss : List Bytes) (n : ℕ) (st : List E) (acc : List Bytes) → pop_strs (length ss + n) (push_strs ss st) acc ≡ pop_strs n st (ss ++ acc)
pop_push [] n st acc = rw zero-add
pop_push (s ∷ ss) n st acc =
    let e : suc (length ss) + n ≡ length ss + suc n = omega arith in
    ap (λ (m : ℕ). pop_strs m (push_strs ss (lit Str s ∷ st)) acc) e ∙ pop_push ss (suc n) (lit Str s ∷ st) acc

abbrev step_by : Shape → ℕ → ℕ → ℕ → Bytes → List E → List E
step_by Lit k x y s st = lit (lit_from k) s ∷ st
step_by Num k x y s st = fixed (fixed_from (k, x, y)) ∷ st
step_by One k x y s st = push_un (un_from (k, x, y)) st
step_by Two k x y s st = push_bin (bin_from k) st
step_by Skips k x y s st = pop_strs x st []

abbrev run : List Cell → List E → List E
run [] st = st
run (cell k x y s ∷ cs) st = run cs (step_by (shape_of k) k x y s st)

step_un : (u : Un) (e : E) (st : List E) → step_by (shape_of (un_head u).0) (un_head u).0 (un_head u).1 (un_head u).2 [] (e ∷ st) ≡ un u e ∷ st
step_un u e st = rw (un_shape u, un_back u)

step_bin : (b : Bin) (l r : E) (st : List E) → step_by (shape_of (bin_kind b)) (bin_kind b) 0 0 [] (r ∷ l ∷ st) ≡ bin b l r ∷ st
step_bin b l r st = rw (bin_shape b, bin_back b)

run_strs : (ss : List Bytes) (cs : List Cell) (st : List E) → run (str_cells ss ++ cs) st ≡ run cs (push_strs ss st)
unfolding shape_of
run_strs [] cs st = refl
run_strs (s ∷ ss) cs st = run_strs ss cs (lit Str s ∷ st)

step_skip : (ss : List Bytes) (st : List E) → step_by (shape_of 17) 17 (length ss) 0 [] (push_strs ss st) ≡ skip ss ∷ st
unfolding shape_of
step_skip ss st = ap (λ (n : ℕ). pop_strs n (push_strs ss st) []) (sym (add-zero (length ss))) ∙ pop_push ss 0 st [] ∙ rw append-nil

run_cells : (e : E) (cs : List Cell) (st : List E) → run (cells e ++ cs) st ≡ run cs (e ∷ st)
run_cells (lit k s) cs st = rw (lit_shape k, lit_back k)
run_cells (fixed f) cs st = rw (fixed_shape f, fixed_back f)
run_cells (skip ss) cs st = rw append_assoc (run_strs ss _ st ∙ ap (run cs) (step_skip ss st))
run_cells (un u e) cs st = rw append_assoc (run_cells e _ st ∙ ap (run cs) (step_un u e st))
run_cells (bin b l r) cs st = simp append_assoc (run_cells l _ st ∙ run_cells r _ (l ∷ st) ∙ ap (run cs) (step_bin b l r st))

pub cells_inj : (a b : E) → cells a ≡ cells b → a ≡ b
cells_inj a b e =
    let p : run (cells a ++ []) [] ≡ a ∷ [] = run_cells a [] [] in
    let q : run (cells b ++ []) [] ≡ b ∷ [] = run_cells b [] [] in
    let r : run (cells a ++ []) [] ≡ run (cells b ++ []) [] = ap (λ (l : List Cell). run (l ++ []) []) e in
    cc

length_str_cells : (ss : List Bytes) → length (str_cells ss) ≡ length ss
length_str_cells [] = refl
length_str_cells (s ∷ ss) = ap suc (length_str_cells ss)

pub length_cells : (e : E) → length (cells e) ≡ size e
length_cells (lit k s) = refl
length_cells (fixed f) = refl
length_cells (skip ss) = simp length-append (omega (arith, length_str_cells ss))
length_cells (un u e) = simp length-append (omega (arith, length_cells e))
length_cells (bin b l r) = simp length-append (omega (arith, length_cells l, length_cells r))

pub size_resolve : (t : Bytes) (r : Expr Span) → size (resolve t r) ≡ size r
size_resolve t (lit k s) = refl
size_resolve t (fixed f) = refl
size_resolve t (skip ss) = rw length-map
size_resolve t (un u e) = rw (size_resolve t e)
size_resolve t (bin b l r) = rw (size_resolve t l, size_resolve t r)

-- ---- the cells of a run of words

module _ (t : Bytes) where
  abbrev group : List ℕ → List Cell
  group [] = []
  group (k ∷ []) = []
  group (k ∷ x ∷ []) = []
  group (k ∷ x ∷ y ∷ []) = []
  group (k ∷ x ∷ y ∷ n ∷ ws) = cell_of t k x y ∷ group ws

  group_strs : (ss : List Span) (ws : List ℕ) → group (str_rows ss ++ ws) ≡ str_cells (map (bytes_at t) ss) ++ group ws
  unfolding cell_of shape_of
  group_strs [] ws = refl
  group_strs (s ∷ ss) ws = ap (λ (l : List Cell). cell 0 0 0 (bytes_at t s) ∷ l) (group_strs ss ws)

  group_flat : (r : Expr Span) (ws : List ℕ) → group (flat r ++ ws) ≡ cells (resolve t r) ++ group ws
  unfolding cell_of
  group_flat (lit k s) ws = rw (lit_shape k)
  group_flat (fixed f) ws = rw (fixed_shape f)
  group_flat (skip ss) ws = rw append_assoc (group_strs ss _ ∙ rw (length-map, skip_shape) (simp append_assoc))
  group_flat (un u e) ws = rw append_assoc (group_flat e _ ∙ rw (un_shape u) (simp append_assoc))
  group_flat (bin b l r) ws = simp append_assoc (group_flat l _ ∙ ap (λ (c : List Cell). cells (resolve t l) ++ c) (group_flat r _ ∙ rw (bin_shape b)))

  group_at : (k : ℕ) (ws : List ℕ) (d : Cell) → k * row_width + 3 < length ws → get_or (group ws) k d ≡ cell_of t (get_or ws (k * row_width) 0) (get_or ws (k * row_width + 1) 0) (get_or ws (k * row_width + 2) 0)
  group_at k [] d h = absurd (omega arith)
  group_at k (k₁ ∷ []) d h = absurd (omega arith)
  group_at k (k₁ ∷ x ∷ []) d h = absurd (omega arith)
  group_at k (k₁ ∷ x ∷ y ∷ []) d h = absurd (omega arith)
  group_at zero (k₁ ∷ x ∷ y ∷ n ∷ ws) d h = refl
  group_at (suc k) (k₁ ∷ x ∷ y ∷ n ∷ ws) d h =
      let e : suc k * row_width ≡ suc (suc (suc (suc (k * row_width)))) = omega arith in
      let e₁ : suc k * row_width + 1 ≡ suc (suc (suc (suc (k * row_width + 1)))) = omega arith in
      let e₂ : suc k * row_width + 2 ≡ suc (suc (suc (suc (k * row_width + 2)))) = omega arith in
      rw (e₁, e₂, e) (group_at k ws d (omega arith))

  -- the cells of a tree that stands in the words are those of its rows
  pub cells_at : {w : List ℕ} {i : ℕ} {r : Expr Span} → At w i r → (k : ℕ) (d : Cell) → k < size r → get_or (cells (resolve t r)) k d ≡ cell_at t w (i + 1 - size r + k)
  unfolding cell_at kind_at x_at y_at
  cells_at {w} {i} {r} a k d h =
      let g : get_or (group (flat r)) k d ≡ cell_of t (get_or (flat r) (k * row_width) 0) (get_or (flat r) (k * row_width + 1) 0) (get_or (flat r) (k * row_width + 2) 0) = group_at k (flat r) d (omega (arith, length_flat r)) in
      let f : group (flat r) ≡ cells (resolve t r) = ap group (sym (append-nil (flat r))) ∙ group_flat r [] ∙ append-nil _ in
      let e : (i + 1 - size r + k) * row_width ≡ (i + 1 - size r) * row_width + k * row_width = omega arith in
      let e₁ : (i + 1 - size r + k) * row_width + 1 ≡ (i + 1 - size r) * row_width + (k * row_width + 1) = omega arith in
      let e₂ : (i + 1 - size r + k) * row_width + 2 ≡ (i + 1 - size r) * row_width + (k * row_width + 2) = omega arith in
      let w₀ : kind_at w (i + 1 - size r + k) ≡ get_or (flat r) (k * row_width) 0 = rw e (flat_at a (k * row_width) (omega arith)) in
      let w₁ : x_at w (i + 1 - size r + k) ≡ get_or (flat r) (k * row_width + 1) 0 = rw e₁ (flat_at a (k * row_width + 1) (omega arith)) in
      let w₂ : y_at w (i + 1 - size r + k) ≡ get_or (flat r) (k * row_width + 2) 0 = rw e₂ (flat_at a (k * row_width + 2) (omega arith)) in
      rw (w₀, w₁, w₂, ← f) g

-- two trees, each in its own table, are equal exactly when they have as many rows, and those agree one by one
module _ (t u : Bytes) {w v : List ℕ} {i j : ℕ} {r s : Expr Span} (a : At w i r) (b : At v j s) where
  abbrev RowsAgree : Type 0
  RowsAgree = (k : ℕ) → k < size r → cell_at t w (i + 1 - size r + k) ≡ cell_at u v (j + 1 - size s + k)

  pub rows_trees : size r ≡ size s → RowsAgree → resolve t r ≡ resolve u s
  rows_trees e h =
      let d : Cell = cell 0 0 0 [] in
      let lr : length (cells (resolve t r)) ≡ size r = length_cells (resolve t r) ∙ size_resolve t r in
      let ls : length (cells (resolve u s)) ≡ size s = length_cells (resolve u s) ∙ size_resolve u s in
      cells_inj _ _ (ext_get_or d _ _ (omega arith)
      (λ k l. let lk : k < size r = omega arith in cells_at t a k d lk ∙ h k lk ∙ sym (cells_at u b k d (omega arith))))

  pub trees_size : resolve t r ≡ resolve u s → size r ≡ size s
  trees_size e = sym (size_resolve t r) ∙ ap size e ∙ size_resolve u s

  pub trees_rows : resolve t r ≡ resolve u s → RowsAgree
  trees_rows e k l =
      let d : Cell = cell 0 0 0 [] in
      let z : size r ≡ size s = trees_size e in
      sym (cells_at t a k d l) ∙ ap (λ (x : E). get_or (cells x) k d) e ∙ cells_at u b k d (omega arith)

-- ---- what a bool tells

pub tells_yes : {b : Bool} {P : Type 0} → b ≡ true → Tells b P → P
tells_yes {b} {P} e h = subst (λ (c : Bool). Tells c P) e h

pub tells_no : {b : Bool} {P : Type 0} → b ≡ false → Tells b P → P → ⊥
tells_no {b} {P} e h = subst (λ (c : Bool). Tells c P) e h

pub tells_iff : (b : Bool) {P Q : Type 0} → (P → Q) → (Q → P) → Tells b P → Tells b Q
tells_iff true f g h = f h
tells_iff false f g h = λ q. h (g q)

pub tells_eqb : (x y : ℕ) → Tells (eqb x y) (x ≡ y)
tells_eqb x y = go (eqb x y) refl
  where
    go : (b : Bool) → eqb x y ≡ b → Tells b (x ≡ y)
    go true e = eqb-true x y e
    go false e = eqb-false x y e

-- a bool that tells is the value of the test
tells_holds : {A : Type 0} (b : Bool) (d : Dec A) → Tells b A → holds d ≡ b
tells_holds true (yes p) h = refl
tells_holds true (no n) h = absurd (n h)
tells_holds false (yes p) h = absurd (h p)
tells_holds false (no n) h = refl

pub tells_same : (b : Bool) (x y : E) → Tells b (x ≡ y) → same x y ≡ b
unfolding same
tells_same b x y h = tells_holds b (same_discrete x y) h

pub tells_bytes : (b : Bool) (x y : Bytes) → Tells b (x ≡ y) → same_bytes x y ≡ b
unfolding same_bytes
tells_bytes b x y h = tells_holds b (bytes_discrete x y) h

-- two roots that were read, of one size n, and a bool that tells whether their rows agree
pub trees_tell : (t u : Bytes) {w v : List ℕ} {i j : ℕ} {r s : Expr Span} (a : At w i r) (b : At v j s) (n : ℕ) (y : Bool) → n ≡ size r → n ≡ size s
    → Tells y ((k : ℕ) → k < n → cell_at t w (i + 1 - n + k) ≡ cell_at u v (j + 1 - n + k)) → Tells y (resolve t r ≡ resolve u s)
trees_tell t u {w} {v} {i} {j} {r} {s} a b n y p q h =
    tells_iff y
    (λ f. rows_trees t u a b (sym p ∙ q) (λ k l. rw (← p, ← q) (f k (rw p l))))
    (λ e k l. subst₂ (λ (m m' : ℕ). cell_at t w (i + 1 - m + k) ≡ cell_at u v (j + 1 - m' + k)) (sym p) (sym q) (trees_rows t u a b e k (rw p at l))) h

-- ---- one cell against another

abbrev kind_in : Cell → ℕ
kind_in (cell k x y s) = k

abbrev x_in : Cell → ℕ
x_in (cell k x y s) = x

abbrev y_in : Cell → ℕ
y_in (cell k x y s) = y

abbrev bytes_in : Cell → Bytes
bytes_in (cell k x y s) = s

cell_kind : (s : Shape) (t : Bytes) (k x y : ℕ) → kind_in (cell_by s t k x y) ≡ k
cell_kind Lit t k x y = refl
cell_kind Num t k x y = refl
cell_kind One t k x y = refl
cell_kind Two t k x y = refl
cell_kind Skips t k x y = refl

-- the row of a literal, and any other
cell_lit : (t : Bytes) (k x y : ℕ) → shape_of k ≡ Lit → cell_of t k x y ≡ cell k 0 0 (bytes_at t (x, y))
unfolding cell_of
cell_lit t k x y e = rw e

cell_other : (t : Bytes) (k x y : ℕ) → (shape_of k ≡ Lit → ⊥) → cell_of t k x y ≡ cell k x y []
unfolding cell_of
cell_other t k x y f = go (shape_of k) f
  where
    go : (s : Shape) → (s ≡ Lit → ⊥) → cell_by s t k x y ≡ cell k x y []
    go Lit f = absurd (f refl)
    go Num f = refl
    go One f = refl
    go Two f = refl
    go Skips f = refl

pub cell_found : (t : Bytes) {w : List ℕ} {i k x y n : ℕ} → Found w i k x y n → cell_at t w i ≡ cell_of t k x y
unfolding cell_at
cell_found t f = rw (f.kind, f.x, f.y)

-- a literal that was read lies in the text
pub lit_inside : (m : ℕ) {w : List ℕ} {i k x y n : ℕ} → LitInside w m i → Found w i k x y n → shape_of k ≡ Lit → x + y ≤ m
lit_inside m {w} {i} {k} {x} {y} ins f s = rw (f.x, f.y) at (ins (rw f.kind s))

pub in_text : (m : ℕ) {w : List ℕ} {i k x y n : ℕ} → Inside w m → Found w i k x y n → shape_of k ≡ Lit → x + y ≤ m
in_text m {w} {i} ins f s = lit_inside m (ins i f.within) f s

-- two rows that were read
module _ (t u : Bytes) {w v : List ℕ} {i k x y n j l x' y' n' : ℕ} (f : Found w i k x y n) (g : Found v j l x' y' n') where
  cells_of : cell_at t w i ≡ cell_at u v j → cell_of t k x y ≡ cell_of u l x' y'
  cells_of e = sym (cell_found t f) ∙ e ∙ cell_found u g

  pub rows_kind : cell_at t w i ≡ cell_at u v j → k ≡ l
  unfolding cell_of
  rows_kind e = sym (cell_kind (shape_of k) t k x y) ∙ ap kind_in (cells_of e) ∙ cell_kind (shape_of l) u l x' y'

  pub rows_y : LitInside w (length t) i → LitInside v (length u) j → k ≡ l → cell_at t w i ≡ cell_at u v j → y ≡ y'
  unfolding cell_of
  rows_y ins inu q e = go (shape_of k) refl (cells_of e ∙ ap (λ (m : ℕ). cell_of u m x' y') (sym q))
    where
      go : (s : Shape) → shape_of k ≡ s → cell_by s t k x y ≡ cell_by s u k x' y' → y ≡ y'
      go Lit h p = sym (length_part t x y (lit_inside (length t) ins f h)) ∙ ap (λ (c : Cell). length (bytes_in c)) p ∙ length_part u x' y' (lit_inside (length u) inu g (ap shape_of (sym q) ∙ h))
      go Num h p = ap y_in p
      go One h p = ap y_in p
      go Two h p = ap y_in p
      go Skips h p = ap y_in p

  pub lits_tell : (b : Bool) → k ≡ l → y ≡ y' → shape_of k ≡ Lit → Tells b (bytes_at t (x, y) ≡ bytes_at u (x', y)) → Tells b (cell_at t w i ≡ cell_at u v j)
  lits_tell b q r s h =
      rw (cell_found t f, cell_found u g, ← q, ← r, cell_lit t k x y s, cell_lit u k x' y s)
      (tells_iff b (ap (cell k 0 0)) (ap bytes_in) h)

  pub numbers_tell : k ≡ l → y ≡ y' → (shape_of k ≡ Lit → ⊥) → Tells (eqb x x') (cell_at t w i ≡ cell_at u v j)
  numbers_tell q r s =
      rw (cell_found t f, cell_found u g, ← q, ← r, cell_other t k x y s, cell_other u k x' y s)
      (tells_iff (eqb x x') (ap (λ (m : ℕ). cell k m y [])) (ap x_in) (tells_eqb x x'))
