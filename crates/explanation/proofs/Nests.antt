-- Step 1 changes a tree exactly where a Seq has a Seq on its left, or a Choice a Choice. Assumes nothing.
use mathlib.Core.Path.{◌≡◌, refl, sym, ap, ◌∙◌}
use mathlib.Core.Bool.{Bool, true, false, ◌||◌}
use Prim.Native.Nat.{ℕ, zero, suc, ◌+◌, ◌≤◌}
use native.Mathlib.Omega.{arith}
use Rattle.grammar.specs.Tree.{Bin, Seq, Choice, E, lit, fixed, skip, un, bin, size, any_node}
use Rattle.grammar.specs.Steps.{children, rotated, rotate}
use Rattle.grammar.proofs.TopDown.{rotated_size, rotate_step_lem}
use Rattle.refusals.proofs.Fours.{neither_left, neither_right}

-- whether e is a node b
abbrev pub is_bin : Bin → E → Bool
is_bin b (lit k s) = false
is_bin b (fixed f) = false
is_bin b (skip ss) = false
is_bin b (un u e) = false
is_bin Seq (bin Seq l r) = true
is_bin Seq (bin Choice l r) = false
is_bin Choice (bin Seq l r) = false
is_bin Choice (bin Choice l r) = true

abbrev pub nests_at : E → Bool
nests_at (lit k s) = false
nests_at (fixed f) = false
nests_at (skip ss) = false
nests_at (un u e) = false
nests_at (bin b l r) = is_bin b l

-- ---- where none does, the tree stays

rotated_still : (b : Bin) (l r : E) → is_bin b l ≡ false → rotated b l r ≡ bin b l r
rotated_still b (lit k s) r h = refl
rotated_still b (fixed f) r h = refl
rotated_still b (skip ss) r h = refl
rotated_still b (un u e) r h = refl
rotated_still Seq (bin Seq x y) r h = let z : ◌≡◌ {A = ℕ} 1 0 = ap (λ (c : Bool). mathlib.Core.Bool.cond c 1 0) h in absurd (omega (arith, z))
rotated_still Seq (bin Choice x y) r h = refl
rotated_still Choice (bin Seq x y) r h = refl
rotated_still Choice (bin Choice x y) r h = let z : ◌≡◌ {A = ℕ} 1 0 = ap (λ (c : Bool). mathlib.Core.Bool.cond c 1 0) h in absurd (omega (arith, z))

pub flat_still : (e : E) → any_node nests_at e ≡ false → rotate e ≡ e
flat_still (lit k s) h = rotate_step_lem (lit k s)
flat_still (fixed f) h = rotate_step_lem (fixed f)
flat_still (skip ss) h = rotate_step_lem (skip ss)
flat_still (un u e) h = rotate_step_lem (un u e) ∙ ap (un u) (flat_still e h)
flat_still (bin b l r) h =
    let k = neither_right (is_bin b l) (any_node nests_at l || any_node nests_at r) h in
    rotate_step_lem (bin b l r)
    ∙ ap (children rotate) (rotated_still b l r (neither_left (is_bin b l) (any_node nests_at l || any_node nests_at r) h))
    ∙ ap (λ (x : E). bin b x (rotate r)) (flat_still l (neither_left (any_node nests_at l) (any_node nests_at r) k))
    ∙ ap (bin b l) (flat_still r (neither_right (any_node nests_at l) (any_node nests_at r) k))

-- ---- what step 1 leaves has none

record Formed (b : Bin) (e : E) : Type 0 where
  left : E
  right : E
  is : e ≡ bin b left right
  head : is_bin b left ≡ false

formed : (b : Bin) (l r : E) → Formed b (rotated b l r)
formed b (lit k s) r = record { left = lit k s; right = r; is = refl; head = refl }
formed b (fixed f) r = record { left = fixed f; right = r; is = refl; head = refl }
formed b (skip ss) r = record { left = skip ss; right = r; is = refl; head = refl }
formed b (un u e) r = record { left = un u e; right = r; is = refl; head = refl }
formed Seq (bin Seq x y) r = formed Seq x (bin Seq y r)
formed Seq (bin Choice x y) r = record { left = bin Choice x y; right = r; is = refl; head = refl }
formed Choice (bin Seq x y) r = record { left = bin Seq x y; right = r; is = refl; head = refl }
formed Choice (bin Choice x y) r = formed Choice x (bin Choice y r)

-- a node keeps its sign
two_head : (b c : Bin) (l r l' r' : E) → is_bin b (bin c l r) ≡ is_bin b (bin c l' r')
two_head Seq Seq l r l' r' = refl
two_head Seq Choice l r l' r' = refl
two_head Choice Seq l r l' r' = refl
two_head Choice Choice l r l' r' = refl

head_kept : (b : Bin) (e : E) → is_bin b (rotate e) ≡ is_bin b e
head_kept b (lit k s) = ap (is_bin b) (rotate_step_lem (lit k s))
head_kept b (fixed f) = ap (is_bin b) (rotate_step_lem (fixed f))
head_kept b (skip ss) = ap (is_bin b) (rotate_step_lem (skip ss))
head_kept b (un u e) = ap (is_bin b) (rotate_step_lem (un u e))
head_kept b (bin c l r) =
    let f = formed c l r in
    ap (is_bin b) (rotate_step_lem (bin c l r) ∙ ap (children rotate) f.is) ∙ two_head b c (rotate f.left) (rotate f.right) l r

abbrev Flat : ℕ → Type 0
Flat n = (e : E) → size e ≤ n → any_node nests_at (rotate e) ≡ false

flat_more : (n : ℕ) → Flat n → Flat (suc n)
flat_more n ih (lit k s) h = ap (any_node nests_at) (rotate_step_lem (lit k s))
flat_more n ih (fixed f) h = ap (any_node nests_at) (rotate_step_lem (fixed f))
flat_more n ih (skip ss) h = ap (any_node nests_at) (rotate_step_lem (skip ss))
flat_more n ih (un u e) h = ap (any_node nests_at) (rotate_step_lem (un u e)) ∙ ih e (omega (arith, h))
flat_more n ih (bin b l r) h =
    let f = formed b l r in
    let s : size f.left + size f.right + 1 ≡ size l + size r + 1 = sym (ap size f.is) ∙ rotated_size b l r in
    ap (any_node nests_at) (rotate_step_lem (bin b l r) ∙ ap (children rotate) f.is)
    ∙ none (is_bin b (rotate f.left)) (any_node nests_at (rotate f.left)) (any_node nests_at (rotate f.right)) (head_kept b f.left ∙ f.head) (ih f.left (omega (arith, h, s))) (ih f.right (omega (arith, h, s)))
  where
    none : (x y z : Bool) → x ≡ false → y ≡ false → z ≡ false → (x || (y || z)) ≡ false
    none x y z p q k = rw (p, q, k)

size_least : (e : E) → 1 ≤ size e
size_least (lit k s) = omega arith
size_least (fixed f) = omega arith
size_least (skip ss) = omega arith
size_least (un u e) = omega arith
size_least (bin b l r) = omega arith

flat : (n : ℕ) → Flat n
flat zero e h = absurd (omega (arith, h, size_least e))
flat (suc n) e h = flat_more n (flat n) e h

pub still_flat : (e : E) → rotate e ≡ e → any_node nests_at e ≡ false
still_flat e h = ap (any_node nests_at) (sym h) ∙ flat (size e) e (omega arith)
