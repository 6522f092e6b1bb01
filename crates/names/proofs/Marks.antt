-- The hash of a part of a text byte by byte, marks after they are written, and a bool that tells whether names are the same. Assumes nothing.
use mathlib.Core.Path.{◌≡◌, refl, sym, ap, ◌∙◌}
use mathlib.Core.Bool.{Bool, true, false, ◌||◌}
use mathlib.Core.List.{List, ◌∷◌}
use Prim.Native.Nat.{ℕ, zero, suc, ◌+◌, ◌-◌, ◌*◌, ◌/◌, ◌%◌, ◌^◌, ◌≤◌, ◌<◌}
use native.Mathlib.Nat.{add-zero}
use native.Mathlib.Numerals.{add-one}
use native.Mathlib.Decide.{ℕ_discrete}
use native.Mathlib.Omega.{arith}
use borrow.Author.Tests.{lt-ltb, le-ltb, eqb-true, eqb-false, leb-true, leb-false}
use lib.Dec.{eqb, leb}
use lib.ListN.{length, get_or, set, drop, length-set, length-take, length-drop}
use lib.Seq.{drop-cons, ext_get_or, get_or-take, get_or-drop, take_all, get_or-set_same, get_or-set_other}
use Rattle.grammar.specs.Numbers.{rule_width, rows_word, mark_width}
use Rattle.grammar.specs.Basic.{Bytes, same_bytes}
use Rattle.grammar.specs.Text.{bytes_at}
use Rattle.grammar.proofs.Logic.{or_left, eq_same_bytes, same_bytes_eq}
use Rattle.rows.specs.Rows.{Tells, Unlike}
use Rattle.rows.proofs.Laws.{length_part, same_parts}
use Rattle.names.specs.Names.{rows_before, hash_from, last_bytes, bucket_of, symbol_at, marked, with_ends, Ended}

-- ---- the hash

-- the first byte of a part, and the rest
pub part_cons : (t : Bytes) (x n : ℕ) → x + suc n ≤ length t → bytes_at t (x, suc n) ≡ get_or t x 0 ∷ bytes_at t (x + 1, n)
part_cons t x n h = rw (drop-cons t x 0 (omega arith), add-one)

pub hash_start : (t : Bytes) (x n h : ℕ) → hash_from h (bytes_at t (x + 0, n - 0)) ≡ hash_from h (bytes_at t (x, n))
hash_start t x n h = let e : n - 0 ≡ n = omega arith in rw (add-zero, e)

pub hash_step : (t : Bytes) (x n i h : ℕ) → i < n → x + n ≤ length t → hash_from h (bytes_at t (x + i, n - i)) ≡ hash_from ((h * 16777619 + get_or t (x + i) 0) % 2 ^ 32) (bytes_at t (x + (i + 1), n - (i + 1)))
hash_step t x n i h l f =
    let e : n - i ≡ suc (n - (i + 1)) = omega arith in
    let a : x + i + 1 ≡ x + (i + 1) = omega arith in
    rw e (ap (hash_from h) (part_cons t (x + i) (n - (i + 1)) (omega arith)) ∙ ap (λ (m : ℕ). hash_from ((h * 16777619 + get_or t (x + i) 0) % 2 ^ 32) (bytes_at t (m, n - (i + 1)))) a)

pub hash_end : (t : Bytes) (x n i h : ℕ) → n ≤ i → hash_from h (bytes_at t (x + i, n - i)) ≡ h
hash_end t x n i h l = let e : n - i ≡ 0 = omega arith in rw e

-- the end of a part
part_drop : (t : Bytes) (x n k : ℕ) → x + n ≤ length t → k ≤ n → bytes_at t (x + k, n - k) ≡ drop k (bytes_at t (x, n))
part_drop t x n k h l =
    ext_get_or 0 _ _ (simp (length-take, length-drop) (omega arith))
    (λ i j.
    let b : i < n - k = omega (arith, simp (length-take, length-drop) at j) in
    let c : k + i < n = omega arith in
    let e : x + k + i ≡ x + (k + i) = omega arith in
    rw (get_or-take, get_or-drop, get_or-drop, get_or-take, get_or-drop, e))

-- the bucket of a part, by its last bytes
pub bucket_is : (t : Bytes) (x n count from h : ℕ) → x + n ≤ length t → from ≡ n - last_bytes → h ≡ hash_from (n % 2 ^ 32) (bytes_at t (x + from, n - from)) → h % count ≡ bucket_of count (bytes_at t (x, n))
unfolding bucket_of
bucket_is t x n count from h l e f =
    let w : length (bytes_at t (x, n)) ≡ n = length_part t x n l in
    rw (w, f, ← e) (ap (λ (s : Bytes). hash_from (n % 2 ^ 32) s % count) (part_drop t x n from l (omega arith)))

-- ---- what stands at a position

pub symbol_in : (t : Bytes) (x n d : ℕ) → x + n ≤ length t → d < n → suc (get_or t (x + d) 0) ≡ symbol_at (bytes_at t (x, n)) d
unfolding symbol_at
symbol_in t x n d l h = rw (lt-ltb d (length (bytes_at t (x, n))) (omega (arith, length_part t x n l)), get_or-take, get_or-drop)

pub symbol_out : (t : Bytes) (x n d : ℕ) → x + n ≤ length t → n ≤ d → 0 ≡ symbol_at (bytes_at t (x, n)) d
unfolding symbol_at
symbol_out t x n d l h = rw (le-ltb d (length (bytes_at t (x, n))) (omega (arith, length_part t x n l)))

-- whether two names have the same at a position: by their bytes, or by where they end
module _ (t : Bytes) (x n : ℕ) (u : Bytes) (y m d : ℕ) (h : x + n ≤ length t) (k : y + m ≤ length u) where
  pub both_in : d < n → d < m → Tells (eqb (get_or t (x + d) 0) (get_or u (y + d) 0)) (symbol_at (bytes_at t (x, n)) d ≡ symbol_at (bytes_at u (y, m)) d)
  both_in a b = go (eqb (get_or t (x + d) 0) (get_or u (y + d) 0)) refl
    where
      go : (r : Bool) → eqb (get_or t (x + d) 0) (get_or u (y + d) 0) ≡ r → Tells r (symbol_at (bytes_at t (x, n)) d ≡ symbol_at (bytes_at u (y, m)) d)
      go true e = sym (symbol_in t x n d h a) ∙ ap suc (eqb-true _ _ e) ∙ symbol_in u y m d k b
      go false e = λ q. let p = symbol_in t x n d h a in let r = symbol_in u y m d k b in let z : get_or t (x + d) 0 ≡ get_or u (y + d) 0 = omega arith in eqb-false _ _ e z

  pub one_in : d < n → m ≤ d → symbol_at (bytes_at t (x, n)) d ≡ symbol_at (bytes_at u (y, m)) d → ⊥
  one_in a b q = let p = symbol_in t x n d h a in let r = symbol_out u y m d k b in omega arith

  pub none_in : n ≤ d → Tells (leb m d) (symbol_at (bytes_at t (x, n)) d ≡ symbol_at (bytes_at u (y, m)) d)
  none_in a = go (leb m d) refl
    where
      go : (r : Bool) → leb m d ≡ r → Tells r (symbol_at (bytes_at t (x, n)) d ≡ symbol_at (bytes_at u (y, m)) d)
      go true e = sym (symbol_out t x n d h a) ∙ symbol_out u y m d k (leb-true m d e)
      go false e = λ q. let p = symbol_out t x n d h a in let r = symbol_in u y m d k (leb-false m d e) in omega arith

-- names of two lengths differ where the shorter ends
pub shorter_apart : (t : Bytes) (x n y m : ℕ) → x + n ≤ length t → y + m ≤ length t → n < m → symbol_at (bytes_at t (x, n)) n ≡ symbol_at (bytes_at t (y, m)) n → ⊥
shorter_apart t x n y m h k l e = let a = symbol_out t x n n h (omega arith) in let b = symbol_in t y m n k l in omega arith

pub longer_apart : (t : Bytes) (x n y m : ℕ) → x + n ≤ length t → y + m ≤ length t → m < n → symbol_at (bytes_at t (x, n)) m ≡ symbol_at (bytes_at t (y, m)) m → ⊥
longer_apart t x n y m h k l e = shorter_apart t y m x n k h l (sym e)

-- names of one length, by the first byte in which they differ
module _ (t : Bytes) (x n y m d : ℕ) (h : x + n ≤ length t) (k : y + m ≤ length t) (e : n ≡ m) (u : Unlike t x t y n d) where
  pub bytes_apart : d < n → symbol_at (bytes_at t (x, n)) d ≡ symbol_at (bytes_at t (y, m)) d → ⊥
  bytes_apart l q = let a = symbol_in t x n d h l in let b = symbol_in t y m d k (omega arith) in u.unlike l (omega arith)

  pub bytes_same : n ≤ d → bytes_at t (x, n) ≡ bytes_at t (y, m)
  bytes_same l = rw (← e) (same_parts t t x y n h (omega arith) (λ i b. u.same i (omega arith)))

-- ---- marks after they are written

module _ (f : ℕ → ℕ) (j : ℕ) where
  pub length_marked : (n : ℕ) (m : List ℕ) → length (marked f j n m) ≡ length m
  length_marked zero m = refl
  length_marked (suc n) m = length-set (marked f j n m) (n * mark_width + j) (f n) ∙ length_marked n m

  -- a word of the marks that is none of those written
  pub marked_other : (n : ℕ) (m : List ℕ) (k : ℕ) → ((i : ℕ) → i < n → k ≡ i * mark_width + j → ⊥) → get_or (marked f j n m) k 0 ≡ get_or m k 0
  marked_other zero m k h = refl
  marked_other (suc n) m k h =
      get_or-set_other (marked f j n m) (n * mark_width + j) k (f n) 0 (h n (omega arith)) ∙ marked_other n m k (λ i l. h i (omega arith))

  -- a word that was written
  pub marked_at : (n : ℕ) (m : List ℕ) (i : ℕ) → j < mark_width → n * mark_width ≤ length m → i < n → get_or (marked f j n m) (i * mark_width + j) 0 ≡ f i
  marked_at zero m i s l h = absurd (omega arith)
  marked_at (suc n) m i s l h = go (ℕ_discrete i n) (λ b. marked_at n m i s (omega arith) b)
    where
      go : Dec (i ≡ n) → (i < n → get_or (marked f j n m) (i * mark_width + j) 0 ≡ f i) → get_or (set (marked f j n m) (n * mark_width + j) (f n)) (i * mark_width + j) 0 ≡ f i
      go (yes e) ih = rw e (get_or-set_same (marked f j n m) (n * mark_width + j) (f n) 0 (omega (arith, length_marked n m)))
      go (no e) ih = get_or-set_other (marked f j n m) (n * mark_width + j) (i * mark_width + j) (f n) 0 (λ q. e (omega arith)) ∙ ih (omega arith)

pub ended : (rules m : List ℕ) → length rules / rule_width * mark_width ≤ length m → Ended rules (with_ends rules m)
ended rules m l = record { end = λ i b. marked_at (λ k. rows_before rules (suc k)) 3 (length rules / rule_width) m i (omega arith) l b }

-- the rows before a rule grow
pub before_grows : (rules : List ℕ) (i n : ℕ) → i ≤ n → rows_before rules i ≤ rows_before rules n
before_grows rules i zero h = let e : i ≡ 0 = omega arith in rw e (omega arith)
before_grows rules i (suc n) h = go (ℕ_discrete i (suc n)) (λ b. before_grows rules i n b)
  where
    go : Dec (i ≡ suc n) → (i ≤ n → rows_before rules i ≤ rows_before rules n) → rows_before rules i ≤ rows_before rules n + get_or rules (n * rule_width + rows_word) 0
    go (yes e) ih = rw e (omega arith)
    go (no e) ih = let l : rows_before rules i ≤ rows_before rules n = ih (omega arith) in omega arith

-- ---- names that are the same

pub tells_same : (b : Bool) (p q : Bytes) → Tells b (p ≡ q) → b ≡ same_bytes p q
tells_same true p q h = sym (eq_same_bytes p q h)
tells_same false p q h = go (same_bytes p q) refl
  where
    go : (t : Bool) → same_bytes p q ≡ t → false ≡ t
    go true e = absurd (h (same_bytes_eq p q e))
    go false e = refl

-- a whole text as a part of it
pub part_whole : (s : Bytes) (n : ℕ) → n ≡ length s → bytes_at s (0, n) ≡ s
part_whole s n e = take_all n s (omega arith)

-- parts of different lengths are different
pub part_differ : (t : Bytes) (x n : ℕ) (s : Bytes) → x + n ≤ length t → (n ≡ length s → ⊥) → bytes_at t (x, n) ≡ s → ⊥
part_differ t x n s h d e = d (sym (length_part t x n h) ∙ ap length e)

pub parts_differ : (t : Bytes) (x l : ℕ) (u : Bytes) (y n : ℕ) → x + l ≤ length t → y + n ≤ length u → (l ≡ n → ⊥) → bytes_at t (x, l) ≡ bytes_at u (y, n) → ⊥
parts_differ t x l u y n h k d = part_differ t x l (bytes_at u (y, n)) h (λ e. d (e ∙ length_part u y n k))

-- one mark more
pub marked_step : (f : ℕ → ℕ) (j i : ℕ) (m w : List ℕ) (k v : ℕ) → w ≡ marked f j i m → k ≡ i * mark_width + j → v ≡ f i → set w k v ≡ marked f j (i + 1) m
marked_step f j i m w k v hw hk hv = rw (add-one, hw, hk, hv)

pub before_step : (rules : List ℕ) (i n : ℕ) → n ≡ rows_before rules i → n + get_or rules (i * rule_width + rows_word) 0 ≡ rows_before rules (i + 1)
before_step rules i n h = rw (add-one, h)

-- a search in a list of names: found at the first, or further on
pub or_yes : (a b r : Bool) → r ≡ true → r ≡ a → true ≡ (a || b)
or_yes a b r h e = sym (or_left a b (sym e ∙ h))

pub or_no : (a b r s : Bool) → r ≡ false → r ≡ a → s ≡ b → s ≡ (a || b)
or_no a b r s h e k = let q : a ≡ false = sym e ∙ h in rw q k

pub or_last : (b s : Bool) → s ≡ b → s ≡ (b || false)
or_last true s e = e
or_last false s e = e
