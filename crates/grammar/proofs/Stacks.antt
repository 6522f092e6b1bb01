-- The computed test of step 7 says exactly what the relation says. Assumes nothing.
use mathlib.Core.Path.{◌≡◌, refl, sym, ap, ap₂, ◌∙◌, subst, fun_ext}
use mathlib.Core.Bool.{false≢true, Bool, true, false, ◌&&◌, not, cond}
use mathlib.Core.List.{List, [], ◌∷◌}
use mathlib.Core.Option.{Option, none, some}
use mathlib.Core.Logic.{◌⊎◌, inl, inr, ◌↔◌}
use Prim.Native.Nat.{ℕ, zero, suc, ◌+◌, ◌≤◌, ◌<◌}
use native.Mathlib.Omega.{arith}
use native.Mathlib.Decide.{dec_lt, dec_le}
use lib.ListN.{length}
use Rattle.grammar.specs.Basic.{Bytes, member, same_bytes}
use Rattle.grammar.specs.Tree.{E, Ident, Insens, NegPred, Opt, PosPred, Push, Rep, RepExact, RepMax, RepMin, RepMinMax, RepOnce, RestoreOnErr, Str, Un, bin, fixed, is_un, lit, skip, un}
use Rattle.grammar.specs.Table.{Rule, Table, find}
use Rattle.grammar.specs.Stack.{Reaches, at_name, at_push, changes, changes_found, changes_in, changes_name, down, left, right, stack_names, through}
use Rattle.grammar.proofs.Logic.{and_left, and_mono, and_right, none_some, not_true, or_case, or_left, or_mono, or_right, same_bytes_eq}

-- more names, more trees
abbrev Under : (Bytes → Bool) → (Bytes → Bool) → Type 0
Under f g = (x : Bytes) → f x ≡ true → g x ≡ true

in_mono : (f g : Bytes → Bool) → Under f g → (e : E) → changes_in f e ≡ true → changes_in g e ≡ true
in_mono f g p (lit Str s) h = h
in_mono f g p (lit Insens s) h = h
in_mono f g p (lit Ident x) h = or_mono (member x stack_names) (f x) (member x stack_names) (g x) (λ q. q) (p x) h
in_mono f g p (fixed k) h = h
in_mono f g p (skip ss) h = h
in_mono f g p (un u e) h = or_mono (is_un 18 u) (not (is_un 19 u) && changes_in f e) (is_un 18 u) (not (is_un 19 u) && changes_in g e) (λ q. q) (and_mono (not (is_un 19 u)) (changes_in f e) (changes_in g e) (in_mono f g p e)) h
in_mono f g p (bin b l r) h = or_mono (changes_in f l) (changes_in f r) (changes_in g l) (changes_in g r) (in_mono f g p l) (in_mono f g p r) h

module _ (t : Table Bytes) where
  found_mono : (o : Option E) (f g : Bytes → Bool) → Under f g → changes_found o (changes_in f) ≡ true → changes_found o (changes_in g) ≡ true
  found_mono none f g p h = h
  found_mono (some e) f g p h = in_mono f g p e h

  name_mono : (n : ℕ) → Under (changes_name n t) (changes_name (suc n) t)
  name_mono zero x h = absurd (false≢true h)
  name_mono (suc n) x h = found_mono (find t x) (changes_name n t) (changes_name (suc n) t) (name_mono n) h

  -- how many of the rules the n-th test marks
  abbrev bit : Bool → ℕ
  bit true = 1
  bit false = 0

  abbrev count : List (Rule Bytes) → ℕ → ℕ
  count [] n = 0
  count (r ∷ rs) n = bit (changes_name n t r.name) + count rs n

  bit_mono : (a b : Bool) → (a ≡ true → b ≡ true) → bit a ≤ bit b
  bit_mono true b h = rw (h refl) (omega arith)
  bit_mono false b h = omega arith

  bit_eq : (a b : Bool) → bit a ≡ bit b → a ≡ b
  bit_eq true true h = refl
  bit_eq true false h = absurd (omega arith)
  bit_eq false true h = absurd (omega arith)
  bit_eq false false h = refl

  bit_one : (a : Bool) → bit a ≤ 1
  bit_one true = omega arith
  bit_one false = omega arith

  count_mono : (rs : List (Rule Bytes)) (n : ℕ) → count rs n ≤ count rs (suc n)
  count_mono [] n = omega arith
  count_mono (r ∷ rs) n = omega (arith, bit_mono (changes_name n t r.name) (changes_name (suc n) t r.name) (name_mono n r.name), count_mono rs n)

  count_most : (rs : List (Rule Bytes)) (n : ℕ) → count rs n ≤ length rs
  count_most [] n = omega arith
  count_most (r ∷ rs) n = omega (arith, bit_one (changes_name n t r.name), count_most rs n)

  -- where the count stands still, so does the mark of each rule
  count_still : (rs : List (Rule Bytes)) (n : ℕ) → count rs n ≡ count rs (suc n) → (x : Bytes) (e : E) → find rs x ≡ some e → changes_name n t x ≡ changes_name (suc n) t x
  count_still [] n h x e f = none_some f
  count_still (r ∷ rs) n h x e f = go (same_bytes r.name x) refl f (count_still rs n tail x e)
    where
      m : bit (changes_name n t r.name) ≤ bit (changes_name (suc n) t r.name)
      m = bit_mono (changes_name n t r.name) (changes_name (suc n) t r.name) (name_mono n r.name)

      tail : count rs n ≡ count rs (suc n)
      tail = omega (arith, m, count_mono rs n)

      head : bit (changes_name n t r.name) ≡ bit (changes_name (suc n) t r.name)
      head = omega (arith, m, count_mono rs n)

      go : (a : Bool) → same_bytes r.name x ≡ a → cond a (some r.body) (find rs x) ≡ some e → (find rs x ≡ some e → changes_name n t x ≡ changes_name (suc n) t x) → changes_name n t x ≡ changes_name (suc n) t x
      go true p q ih = subst (λ (y : Bytes). changes_name n t y ≡ changes_name (suc n) t y) (same_bytes_eq r.name x p) (bit_eq (changes_name n t r.name) (changes_name (suc n) t r.name) head)
      go false p q ih = ih q

  abbrev Still : ℕ → Type 0
  Still n = changes_name n t ≡ changes_name (suc n) t

  no_rule : (n : ℕ) (x : Bytes) → find t x ≡ none → changes_name n t x ≡ false
  no_rule zero x h = refl
  no_rule (suc n) x h = ap (λ (o : Option E). changes_found o (changes_in (changes_name n t))) h

  still : (n : ℕ) → count t n ≡ count t (suc n) → Still n
  still n h = fun_ext (λ x. go x (find t x) refl)
    where
      go : (x : Bytes) (o : Option E) → find t x ≡ o → changes_name n t x ≡ changes_name (suc n) t x
      go x none f = no_rule n x f ∙ sym (no_rule (suc n) x f)
      go x (some e) f = count_still t n h x e f

  abbrev next : (Bytes → Bool) → Bytes → Bool
  next look x = changes_found (find t x) (changes_in look)

  still_next : (n : ℕ) → Still n → Still (suc n)
  still_next n h = ap next h

  still_or_more : (n : ℕ) → Still n ⊎ (n < count t (suc n))
  still_or_more zero = go (dec_lt (count t 0) (count t 1))
    where
      go : Dec (count t 0 < count t 1) → Still 0 ⊎ (0 < count t 1)
      go (yes h) = inr (omega arith)
      go (no h) = inl (still 0 (omega (arith, count_mono t 0)))
  still_or_more (suc n) = go (still_or_more n) (dec_lt (count t (suc n)) (count t (suc (suc n))))
    where
      go : Still n ⊎ (n < count t (suc n)) → Dec (count t (suc n) < count t (suc (suc n))) → Still (suc n) ⊎ (suc n < count t (suc (suc n)))
      go (inl s) d = inl (still_next n s)
      go (inr m) (yes h) = inr (omega arith)
      go (inr m) (no h) = inl (still (suc n) (omega (arith, count_mono t (suc n))))

  -- the number of rules is enough
  still_at : Still (length t)
  still_at = go (still_or_more (length t))
    where
      go : Still (length t) ⊎ (length t < count t (suc (length t))) → Still (length t)
      go (inl s) = s
      go (inr m) = absurd (omega (arith, count_most t (suc (length t))))

  still_from : (k m : ℕ) → m ≡ length t + k → (Still m) × (changes_name (length t) t ≡ changes_name m t)
  still_from zero m h = let e : length t ≡ m = omega arith in (subst Still e still_at, ap (λ (n : ℕ). changes_name n t) e)
  still_from (suc k) zero h = absurd (omega arith)
  still_from (suc k) (suc m) h = let p : (Still m) × (changes_name (length t) t ≡ changes_name m t) = still_from k m (omega arith) in (still_next m p.0, p.1 ∙ p.0)

  up : (n m : ℕ) → n ≤ m → Under (changes_name n t) (changes_name m t)
  up n zero h x p = let e : n ≡ 0 = omega arith in subst (λ (k : ℕ). changes_name k t x ≡ true) e p
  up n (suc m) h x p = go (dec_le n m) (λ l. up n m l x p)
    where
      go : Dec (n ≤ m) → (n ≤ m → changes_name m t x ≡ true) → changes_name (suc m) t x ≡ true
      go (yes l) ih = name_mono m x (ih l)
      go (no l) ih = let e : n ≡ suc m = omega arith in subst (λ (k : ℕ). changes_name k t x ≡ true) e p

  enough : (n : ℕ) → Under (changes_name n t) (changes_name (length t) t)
  enough n x h = subst (λ (look : Bytes → Bool). look x ≡ true) (sym (still_from n (length t + n) refl).1) (up n (length t + n) (omega arith) x h)

  -- a way is found
  finds : (e : E) → Reaches t e → (n : ℕ) × (changes_in (changes_name n t) e ≡ true)
  finds e at_push = (0, refl)
  finds e (at_name {x = x} h) = (0, or_left (member x stack_names) false h)
  finds e (through {x = x} {e = y} f p) =
      let q : (n : ℕ) × (changes_in (changes_name n t) y ≡ true) = finds y p in
      (suc q.0, or_right (member x stack_names) (changes_name (suc q.0) t x) (ap (λ (o : Option E). changes_found o (changes_in (changes_name q.0 t))) f ∙ q.1))
  finds e (down {u = u} {e = y} h p) =
      let q : (n : ℕ) × (changes_in (changes_name n t) y ≡ true) = finds y p in
      (q.0, or_right (is_un 18 u) (not (is_un 19 u) && changes_in (changes_name q.0 t) y) (ap₂ (λ a b. not a && b) h q.1))
  finds e (left {l = l} {r = r} p) =
      let q : (n : ℕ) × (changes_in (changes_name n t) l ≡ true) = finds l p in
      (q.0, or_left (changes_in (changes_name q.0 t) l) (changes_in (changes_name q.0 t) r) q.1)
  finds e (right {l = l} {r = r} p) =
      let q : (n : ℕ) × (changes_in (changes_name n t) r ≡ true) = finds r p in
      (q.0, or_right (changes_in (changes_name q.0 t) l) (changes_in (changes_name q.0 t) r) q.1)

  -- what is found is a way
  push_is : (u : Un) (e : E) → is_un 18 u ≡ true → Reaches t (un u e)
  push_is PosPred e h = absurd (false≢true h)
  push_is NegPred e h = absurd (false≢true h)
  push_is Opt e h = absurd (false≢true h)
  push_is Rep e h = absurd (false≢true h)
  push_is RepOnce e h = absurd (false≢true h)
  push_is (RepExact n) e h = absurd (false≢true h)
  push_is (RepMin n) e h = absurd (false≢true h)
  push_is (RepMax n) e h = absurd (false≢true h)
  push_is (RepMinMax m n) e h = absurd (false≢true h)
  push_is Push e h = at_push
  push_is RestoreOnErr e h = absurd (false≢true h)

  ways : (look : Bytes → Bool) → ((x : Bytes) → look x ≡ true → Reaches t (lit Ident x)) → (e : E) → changes_in look e ≡ true → Reaches t e
  ways look p (lit Str s) h = absurd (false≢true h)
  ways look p (lit Insens s) h = absurd (false≢true h)
  ways look p (lit Ident x) h = go (or_case (member x stack_names) (look x) h)
    where
      go : (member x stack_names ≡ true) ⊎ (look x ≡ true) → Reaches t (lit Ident x)
      go (inl q) = at_name q
      go (inr q) = p x q
  ways look p (fixed f) h = absurd (false≢true h)
  ways look p (skip ss) h = absurd (false≢true h)
  ways look p (un u e) h = go (ways look p e) (or_case (is_un 18 u) (not (is_un 19 u) && changes_in look e) h)
    where
      go : (changes_in look e ≡ true → Reaches t e) → (is_un 18 u ≡ true) ⊎ ((not (is_un 19 u) && changes_in look e) ≡ true) → Reaches t (un u e)
      go ih (inl q) = push_is u e q
      go ih (inr q) = down (not_true (is_un 19 u) (and_left (not (is_un 19 u)) (changes_in look e) q)) (ih (and_right (not (is_un 19 u)) (changes_in look e) q))
  ways look p (bin b l r) h = go (ways look p l) (ways look p r) (or_case (changes_in look l) (changes_in look r) h)
    where
      go : (changes_in look l ≡ true → Reaches t l) → (changes_in look r ≡ true → Reaches t r) → (changes_in look l ≡ true) ⊎ (changes_in look r ≡ true) → Reaches t (bin b l r)
      go f g (inl q) = left (f q)
      go f g (inr q) = right (g q)

  name_ways : (n : ℕ) (x : Bytes) → changes_name n t x ≡ true → Reaches t (lit Ident x)
  name_ways zero x h = absurd (false≢true h)
  name_ways (suc n) x h = go (name_ways n) (find t x) refl h
    where
      go : ((y : Bytes) → changes_name n t y ≡ true → Reaches t (lit Ident y)) → (o : Option E) → find t x ≡ o → changes_found o (changes_in (changes_name n t)) ≡ true → Reaches t (lit Ident x)
      go ih none f h = absurd (false≢true h)
      go ih (some e) f h = through f (ways (changes_name n t) ih e h)

  -- THE TEST IS THE RELATION
  pub changes_is : (e : E) → (changes t e ≡ true) ↔ Reaches t e
  unfolding changes
  changes_is e = (ways (changes_name (length t) t) (name_ways (length t)) e, λ p. in_mono (changes_name (finds e p).0 t) (changes_name (length t) t) (enough (finds e p).0) e (finds e p).1)
