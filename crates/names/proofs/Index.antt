-- The index of names: halves of marks, ways through it, and what one more rule changes. Assumes nothing.
use Rattle.std.specs.Prelude.{None, Option, Some}
use mathlib.Core.Path.{◌≡◌, refl, sym, ap, ◌∙◌}
use mathlib.Core.Bool.{Bool, true, false, cond}
use mathlib.Core.List.{List}
use Prim.Native.Nat.{ℕ, suc, ◌+◌, ◌-◌, ◌*◌, ◌/◌, ◌%◌, ◌^◌, ◌≤◌, ◌<◌}
use native.Mathlib.Nat.{mod-lt}
use native.Mathlib.Numerals.{add-one}
use native.Mathlib.Decide.{ℕ_discrete, dec_lt}
use native.Mathlib.Omega.{arith}
use borrow.Author.Tests.{eq-eqb, ne_eqb, lt-ltb, le-ltb}
use lib.Dec.{eqb, ltb}
use lib.ListN.{length, get_or, set, drop, length-set}
use lib.Seq.{get_or-set_same, get_or-set_other}
use Rattle.grammar.specs.Numbers.{rule_width, length_word, mark_width}
use Rattle.grammar.specs.Basic.{Bytes}
use Rattle.grammar.specs.Text.{bytes_at}
use Rattle.rows.specs.Rows.{Tells}
use Rattle.rows.proofs.Cells.{tells_yes, tells_no}
use Rattle.names.specs.Names.{name_of, rows_before, hash_from, last_bytes, bucket_of, half_at, with_half, symbol_at, onward, marked, with_ends, NamesInside, Slot, Way, stay, step, Ends, Leads, Shaped, Indexed, Walkable, AllIndexed, Twice, ApartAnswer, First, ways_word, halves, if_not, if_so, half_size, few_rules, stride}
use Rattle.names.proofs.Marks.{length_marked, marked_other, marked_at}

-- ---- halves

pub half_of : (m m' : List ℕ) (h : ℕ) → get_or m' (h / 2) 0 ≡ get_or m (h / 2) 0 → half_at m' h ≡ half_at m h
unfolding half_at
half_of m m' h e = rw e

pub length_half : (m : List ℕ) (h v : ℕ) → length (with_half m h v) ≡ length m
unfolding with_half
length_half m h v = length-set m (h / 2) _

-- the half that was written
pub half_same : (m : List ℕ) (h v : ℕ) → h / 2 < length m → v < half_size → half_at (with_half m h v) h ≡ v
unfolding half_at with_half
half_same m h v l b = rw (get_or-set_same m (h / 2) (cond (eqb (h % 2) 0) (get_or m (h / 2) 0 / half_size * half_size + v) (v * half_size + get_or m (h / 2) 0 % half_size)) 0 l) (go (eqb (h % 2) 0))
  where
    go : (t : Bool) → cond t (cond t (get_or m (h / 2) 0 / half_size * half_size + v) (v * half_size + get_or m (h / 2) 0 % half_size) % half_size) (cond t (get_or m (h / 2) 0 / half_size * half_size + v) (v * half_size + get_or m (h / 2) 0 % half_size) / half_size) ≡ v
    go true = omega arith
    go false = omega arith

-- another half of the same word
half_beside : (m : List ℕ) (h k v : ℕ) → h / 2 < length m → v < half_size → (k ≡ h → ⊥) → k / 2 ≡ h / 2 → half_at (with_half m h v) k ≡ half_at m k
unfolding half_at with_half
half_beside m h k v l b d e = rw (e, get_or-set_same m (h / 2) (cond (eqb (h % 2) 0) (get_or m (h / 2) 0 / half_size * half_size + v) (v * half_size + get_or m (h / 2) 0 % half_size)) 0 l) (go (ℕ_discrete (h % 2) 0))
  where
    w : ℕ
    w = get_or m (h / 2) 0

    go : Dec (h % 2 ≡ 0) → cond (eqb (k % 2) 0) (cond (eqb (h % 2) 0) (w / half_size * half_size + v) (v * half_size + w % half_size) % half_size) (cond (eqb (h % 2) 0) (w / half_size * half_size + v) (v * half_size + w % half_size) / half_size)
        ≡ cond (eqb (k % 2) 0) (w % half_size) (w / half_size)
    go (yes z) = rw (eq-eqb (h % 2) 0 z, ne_eqb (k % 2) 0 (λ y. d (omega arith))) (omega arith)
    go (no z) = rw (ne_eqb (h % 2) 0 z, eq-eqb (k % 2) 0 (omega arith)) (omega arith)

-- a half that was not written
pub half_other : (m : List ℕ) (h k v : ℕ) → h / 2 < length m → v < half_size → (k ≡ h → ⊥) → half_at (with_half m h v) k ≡ half_at m k
unfolding with_half
half_other m h k v l b d = go (ℕ_discrete (k / 2) (h / 2))
  where
    far : (k / 2 ≡ h / 2 → ⊥) → half_at (with_half m h v) k ≡ half_at m k
    far n = half_of m (with_half m h v) k (get_or-set_other m (h / 2) (k / 2) _ 0 n)

    go : Dec (k / 2 ≡ h / 2) → half_at (with_half m h v) k ≡ half_at m k
    go (yes e) = half_beside m h k v l b d e
    go (no n) = far n

-- a half by its word
pub half_low : (m : List ℕ) (h v : ℕ) → h % 2 ≡ 0 → v ≡ get_or m (h / 2) 0 % half_size → v ≡ half_at m h
unfolding half_at
half_low m h v e f = rw (eq-eqb (h % 2) 0 e) f

pub half_high : (m : List ℕ) (h v : ℕ) → (h % 2 ≡ 0 → ⊥) → v ≡ get_or m (h / 2) 0 / half_size → v ≡ half_at m h
unfolding half_at
half_high m h v e f = rw (ne_eqb (h % 2) 0 e) f

pub word_low : (w h v r : ℕ) → h % 2 ≡ 0 → r ≡ w / half_size * half_size + v → r ≡ cond (eqb (h % 2) 0) (w / half_size * half_size + v) (v * half_size + w % half_size)
word_low w h v r e f = rw (eq-eqb (h % 2) 0 e) f

pub word_high : (w h v r : ℕ) → (h % 2 ≡ 0 → ⊥) → r ≡ v * half_size + w % half_size → r ≡ cond (eqb (h % 2) 0) (w / half_size * half_size + v) (v * half_size + w % half_size)
word_high w h v r e f = rw (ne_eqb (h % 2) 0 e) f

pub set_is : (m : List ℕ) (h v w : ℕ) → w ≡ cond (eqb (h % 2) 0) (get_or m (h / 2) 0 / half_size * half_size + v) (v * half_size + get_or m (h / 2) 0 % half_size) → set m (h / 2) w ≡ with_half m h v
unfolding with_half
set_is m h v w e = rw e

pub forked_is : (m : List ℕ) (h v h1 v1 h2 v2 h3 v3 : ℕ) {m1 m2 m3 m4 : List ℕ} → m1 ≡ with_half m h v → m2 ≡ with_half m1 h1 v1 → m3 ≡ with_half m2 h2 v2 → m4 ≡ with_half m3 h3 v3
    → m4 ≡ with_half (with_half (with_half (with_half m h v) h1 v1) h2 v2) h3 v3
forked_is m h v h1 v1 h2 v2 h3 v3 a b c d = cc

-- a word of two halves that are the same
pub half_both : (m : List ℕ) (h v : ℕ) → v < half_size → get_or m (h / 2) 0 ≡ v * half_size + v → half_at m h ≡ v
unfolding half_at
half_both m h v b e = rw e (go (eqb (h % 2) 0))
  where
    go : (t : Bool) → cond t ((v * half_size + v) % half_size) ((v * half_size + v) / half_size) ≡ v
    go true = omega arith
    go false = omega arith

-- ---- ways

-- a slot of node k
pub record Under (n k s : ℕ) : Type 0 where
  pub slot : Slot n s
  pub node : s / halves ≡ k
  pub low : s % halves ≡ 1 → ⊥

module _ (name : ℕ → Bytes) (m : List ℕ) (key : Bytes) (k : ℕ) where
  pub onward_same : symbol_at (name k) (half_at m (k * halves)) ≡ symbol_at key (half_at m (k * halves)) → k * halves + if_so ≡ onward name m key k
  unfolding onward
  onward_same e = rw (eq-eqb _ _ e)

  pub onward_other : (symbol_at (name k) (half_at m (k * halves)) ≡ symbol_at key (half_at m (k * halves)) → ⊥) → k * halves + if_not ≡ onward name m key k
  unfolding onward
  onward_other e = rw (ne_eqb _ _ e)

  pub onward_under : (n : ℕ) → k < n → Under n k (onward name m key k)
  unfolding onward
  onward_under n l = go (eqb (symbol_at (name k) (half_at m (k * halves))) (symbol_at key (half_at m (k * halves))))
    where
      go : (b : Bool) → Under n k (cond b (k * halves + if_so) (k * halves + if_not))
      go true = record { slot = record { inside = omega arith; word = omega arith; place = omega arith }; node = omega arith; low = λ e. omega arith }
      go false = record { slot = record { inside = omega arith; word = omega arith; place = omega arith }; node = omega arith; low = λ e. omega arith }

-- the same of what was read
module _ (rules : List ℕ) (text : Bytes) (m : List ℕ) (key : Bytes) (k : ℕ) {d o l : ℕ} (b : Bool) (hd : d ≡ half_at m (k * halves)) (ho : o ≡ get_or rules (k * rule_width) 0) (hl : l ≡ get_or rules (k * rule_width + length_word) 0)
    (t : Tells b (symbol_at (bytes_at text (o, l)) d ≡ symbol_at key d)) where
  told_symbols : Tells b (symbol_at (name_of rules text k) (half_at m (k * halves)) ≡ symbol_at key (half_at m (k * halves)))
  told_symbols = rw (hd, ho, hl) at t

  pub goes_same : b ≡ true → k * halves + if_so ≡ onward (name_of rules text) m key k
  goes_same e = onward_same (name_of rules text) m key k (tells_yes e told_symbols)

  pub goes_other : b ≡ false → k * halves + if_not ≡ onward (name_of rules text) m key k
  goes_other e = onward_other (name_of rules text) m key k (tells_no e told_symbols)

module _ {n k : ℕ} {name : ℕ → Bytes} {m : List ℕ} {key : Bytes} where
  -- one node more
  pub way_more : {s e : ℕ} (j : ℕ) → Way n k name m key s e → half_at m e ≡ n + j → 1 ≤ j → j < k → Way n k name m key s (onward name m key j)
  way_more j stay h a b = step j h a b stay
  way_more j (step i g c d w) h a b = step i g c d (way_more j w h a b)

  -- a way ends at one slot
  pub way_one : {s e f : ℕ} → Way n k name m key s e → Way n k name m key s f → half_at m e ≤ n → half_at m f ≤ n → e ≡ f
  way_one stay stay a b = refl
  way_one stay (step j h c d w) a b = absurd (omega arith)
  way_one (step j h c d w) stay a b = absurd (omega arith)
  way_one (step j h c d w) (step i g x y v) a b = let z : i ≡ j = omega arith in way_one w (rw z at v) a b

  -- it stays among the slots, and those of nodes below k
  pub way_slot : {s e : ℕ} → k ≤ n → Slot n s → Way n k name m key s e → Slot n e
  way_slot b p stay = p
  way_slot b p (step j h c d w) = way_slot b (onward_under name m key j n (omega arith)).slot w

  pub way_known : {s e : ℕ} → k ≤ n → (k * halves ≤ s → s % halves ≡ 1) → Way n k name m key s e → k * halves ≤ e → e % 8 ≡ 1
  way_known b p stay = p
  way_known b p (step j h c d w) = let u : Under n j (onward name m key j) = onward_under name m key j n (omega arith) in way_known b (λ x. absurd (omega (arith, u.node))) w

-- marks that differ in no node that is passed
module _ (n k k' : ℕ) (name : ℕ → Bytes) (m m' : List ℕ) (key : Bytes) (l : k ≤ k')
    (slots : (s : ℕ) → Slot n s → n < half_at m s → half_at m' s ≡ half_at m s) (asked : (j : ℕ) → j < k → half_at m' (j * halves) ≡ half_at m (j * halves)) where
  onward_kept : (j : ℕ) → j < k → onward name m' key j ≡ onward name m key j
  unfolding onward
  onward_kept j h = rw (asked j h)

  pub way_kept : {s e : ℕ} → k ≤ n → Slot n s → Way n k name m key s e → Way n k' name m' key s e
  way_kept b p stay = stay
  way_kept {e = e} b p (step j h c d w) =
      let u : Under n j (onward name m key j) = onward_under name m key j n (omega arith) in
      let v : Way n k' name m' key (onward name m key j) e = way_kept b u.slot w in
      step j (slots _ p (omega arith) ∙ h) c (omega arith) (rw (← onward_kept j d) at v)

-- ---- searches

-- how many nodes may be left on a way that has come to a slot that holds r
abbrev pub steps_left : ℕ → ℕ → ℕ
steps_left n r = cond (ltb n r) (suc (n + n) - r) 0

pub steps_less : (n r q : ℕ) → n < r → r ≤ n + n → (n < q → r < q) → steps_left n q < steps_left n r
steps_less n r q h l f = rw (lt-ltb n r h) (go (dec_lt n q))
  where
    go : Dec (n < q) → steps_left n q < suc (n + n) - r
    go (yes a) = let b : r < q = f a in rw (lt-ltb n q a) (omega arith)
    go (no a) = rw (le-ltb n q (omega arith)) (omega arith)

module _ {rules : List ℕ} {text : Bytes} {marks : List ℕ} (h : AllIndexed rules text marks) (key : Bytes) {s : ℕ}
    (e : Ends (length rules / rule_width) (length rules / rule_width) (name_of rules text) marks key s) where
  -- THE LAW OF SEARCH: where the way of a name ends, the rule of that name is
  pub ends_with : (j : ℕ) → j < length rules / rule_width → name_of rules text j ≡ key → half_at marks s ≡ j
  ends_with j l q =
      let f : Leads (length rules / rule_width) (length rules / rule_width) (name_of rules text) marks (name_of rules text j) j = h.indexed.leads j l in
      let v : Way (length rules / rule_width) (length rules / rule_width) (name_of rules text) marks key (bucket_of (length rules / rule_width) key * halves + 1) f.slot = rw q at f.way in
      let z : f.slot ≡ s = way_one v e.way (omega (arith, f.is)) e.last in
      ap (half_at marks) (sym z) ∙ f.is

  pub found : {i : ℕ} → i ≡ half_at marks s → i < length rules / rule_width → name_of rules text i ≡ key → First (length rules / rule_width) rules text key i
  found {i} w l q = record { below = l; same = q; first = λ j b x. let z : half_at marks s ≡ j = ends_with j (omega arith) x in omega arith }

  pub found_known : {i k : ℕ} → i ≡ half_at marks s → First (length rules / rule_width) rules text key k → First (length rules / rule_width) rules text key i
  found_known {i} {k} w f = let z : half_at marks s ≡ k = ends_with k f.below f.same in let y : i ≡ k = w ∙ z in rw y f

  pub nothing : {i : ℕ} → i ≡ half_at marks s → (i < length rules / rule_width → name_of rules text i ≡ key → ⊥) → (j : ℕ) → j < length rules / rule_width → name_of rules text j ≡ key → ⊥
  nothing {i} w d j l q = let z : half_at marks s ≡ j = ends_with j l q in let y : i ≡ j = w ∙ z in d (omega arith) (rw y q)

-- where the tree of a name starts
pub start_slot : (n : ℕ) (key : Bytes) → 0 < n → Slot n (bucket_of n key * halves + 1)
unfolding bucket_of
start_slot n key p = let l = mod-lt (hash_from (length key % 2 ^ 32) (drop (length key - last_bytes) key)) p in record { inside = omega arith; word = omega arith; place = omega arith }

-- no two rules have one name
pub names_apart : {rules : List ℕ} {text : Bytes} {m : List ℕ} → AllIndexed rules text m → (j i : ℕ) → j < i → i < length rules / rule_width → name_of rules text j ≡ name_of rules text i → ⊥
names_apart {rules} {text} {m} h j i l b e =
    let f = h.indexed.leads i b in
    let g = ends_with h (name_of rules text i) (record { way = f.way; last = omega (arith, f.is) }) j (omega arith) e in
    omega (arith, f.is)

-- a search that has come to a slot, which holds r
module _ {rules : List ℕ} {text : Bytes} {m : List ℕ} {key : Bytes} {t r : ℕ} (p : 0 < length rules / rule_width)
    (w : (k : ℕ) → Indexed k rules text m → Way (length rules / rule_width) k (name_of rules text) m key (bucket_of (length rules / rule_width) key * halves + 1) t) (z : r ≡ half_at m t) (l : length rules / rule_width < r) where
  node_below : (k : ℕ) → Indexed k rules text m → r - length rules / rule_width < k
  node_below k h = omega (arith, h.shaped.most t (way_slot h.up_to (start_slot (length rules / rule_width) key p) (w k h)))

  pub node_there : Walkable rules text m → r - length rules / rule_width < length rules / rule_width
  node_there h = omega (arith, node_below h.up_to h.indexed, h.indexed.up_to)

  module _ {u : ℕ} (e : u ≡ onward (name_of rules text) m key (r - length rules / rule_width)) where
    under : Walkable rules text m → Under (length rules / rule_width) (r - length rules / rule_width) u
    under h = rw e (onward_under (name_of rules text) m key (r - length rules / rule_width) (length rules / rule_width) (node_there h))

    pub next_way : (k : ℕ) → Indexed k rules text m → Way (length rules / rule_width) k (name_of rules text) m key (bucket_of (length rules / rule_width) key * halves + 1) u
    next_way k h = rw e (way_more (r - length rules / rule_width) (w k h) (omega arith) (omega arith) (node_below k h))

    pub next_less : {q : ℕ} → Walkable rules text m → q ≡ half_at m u → steps_left (length rules / rule_width) q < steps_left (length rules / rule_width) r
    next_less {q} h x =
        let y = node_there h in
        steps_less (length rules / rule_width) r q l (omega arith)
        (λ b. let v = h.indexed.shaped.later u (under h).slot (under h).low (omega arith) in omega (arith, (under h).node))

-- where it ends
pub ends_inside : {k : ℕ} {rules : List ℕ} {text : Bytes} {m : List ℕ} {key : Bytes} {s : ℕ} → 0 < length rules / rule_width → Indexed k rules text m → Ends (length rules / rule_width) k (name_of rules text) m key s → s / 2 < length m
ends_inside {rules = rules} {key = key} p h e = omega (arith, (way_slot h.up_to (start_slot (length rules / rule_width) key p) e.way).inside, h.long)

pub ends_named : (rules : List ℕ) (text : Bytes) (m : List ℕ) (i k s : ℕ) {o p : ℕ} → o ≡ get_or rules (i * rule_width) 0 → p ≡ get_or rules (i * rule_width + length_word) 0
    → Ends (length rules / rule_width) k (name_of rules text) m (bytes_at text (o, p)) s → Ends (length rules / rule_width) k (name_of rules text) m (name_of rules text i) s
ends_named rules text m i k s ho hp e = rw (ho, hp) at e

pub way_start : {n k : ℕ} {name : ℕ → Bytes} {m : List ℕ} {key : Bytes} {b : ℕ} → b ≡ bucket_of n key → Way n k name m key (bucket_of n key * halves + 1) (b * halves + 1)
way_start e = rw e stay

-- ---- what keeps an index

pub shaped_kept : {n k : ℕ} {m m' : List ℕ} → Shaped n k m → ((s : ℕ) → Slot n s → half_at m' s ≡ half_at m s) → Shaped n k m'
shaped_kept h e =
    record {
      rule = λ s f b. let z = e s f in let y = h.rule s f (omega arith) in omega arith;
      most = λ s f. let z = e s f in omega (arith, h.most s f);
      later = λ s f a b. let z = e s f in let y = h.later s f a (omega arith) in omega arith;
      empty = λ s f a b. e s f ∙ h.empty s f a b;
    }

-- words 0 and 2 of the marks are all that counts
pub indexed_kept : {k : ℕ} {rules : List ℕ} {text : Bytes} {m m' : List ℕ} → Indexed k rules text m → length m' ≡ length m
    → ((i : ℕ) → get_or m' (i * mark_width) 0 ≡ get_or m (i * mark_width) 0) → ((i : ℕ) → get_or m' (i * mark_width + ways_word) 0 ≡ get_or m (i * mark_width + ways_word) 0) → Indexed k rules text m'
indexed_kept {k} {rules} {text} {m} {m'} h l a b =
    record {
      few = h.few;
      up_to = h.up_to;
      long = omega (arith, h.long, l);
      shaped = shaped_kept h.shaped (λ s f. same s f.word);
      leads = λ i c. let f = h.leads i c in
          record {
            slot = f.slot;
            way = way_kept n k k (name_of rules text) m m' (name_of rules text i) (omega arith) (λ s g _. same s g.word) (λ j _. same (j * halves) (omega arith)) h.up_to (start_slot n (name_of rules text i) (omega (arith, h.up_to))) f.way;
            is = same f.slot (way_slot h.up_to (start_slot n (name_of rules text i) (omega (arith, h.up_to))) f.way).word ∙ f.is;
          };
    }
  where
    n : ℕ
    n = length rules / rule_width

    word : (s : ℕ) → s % stride < 2 → Dec (s % halves < 2) → get_or m' (s / 2) 0 ≡ get_or m (s / 2) 0
    word s f (yes e) = let z : s / 2 ≡ s / halves * mark_width = omega arith in rw z (a (s / halves))
    word s f (no e) = let z : s / 2 ≡ s / halves * mark_width + 2 = omega arith in rw z (b (s / halves))

    same : (s : ℕ) → s % stride < 2 → half_at m' s ≡ half_at m s
    same s f = half_of m m' s (word s f (dec_lt (s % halves) 2))

pub index_kept : {rules : List ℕ} {text : Bytes} {m m' : List ℕ} → AllIndexed rules text m → length m' ≡ length m
    → ((i : ℕ) → get_or m' (i * mark_width) 0 ≡ get_or m (i * mark_width) 0) → ((i : ℕ) → get_or m' (i * mark_width + ways_word) 0 ≡ get_or m (i * mark_width + ways_word) 0) → AllIndexed rules text m'
index_kept h l a b = record { inside = h.inside; long = omega (arith, h.long, l); indexed = indexed_kept h.indexed l a b }

pub index_ends : (rules : List ℕ) (text : Bytes) (m : List ℕ) → AllIndexed rules text m → AllIndexed rules text (with_ends rules m)
index_ends rules text m h =
    let f : ℕ → ℕ = λ i. rows_before rules (suc i) in
    let n : ℕ = length rules / rule_width in
    index_kept h (length_marked f 3 n m) (λ i. marked_other f 3 n m (i * mark_width) (λ k l e. omega arith)) (λ i. marked_other f 3 n m (i * mark_width + 2) (λ k l e. omega arith))

-- an index is one of names, wherever they stand
module _ {n : ℕ} {name name' : ℕ → Bytes} (e : (j : ℕ) → j < n → name' j ≡ name j) where
  onward_named : (m : List ℕ) (key : Bytes) (j : ℕ) → j < n → onward name' m key j ≡ onward name m key j
  unfolding onward
  onward_named m key j l = rw (e j l)

  way_named : {k : ℕ} {m : List ℕ} {key : Bytes} {s t : ℕ} → k ≤ n → Way n k name m key s t → Way n k name' m key s t
  way_named b stay = stay
  way_named {k} {m} {key} {t = t} b (step j h c d w) =
      let v : Way n k name' m key (onward name m key j) t = way_named b w in
      step j h c d (rw (← onward_named m key j (omega arith)) at v)

pub index_named : {rules rules' : List ℕ} {text text' : Bytes} {m : List ℕ} → length rules' / rule_width ≡ length rules / rule_width → ((i : ℕ) → i < length rules / rule_width → name_of rules' text' i ≡ name_of rules text i)
    → NamesInside rules' (length text') → AllIndexed rules text m → AllIndexed rules' text' m
index_named {rules} {rules'} {text} {text'} {m} l e f h =
    record {
      inside = f;
      long = omega (arith, h.long);
      indexed =
          record {
            few = omega (arith, h.indexed.few);
            up_to = omega arith;
            long = omega (arith, h.long);
            shaped = rw l h.indexed.shaped;
            leads = rw l (λ i b.
                let g = h.indexed.leads i b in
                record { slot = g.slot; way = rw (e i b) (way_named e (omega arith) g.way); is = g.is });
          };
    }

-- ---- one rule more

module _ {rules : List ℕ} {text : Bytes} {m : List ℕ} {i s : ℕ} (h : Indexed i rules text m) (l : i < length rules / rule_width)
    (e : Ends (length rules / rule_width) i (name_of rules text) m (name_of rules text i) s) where
  abbrev n : ℕ
  n = length rules / rule_width

  abbrev name : ℕ → Bytes
  name = name_of rules text

  start : (j : ℕ) → Slot n (bucket_of n (name j) * halves + 1)
  start j = start_slot n (name j) (omega arith)

  pub here : Slot n s
  here = way_slot h.up_to (start i) e.way

  known : i * halves ≤ s → s % halves ≡ 1
  known = way_known h.up_to (λ _. omega arith) e.way

  -- its bucket is empty: rule i goes there
  module _ (z : half_at m s ≡ n) where
    abbrev more : List ℕ
    more = with_half m s i

    more_other : (t : ℕ) → (t ≡ s → ⊥) → half_at more t ≡ half_at m t
    more_other t d = half_other m s t i (omega (arith, here.inside, h.long)) (omega (arith, h.few)) d

    more_here : half_at more s ≡ i
    more_here = half_same m s i (omega (arith, here.inside, h.long)) (omega (arith, h.few))

    more_way : (j : ℕ) {t : ℕ} → Way n i name m (name j) (bucket_of n (name j) * halves + 1) t → Way n (suc i) name more (name j) (bucket_of n (name j) * halves + 1) t
    more_way j w = way_kept n i (suc i) name m more (name j) (omega arith) (λ t f b. more_other t (λ q. let y = ap (half_at m) q in omega arith)) (λ k b. more_other (k * halves) (λ q. omega (arith, here.place))) h.up_to (start j) w

    more_leads : (j : ℕ) → j < suc i → Dec (j ≡ i) → Leads n (suc i) name more (name j) j
    more_leads j b (yes q) = rw q (record { slot = s; way = more_way i e.way; is = more_here })
    more_leads j b (no q) = let f = h.leads j (omega arith) in record { slot = f.slot; way = more_way j f.way; is = more_other f.slot (λ x. let y = ap (half_at m) x in omega (arith, f.is)) ∙ f.is }

    more_shaped : Shaped n (suc i) more
    more_shaped =
        record {
          rule = λ t f. rule t f (ℕ_discrete t s);
          most = λ t f. most t f (ℕ_discrete t s);
          later = λ t f a. later t f a (ℕ_discrete t s);
          empty = λ t f a b. more_other t (λ q. a (ap (λ (u : ℕ). u % 8) q ∙ known (omega arith))) ∙ h.shaped.empty t f a (omega arith);
        }
      where
        rule : (t : ℕ) → Slot n t → Dec (t ≡ s) → half_at more t < n → half_at more t < suc i
        rule t f (yes q) b = let y = ap (half_at more) q in omega (arith, more_here)
        rule t f (no q) b = let y = more_other t q in let x = h.shaped.rule t f (omega arith) in omega arith

        most : (t : ℕ) → Slot n t → Dec (t ≡ s) → half_at more t ≤ n + (suc i - 1)
        most t f (yes q) = let y = ap (half_at more) q in omega (arith, more_here)
        most t f (no q) = let y = more_other t q in omega (arith, h.shaped.most t f)

        later : (t : ℕ) → Slot n t → (t % 8 ≡ 1 → ⊥) → Dec (t ≡ s) → n < half_at more t → n + t / 8 < half_at more t
        later t f a (yes q) b = let y = ap (half_at more) q in absurd (omega (arith, more_here))
        later t f a (no q) b = let y = more_other t q in let x = h.shaped.later t f a (omega arith) in omega arith

    all_more : Indexed (suc i) rules text more
    all_more = record { few = h.few; up_to = omega arith; long = omega (arith, h.long, length_half m s i); shaped = more_shaped; leads = λ j b. more_leads j b (ℕ_discrete j i) }

    pub index_first : {m' : List ℕ} → m' ≡ more → Indexed (i + 1) rules text m'
    index_first q = rw (q, add-one) all_more

  -- rule j is there, and has the same name
  twice : {j : ℕ} → j ≡ half_at m s → j < n → name j ≡ name i → Twice rules text
  twice {j} z b q = record { first = j; second = i; order = (let y = h.shaped.rule s here (omega arith) in omega arith); there = l; same = q }

  -- rule j is there: a node takes its place, and tells the two apart at position d
  module _ {j d : ℕ} (z : j ≡ half_at m s) (b : j < n) (small : d < half_size) (differ : symbol_at (name j) d ≡ symbol_at (name i) d → ⊥) where
    abbrev one : List ℕ
    one = with_half m (i * halves) d

    abbrev two : List ℕ
    two = with_half one (i * halves + if_not) j

    abbrev three : List ℕ
    three = with_half two (i * halves + if_so) i

    abbrev forked : List ℕ
    forked = with_half three s (n + i)

    length_one : length one ≡ length m
    length_one = length_half m (i * halves) d

    length_two : length two ≡ length m
    length_two = length_half one (i * halves + if_not) j ∙ length_one

    length_three : length three ≡ length m
    length_three = length_half two (i * halves + if_so) i ∙ length_two

    pub length_forked : length forked ≡ length m
    length_forked = length_half three s (n + i) ∙ length_three

    before : j < i
    before = let y = h.shaped.rule s here (omega arith) in omega arith

    -- the slots of node i were empty
    else_slot : Slot n (i * halves + if_not)
    else_slot = record { inside = omega arith; word = omega arith; place = omega arith }

    same_slot : Slot n (i * halves + if_so)
    same_slot = record { inside = omega arith; word = omega arith; place = omega arith }

    not_else : (t : ℕ) → (half_at m t ≡ n → ⊥) → t ≡ i * halves + if_not → ⊥
    not_else t a q = a (ap (half_at m) q ∙ h.shaped.empty (i * halves + if_not) else_slot (λ x. omega arith) (omega arith))

    not_same : (t : ℕ) → (half_at m t ≡ n → ⊥) → t ≡ i * halves + if_so → ⊥
    not_same t a q = a (ap (half_at m) q ∙ h.shaped.empty (i * halves + if_so) same_slot (λ x. omega arith) (omega arith))

    at_s : half_at forked s ≡ n + i
    at_s = half_same three s (n + i) (omega (arith, here.inside, h.long, length_three)) (omega (arith, h.few))

    past_s : (t : ℕ) → (t ≡ s → ⊥) → half_at forked t ≡ half_at three t
    past_s t a = half_other three s t (n + i) (omega (arith, here.inside, h.long, length_three)) (omega (arith, h.few)) a

    past_same : (t : ℕ) → (t ≡ i * halves + if_so → ⊥) → half_at three t ≡ half_at two t
    past_same t a = half_other two (i * halves + if_so) t i (omega (arith, h.long, length_two)) (omega (arith, h.few)) a

    past_else : (t : ℕ) → (t ≡ i * halves + if_not → ⊥) → half_at two t ≡ half_at one t
    past_else t a = half_other one (i * halves + if_not) t j (omega (arith, h.long, length_one)) (omega (arith, h.few)) a

    at_same : half_at forked (i * halves + if_so) ≡ i
    at_same = past_s (i * halves + if_so) (λ q. not_same s (λ x. omega arith) (sym q)) ∙ half_same two (i * halves + if_so) i (omega (arith, h.long, length_two)) (omega (arith, h.few))

    at_else : half_at forked (i * halves + if_not) ≡ j
    at_else = past_s (i * halves + if_not) (λ q. not_else s (λ x. omega arith) (sym q)) ∙ past_same (i * halves + if_not) (λ q. omega arith) ∙ half_same one (i * halves + if_not) j (omega (arith, h.long, length_one)) (omega (arith, h.few))

    at_ask : half_at forked (i * halves) ≡ d
    at_ask = past_s (i * halves) (λ q. omega (arith, here.place)) ∙ past_same (i * halves) (λ q. omega arith) ∙ past_else (i * halves) (λ q. omega arith) ∙ half_same m (i * halves) d (omega (arith, h.long)) small

    other : (t : ℕ) → (t ≡ s → ⊥) → (t ≡ i * halves + if_so → ⊥) → (t ≡ i * halves + if_not → ⊥) → (t ≡ i * halves → ⊥) → half_at forked t ≡ half_at m t
    other t a x y w = past_s t a ∙ past_same t x ∙ past_else t y ∙ half_other m (i * halves) t d (omega (arith, h.long)) small w

    -- a slot that was not empty, and not rule j's
    kept_slot : (t : ℕ) → Slot n t → (half_at m t ≡ n → ⊥) → (t ≡ s → ⊥) → half_at forked t ≡ half_at m t
    kept_slot t f a x = other t x (not_same t a) (not_else t a) (λ q. omega (arith, f.place))

    forked_way : (k : ℕ) {t : ℕ} → Way n i name m (name k) (bucket_of n (name k) * halves + 1) t → Way n (suc i) name forked (name k) (bucket_of n (name k) * halves + 1) t
    forked_way k w =
        way_kept n i (suc i) name m forked (name k) (omega arith) (λ t f x. kept_slot t f (λ y. omega arith) (λ q. let y = ap (half_at m) q in omega arith))
        (λ k x. other (k * halves) (λ q. omega (arith, here.place)) (λ q. omega arith) (λ q. omega arith) (λ q. omega arith)) h.up_to (start k) w

    -- a way that came to rule j goes on through node i
    further : (k : ℕ) {t : ℕ} → t ≡ s → Way n i name m (name k) (bucket_of n (name k) * halves + 1) t → Way n (suc i) name forked (name k) (bucket_of n (name k) * halves + 1) (onward name forked (name k) i)
    further k q w = way_more i (forked_way k w) (ap (half_at forked) q ∙ at_s) (omega (arith, before)) (omega arith)

    leads_here : Leads n (suc i) name forked (name i) i
    leads_here = record { slot = onward name forked (name i) i; way = further i refl e.way; is = ap (half_at forked) (sym (onward_same name forked (name i) i refl)) ∙ at_same }

    leads_old : (k : ℕ) → k < i → (f : Leads n i name m (name k) k) → Dec (f.slot ≡ s) → Leads n (suc i) name forked (name k) k
    leads_old k x f (yes q) =
        let y : k ≡ j = sym f.is ∙ ap (half_at m) q ∙ sym z in
        record {
          slot = onward name forked (name k) i;
          way = further k q f.way;
          is = ap (half_at forked) (sym (onward_other name forked (name k) i (λ w. differ (rw (← y) (sym (rw at_ask at w)))))) ∙ at_else ∙ sym y;
        }
    leads_old k x f (no q) =
        record { slot = f.slot; way = forked_way k f.way; is = kept_slot f.slot (way_slot h.up_to (start k) f.way) (λ y. omega (arith, f.is)) q ∙ f.is }

    forked_leads : (k : ℕ) → k < suc i → Dec (k ≡ i) → Leads n (suc i) name forked (name k) k
    forked_leads k x (yes q) = rw q leads_here
    forked_leads k x (no q) = let f = h.leads k (omega arith) in leads_old k (omega arith) f (ℕ_discrete f.slot s)

    -- what a slot holds afterwards
    data Holds (t : ℕ) : Type 0 where
      is_s : t ≡ s → half_at forked t ≡ n + i → Holds t
      is_old : half_at forked t < suc i → t < suc i * halves → Holds t
      is_kept : half_at forked t ≡ half_at m t → (t ≡ s → ⊥) → Holds t

    holds : (t : ℕ) → Slot n t → Holds t
    holds t f = go (ℕ_discrete t s) (ℕ_discrete t (i * halves + if_so)) (ℕ_discrete t (i * halves + if_not))
      where
        go : Dec (t ≡ s) → Dec (t ≡ i * halves + if_so) → Dec (t ≡ i * halves + if_not) → Holds t
        go (yes q) _ _ = is_s q (ap (half_at forked) q ∙ at_s)
        go (no _) (yes q) _ = is_old (let y = ap (half_at forked) q in omega (arith, at_same)) (omega arith)
        go (no _) (no _) (yes q) = is_old (let y = ap (half_at forked) q in omega (arith, at_else, before)) (omega arith)
        go (no x) (no y) (no w) = is_kept (other t x y w (λ q. omega (arith, f.place))) x

    forked_shaped : Shaped n (suc i) forked
    forked_shaped =
        record {
          rule = λ t f. rule t f (holds t f);
          most = λ t f. most t f (holds t f);
          later = λ t f a. later t f a (holds t f);
          empty = λ t f a x. empty t f a x (holds t f);
        }
      where
        rule : (t : ℕ) → Slot n t → Holds t → half_at forked t < n → half_at forked t < suc i
        rule t f (is_s q y) x = absurd (omega arith)
        rule t f (is_old y _) x = y
        rule t f (is_kept y _) x = let w = h.shaped.rule t f (omega arith) in omega arith

        most : (t : ℕ) → Slot n t → Holds t → half_at forked t ≤ n + (suc i - 1)
        most t f (is_s q y) = omega arith
        most t f (is_old y _) = omega arith
        most t f (is_kept y _) = omega (arith, h.shaped.most t f)

        later : (t : ℕ) → Slot n t → (t % 8 ≡ 1 → ⊥) → Holds t → n < half_at forked t → n + t / 8 < half_at forked t
        later t f a (is_s q y) x = let w : (i * halves ≤ t → ⊥) = λ v. a (ap (λ (u : ℕ). u % 8) q ∙ known (omega arith)) in omega arith
        later t f a (is_old y _) x = absurd (omega arith)
        later t f a (is_kept y _) x = let w = h.shaped.later t f a (omega arith) in omega arith

        empty : (t : ℕ) → Slot n t → (t % 8 ≡ 1 → ⊥) → suc i * halves ≤ t → Holds t → half_at forked t ≡ n
        empty t f a x (is_s q y) = absurd (a (ap (λ (u : ℕ). u % 8) q ∙ known (omega arith)))
        empty t f a x (is_old y w) = absurd (omega arith)
        empty t f a x (is_kept y _) = y ∙ h.shaped.empty t f a (omega arith)

    all_forked : Indexed (suc i) rules text forked
    all_forked = record { few = h.few; up_to = omega arith; long = omega (arith, h.long, length_forked); shaped = forked_shaped; leads = λ k x. forked_leads k x (ℕ_discrete k i) }

    index_fork : {m' : List ℕ} → m' ≡ forked → Indexed (i + 1) rules text m'
    index_fork q = rw (q, add-one) all_forked

  -- what was read of rule j's name and of rule i's, and told of them
  module _ {j o p o' p' : ℕ} (a : Option ℕ) (z : j ≡ half_at m s) (b : j < n) (ho : o ≡ get_or rules (j * rule_width) 0) (hp : p ≡ get_or rules (j * rule_width + length_word) 0) (ho' : o' ≡ get_or rules (i * rule_width) 0) (hp' : p' ≡ get_or rules (i * rule_width + length_word) 0)
      (t : ApartAnswer a (length text) (bytes_at text (o, p)) (bytes_at text (o', p'))) where
    told : ApartAnswer a (length text) (name j) (name i)
    told = rw (ho, hp, ho', hp') at t

    pub told_same : a ≡ None → Twice rules text
    told_same q = twice z b (rw q at told)

    pub told_below : {d : ℕ} → a ≡ Some d → d < length text
    told_below q = let x : ApartAnswer (Some _) (length text) (name j) (name i) = rw q at told in x.0

    pub told_apart : {d : ℕ} {m' : List ℕ} → a ≡ Some d → length text ≤ half_size → m' ≡ with_half (with_half (with_half (with_half m (i * halves) d) (i * halves + if_not) j) (i * halves + if_so) i) s (n + i) → Indexed (i + 1) rules text m'
    told_apart {d} q f w = let x : ApartAnswer (Some d) (length text) (name j) (name i) = rw q at told in index_fork z b (omega (arith, x.0)) x.1 w

-- ---- none yet, all

pub indexed_none : (rules : List ℕ) (text : Bytes) (m : List ℕ) {m' : List ℕ} → length rules / rule_width < few_rules → length rules / rule_width * mark_width ≤ length m'
    → ((i : ℕ) → i < length rules / rule_width → (get_or m' (i * mark_width) 0 ≡ length rules / rule_width * half_size + length rules / rule_width) × (get_or m' (i * mark_width + ways_word) 0 ≡ length rules / rule_width * half_size + length rules / rule_width)) → Indexed 0 rules text m'
indexed_none rules text m {m'} few long e =
    record {
      few = few;
      up_to = omega arith;
      long = long;
      shaped = record { rule = λ s f b. absurd (omega (arith, none s f)); most = λ s f. omega (arith, none s f); later = λ s f a b. absurd (omega (arith, none s f)); empty = λ s f a b. none s f };
      leads = λ i b. absurd (omega arith);
    }
  where
    n : ℕ
    n = length rules / rule_width

    word : (s : ℕ) → Slot n s → Dec (s % halves < 2) → get_or m' (s / 2) 0 ≡ n * half_size + n
    word s f (yes a) = let z : s / 2 ≡ s / halves * mark_width = omega (arith, f.word) in rw z (e (s / halves) (omega (arith, f.inside))).0
    word s f (no a) = let z : s / 2 ≡ s / halves * mark_width + 2 = omega (arith, f.word) in rw z (e (s / halves) (omega (arith, f.inside))).1

    none : (s : ℕ) → Slot n s → half_at m' s ≡ n
    none s f = half_both m' s n (omega arith) (word s f (dec_lt (s % halves) 2))

-- what `clear` leaves
pub cleared : (rules : List ℕ) (text : Bytes) (m : List ℕ) {m1 m2 : List ℕ} {v : ℕ} → length rules / rule_width < few_rules → length rules / rule_width * mark_width ≤ length m → v ≡ length rules / rule_width * half_size + length rules / rule_width
    → m1 ≡ marked (λ _. v) 0 (length rules / rule_width) m → m2 ≡ marked (λ _. v) 2 (length rules / rule_width) m1 → Indexed 0 rules text m2
cleared rules text m {m1} {m2} {v} few long hv h1 h2 =
    let n : ℕ = length rules / rule_width in
    let l1 : length m1 ≡ length m = ap length h1 ∙ length_marked (λ _. v) 0 n m in
    let l2 : length m2 ≡ length m1 = ap length h2 ∙ length_marked (λ _. v) 2 n m1 in
    indexed_none rules text m few (omega arith)
    (λ i b. (
      ap (λ (w : List ℕ). get_or w (i * mark_width) 0) h2 ∙ marked_other (λ _. v) 2 n m1 (i * mark_width) (λ k c q. omega arith) ∙ ap (λ (w : List ℕ). get_or w (i * mark_width) 0) h1 ∙ zero_at i b ∙ hv,
      ap (λ (w : List ℕ). get_or w (i * mark_width + 2) 0) h2 ∙ marked_at (λ _. v) 2 n m1 i (omega arith) (omega arith) b ∙ hv,
    ))
  where
    zero_at : (i : ℕ) → i < length rules / rule_width → get_or (marked (λ _. v) 0 (length rules / rule_width) m) (i * rule_width) 0 ≡ v
    zero_at i b = let e : i * mark_width ≡ i * mark_width + 0 = omega arith in rw e (marked_at (λ _. v) 0 (length rules / rule_width) m i (omega arith) long b)

pub indexed_all : {rules : List ℕ} {text : Bytes} {m : List ℕ} → NamesInside rules (length text) → Indexed (length rules / rule_width) rules text m → AllIndexed rules text m
indexed_all k h = record { inside = k; long = h.long; indexed = h }
