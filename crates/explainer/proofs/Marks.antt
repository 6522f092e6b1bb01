-- The marks while rules are read: how many were not, and what a written memory leaves alone. Assumes nothing.
use mathlib.Core.Path.{◌≡◌, refl, ap, ◌∙◌}
use mathlib.Core.List.{List}
use Prim.Native.Nat.{ℕ, zero, suc, ◌+◌, ◌-◌, ◌*◌, ◌/◌, ◌^◌, ◌≤◌, ◌<◌}
use native.Mathlib.Decide.{dec_le}
use native.Mathlib.Omega.{arith}
use lib.ListN.{length, get_or, set, length-set}
use lib.Seq.{get_or-set_same, get_or-set_other}
use Rattle.grammar.specs.Numbers.{rule_width, mark_width}
use Rattle.grammar.specs.Basic.{Bytes}
use Rattle.rows.specs.Rows.{Stands}
use Rattle.rows.proofs.Laws.{root}
use Rattle.names.specs.Names.{memory_word, ways_word, end_word}
use Rattle.names.proofs.Index.{index_kept}
use Rattle.skipper.specs.Lends.{Given}
use Rattle.skipper.proofs.Rules.{is_zero, not_zero}
use Rattle.skipper.proofs.Leaf.{rule_there, rule_stands}
use Rattle.explainer.specs.Reading.{memory_at, unread, Clean, Steady, Ready}

-- one memory is written
module _ (m : List ℕ) (i v : ℕ) (h : i * mark_width + memory_word < length m) where
  abbrev written : List ℕ
  written = set m (i * mark_width + memory_word) v

  pub memory_same : memory_at written i ≡ v
  memory_same = get_or-set_same m (i * mark_width + memory_word) v 0 h

  pub memory_other : (j : ℕ) → (j ≡ i → ⊥) → memory_at written j ≡ memory_at m j
  memory_other j n = get_or-set_other m (i * mark_width + memory_word) (j * mark_width + memory_word) v 0 (λ e. n (omega (arith, e)))

  unread_past : (n : ℕ) → n ≤ i → unread n written ≡ unread n m
  unread_past zero l = refl
  unread_past (suc n) l = rw (memory_other n (λ e. omega (arith, e, l)), unread_past n (omega (arith, l)))

  pub unread_set : (n : ℕ) → i < n → unread n written + is_zero (memory_at m i) ≡ unread n m + is_zero v
  unread_set zero l = absurd (omega (arith, l))
  unread_set (suc n) l = go (dec_le n i) (unread_set n)
    where
      go : Dec (n ≤ i) → (i < n → unread n written + is_zero (memory_at m i) ≡ unread n m + is_zero v) → is_zero (memory_at written n) + unread n written + is_zero (memory_at m i) ≡ is_zero (memory_at m n) + unread n m + is_zero v
      go (yes k) ih = let e : n ≡ i = omega (arith, k, l) in rw (e, memory_same, unread_past i (omega arith)) (omega arith)
      go (no k) ih = rw (memory_other n (λ e. k (omega (arith, e)))) (omega (arith, ih (omega (arith, k))))

  pub steady_set : (n : ℕ) → i < n → 1 ≤ v → Steady n m written
  steady_set n l k =
      record {
        fewer = omega (arith, unread_set n l, not_zero v k);
        slots = λ j. get_or-set_other m (i * mark_width + memory_word) (j * mark_width) v 0 (λ e. omega arith);
        ways = λ j. get_or-set_other m (i * mark_width + memory_word) (j * mark_width + ways_word) v 0 (λ e. omega arith);
        end = λ j. get_or-set_other m (i * mark_width + memory_word) (j * mark_width + end_word) v 0 (λ e. omega arith);
      }

  -- a rule that was not read is being read: one fewer is left
  pub unread_less : (n : ℕ) → i < n → memory_at m i ≡ 0 → 1 ≤ v → unread n written + 1 ≡ unread n m
  unread_less n l z k = omega (arith, unread_set n l, not_zero v k, ap is_zero z)

  pub clean_set : (n : ℕ) → ((v ≡ 0 → ⊥) → (v ≡ 1 → ⊥) → v ≡ 3) → Clean n m → Clean n written
  clean_set n k c j l = go (dec_le j i) (dec_le i j)
    where
      other : (j ≡ i → ⊥) → (memory_at written j ≡ 0 → ⊥) → (memory_at written j ≡ 1 → ⊥) → memory_at written j ≡ 3
      other e a b = let q = memory_other j e in q ∙ c j l (λ z. a (q ∙ z)) (λ z. b (q ∙ z))

      go : Dec (j ≤ i) → Dec (i ≤ j) → (memory_at written j ≡ 0 → ⊥) → (memory_at written j ≡ 1 → ⊥) → memory_at written j ≡ 3
      go (yes p) (yes q) = let e : j ≡ i = omega (arith, p, q) in rw (e, memory_same) k
      go (no p) q = other (λ e. p (omega (arith, e)))
      go (yes p) (no q) = other (λ e. q (omega (arith, e)))

pub steady_none : (n : ℕ) (m : List ℕ) → Steady n m m
steady_none n m = record { fewer = omega arith; slots = λ i. refl; ways = λ i. refl; end = λ i. refl }

pub steady_more : {n : ℕ} {m m₁ m₂ : List ℕ} → Steady n m m₁ → Steady n m₁ m₂ → Steady n m m₂
steady_more s t = record { fewer = omega (arith, s.fewer, t.fewer); slots = λ i. t.slots i ∙ s.slots i; ways = λ i. t.ways i ∙ s.ways i; end = λ i. t.end i ∙ s.end i }

-- what is lent stays lent
pub given_steady : {rules rows : List ℕ} {text : Bytes} {n : ℕ} {m m' : List ℕ} → Given rules rows text m → Steady n m m' → length m' ≡ length m → Given rules rows text m'
given_steady g s l =
    record {
      table = g.table;
      lent = g.lent;
      inside = g.inside;
      index = index_kept g.index l s.slots s.ways;
      ended = record { end = λ i h. s.end i ∙ g.ended.end i h };
    }

-- a table is lent, and d of its rules are being read
module _ {rules rows : List ℕ} {text : Bytes} {m l : List ℕ} {d : ℕ} (y : Ready rules rows text m l d) {i : ℕ} (b : i < length rules / rule_width) where
  pub mark_inside : i * mark_width + memory_word < length m
  mark_inside = omega (arith, b, y.given.index.long)

  -- its rules and rows fit in words
  pub place_fits : {at : ℕ} → Stands rows at → (i < 2 ^ 32) × (at < 2 ^ 32)
  place_fits s = (omega (arith, b, y.few), omega (arith, (root s.at).inside, y.low))

  -- the root of rule i
  pub rule_root : Stands rows (get_or m (i * mark_width + end_word) 0 - 1)
  rule_root = let r = rule_there y.given.table y.given.lent.heads i b in record { tree = r.rule.body; at = rule_stands y.given.lent i r b y.given.ended }

  -- rule i was not read, and is being read now
  module _ (z : memory_at m i ≡ 0) where
    pub opens_less : unread (length rules / rule_width) (set m (i * mark_width + memory_word) 1) + 1 ≡ unread (length rules / rule_width) m
    opens_less = unread_less m i 1 mark_inside (length rules / rule_width) b z (omega arith)

    pub ready_opens : Ready rules rows text (set m (i * mark_width + memory_word) 1) l (d + 1)
    ready_opens =
        record {
          given = given_steady y.given (steady_set m i 1 mark_inside (length rules / rule_width) b (omega arith)) (length-set m (i * mark_width + memory_word) 1);
          few = y.few;
          low = y.low;
          clean = clean_set m i 1 mark_inside (length rules / rule_width) (λ _ q. absurd (q refl)) y.clean;
          deep = omega (arith, y.deep, opens_less);
          room = y.room;
        }
