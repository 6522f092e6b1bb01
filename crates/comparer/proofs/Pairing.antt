-- Rules of two tables paired by their names, one left rule after the other. Assumes nothing.
use Rattle.std.specs.Prelude.{None, Option, Some}
use mathlib.Core.Path.{◌≡◌, refl, sym, ap, ◌∙◌, subst}
use mathlib.Core.List.{List}
use Prim.Native.Nat.{ℕ, suc, ◌+◌, ◌*◌, ◌/◌, ◌≤◌, ◌<◌}
use native.Mathlib.Decide.{ℕ_discrete, dec_lt}
use native.Mathlib.Numerals.{add-one}
use native.Mathlib.Omega.{arith}
use lib.ListN.{length, length-set}
use lib.Seq.{get_or-set_same, get_or-set_other}
use Rattle.grammar.specs.Basic.{Bytes}
use Rattle.grammar.specs.Numbers.{rule_width, mark_width}
use Rattle.names.specs.Names.{memory_word, ways_word, end_word, name_of, marked, AllIndexed, Finds, Ended}
use Rattle.names.proofs.Index.{names_apart, index_kept}
use Rattle.names.proofs.Marks.{length_marked, marked_other, marked_at}
use Rattle.comparer.specs.Pairs.{memory_at, with_memory, partner, memory_of, met_by, Met, Paired, PairedOne, Kept}

-- ---- a memory is written

memory_same : (m : List ℕ) (i v : ℕ) → i * mark_width + memory_word < length m → memory_at (with_memory m i v) i ≡ v
memory_same m i v l = get_or-set_same m (i * mark_width + memory_word) v 0 l

memory_other : (m : List ℕ) (i k v : ℕ) → (k ≡ i → ⊥) → memory_at (with_memory m i v) k ≡ memory_at m k
memory_other m i k v d = get_or-set_other m (i * mark_width + memory_word) (k * mark_width + memory_word) v 0 (λ e. d (omega arith))

pub kept_self : (m : List ℕ) → Kept m m
kept_self m = record { long = refl; slots = λ i. refl; ways = λ i. refl; ends = λ i. refl }

pub kept_then : {m m' m'' : List ℕ} → Kept m m' → Kept m' m'' → Kept m m''
kept_then a b = record { long = b.long ∙ a.long; slots = λ i. b.slots i ∙ a.slots i; ways = λ i. b.ways i ∙ a.ways i; ends = λ i. b.ends i ∙ a.ends i }

kept_memory : (m : List ℕ) (k v : ℕ) → Kept m (with_memory m k v)
kept_memory m k v =
    record {
      long = length-set m (k * mark_width + memory_word) v;
      slots = λ i. get_or-set_other m (k * mark_width + memory_word) (i * mark_width) v 0 (λ e. omega arith);
      ways = λ i. get_or-set_other m (k * mark_width + memory_word) (i * mark_width + ways_word) v 0 (λ e. omega arith);
      ends = λ i. get_or-set_other m (k * mark_width + memory_word) (i * mark_width + end_word) v 0 (λ e. omega arith);
    }

-- all of them are cleared
pub kept_forgotten : (m : List ℕ) (n : ℕ) {m' : List ℕ} → m' ≡ marked (λ _. 0) memory_word n m → Kept m m'
kept_forgotten m n e =
    subst (Kept m) (sym e)
    (record {
      long = length_marked (λ _. 0) memory_word n m;
      slots = λ i. marked_other (λ _. 0) memory_word n m (i * mark_width) (λ k l e. omega arith);
      ways = λ i. marked_other (λ _. 0) memory_word n m (i * mark_width + ways_word) (λ k l e. omega arith);
      ends = λ i. marked_other (λ _. 0) memory_word n m (i * mark_width + end_word) (λ k l e. omega arith);
    })

pub kept_index : {rules : List ℕ} {text : Bytes} {m m' : List ℕ} → Kept m m' → AllIndexed rules text m → AllIndexed rules text m'
kept_index k h = index_kept h k.long k.slots k.ways

pub kept_ended : {rules m m' : List ℕ} → Kept m m' → Ended rules m → Ended rules m'
kept_ended k h = record { end = λ i l. k.ends i ∙ h.end i l }

-- ---- the rules

found_place : (f : Option ℕ) {k : ℕ} → memory_of f ≡ k → partner k ≡ f
found_place None {k} e = subst (λ (x : ℕ). partner x ≡ None) e refl
found_place (Some j) {k} e = subst (λ (x : ℕ). partner x ≡ Some j) e (subst (λ (x : ℕ). partner x ≡ Some j) (add_one' j) refl)
  where
    add_one' : (n : ℕ) → suc n ≡ n + 1
    add_one' n = sym (add-one n)

module _ {rules₁ : List ℕ} {text₁ : Bytes} {rules₂ : List ℕ} {text₂ : Bytes} where
  pub paired_none : (m₁ m₂ : List ℕ) {m : List ℕ} → m ≡ marked (λ _. 0) memory_word (length rules₂ / rule_width) m₂ → length rules₂ / rule_width * mark_width ≤ length m₂ → Paired 0 rules₁ text₁ rules₂ text₂ m₁ m
  paired_none m₁ m₂ e l =
      subst (Paired 0 rules₁ text₁ rules₂ text₂ m₁) (sym e)
      (record {
        left = λ i b. absurd (omega arith);
        met = λ j b z. absurd (z (marked_at (λ _. 0) memory_word (length rules₂ / rule_width) m₂ j (omega arith) l b));
        unmet = λ j b e w. omega (arith, w.below);
      })

  module _ {m₁ m₁' m₂ m₂' : List ℕ} {i : ℕ} (one : PairedOne i rules₁ text₁ rules₂ text₂ m₁ m₁' m₂ m₂') where
    pub one_left : Kept m₁ m₁'
    one_left = subst (Kept m₁) (sym one.left) (kept_memory m₁ i (memory_of one.found))

    pub one_right : Kept m₂ m₂'
    one_right = subst (Kept m₂) (sym one.right) (go one.found)
      where
        go : (f : Option ℕ) → Kept m₂ (met_by f m₂)
        go None = kept_self m₂
        go (Some j) = kept_memory m₂ j 1

    module _ (index : AllIndexed rules₂ text₂ m₂) (there : i * mark_width + memory_word < length m₁) (p : Paired i rules₁ text₁ rules₂ text₂ m₁ m₂) where
      more : {name : Bytes} → Met i rules₁ text₁ name → Met (i + 1) rules₁ text₁ name
      more w = record { rule = w.rule; below = omega (arith, w.below); same = w.same }

      next_left : (k : ℕ) → k < i + 1 → Finds (length rules₂ / rule_width) rules₂ text₂ (name_of rules₁ text₁ k) (partner (memory_at m₁' k))
      next_left k b = go (ℕ_discrete k i)
        where
          go : Dec (k ≡ i) → Finds (length rules₂ / rule_width) rules₂ text₂ (name_of rules₁ text₁ k) (partner (memory_at m₁' k))
          go (yes e) =
              let z : memory_at m₁' k ≡ memory_of one.found = ap (λ (m : List ℕ). memory_at m k) one.left ∙ ap (memory_at (with_memory m₁ i (memory_of one.found))) e ∙ memory_same m₁ i (memory_of one.found) there in
              subst (λ (f : Option ℕ). Finds (length rules₂ / rule_width) rules₂ text₂ (name_of rules₁ text₁ k) f) (sym (found_place one.found (sym z))) (subst (λ (x : ℕ). Finds (length rules₂ / rule_width) rules₂ text₂ (name_of rules₁ text₁ x) one.found) (sym e) one.finds)
          go (no d) =
              let z : memory_at m₁ k ≡ memory_at m₁' k = sym (ap (λ (m : List ℕ). memory_at m k) one.left ∙ memory_other m₁ i k (memory_of one.found) d) in
              subst (λ (x : ℕ). Finds (length rules₂ / rule_width) rules₂ text₂ (name_of rules₁ text₁ k) (partner x)) z (p.left k (omega (arith, b, apart d)))
            where
              apart : (k ≡ i → ⊥) → (k ≡ i → ⊥)
              apart d = d

      pub paired_next : Paired (i + 1) rules₁ text₁ rules₂ text₂ m₁' m₂'
      paired_next = subst (Paired (i + 1) rules₁ text₁ rules₂ text₂ m₁') (sym one.right) (go one.found one.finds)
        where
          go : (f : Option ℕ) → Finds (length rules₂ / rule_width) rules₂ text₂ (name_of rules₁ text₁ i) f → Paired (i + 1) rules₁ text₁ rules₂ text₂ m₁' (met_by f m₂)
          go None h =
              record {
                left = next_left;
                met = λ j b z. more (p.met j b z);
                unmet = λ j b e w. at j b e w (ℕ_discrete w.rule i);
              }
            where
              at : (j : ℕ) → j < length rules₂ / rule_width → memory_at m₂ j ≡ 0 → (w : Met (i + 1) rules₁ text₁ (name_of rules₂ text₂ j)) → Dec (w.rule ≡ i) → ⊥
              at j b e w (yes q) = h j b (sym w.same ∙ ap (name_of rules₁ text₁) q)
              at j b e w (no q) = p.unmet j b e (record { rule = w.rule; below = omega (arith, w.below, q); same = w.same })
          go (Some j₀) h =
              record {
                left = next_left;
                met = λ j b z. hit j b z (ℕ_discrete j j₀);
                unmet = λ j b e w. miss j b e w (ℕ_discrete j j₀) (ℕ_discrete w.rule i);
              }
            where
              long : j₀ * mark_width + memory_word < length m₂
              long = omega (arith, h.below, index.long)

              hit : (j : ℕ) → j < length rules₂ / rule_width → (memory_at (with_memory m₂ j₀ 1) j ≡ 0 → ⊥) → Dec (j ≡ j₀) → Met (i + 1) rules₁ text₁ (name_of rules₂ text₂ j)
              hit j b z (yes q) = record { rule = i; below = omega arith; same = sym h.same ∙ ap (name_of rules₂ text₂) (sym q) }
              hit j b z (no q) = more (p.met j b (λ e. z (memory_other m₂ j₀ j 1 q ∙ e)))

              miss : (j : ℕ) → j < length rules₂ / rule_width → memory_at (with_memory m₂ j₀ 1) j ≡ 0 → (w : Met (i + 1) rules₁ text₁ (name_of rules₂ text₂ j)) → Dec (j ≡ j₀) → Dec (w.rule ≡ i) → ⊥
              miss j b e w (yes q) d = let z : ◌≡◌ {A = ℕ} 1 0 = sym (memory_same m₂ j₀ 1 long) ∙ ap (memory_at (with_memory m₂ j₀ 1)) (sym q) ∙ e in omega arith
              miss j b e w (no q) (yes r) = one_name j b q (h.same ∙ ap (name_of rules₁ text₁) (sym r) ∙ w.same)
                where
                  one_name : (j : ℕ) → j < length rules₂ / rule_width → (j ≡ j₀ → ⊥) → name_of rules₂ text₂ j₀ ≡ name_of rules₂ text₂ j → ⊥
                  one_name j b q e = order (dec_lt j j₀)
                    where
                      order : Dec (j < j₀) → ⊥
                      order (yes l) = names_apart index j j₀ l h.below (sym e)
                      order (no l) = names_apart index j₀ j (omega (arith, l, q)) b e
              miss j b e w (no q) (no r) = p.unmet j b (sym (memory_other m₂ j₀ j 1 q) ∙ e) (record { rule = w.rule; below = omega (arith, w.below, r); same = w.same })
