-- Entries put one after the other into the list. Assumes nothing.
use mathlib.Core.Path.{◌≡◌, refl, sym, ap, ◌∙◌}
use mathlib.Core.Bool.{Bool, cond}
use mathlib.Core.List.{List, [], ◌∷◌, ◌++◌, append_assoc, append-nil}
use Prim.Native.Nat.{ℕ, zero, suc, ◌+◌, ◌-◌, ◌*◌, ◌≤◌}
use native.Mathlib.Nat.{zero-add, add-zero, add-suc, suc-add}
use native.Mathlib.Omega.{arith}
use borrow.Author.Tests.{eq-eqb, ne_eqb}
use lib.Dec.{eqb}
use lib.ListN.{length, length-append}
use Rattle.writing.specs.Writes.{stored}
use Rattle.writing.proofs.Runs.{length_stored, stored_none, stored_then}
use Rattle.comparison.specs.Compare.{Entry, only_left, other_type, other_tree, only_right, entry_width, entry_words, list_words}
use Rattle.comparer.specs.Pairs.{memory_at}
use Rattle.comparer.specs.Lists.{Added, unmet_from}

list_append : (es fs : List Entry) → list_words (es ++ fs) ≡ list_words es ++ list_words fs
list_append [] fs = refl
list_append (e ∷ es) fs = ap (λ (w : List ℕ). entry_words e ++ w) (list_append es fs) ∙ sym (append_assoc (entry_words e) (list_words es) (list_words fs))

length_entry : (e : Entry) → length (entry_words e) ≡ entry_width
length_entry (only_left i) = refl
length_entry (other_type i j) = refl
length_entry (other_tree i j k) = refl
length_entry (only_right j) = refl

pub length_list : (es : List Entry) → length (list_words es) ≡ length es * entry_width
length_list [] = refl
length_list (e ∷ es) = omega (arith, length-append (entry_words e) (list_words es), length_entry e, length_list es)

pub added_none : (n : ℕ) (l : List ℕ) → Added n n [] l l
added_none n l = record { count = omega arith; words = sym (stored_none l (n * entry_width)) }

pub added_one : {m n : ℕ} (e : Entry) {l l' : List ℕ} → m ≡ n + 1 → l' ≡ stored l (n * entry_width) (entry_words e) → Added m n (e ∷ []) l l'
added_one {m} {n} e {l} h k = record { count = omega (arith, h); words = k ∙ ap (stored l (n * entry_width)) (sym (append-nil (entry_words e))) }

pub added_then : {k m n : ℕ} {es fs : List Entry} {l l' l'' : List ℕ} → Added m n es l l' → Added k m fs l' l'' → Added k n (es ++ fs) l l''
added_then {k} {m} {n} {es} {fs} {l} {l'} {l''} a b =
    record {
      count = omega (arith, a.count, b.count, length-append es fs);
      words = stored_then l l' l'' (list_words es) (list_words fs) (n * entry_width) (m * entry_width) a.words (omega (arith, a.count, length_list es)) b.words ∙ ap (stored l (n * entry_width)) (sym (list_append es fs));
    }

pub added_length : {m n : ℕ} {es : List Entry} {l l' : List ℕ} → Added m n es l l' → length l' ≡ length l
added_length {m} {n} {es} {l} a = ap length a.words ∙ length_stored l (n * entry_width) (list_words es)

-- ---- the right rules that are not met, one after the other

unmet_append : (m : List ℕ) (j a b : ℕ) → unmet_from m j (a + b) ≡ unmet_from m j a ++ unmet_from m (j + a) b
unmet_append m j zero b = ap (λ (x : ℕ). unmet_from m j x) (zero-add b) ∙ ap (λ (x : ℕ). unmet_from m x b) (sym (add-zero j))
unmet_append m j (suc a) b =
    ap (unmet_from m j) (suc-add a b)
    ∙ ap (λ (l : List Entry). cond (eqb (memory_at m j) 0) (only_right j ∷ []) [] ++ l) (unmet_append m (suc j) a b ∙ ap (λ (x : ℕ). unmet_from m (suc j) a ++ unmet_from m x b) (suc-add j a ∙ sym (add-suc j a)))
    ∙ sym (append_assoc (cond (eqb (memory_at m j) 0) (only_right j ∷ []) []) (unmet_from m (suc j) a) (unmet_from m (j + suc a) b))

unmet_more : (m : List ℕ) (j : ℕ) → unmet_from m 0 (j + 1) ≡ unmet_from m 0 j ++ cond (eqb (memory_at m j) 0) (only_right j ∷ []) []
unmet_more m j = unmet_append m 0 j 1 ∙ ap (λ (x : ℕ). unmet_from m 0 j ++ unmet_from m x 1) (zero-add j) ∙ ap (λ (l : List Entry). unmet_from m 0 j ++ l) (append-nil (cond (eqb (memory_at m j) 0) (only_right j ∷ []) []))

pub unmet_most : (m : List ℕ) (a b : ℕ) → a ≤ b → length (unmet_from m 0 a) ≤ length (unmet_from m 0 b)
unmet_most m a b h = let e : a + (b - a) ≡ b = omega arith in omega (arith, ap (λ (x : ℕ). length (unmet_from m 0 x)) (sym e), ap length (unmet_append m 0 a (b - a)), length-append (unmet_from m 0 a) (unmet_from m (0 + a) (b - a)))

pub unmet_next : (m : List ℕ) (j : ℕ) → memory_at m j ≡ 0 → unmet_from m 0 (j + 1) ≡ unmet_from m 0 j ++ (only_right j ∷ [])
unmet_next m j e = unmet_more m j ∙ ap (λ (b : Bool). unmet_from m 0 j ++ cond b (only_right j ∷ []) []) (eq-eqb (memory_at m j) 0 e)

pub unmet_skip : (m : List ℕ) (j : ℕ) → (memory_at m j ≡ 0 → ⊥) → unmet_from m 0 (j + 1) ≡ unmet_from m 0 j
unmet_skip m j e = unmet_more m j ∙ ap (λ (b : Bool). unmet_from m 0 j ++ cond b (only_right j ∷ []) []) (ne_eqb (memory_at m j) 0 e) ∙ append-nil (unmet_from m 0 j)
