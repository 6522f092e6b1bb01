-- Work areas of full size: a table fits them exactly where it is not too large. Assumes nothing.
use Rattle.std.specs.Prelude.{None, Option, Some}
use mathlib.Core.Path.{◌≡◌, refl, sym, ◌∙◌, subst}
use mathlib.Core.Bool.{true≢false, Bool, true, false, ◌||◌}
use mathlib.Core.List.{List}
use Prim.Native.Nat.{ℕ, ◌*◌, ◌≤◌}
use native.Mathlib.Omega.{arith}
use borrow.Author.Tests.{ltb-false, le-ltb}
use lib.ListN.{length}
use lib.Dec.{ltb}
use Rattle.grammar.specs.Numbers.{rule_width}
use Rattle.grammar.specs.Basic.{Bytes}
use Rattle.grammar.specs.Table.{Table, row_count, table_text}
use Rattle.grammar.specs.Refusals.{max_rules, max_rows, max_text, too_large}
use Rattle.grammar.proofs.Logic.{or_left, or_right}
use Rattle.refusals.proofs.Fours.{neither_left, neither_right}
use Rattle.writing.specs.Writes.{Areas}
use Rattle.writing.specs.declared.Place.{Place}
use Rattle.passes.specs.Passes.{step_of, Front, TableFits, PassAnswer}
use Rattle.passes.proofs.Tables.{each_length}
use Rattle.turns.specs.Chain.{Sized, Works, Stood, after, rows_of}
use Rattle.turns.proofs.Fronts.{front_within}

pub sized_areas : {os o s : List ℕ} → Sized os o s → Areas o s
sized_areas z = record { words = omega (arith, z.rows); bytes = omega (arith, z.text) }

pub sized_same : {os o s os' o' s' : List ℕ} → length os' ≡ length os → length o' ≡ length o → length s' ≡ length s → Sized os o s → Sized os' o' s'
sized_same a b c z = record { rules = a ∙ z.rules; rows = b ∙ z.rows; text = c ∙ z.text }

pub works_same : {os o s os₂ o₂ s₂ os' o' s' os₂' o₂' s₂' : List ℕ} → length os' ≡ length os → length o' ≡ length o → length s' ≡ length s → length os₂' ≡ length os₂ → length o₂' ≡ length o₂ → length s₂' ≡ length s₂ → Works os o s os₂ o₂ s₂ → Works os' o' s' os₂' o₂' s₂'
works_same a b c d e f w = record { one = sized_same a b c w.one; other = sized_same d e f w.other }

pub sized_room : {os o s : List ℕ} (t : Table Bytes) → Sized os o s → length t ≤ max_rules → too_large t ≡ false → TableFits t os o s
unfolding too_large
sized_room {os} {o} {s} t z l h =
    let a : ltb max_rows (row_count t) ≡ false = neither_left (ltb max_rows (row_count t)) (ltb max_text (length (table_text t))) h in
    let b : ltb max_text (length (table_text t)) ≡ false = neither_right (ltb max_rows (row_count t)) (ltb max_text (length (table_text t))) h in
    record {
      rules = omega (arith, l, z.rules);
      rows = omega (arith, ltb-false max_rows (row_count t) a, z.rows);
      text = omega (arith, ltb-false max_text (length (table_text t)) b, z.text);
    }

pub room_sized : {os o s : List ℕ} (t : Table Bytes) → Sized os o s → TableFits t os o s → too_large t ≡ false
unfolding too_large
room_sized {os} {o} {s} t z f = rw (le-ltb max_rows (row_count t) (omega (arith, f.rows, z.rows)), le-ltb max_text (length (table_text t)) (omega (arith, f.text, z.text))) refl

-- a table in front of areas of full size
pub front_room : {q : Place} {os o s : List ℕ} (t : Table Bytes) → Front q t os o s → TableFits t os o s
front_room t f = let w = front_within t f in record { rules = w.0; rows = omega (arith, w.1, f.rows); text = omega (arith, w.2, f.text) }

pub front_fine : {q : Place} {os o s : List ℕ} (t : Table Bytes) → Sized os o s → Front q t os o s → too_large t ≡ false
front_fine t z f = room_sized t z (front_room t f)

pub front_few : {q : Place} {os o s : List ℕ} (t : Table Bytes) → Sized os o s → Front q t os o s → length t ≤ max_rules
front_few t z f = omega (arith, (front_within t f).0, z.rules)

-- what the steps so far came to, by their answer
pub full_stood : {large : Bool} {t : Table Bytes} {os o s : List ℕ} → large ≡ true → Stood None large t os o s
full_stood h = record { full = λ _. h; fits = λ q e. let z : ◌≡◌ {A = ℕ} 0 1 = cc in absurd (omega arith); front = λ q e. let z : ◌≡◌ {A = ℕ} 0 1 = cc in absurd (omega arith) }

done_stood : {p : Place} {large : Bool} {t : Table Bytes} {os o s : List ℕ} → large ≡ false → Front p t os o s → Stood (Some p) large t os o s
done_stood {p} {large} {t} {os} {o} {s} h f =
    record { full = λ e. let z : ◌≡◌ {A = ℕ} 0 1 = cc in absurd (omega arith); fits = λ _ _. h; front = λ q e. let z : p ≡ q = cc in subst (λ (x : Place). Front x t os o s) z f }

-- the rows of the last table
pub stood_rows : (a : Option Place) {large : Bool} {t : Table Bytes} {os o s : List ℕ} → Stood a large t os o s → large ≡ false → rows_of a ≡ row_count t
stood_rows (Some q) h e = (h.front q refl).rows
stood_rows None h e = absurd (true≢false (sym (h.full refl) ∙ e))

-- one table more: it stands in areas of full size, or was not written, or did not fit
neither : (a b : Bool) → a ≡ false → b ≡ false → (a || b) ≡ false
neither a b h k = rw (h, k) refl

pub front_stood : {p : Place} {large : Bool} (t : Table Bytes) {os o s : List ℕ} → large ≡ false → Sized os o s → Front p t os o s → Stood (Some p) (large || too_large t) t os o s
front_stood {large = large} t e z f = done_stood (neither large (too_large t) e (front_fine t z f)) f

pub full_stays : {a : Option Place} {large : Bool} {t : Table Bytes} {os o s : List ℕ} (u : Table Bytes) {os' o' s' : List ℕ} → Stood a large t os o s → a ≡ None → Stood None (large || too_large u) u os' o' s'
full_stays {large = large} u h e = full_stood (or_left large (too_large u) (h.full e))

full_large : (t : Table Bytes) (os o s : List ℕ) → Sized os o s → length t ≤ max_rules → (TableFits t os o s → ⊥) → too_large t ≡ true
full_large t os o s z l h = go (too_large t) refl
  where
    go : (b : Bool) → too_large t ≡ b → b ≡ true
    go true q = refl
    go false q = absurd (h (sized_room t z l q))

pub pass_stood : (a : Option Place) {large : Bool} (t : Table Bytes) {os o s os' o' s' : List ℕ} → large ≡ false → Sized os o s → Sized os' o' s' → length t ≤ max_rules → PassAnswer a t os o s os' o' s' → Stood a (large || too_large t) t os' o' s'
pass_stood (Some q) t e z z' l h = front_stood t e z' h
pass_stood None {large} t {os} {o} {s} e z z' l h = full_stood (or_right large (too_large t) (full_large t os o s z l h))

-- a step keeps the number of rules
pub few_after : (step : ℕ) (look t : Table Bytes) {p : Place} {os o s : List ℕ} → Sized os o s → Front p t os o s → length (after step look t) ≤ max_rules
few_after step look t z f = omega (arith, each_length (step_of step look) t, front_few t z f)

pub count_after : (step n : ℕ) (look t : Table Bytes) → n ≡ length t * rule_width → n ≡ length (after step look t) * rule_width
count_after step n look t e = omega (arith, e, each_length (step_of step look) t)
