-- From what the steps left to the whole answer. Assumes nothing.
use Rattle.std.specs.Prelude.{Option, Some, None, Result, Ok, Err, ok_or}
use mathlib.Core.Path.{◌≡◌, refl, sym, ap, ap₂, ◌∙◌, subst}
use mathlib.Core.Bool.{true, false}
use mathlib.Core.List.{List, [], ◌∷◌, ◌++◌, map}
use Prim.Native.Nat.{ℕ, ◌*◌, ◌/◌, ◌^◌, ◌≤◌, ◌<◌}
use native.Mathlib.Omega.{arith}
use borrow.Author.Tests.{ltb-false}
use lib.ListN.{length, take}
use lib.Seq.{take-append-le}
use lib.Dec.{ltb}
use Rattle.grammar.specs.Numbers.{rule_width, row_width, number_of, number_in}
use Rattle.grammar.specs.declared.Refusal.{Refusal}
use Rattle.grammar.specs.declared.Refusal.TheVariants.{Area, Size, Shape, Text, Names, Count, Cycle, Full}
use Rattle.grammar.specs.Basic.{Bytes, any}
use Rattle.grammar.specs.Table.{Table, row_count, table_text, resolve_table, words_of}
use Rattle.grammar.specs.Refusals.{max_rows, max_text, full_rules, too_large}
use Rattle.grammar.specs.Optimize as whole
use Rattle.grammar.specs.Optimize.{stages, pairs, last_of, finish, answer, over}
use Rattle.grammar.proofs.Logic.{or_right}
use Rattle.writing.specs.declared.Place.{Place}
use Rattle.refusals.specs.Check.{lent}
use Rattle.refusals.proofs.Fours.{neither_left, neither_right}
use Rattle.passes.specs.Passes.{Front}
use Rattle.passes.proofs.Progress.{rows_length}
use Rattle.packing.specs.Packing.{Covers}
use Rattle.admission.specs.Ready.{Ready}
use Rattle.admission.proofs.Trying.{resolved_count}
use Rattle.turns.specs.Chain.{Ran, SevenAnswer, rows_in, all_seven}
use Rattle.optimizer.specs.Entry.{seen, AtLeast, Small, Said}
use Rattle.optimizer.specs.declared.Answer.{Answer}
use Rattle.turns.specs.declared.Seven.{Seven}
use Rattle.turns.proofs.Fronts.{front_within}
use Rattle.turns.proofs.Asking.{stages_are}
use Rattle.turns.proofs.Runs.{ready_lent, restored_count}

pub seven_done : {a : Option Seven} {b : Seven} (ts : List (Table Bytes)) (os o s : List ℕ) → a ≡ Some b → SevenAnswer a ts os o s → Ran (rows_in b) b.place ts os o s
seven_done ts os o s e h = subst (λ (a : Option Seven). SevenAnswer a ts os o s) e h

pub seven_full : {a : Option Seven} (ts : List (Table Bytes)) (os o s : List ℕ) → a ≡ None → SevenAnswer a ts os o s → any too_large ts ≡ true
seven_full ts os o s e h = subst (λ (a : Option Seven). SevenAnswer a ts os o s) e h

-- an answer that was turned into a result
module _ {A E : Type 0} where
  abbrev value_in : Option A → Result A E → Option A
  value_in d (Ok u) = Some u
  value_in d (Err r) = d

  abbrev error_in : E → Result A E → E
  error_in d (Ok u) = d
  error_in d (Err q) = q

  pub or_some : (x : Option A) (e : E) {v : A} → ok_or x e ≡ Ok v → x ≡ Some v
  or_some (Some w) e h = ap (value_in (Some w)) h
  or_some None e h = let z : ◌≡◌ {A = ℕ} 0 1 = cc in absurd (omega arith)

  pub or_none : (x : Option A) (e : E) {r : E} → ok_or x e ≡ Err r → (x ≡ None) × (r ≡ e)
  or_none (Some w) e h = let z : ◌≡◌ {A = ℕ} 0 1 = cc in absurd (omega arith)
  or_none None e {r} h = (refl, ap (error_in r) (sym h))

-- every refusal has a number
number_some : (r : Refusal) → number_of r ≡ 0 → ⊥
number_some Area h = omega arith
number_some Size h = omega arith
number_some Shape h = omega arith
number_some Text h = omega arith
number_some Names h = omega arith
number_some Count h = omega arith
number_some Cycle h = omega arith
number_some Full h = omega arith

-- a result that refuses tells its refusal's number
pub refused_told : {T : Type 0} {v : Result T Refusal} {r : Refusal} {x : whole.Result} → v ≡ Err r → ((number_in v ≡ 0 → ⊥) → x ≡ whole.refused (number_in v)) → x ≡ whole.refused (number_of r)
refused_told {T} {v} {r} {x} e f = subst (λ (w : Result T Refusal). (number_in w ≡ 0 → ⊥) → x ≡ whole.refused (number_in w)) e f (number_some r)

-- one of them is too large, or none is
when_large : (ts : List (Table Bytes)) → any too_large ts ≡ true → finish ts ≡ whole.refused 8
unfolding finish
when_large ts h = rw h refl

when_fits : (ts : List (Table Bytes)) → any too_large ts ≡ false → finish ts ≡ whole.finished (pairs ts) (last_of ts)
unfolding finish
when_fits ts h = rw h refl

pub steps_large : (t : Table Bytes) → any too_large (all_seven t) ≡ true → finish (stages t) ≡ whole.refused 8
steps_large t h = ap finish (stages_are t) ∙ when_large (t ∷ all_seven t) (or_right (too_large t) _ h)

steps_fit : (t : Table Bytes) → too_large t ≡ false → any too_large (all_seven t) ≡ false → finish (stages t) ≡ whole.finished (pairs (t ∷ all_seven t)) (last_of (t ∷ all_seven t))
steps_fit t h k = ap finish (stages_are t) ∙ when_fits (t ∷ all_seven t) (rw (h, k) refl)

-- a refusal leaves the outputs as they were
pub refusal_seen : {a : Result Answer Refusal} {r : Refusal} {os o s os' o' s' : List ℕ} (x : whole.Result) → a ≡ Err r → os' ≡ os → o' ≡ o → s' ≡ s → x ≡ whole.refused (number_of r) → seen a (lent os' o' s') ≡ answer (lent os o s) x
refusal_seen {a} {r} {os} {o} {s} x h e f g k = rw (h, e, f, g) (ap (answer (lent os o s)) (sym k))

-- counts of tables that are not too large are words
abbrev AllSmall : List ℕ → Type 0
AllSmall [] = Unit {0}
AllSmall (n ∷ ns) = (n < 2 ^ 32) × AllSmall ns

few_rows : (t : Table Bytes) → too_large t ≡ false → row_count t ≤ max_rows
unfolding too_large
few_rows t h = ltb-false max_rows (row_count t) (neither_left (ltb max_rows (row_count t)) (ltb max_text (length (table_text t))) h)

few_bytes : (t : Table Bytes) → too_large t ≡ false → length (table_text t) ≤ max_text
unfolding too_large
few_bytes t h = ltb-false max_text (length (table_text t)) (neither_right (ltb max_rows (row_count t)) (ltb max_text (length (table_text t))) h)

all_small : (ts : List (Table Bytes)) → any too_large ts ≡ false → AllSmall (map row_count ts)
all_small [] h = tt
all_small (t ∷ ts) h = (omega (arith, few_rows t (neither_left (too_large t) (any too_large ts) h)), all_small ts (neither_right (too_large t) (any too_large ts) h))

-- the last table among them
last_fits : (ts : List (Table Bytes)) → any too_large ts ≡ false → too_large (last_of ts) ≡ false
unfolding too_large
last_fits [] h = refl
last_fits (t ∷ []) h = neither_left (too_large t) false h
last_fits (s ∷ t ∷ ts) h = last_fits (t ∷ ts) (neither_right (too_large s) (any too_large (t ∷ ts)) h)

pub ran_small : {count : ℕ} {b : Seven} (first : ℕ) (t : Table Bytes) {os o s : List ℕ} → count ≤ full_rules → first ≤ max_rows → Ran (rows_in b) b.place (all_seven t) os o s → Small count first b
ran_small {count} {b} first t c f r =
    let a : AllSmall (rows_in b) = subst AllSmall (sym r.counts) (all_small (all_seven t) r.fits) in
    record {
      rules = omega (arith, c);
      first = omega (arith, f);
      second = a.0;
      third = a.1.0;
      fourth = a.1.1.0;
      fifth = a.1.1.1.0;
      sixth = a.1.1.1.1.0;
      seventh = a.1.1.1.1.1.0;
      rows = a.1.1.1.1.1.1.0;
      text = omega (arith, r.front.text, few_bytes (last_of (all_seven t)) (last_fits (all_seven t) r.fits));
    }

-- pairs of counts
abbrev pairs_of : List ℕ → List ℕ
pairs_of [] = []
pairs_of (a ∷ []) = []
pairs_of (a ∷ b ∷ ns) = a ∷ b ∷ pairs_of (b ∷ ns)

pairs_are : (ts : List (Table Bytes)) → pairs ts ≡ pairs_of (map row_count ts)
pairs_are [] = refl
pairs_are (t ∷ []) = refl
pairs_are (s ∷ t ∷ ts) = ap (λ (l : List ℕ). row_count s ∷ row_count t ∷ l) (pairs_are (t ∷ ts))

-- the table that the steps left, as the outputs are to hold it
pub ran_covers : {ns : List ℕ} {q : Place} {count : ℕ} {ts : List (Table Bytes)} {os o s os' o' s' : List ℕ} → AtLeast os' o' s' → count ≤ full_rules → count ≡ length (last_of ts) * rule_width → Ran ns q ts os o s → Covers count q os o s os' o' s'
ran_covers {ts = ts} l c e r =
    let w = front_within (last_of ts) r.front in
    let h : too_large (last_of ts) ≡ false = last_fits ts r.fits in
    record {
      heads = omega (arith, w.0, e);
      rows = w.1;
      text = w.2;
      out_rules = omega (arith, c, l.rules);
      out_rows = omega (arith, r.front.rows, few_rows (last_of ts) h, l.rows);
      out_text = omega (arith, r.front.text, few_bytes (last_of ts) h, l.text);
    }

answer_same : {number rules rows text : ℕ} {report os o s : List ℕ} (w : whole.Answer) → number ≡ w.number → rules ≡ w.rules → rows ≡ w.rows → text ≡ w.text → report ≡ w.report → os ≡ w.out.rules → o ≡ w.out.rows → s ≡ w.out.text → ◌≡◌ {A = whole.Answer} (record { number = number; rules = rules; rows = rows; text = text; report = report; out = lent os o s }) w
answer_same w a b c d e f g h = rw (a, b, c, d, e, f, g, h) refl

pub finished_seen : {r : Answer} {count first : ℕ} {b : Seven} (t : Table Bytes) (os o s : List ℕ) {os₁ o₁ s₁ os' o' s' : List ℕ} → Said r count first b → too_large t ≡ false → first ≡ row_count t → count ≡ length (last_of (all_seven t)) * rule_width → Ran (rows_in b) b.place (all_seven t) os₁ o₁ s₁ → os' ≡ over (take count os₁) os → o' ≡ over (take (b.place.rows * row_width) o₁) o → s' ≡ over (take b.place.text s₁) s → seen (Ok r) (lent os' o' s') ≡ answer (lent os o s) (finish (stages t))
finished_seen {r} {count} {first} {b} t os o s {os₁} {o₁} {s₁} said h f c ran x y z =
    let u : Table Bytes = last_of (all_seven t) in
    let fr : Front b.place u os₁ o₁ s₁ = ran.front in
    let counts : pairs (t ∷ all_seven t) ≡ pairs_of (first ∷ rows_in b) = pairs_are (t ∷ all_seven t) ∙ ap pairs_of (ap₂ ◌∷◌ (sym f) (sym ran.counts)) in
    let heads : take count os₁ ≡ (words_of u).rules = ap (λ (n : ℕ). take n os₁) c ∙ fr.rule_words_lem in
    answer_same (answer (lent os o s) (whole.finished (pairs (t ∷ all_seven t)) u)) refl (said.rules ∙ omega (arith, c)) (said.rows ∙ fr.rows) (said.text ∙ fr.text) (said.report ∙ sym counts) (x ∙ ap (λ (w : List ℕ). over w os) heads) (y ∙ ap (λ (w : List ℕ). over w o) fr.row_words_lem) (z ∙ ap (λ (w : List ℕ). over w s) fr.bytes)
    ∙ ap (answer (lent os o s)) (sym (steps_fit t h ran.fits))

-- the rows before the first step, and the rules after the last
module _ {rules rows : List ℕ} {text : Bytes} {marks : List ℕ} (r : Ready rules rows text marks) where
  abbrev read : Table Bytes
  read = resolve_table text r.given.table

  pub rows_before : length rows / row_width ≡ row_count read
  rows_before = omega (arith, ap length r.given.lent.trees, rows_length r.given.table, resolved_count text r.given.table)

  pub read_fits : too_large read ≡ false
  read_fits = r.fits r.given.table r.given.lent

  pub rows_few : length rows / row_width ≤ max_rows
  rows_few = omega (arith, rows_before, few_rows read read_fits)

  pub rules_after : length rules ≡ length (last_of (all_seven read)) * rule_width
  rules_after = restored_count r r.given.table (ready_lent r)

-- work areas that are longer than full size
longer : (n : ℕ) (new old : List ℕ) → n ≤ length new → take n (new ++ old) ≡ take n new
longer n new old h = take-append-le n new old h

pub answer_longer : (a : Option Seven) (ts : List (Table Bytes)) (os o s x y z : List ℕ) → SevenAnswer a ts os o s → SevenAnswer a ts (os ++ x) (o ++ y) (s ++ z)
answer_longer (Some b) ts os o s x y z r =
    let f : Front b.place (last_of ts) os o s = r.front in
    let w = front_within (last_of ts) f in
    record {
      counts = r.counts;
      fits = r.fits;
      front =
          record {
            rows = f.rows;
            text = f.text;
            rule_words_lem = longer (length (last_of ts) * rule_width) os x w.0 ∙ f.rule_words_lem;
            row_words_lem = longer (b.place.rows * row_width) o y w.1 ∙ f.row_words_lem;
            bytes = longer b.place.text s z w.2 ∙ f.bytes;
          };
    }
answer_longer None ts os o s x y z r = r
