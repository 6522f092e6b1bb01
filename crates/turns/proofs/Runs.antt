-- The seven steps, one after the other, from a table that is lent. Assumes nothing.
use Rattle.std.specs.Prelude.{None, Option, Some}
use mathlib.Core.Path.{◌≡◌, refl, sym, ap, ◌∙◌, subst}
use mathlib.Core.Bool.{Bool, true, false, ◌||◌}
use mathlib.Core.List.{List, [], ◌∷◌}
use Prim.Native.Nat.{ℕ, ◌*◌, ◌≤◌}
use native.Mathlib.Omega.{arith}
use lib.ListN.{length, take}
use Rattle.grammar.specs.Numbers.{rule_width}
use Rattle.grammar.specs.Basic.{Bytes, any}
use Rattle.grammar.specs.Rows.{Span}
use Rattle.grammar.specs.Table.{Table, row_count, rule_words, packed_from, resolve_table, words_of, table_text}
use Rattle.grammar.specs.Steps.{each}
use Rattle.grammar.specs.Refusals.{max_rules, names, too_large}
use Rattle.grammar.proofs.TopDown.{each_names}
use Rattle.names.specs.Names.{NamesInside, AllIndexed}
use Rattle.names.proofs.Finding.{index_moved}
use Rattle.writing.specs.declared.Place.{Place}
use Rattle.skipper.specs.Lends as skipper
use Rattle.admission.specs.Ready.{Ready}
use Rattle.passes.specs.Passes.{step_of, Lent, Holds, Front, Passing, PassAnswer}
use Rattle.passes.proofs.Tables.{rules_length, each_length, resolve_length}
use Rattle.turns.specs.Chain.{Sized, Works, Stood, Stands, Turning, Turns, Paired, Restoring, SevenAnswer, rows_of, seven_of, after, rotated, skipped, unrolled, concatenated, factored, listed, restored, all_seven}
use Rattle.turns.specs.declared.Two.{Two}
use Rattle.turns.specs.declared.Seven.{Seven}
use Rattle.turns.proofs.Fronts.{front_is}
use Rattle.turns.proofs.Sizes.{sized_room, pass_stood, stood_rows, count_after}
use Rattle.turns.proofs.Asking.{asks_free, asks_two, asks_three, zeros_one, zeros_two}
use Rattle.turns.proofs.Turns.{holds_part}

-- the second of two turns
pub second_turn : {step next : ℕ} {rs₀ ws₀ : List ℕ} {text₀ : Bytes} {marks : List ℕ} {n : ℕ} {a b : Option Place} {os o s os₂ o₂ s₂ os' o' s' : List ℕ} {large : Bool} (k : Turns step next rs₀ ws₀ text₀ marks n a os o s os₂ o₂ s₂) → Sized os' o' s' → Stood b large (after step (resolve_table text₀ k.first.given) k.first.stands.table) os' o' s' → Turning next rs₀ ws₀ text₀ marks n b os' o' s' os o s
second_turn {step} {text₀ = text₀} {n = n} k z f =
    let t : Table Bytes = k.first.stands.table in
    let look : Table Bytes = resolve_table text₀ k.first.given in
    record {
      given = k.first.given;
      lent = k.first.lent;
      stands = record { table = after step look t; large = _; stood = f; count = count_after step n look t k.first.stands.count; works = record { one = z; other = k.first.stands.works.one } };
      asks = k.asks₂;
    }

-- the index of a table's names is that of a packed table with these names
moved : (t : Table Span) (u : Table Bytes) {rules : List ℕ} {text : Bytes} {m : List ℕ} {n : ℕ} {q : Place} {os o s : List ℕ} → n ≡ length u * rule_width → Front q u os o s → rule_words t ≡ rules → names u ≡ names (resolve_table text t)
    → AllIndexed rules text m → AllIndexed (take n os) (take q.text s) m
moved t u {rules} {text} {m} {n} {q} {os} {o} {s} c f e g d =
    let h = holds_part u n c f in
    subst (λ (x : List ℕ). AllIndexed x (take q.text s) m) h.rules
    (index_moved t (packed_from 0 u) (ap names (front_is u f) ∙ g)
    (subst (λ (x : List ℕ). NamesInside x (length (take q.text s))) (sym h.rules) h.names)
    (subst (λ (x : List ℕ). AllIndexed x text m) (sym e) d))

listed_names : (t : Table Bytes) → names (listed t) ≡ names t
listed_names t = simp each_names

-- whether one of the tables up to a step is too large
module _ (t : Table Bytes) where
  abbrev pub large3 : Bool
  large3 = (too_large (rotated t) || too_large (skipped t)) || too_large (unrolled t)

  abbrev pub large5 : Bool
  large5 = (large3 || too_large (concatenated t)) || too_large (factored t)

  abbrev pub large6 : Bool
  large6 = large5 || too_large (listed t)

-- a table that is lent and ready
module _ {rules rows : List ℕ} {text : Bytes} {marks : List ℕ} (r : Ready rules rows text marks) where
  pub ready_lent : Lent r.given.table rules rows
  ready_lent = record { rules = sym r.given.lent.heads; rows = sym r.given.lent.trees }

  -- every table of these words
  module _ (t : Table Span) (l : Lent t rules rows) where
    abbrev t0 : Table Bytes
    t0 = resolve_table text t

    pub ready_given : skipper.Lent rules rows t
    ready_given = record { heads = sym l.rules; trees = sym l.rows }

    ready_holds : Holds t rules rows text
    ready_holds = record { rules = l.rules; rows = l.rows; inside = r.given.inside; names = r.given.index.inside }

    ready_count : length rules ≡ length t0 * rule_width
    ready_count = omega (arith, ap length l.rules, rules_length t, resolve_length text t)

    ready_few : length t0 ≤ max_rules
    ready_few = omega (arith, ready_count, r.few)

    -- the rules of every table are as many
    pub rotated_count : length rules ≡ length (rotated t0) * rule_width
    rotated_count = count_after 1 (length rules) t0 t0 ready_count

    skipped_count : length rules ≡ length (skipped t0) * rule_width
    skipped_count = count_after 2 (length rules) t0 (rotated t0) rotated_count

    pub unrolled_count : length rules ≡ length (unrolled t0) * rule_width
    unrolled_count = count_after 3 (length rules) t0 (skipped t0) skipped_count

    concatenated_count : length rules ≡ length (concatenated t0) * rule_width
    concatenated_count = count_after 4 (length rules) t0 (unrolled t0) unrolled_count

    pub factored_count : length rules ≡ length (factored t0) * rule_width
    factored_count = count_after 5 (length rules) t0 (concatenated t0) concatenated_count

    pub listed_count : length rules ≡ length (listed t0) * rule_width
    listed_count = count_after 6 (length rules) t0 (factored t0) factored_count

    pub restored_count : length rules ≡ length (restored t0) * rule_width
    restored_count = count_after 7 (length rules) (listed t0) (listed t0) listed_count

    pub first_stood : (a : Option Place) {os o s os' o' s' : List ℕ} → Sized os o s → Sized os' o' s' → ((gs ts : Table Span) → Lent gs rules rows → Holds ts rules rows text → PassAnswer a (each (step_of 1 (resolve_table text gs)) (resolve_table text ts)) os o s os' o' s') → Stood a (too_large (rotated t0)) (rotated t0) os' o' s'
    first_stood a z z' h = pass_stood a (rotated t0) refl z z' (omega (arith, ready_few, each_length (step_of 1 t0) t0)) (h t t l ready_holds)

  -- step 1
  pub first_passing : {os o s : List ℕ} → Sized os o s → Passing 1 rules rows text marks rules rows text os o s
  first_passing z =
      let t = r.given.table in
      record {
        given = t;
        lent = ready_lent;
        table = t;
        holds = ready_holds t ready_lent;
        fits = λ _. sized_room (resolve_table text t) z (ready_few t ready_lent) (r.fits t r.given.lent);
        asks = asks_free rules rows text marks rows text (λ e. omega (arith, e)) (λ e. omega (arith, e)) (λ e. omega (arith, e)) t;
      }

  pub first_rules : {os o s : List ℕ} → Sized os o s → length rules ≤ length os
  first_rules z = omega (arith, r.few, z.rules)

  -- what stands after steps, for every table of these words
  pub record Came (P : Table Bytes → Type 0) (os o s os₂ o₂ s₂ : List ℕ) : Type 0 where
    pub works : Works os o s os₂ o₂ s₂
    pub stood : (t : Table Span) → Lent t rules rows → P (resolve_table text t)

  module _ (a : Option Place) (os o s : List ℕ) where
    abbrev pub After1 : (os₂ o₂ s₂ : List ℕ) → Type 0
    After1 = Came (λ t. Stood a (too_large (rotated t)) (rotated t) os o s) os o s

    abbrev pub After6 : (os₂ o₂ s₂ : List ℕ) → Type 0
    After6 = Came (λ t. Stood a (large6 t) (listed t) os o s) os o s

  module _ (a : Two) (os o s : List ℕ) where
    abbrev pub After3 : (os₂ o₂ s₂ : List ℕ) → Type 0
    After3 = Came (λ t. Paired a (too_large (rotated t)) (skipped t) (unrolled t) os o s) os o s

    abbrev pub After5 : (os₂ o₂ s₂ : List ℕ) → Type 0
    After5 = Came (λ t. Paired a (large3 t) (concatenated t) (factored t) os o s) os o s

  -- steps 2 and 3, 4 and 5, 6, put on the table that is lent
  abbrev base : Table Bytes
  base = resolve_table text r.given.table

  abbrev stands : {a : Option Place} {large : Bool} (u : Table Bytes) {os o s os₂ o₂ s₂ : List ℕ} → length rules ≡ length u * rule_width → Works os o s os₂ o₂ s₂ → Stood a large u os o s → Stands (length rules) a os o s os₂ o₂ s₂
  stands u e z f = record { table = u; large = _; stood = f; count = e; works = z }

  pub skip_turns : {a : Option Place} {os o s os₂ o₂ s₂ : List ℕ} → After1 a os o s os₂ o₂ s₂ → Turns 2 3 rules rows text marks (length rules) a os o s os₂ o₂ s₂
  skip_turns k =
      let t = r.given.table in
      let t2 : Table Bytes = skipped base in
      record {
        first = record { given = t; lent = ready_lent; stands = stands (rotated base) (rotated_count t ready_lent) k.works (k.stood t ready_lent); asks = asks_two r.given t ready_lent (r.lists t r.given.lent) };
        asks₂ = asks_three rules rows text marks (words_of t2).rows (table_text t2) t2 (zeros_two base (rotated base) (zeros_one base base (r.zeros t r.given.lent)));
      }

  abbrev free_turning : {step : ℕ} {a : Option Place} {large : Bool} (u : Table Bytes) {os o s os₂ o₂ s₂ : List ℕ} → (step ≡ 2 → ⊥) → (step ≡ 3 → ⊥) → (step ≡ 7 → ⊥) → length rules ≡ length u * rule_width → Works os o s os₂ o₂ s₂ → Stood a large u os o s → Turning step rules rows text marks (length rules) a os o s os₂ o₂ s₂
  free_turning u x y v e z f = record { given = r.given.table; lent = ready_lent; stands = stands u e z f; asks = asks_free rules rows text marks (words_of u).rows (table_text u) x y v (packed_from 0 u) }

  pub join_turns : {a : Two} {os o s os₂ o₂ s₂ : List ℕ} → After3 a os o s os₂ o₂ s₂ → Turns 4 5 rules rows text marks (length rules) a.last os o s os₂ o₂ s₂
  join_turns k =
      let t = r.given.table in
      let t4 : Table Bytes = concatenated base in
      record {
        first = free_turning (unrolled base) (λ e. omega (arith, e)) (λ e. omega (arith, e)) (λ e. omega (arith, e)) (unrolled_count t ready_lent) k.works (k.stood t ready_lent).stood;
        asks₂ = asks_free rules rows text marks (words_of t4).rows (table_text t4) (λ e. omega (arith, e)) (λ e. omega (arith, e)) (λ e. omega (arith, e)) (packed_from 0 t4);
      }

  pub list_turning : {a : Two} {os o s os₂ o₂ s₂ : List ℕ} → After5 a os o s os₂ o₂ s₂ → Turning 6 rules rows text marks (length rules) a.last os o s os₂ o₂ s₂
  list_turning k = let t = r.given.table in free_turning (factored base) (λ e. omega (arith, e)) (λ e. omega (arith, e)) (λ e. omega (arith, e)) (factored_count t ready_lent) k.works (k.stood t ready_lent).stood

  -- step 7: the marks index the names of every table, since no step changes a name
  pub restoring : {a : Option Place} {os o s os₂ o₂ s₂ : List ℕ} → After6 a os o s os₂ o₂ s₂ → Restoring marks (length rules) a os o s os₂ o₂ s₂
  restoring k =
      let t = r.given.table in
      let f = k.stood t ready_lent in
      let n = listed_count t ready_lent in
      record { stands = stands (listed base) n k.works f; index = λ q e. moved t (listed base) n (f.front q e) ready_lent.rules (listed_names base) r.given.index }

-- all seven
nested : (a b c d e f g : Bool) → ((((((a || b) || c) || d) || e) || f) || g) ≡ (a || (b || (c || (d || (e || (f || (g || false)))))))
nested true b c d e f g = refl
nested false true c d e f g = refl
nested false false true d e f g = refl
nested false false false true e f g = refl
nested false false false false true f g = refl
nested false false false false false true g = refl
nested false false false false false false true = refl
nested false false false false false false false = refl

first_of : (a b : Bool) → (a || b) ≡ false → a ≡ false
first_of true b h = h
first_of false b h = refl

pub seven_of_lem : {i j k l m n i' j' k' l' m' n' : ℕ} {w : Option Place} {y : Place} → i ≡ i' → j ≡ j' → k ≡ k' → l ≡ l' → m ≡ m' → n ≡ n' → w ≡ Some y → Some (record { rotated = i; skipped = j; unrolled = k; concatenated = l; factored = m; listed = n; place = y }) ≡ seven_of i' j' k' l' m' n' w
seven_of_lem a b c d e f g = rw (a, b, c, d, e, f, g) refl

module _ (t : Table Bytes) where
  pub seven_answer : {x : Option Seven} (p : Option Place) {q r : Two} (v w : Option Place) {os₁ o₁ s₁ os₃ o₃ s₃ os₅ o₅ s₅ os₆ o₆ s₆ os o s : List ℕ} → x ≡ seven_of (rows_of p) (rows_of q.first) (rows_of q.last) (rows_of r.first) (rows_of r.last) (rows_of v) w → Stood p (too_large (rotated t)) (rotated t) os₁ o₁ s₁ → Paired q (too_large (rotated t)) (skipped t) (unrolled t) os₃ o₃ s₃ → Paired r (large3 t) (concatenated t) (factored t) os₅ o₅ s₅ → Stood v (large6 t) (listed t) os₆ o₆ s₆ → Stood w ((large6 t) || too_large (restored t)) (restored t) os o s → SevenAnswer x (all_seven t) os o s
  seven_answer p {q} {r} v w {os = os} {o = o} {s = s} e a b c d f = subst (λ (y : Option Seven). SevenAnswer y (all_seven t) os o s) (sym e) (go w f)
    where
      all : ((large6 t) || too_large (restored t)) ≡ any too_large (all_seven t)
      all = nested (too_large (rotated t)) (too_large (skipped t)) (too_large (unrolled t)) (too_large (concatenated t)) (too_large (factored t)) (too_large (listed t)) (too_large (restored t))

      go : (w : Option Place) → Stood w ((large6 t) || too_large (restored t)) (restored t) os o s → SevenAnswer (seven_of (rows_of p) (rows_of q.first) (rows_of q.last) (rows_of r.first) (rows_of r.last) (rows_of v) w) (all_seven t) os o s
      go (Some y) f =
          let l7 : ((large6 t) || too_large (restored t)) ≡ false = f.fits y refl in
          let l6 : (large6 t) ≡ false = first_of (large6 t) _ l7 in
          let l5 : (large5 t) ≡ false = first_of (large5 t) _ l6 in
          let l4 : ((large3 t) || too_large (concatenated t)) ≡ false = first_of ((large3 t) || too_large (concatenated t)) _ l5 in
          let l3 : (large3 t) ≡ false = first_of (large3 t) _ l4 in
          let l2 : (too_large (rotated t) || too_large (skipped t)) ≡ false = first_of (too_large (rotated t) || too_large (skipped t)) _ l3 in
          let h1 : rows_of p ≡ row_count (rotated t) = stood_rows p a (first_of (too_large (rotated t)) _ l2) in
          let h2 : rows_of q.first ≡ row_count (skipped t) = b.rows l2 in
          let h3 : rows_of q.last ≡ row_count (unrolled t) = stood_rows q.last b.stood l3 in
          let h4 : rows_of r.first ≡ row_count (concatenated t) = c.rows l4 in
          let h5 : rows_of r.last ≡ row_count (factored t) = stood_rows r.last c.stood l5 in
          let h6 : rows_of v ≡ row_count (listed t) = stood_rows v d l6 in
          let h7 : y.rows ≡ row_count (restored t) = (f.front y refl).rows in
          record { counts = same h1 h2 h3 h4 h5 h6 h7; fits = sym all ∙ l7; front = f.front y refl }
        where
          same : {i j k l m n x i' j' k' l' m' n' x' : ℕ} → i ≡ i' → j ≡ j' → k ≡ k' → l ≡ l' → m ≡ m' → n ≡ n' → x ≡ x' → ◌≡◌ {A = List ℕ} (i ∷ j ∷ k ∷ l ∷ m ∷ n ∷ x ∷ []) (i' ∷ j' ∷ k' ∷ l' ∷ m' ∷ n' ∷ x' ∷ [])
          same a b c d e f g = cc
      go None f = sym all ∙ f.full refl
