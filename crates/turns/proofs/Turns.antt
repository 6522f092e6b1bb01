-- A turn is a pass over the parts that hold the packed table. Assumes nothing.
use Rattle.std.specs.Prelude.{Option, Some}
use mathlib.Core.Path.{◌≡◌, refl, sym, ap, ◌∙◌, subst}
use mathlib.Core.Bool.{Bool, ◌||◌}
use mathlib.Core.List.{List}
use Prim.Native.Nat.{ℕ, ◌*◌, ◌/◌, ◌^◌, ◌≤◌, ◌<◌}
use native.Mathlib.Omega.{arith}
use lib.ListN.{length, take}
use lib.Seq.{length-take-le, take_at}
use Rattle.grammar.specs.Numbers.{rule_width, row_width}
use Rattle.grammar.specs.Basic.{Bytes}
use Rattle.grammar.specs.Tree.{E}
use Rattle.grammar.specs.Table.{Table, packed_from, resolve_table, table_text}
use Rattle.grammar.specs.Refusals.{too_large}
use Rattle.grammar.specs.Steps.{each, restore}
use Rattle.grammar.specs.Optimize.{over}
use Rattle.names.specs.Names.{AllIndexed}
use Rattle.writing.specs.declared.Place.{Place}
use Rattle.packing.specs.Packing.{Covers}
use Rattle.restorer.specs.Lends.{Marked, Settles}
use Rattle.passes.specs.Passes.{AsksAll, Lent, Holds, Held, Front, Passing, TableFits, PassAnswer, step_of}
use Rattle.passes.proofs.Tables.{each_length}
use Rattle.turns.specs.Chain.{Sized, Stood, Stands, Turning, after}
use Rattle.turns.proofs.Fronts.{holds_front, front_is, front_within}
use Rattle.turns.proofs.Sizes.{sized_same, sized_room, front_few, front_fine, front_stood, pass_stood}
use Rattle.turns.proofs.Asking.{asks_seven}

pub holds_part : {p : Place} (t : Table Bytes) {os o s : List ℕ} (n : ℕ) → n ≡ length t * rule_width → Front p t os o s → Holds (packed_from 0 t) (take n os) (take (p.rows * row_width) o) (take p.text s)
holds_part {p} t {os} {o} {s} n e f = subst (λ (k : ℕ). Holds (packed_from 0 t) (take k os) (take (p.rows * row_width) o) (take p.text s)) (sym e) (holds_front t f)

-- a table that stands up to a place
module _ {n : ℕ} {a : Option Place} {os o s os₂ o₂ s₂ : List ℕ} (k : Stands n a os o s os₂ o₂ s₂) {p : Place} (e : a ≡ Some p) where
  stands_front : Front p k.table os o s
  stands_front = k.stood.front p e

  stands_room : TableFits k.table os₂ o₂ s₂
  stands_room = sized_room k.table k.works.other (front_few k.table k.works.one stands_front) (front_fine k.table k.works.one stands_front)

  pub stands_within : (n ≤ length os) × (p.rows * row_width ≤ length o) × (p.text ≤ length s)
  stands_within = let w = front_within k.table stands_front in (omega (arith, w.0, k.count), w.1, w.2)

  pub stands_holds : Holds (packed_from 0 k.table) (take n os) (take (p.rows * row_width) o) (take p.text s)
  stands_holds = holds_part k.table n k.count stands_front

  pub stands_held : Held (take n os) (take (p.rows * row_width) o) (take p.text s)
  stands_held = record { table = packed_from 0 k.table; holds = stands_holds }

  pub stands_covers : Covers n p os o s os₂ o₂ s₂
  stands_covers =
      let w = stands_within in
      let f : Front p k.table os o s = stands_front in
      let h : TableFits k.table os₂ o₂ s₂ = stands_room in
      record {
        heads = w.0;
        rows = w.1;
        text = w.2;
        out_rules = omega (arith, k.count, h.rules);
        out_rows = omega (arith, f.rows, h.rows);
        out_text = omega (arith, f.text, h.text);
      }

  -- its rules have room
  pub stands_few : length (take n os) ≤ length os₂
  stands_few = omega (arith, length-take-le n os stands_within.0, k.count, stands_room.rules)

  -- and what settling asks of its size
  pub stands_small : (length (take (p.rows * row_width) o) < 2 ^ 32) × (length (take n os) / rule_width ≤ length os₂)
  stands_small = (omega (arith, length-take-le (p.rows * row_width) o stands_within.1, stands_within.1, k.works.one.rows), omega (arith, stands_few))

  -- a pass over it, by a step that looks into a table that is lent
  stands_passing : {step : ℕ} {rs₀ ws₀ : List ℕ} {text₀ : Bytes} {marks : List ℕ} (gs : Table _) → Lent gs rs₀ ws₀ → AsksAll step rs₀ ws₀ text₀ marks (take (p.rows * row_width) o) (take p.text s) (packed_from 0 k.table) → Passing step rs₀ ws₀ text₀ marks (take n os) (take (p.rows * row_width) o) (take p.text s) os₂ o₂ s₂
  stands_passing gs l q =
      record {
        given = gs;
        lent = l;
        table = packed_from 0 k.table;
        holds = stands_holds;
        fits = λ _. subst (λ (t : Table Bytes). TableFits t os₂ o₂ s₂) (sym (front_is k.table stands_front)) stands_room;
        asks = q;
      }

  -- step 7, which looks into that very table
  pub stands_marked : {marks : List ℕ} → AllIndexed (take n os) (take p.text s) marks → Marked (take n os) (take (p.rows * row_width) o) (take p.text s) marks
  stands_marked d =
      let h = stands_holds in
      record {
        table = packed_from 0 k.table;
        lent = record { heads = h.rules; trees = h.rows };
        inside = h.inside;
        index = d;
      }

  pub restore_passing : {marks : List ℕ} → Marked (take n os) (take (p.rows * row_width) o) (take p.text s) marks → Settles (take n os) (take (p.rows * row_width) o) (take p.text s) marks → Passing 7 (take n os) (take (p.rows * row_width) o) (take p.text s) marks (take n os) (take (p.rows * row_width) o) (take p.text s) os₂ o₂ s₂
  restore_passing m z = let h = stands_holds in stands_passing (packed_from 0 k.table) (record { rules = h.rules; rows = h.rows }) (asks_seven m z (packed_from 0 k.table))

pub turn_passing : {step : ℕ} {rs₀ ws₀ : List ℕ} {text₀ : Bytes} {marks : List ℕ} {n : ℕ} {a : Option Place} {os o s os₂ o₂ s₂ : List ℕ} (k : Turning step rs₀ ws₀ text₀ marks n a os o s os₂ o₂ s₂) {p : Place} → a ≡ Some p → Passing step rs₀ ws₀ text₀ marks (take n os) (take (p.rows * row_width) o) (take p.text s) os₂ o₂ s₂
turn_passing {step} {rs₀} {ws₀} {text₀} {marks} {n} {a} {os} {o} {s} k {p} e =
    let t : Table Bytes = k.stands.table in
    let f : Front p t os o s = k.stands.stood.front p e in
    stands_passing k.stands e k.given k.lent (subst (λ (x : Bytes). AsksAll step rs₀ ws₀ text₀ marks (take (p.rows * row_width) o) x (packed_from 0 t)) (sym f.bytes) (subst (λ (w : List ℕ). AsksAll step rs₀ ws₀ text₀ marks w (table_text t) (packed_from 0 t)) (sym f.row_words_lem) k.asks))

-- the first area of the other work table may be another one, as long
pub stands_other : {n : ℕ} {a : Option Place} {os o s os₂ o₂ s₂ os₃ : List ℕ} → Stands n a os o s os₂ o₂ s₂ → length os₃ ≡ length os₂ → Stands n a os o s os₃ o₂ s₂
stands_other k e = record { table = k.table; large = k.large; stood = k.stood; count = k.count; works = record { one = k.works.one; other = sized_same e refl refl k.works.other } }

-- the table t, of n words of rules, stands up to p in front of three areas of full size
module _ {a : Option Place} {p : Place} (e : a ≡ Some p) {t : Table Bytes} {large : Bool} {os o s : List ℕ} (h : Stood a large t os o s) {n : ℕ} (c : n ≡ length t * rule_width) where
  held_front : Front p t os o s
  held_front = h.front p e

  pub held_rows : Holds (packed_from 0 t) (take n os) (take (p.rows * row_width) o) (take p.text s)
  held_rows = holds_part t n c held_front

  -- copied as it is
  copied_front : (os₂ o₂ s₂ os' o' s' : List ℕ) → os' ≡ over (take n os) os₂ → o' ≡ over (take (p.rows * row_width) o) o₂ → s' ≡ over (take p.text s) s₂ → Front p t os' o' s'
  copied_front os₂ o₂ s₂ os' o' s' x y z =
      let f : Front p t os o s = held_front in
      let w = front_within t f in
      record {
        rows = f.rows;
        text = f.text;
        rule_words_lem = ap (λ (k : ℕ). take k os') (sym c) ∙ ap (take n) x ∙ take_at (take n os) _ n (length-take-le n os (omega (arith, w.0))) ∙ ap (λ (k : ℕ). take k os) c ∙ f.rule_words_lem;
        row_words_lem = ap (take (p.rows * row_width)) y ∙ take_at (take (p.rows * row_width) o) _ (p.rows * row_width) (length-take-le (p.rows * row_width) o w.1) ∙ f.row_words_lem;
        bytes = ap (take p.text) z ∙ take_at (take p.text s) _ p.text (length-take-le p.text s w.2) ∙ f.bytes;
      }

  -- what a step gives that leaves it as it is
  same_stood : (u : Table Bytes) (os₂ o₂ s₂ : List ℕ) {os' o' s' : List ℕ} → Sized os' o' s' → os' ≡ over (take n os) os₂ → o' ≡ over (take (p.rows * row_width) o) o₂ → s' ≡ over (take p.text s) s₂ → u ≡ t → Stood (Some p) (large || too_large u) u os' o' s'
  same_stood u os₂ o₂ s₂ {os'} {o'} {s'} z i j k q = front_stood u (h.fits p e) z (subst (λ (x : Table Bytes). Front p x os' o' s') (sym q) (copied_front os₂ o₂ s₂ os' o' s' i j k))

  pub still_stood : (F : ℕ → E → E) (os₂ o₂ s₂ : List ℕ) {os' o' s' : List ℕ} → Sized os' o' s' → os' ≡ over (take n os) os₂ → o' ≡ over (take (p.rows * row_width) o) o₂ → s' ≡ over (take p.text s) s₂ → (let u = resolve_table (take p.text s) (packed_from 0 t) in each F u ≡ u) → Stood (Some p) (large || too_large (each F t)) (each F t) os' o' s'
  still_stood F os₂ o₂ s₂ z i j k q = same_stood (each F t) os₂ o₂ s₂ z i j k (subst (λ (x : Table Bytes). each F x ≡ x) (front_is t held_front) q)

  pub unrestored_stood : (os₂ o₂ s₂ : List ℕ) {os' o' s' : List ℕ} → Sized os' o' s' → os' ≡ over (take n os) os₂ → o' ≡ over (take (p.rows * row_width) o) o₂ → s' ≡ over (take p.text s) s₂ → (let u = resolve_table (take p.text s) (packed_from 0 t) in each (λ _. restore u) u ≡ u) → Stood (Some p) (large || too_large (after 7 t t)) (after 7 t t) os' o' s'
  unfolding step_of
  unrestored_stood os₂ o₂ s₂ z i j k q = same_stood (after 7 t t) os₂ o₂ s₂ z i j k (subst (λ (x : Table Bytes). each (λ _. restore x) x ≡ x) (front_is t held_front) q)

  -- or that writes it anew
  pub turned_stood : (r : Option Place) (F : ℕ → E → E) {os₂ o₂ s₂ os' o' s' : List ℕ} → Sized os o s → Sized os₂ o₂ s₂ → Sized os' o' s' → PassAnswer r (each F (resolve_table (take p.text s) (packed_from 0 t))) os₂ o₂ s₂ os' o' s' → Stood r (large || too_large (each F t)) (each F t) os' o' s'
  turned_stood r F {os₂} {o₂} {s₂} {os'} {o'} {s'} z z₂ z' q =
      let f : Front p t os o s = held_front in
      pass_stood r (each F t) (h.fits p e) z₂ z' (omega (arith, each_length F t, front_few t z f)) (subst (λ (x : Table Bytes). PassAnswer r (each F x) os₂ o₂ s₂ os' o' s') (front_is t f) q)

  pub restored_stood : (r : Option Place) {os₂ o₂ s₂ os' o' s' : List ℕ} → Sized os o s → Sized os₂ o₂ s₂ → Sized os' o' s' → (let u = resolve_table (take p.text s) (packed_from 0 t) in PassAnswer r (each (step_of 7 u) u) os₂ o₂ s₂ os' o' s') → Stood r (large || too_large (after 7 t t)) (after 7 t t) os' o' s'
  restored_stood r {os₂} {o₂} {s₂} {os'} {o'} {s'} z z₂ z' q = turned_stood r (step_of 7 t) z z₂ z' (subst (λ (x : Table Bytes). PassAnswer r (each (step_of 7 x) (resolve_table (take p.text s) (packed_from 0 t))) os₂ o₂ s₂ os' o' s') (front_is t held_front) q)
