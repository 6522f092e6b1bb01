-- What each step asks of the table that it is put on, met in the order of the chain. Assumes nothing.
use mathlib.Core.Path.{◌≡◌, refl, sym, ap, ap₂, ◌∙◌, subst}
use mathlib.Core.Bool.{true≢false, Bool, true, false, ◌&&◌, ◌||◌, cond}
use mathlib.Core.List.{List, [], ◌∷◌}
use mathlib.Core.Option.{Option, none, some}
use Prim.Native.Nat.{ℕ, zero, suc}
use native.Mathlib.Omega.{arith}
use Rattle.grammar.specs.Basic.{Bytes, any, or_else}
use Rattle.grammar.specs.Tree.{Bin, Seq, Choice, E, lit, fixed, skip, un, bin, size, any_node}
use Rattle.grammar.specs.Rows.{Span}
use Rattle.grammar.specs.Table.{Rule, Table, table_text, packed_from, resolve_table, words_of}
use Rattle.grammar.specs.Text.{resolve}
use Rattle.grammar.specs.Lists.{skip_list, loop_over, as_strings}
use Rattle.grammar.specs.Steps.{children, top_down_in, or_same, is_atomic, rotated, rotate_at, rotate, skip?, skip_to, each}
use Rattle.grammar.specs.Refusals.{zero_un, zero_count, zero_counts}
use Rattle.grammar.specs.Optimize.{stages}
use Rattle.grammar.proofs.Logic.{some_eq, bind_case}
use Rattle.grammar.proofs.Packing.{table_resolved}
use Rattle.skipper.proofs.Words.{same_words}
use Rattle.skipper.specs.Memory.{by_marks}
use Rattle.skipper.specs.Lends.{Given, lists_of}
use Rattle.skipper.specs.Skips as skipper
use Rattle.skipper.specs.Lists.{Lists, unread_at}
use Rattle.restorer.specs.Lends.{Marked, Settles}
use Rattle.passes.specs.Passes.{Asks, AsksAll, Lent, step_of}
use Rattle.turns.specs.Chain.{after, all_seven}
use Rattle.turns.proofs.Fronts.{packed_zeros}

-- what is asked of each rule, asked of a table
pub asks_all : {step : ℕ} {rs₀ ws₀ : List ℕ} {text₀ : Bytes} {marks ws : List ℕ} {text : Bytes} → ((r : Rule Span) → Asks step r.type rs₀ ws₀ text₀ marks ws text r.body) → (t : Table Span) → AsksAll step rs₀ ws₀ text₀ marks ws text t
asks_all h [] = tt
asks_all h (r ∷ t) = (h r, asks_all h t)

-- steps other than skip, unroll and restore ask nothing
pub asks_free : {step : ℕ} (rs₀ ws₀ : List ℕ) (text₀ : Bytes) (marks ws : List ℕ) (text : Bytes) → (step ≡ 2 → ⊥) → (step ≡ 3 → ⊥) → (step ≡ 7 → ⊥) → (t : Table Span) → AsksAll step rs₀ ws₀ text₀ marks ws text t
asks_free rs₀ ws₀ text₀ marks ws text a b c t =
    asks_all (λ r.
    record {
      counts = λ e. absurd (b e);
      given = λ e. absurd (a e);
      settles = λ e. absurd (a e);
      marked = λ e. absurd (c e);
      known = λ e. absurd (c e);
      same_rows = λ e. absurd (c e);
      same_text = λ e. absurd (c e);
    })
    t

-- restore, on a table whose marks are settled
pub asks_seven : {rs ws : List ℕ} {text : Bytes} {marks : List ℕ} → Marked rs ws text marks → Settles rs ws text marks → (t : Table Span) → AsksAll 7 rs ws text marks ws text t
asks_seven m s t =
    asks_all (λ r.
    record {
      counts = λ e. absurd (omega arith);
      given = λ e. absurd (omega arith);
      settles = λ e. absurd (omega arith);
      marked = λ _. m;
      known = λ _. s;
      same_rows = λ _. refl;
      same_text = λ _. refl;
    })
    t

-- the document's stages, by the steps' numbers
pub stages_are : (t : Table Bytes) → stages t ≡ t ∷ all_seven t
unfolding stages step_of
stages_are t = refl

-- ONE TABLE IS LENT
pub unique_table : {t u : Table Span} {rs ws : List ℕ} → Lent t rs ws → Lent u rs ws → t ≡ u
unique_table {t} {u} a b = same_words t u (a.rules ∙ sym b.rules) (a.rows ∙ sym b.rows)

-- Rotate and skip make no zero count

neither : (a b : Bool) → (a || b) ≡ false → (a ≡ false) × (b ≡ false)
neither true b h = absurd (true≢false h)
neither false b h = (refl, h)

abbrev Counted : E → Type 0
Counted e = any_node zero_count e ≡ false

abbrev Keeping : (E → E) → Type 0
Keeping f = (e : E) → Counted e → Counted (f e)

children_counted : (g : E → E) → Keeping g → Keeping (children g)
children_counted g h (lit k w) c = refl
children_counted g h (fixed f) c = refl
children_counted g h (skip ss) c = refl
children_counted g h (un u e) c = let p = neither (zero_un u) (any_node zero_count e) c in ap₂ ◌||◌ p.0 (h e p.1)
children_counted g h (bin b l r) c = let p = neither (any_node zero_count l) (any_node zero_count r) c in ap₂ ◌||◌ (h l p.0) (h r p.1)

top_down_counted : (f : E → E) → Keeping f → (n : ℕ) → Keeping (top_down_in n f)
top_down_counted f h zero e c = c
top_down_counted f h (suc n) e c = children_counted (top_down_in n f) (top_down_counted f h n) (f e) (h e c)

rotated_counted : (b : Bin) (l r : E) → Counted l → Counted r → Counted (rotated b l r)
rotated_counted b (lit k w) r c d = d
rotated_counted b (fixed f) r c d = d
rotated_counted b (skip ss) r c d = d
rotated_counted b (un u e) r c d = ap₂ ◌||◌ c d
rotated_counted Seq (bin Seq x y) r c d = let p = neither (any_node zero_count x) (any_node zero_count y) c in rotated_counted Seq x (bin Seq y r) p.0 (ap₂ ◌||◌ p.1 d)
rotated_counted Seq (bin Choice x y) r c d = ap₂ ◌||◌ c d
rotated_counted Choice (bin Seq x y) r c d = ap₂ ◌||◌ c d
rotated_counted Choice (bin Choice x y) r c d = let p = neither (any_node zero_count x) (any_node zero_count y) c in rotated_counted Choice x (bin Choice y r) p.0 (ap₂ ◌||◌ p.1 d)

rotate_at_counted : Keeping rotate_at
rotate_at_counted (lit k w) c = c
rotate_at_counted (fixed f) c = c
rotate_at_counted (skip ss) c = c
rotate_at_counted (un u e) c = c
rotate_at_counted (bin b l r) c = let p = neither (any_node zero_count l) (any_node zero_count r) c in rotated_counted b l r p.0 p.1

rotate_counted : Keeping rotate
unfolding rotate
rotate_counted e c = top_down_counted rotate_at rotate_at_counted (size e) e c

skip?-counted : (look : Table Bytes) → Keeping (or_same (skip? look))
unfolding skip?
skip?-counted look e c = go (skip? look e) refl
  where
    go : (o : Option E) → skip? look e ≡ o → Counted (or_else o e)
    go none q = c
    go (some x) q = bind_case (loop_over e) _ x q λ y f g. bind_case (as_strings (skip_list look y)) _ x g λ ss k w. subst Counted (some_eq (skip ss) x w) refl

skip_counted : (look : Table Bytes) (y : ℕ) → Keeping (skip_to look y)
unfolding skip_to
skip_counted look y e c = go (is_atomic y)
  where
    go : (b : Bool) → Counted (cond b (top_down_in (size e) (or_same (skip? look)) e) e)
    go true = top_down_counted (or_same (skip? look)) (skip?-counted look) (size e) e c
    go false = c

each_counted : (f : ℕ → E → E) → ((y : ℕ) → Keeping (f y)) → (t : Table Bytes) → zero_counts t ≡ false → zero_counts (each f t) ≡ false
unfolding zero_counts
each_counted f h [] c = refl
each_counted f h (r ∷ t) c = let p = neither (any_node zero_count r.body) (zero_counts t) c in ap₂ ◌||◌ (h r.type r.body p.0) (each_counted f h t p.1)

pub zeros_rotate : (t : Table Bytes) → zero_counts t ≡ false → zero_counts (each (λ _. rotate) t) ≡ false
zeros_rotate t c = each_counted (λ _. rotate) (λ _. rotate_counted) t c

pub zeros_skip : (look t : Table Bytes) → zero_counts t ≡ false → zero_counts (each (skip_to look) t) ≡ false
zeros_skip look t c = each_counted (skip_to look) (skip_counted look) t c

pub zeros_one : (look t : Table Bytes) → zero_counts t ≡ false → zero_counts (each (step_of 1 look) t) ≡ false
unfolding step_of
zeros_one look t c = zeros_rotate t c

pub zeros_two : (look t : Table Bytes) → zero_counts t ≡ false → zero_counts (each (step_of 2 look) t) ≡ false
unfolding step_of
zeros_two look t c = zeros_skip look t c

-- unroll, on a table with no zero count
asks_counts : (rs₀ ws₀ : List ℕ) (text₀ : Bytes) (marks ws : List ℕ) (text : Bytes) (t : Table Span) → zero_counts t ≡ false → AsksAll 3 rs₀ ws₀ text₀ marks ws text t
unfolding zero_counts
asks_counts rs₀ ws₀ text₀ marks ws text [] c = tt
asks_counts rs₀ ws₀ text₀ marks ws text (r ∷ t) c =
    let p = neither (any_node zero_count r.body) (zero_counts t) c in (
      record {
        counts = λ _. p.0;
        given = λ e. absurd (omega arith);
        settles = λ e. absurd (omega arith);
        marked = λ e. absurd (omega arith);
        known = λ e. absurd (omega arith);
        same_rows = λ e. absurd (omega arith);
        same_text = λ e. absurd (omega arith);
      },
      asks_counts rs₀ ws₀ text₀ marks ws text t p.1,
    )

pub asks_three : (rs₀ ws₀ : List ℕ) (text₀ : Bytes) (marks ws : List ℕ) (text : Bytes) (t : Table Bytes) → zero_counts t ≡ false → AsksAll 3 rs₀ ws₀ text₀ marks ws text (packed_from 0 t)
asks_three rs₀ ws₀ text₀ marks ws text t c = asks_counts rs₀ ws₀ text₀ marks ws text (packed_from 0 t) (packed_zeros 0 t ∙ c)

-- skip, on the rotated table, whose loops the marks settle

abbrev any_loop : (E → Bool) → Table Bytes → Bool
any_loop p t = any (λ r. is_atomic r.type && any_node p r.body) t

rotated_loops : (p : E → Bool) (t : Table Bytes) → any_loop p (each (λ _. rotate) t) ≡ any (λ r. is_atomic r.type && any_node p (rotate r.body)) t
rotated_loops p [] = refl
rotated_loops p (r ∷ t) = ap (λ (b : Bool). (is_atomic r.type && any_node p (rotate r.body)) || b) (rotated_loops p t)

atomic : (y : ℕ) (b : Bool) → y ≡ 2 → (is_atomic y && b) ≡ false → b ≡ false
atomic y b e h = rw e at h

module _ {rs₀ ws₀ : List ℕ} {text₀ : Bytes} {marks : List ℕ} (g : Given rs₀ ws₀ text₀ marks) (gs : Table Span) (l : Lent gs rs₀ ws₀) (ls : Lists (resolve_table text₀ gs) marks) where
  abbrev unread : E → Bool
  unread = unread_at (by_marks (lists_of (resolve_table text₀ gs) marks))

  abbrev turned : Table Bytes
  turned = each (step_of 1 (resolve_table text₀ gs)) (resolve_table text₀ gs)

  settled_all : any_loop unread turned ≡ false
  unfolding step_of
  settled_all = rotated_loops unread (resolve_table text₀ gs) ∙ ls.settled

  asks_loops : (ws : List ℕ) (text : Bytes) (t : Table Span) → any_loop unread (resolve_table text t) ≡ false → AsksAll 2 rs₀ ws₀ text₀ marks ws text t
  asks_loops ws text [] h = tt
  asks_loops ws text (r ∷ t) h =
      let p = neither (is_atomic r.type && any_node unread (resolve text r.body)) (any_loop unread (resolve_table text t)) h in (
        record {
          counts = λ e. absurd (omega arith);
          given = λ _. g;
          settles = λ _ y us m. subst (λ (x : Table Span). skipper.Settles (resolve_table text₀ x) marks (resolve text r.body)) (unique_table l m) (record { targets = ls.targets; known = ls.known; settled = atomic r.type (any_node unread (resolve text r.body)) y p.0 });
          marked = λ e. absurd (omega arith);
          known = λ e. absurd (omega arith);
          same_rows = λ e. absurd (omega arith);
          same_text = λ e. absurd (omega arith);
        },
        asks_loops ws text t p.1,
      )

  asks_turned : AsksAll 2 rs₀ ws₀ text₀ marks (words_of turned).rows (table_text turned) (packed_from 0 turned)
  asks_turned = asks_loops (words_of turned).rows (table_text turned) (packed_from 0 turned) (ap (any_loop unread) (table_resolved turned) ∙ settled_all)

pub asks_two : {rs₀ ws₀ : List ℕ} {text₀ : Bytes} {marks : List ℕ} → Given rs₀ ws₀ text₀ marks → (gs : Table Span) → Lent gs rs₀ ws₀ → Lists (resolve_table text₀ gs) marks → let t0 = resolve_table text₀ gs in let t1 : Table Bytes = after 1 t0 t0 in AsksAll 2 rs₀ ws₀ text₀ marks (words_of t1).rows (table_text t1) (packed_from 0 t1)
asks_two g gs l ls = asks_turned g gs l ls
