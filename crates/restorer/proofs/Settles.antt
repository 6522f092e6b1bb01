-- The look into a rule: while it is open its rules lead to it, and when it is left its group is settled or stays on the stack. Assumes nothing.
use mathlib.Core.Path.{◌≡◌, refl, sym, ap, ◌∙◌, subst}
use mathlib.Core.Bool.{false≢true, Bool, true, false, ◌&&◌, not, cond}
use mathlib.Core.List.{List}
use mathlib.Core.Option.{some}
use mathlib.Core.Logic.{◌⊎◌, inl, inr}
use Prim.Native.Nat.{ℕ, zero, suc, ◌+◌, ◌-◌, ◌≤◌, ◌<◌}
use native.Mathlib.Decide.{ℕ_discrete, dec_lt}
use native.Mathlib.Omega.{arith}
use lib.ListN.{length, get_elem?}
use lib.Dec.{leb}
use borrow.Author.Tests.{leb-true, leb-false}
use Rattle.grammar.specs.Basic.{Bytes, member}
use Rattle.grammar.specs.Tree.{E, Un, un, is_un}
use Rattle.grammar.specs.Table.{Rule, Table}
use Rattle.grammar.specs.Stack.{stack_names, Reaches, at_push, at_name, through, down, left, right, changes_in}
use Rattle.grammar.proofs.Logic.{none_some, some_eq, or_left}
use Rattle.restorer.specs.Search.{OPEN, state_of, memory_of, is_quiet, loud, Quiet, Right, RuleReaches, Reach, Kept, Searches, Closed, nowhere, Changing, Passing, Walked, Looked, RuleSettled}
use Rattle.restorer.specs.Stacks.{Stacked, top_of, Closes, Leaves}
use Rattle.restorer.specs.Walks.{position_of}
use Rattle.restorer.specs.declared.Outcome.{Outcome}
use Rattle.restorer.specs.declared.Outcome.TheVariants.{Reached, Silent}
use Rattle.restorer.proofs.Memories.{or_no_left, or_no_right, quiet_state, state_quiet, not_loud, Unknown, Known, known, inside_rule, stays_quiet, kept_none, searches_none, closed_none}
use Rattle.restorer.proofs.Marks.{Sets}

clash : {P : Type 0} {b : Bool} → b ≡ true → b ≡ false → P
clash p q = absurd (false≢true (sym q ∙ p))

down_quiet : (look : Bytes → Bool) (u : Un) (e : E) → is_un 19 u ≡ false → changes_in look (un u e) ≡ false → changes_in look e ≡ false
down_quiet look u e p h = subst (λ (b : Bool). (not b && changes_in look e) ≡ false) p (or_no_right (is_un 18 u) (not (is_un 19 u) && changes_in look e) h)

-- what is quiet, over rules that are closed, reaches no change
module _ (t : Table Bytes) (m : List ℕ) (from : ℕ) (right' : Right t m) (closed : (i : ℕ) (r : Rule Bytes) → get_elem? t i ≡ some r → OPEN + from ≤ state_of m i → Quiet t m from r.body) where
  settles : (e : E) → Reaches t e → Quiet t m from e → ⊥
  settles e (at_push {e = y}) q = clash {b = true} refl q
  settles e (at_name {x = x} h) q = clash (or_left (member x stack_names) _ h) q
  settles e (through {x = x} {e = y} f r) q = go (settles y r) (known t x)
    where
      quiet : is_quiet from (memory_of t m x) ≡ true
      quiet = not_loud from (memory_of t m x) (or_no_right (member x stack_names) (loud t m from x) q)

      at : (k : Known t x) → (Quiet t m from y → ⊥) → y ≡ k.rule.body → (state_of m k.place ≡ 2) ⊎ (OPEN + from ≤ state_of m k.place) → ⊥
      at k ih e (inl s) = right'.no k.place k.rule k.is s (rw e at r)
      at k ih e (inr s) = ih (rw e (closed k.place k.rule k.is s))

      go : (Quiet t m from y → ⊥) → Unknown t x ⊎ Known t x → ⊥
      go ih (inl u) = none_some (sym u.finds ∙ f)
      go ih (inr k) = at k ih (some_eq _ _ (sym f ∙ k.finds)) (quiet_state from (state_of m k.place) (sym (ap (is_quiet from) (k.memory m)) ∙ quiet))
  settles e (down {u = u} {e = y} p r) q = settles y r (down_quiet (loud t m from) u y p q)
  settles e (left {l = l} {r = r} p) q = settles l p (or_no_left (changes_in (loud t m from) l) (changes_in (loud t m from) r) q)
  settles e (right {l = l} {r = r} p) q = settles r p (or_no_right (changes_in (loud t m from) l) (changes_in (loud t m from) r) q)

-- ---- the rules from a position on are settled

module _ (t : Table Bytes) {m m' st : List ℕ} {from to : ℕ} (c : Closes (length t) m m' st from to) where
  -- a memory was turned, or is the same
  closes_case : (i : ℕ) → i < length t → (OPEN + from ≤ state_of m i × state_of m' i ≡ to) ⊎ (state_of m i < OPEN + from × state_of m' i ≡ state_of m i)
  closes_case i l = go (dec_lt (state_of m i) (OPEN + from))
    where
      go : Dec (state_of m i < OPEN + from) → (OPEN + from ≤ state_of m i × state_of m' i ≡ to) ⊎ (state_of m i < OPEN + from × state_of m' i ≡ state_of m i)
      go (yes h) = inr (h, c.kept i l h)
      go (no h) = let k : OPEN + from ≤ state_of m i = omega arith in inl (k, c.turned i l k)

  closes_right : Right t m → (to ≡ 1 → ⊥) → ((i : ℕ) → OPEN + from ≤ state_of m i → (r : Rule Bytes) → get_elem? t i ≡ some r → (to ≡ 2 → Reaches t r.body → ⊥) × (to ≡ 3 → Reaches t r.body)) → Right t m'
  closes_right h n f =
      record {
        states = λ i l. states i l (closes_case i l);
        no = λ i r is. never i r is (closes_case i (inside_rule t i r is));
        yes = λ i r is. ever i r is (closes_case i (inside_rule t i r is));
      }
    where
      Case : ℕ → Type 0
      Case i = (OPEN + from ≤ state_of m i × state_of m' i ≡ to) ⊎ (state_of m i < OPEN + from × state_of m' i ≡ state_of m i)

      states : (i : ℕ) → i < length t → Case i → state_of m' i ≡ 1 → ⊥
      states i l (inl p) e = n (sym p.1 ∙ e)
      states i l (inr p) e = h.states i l (sym p.1 ∙ e)

      never : (i : ℕ) (r : Rule Bytes) → get_elem? t i ≡ some r → Case i → state_of m' i ≡ 2 → Reaches t r.body → ⊥
      never i r is (inl p) e = (f i p.0 r is).0 (sym p.1 ∙ e)
      never i r is (inr p) e = h.no i r is (sym p.1 ∙ e)

      ever : (i : ℕ) (r : Rule Bytes) → get_elem? t i ≡ some r → Case i → state_of m' i ≡ 3 → Reaches t r.body
      ever i r is (inl p) e = (f i p.0 r is).1 (sym p.1 ∙ e)
      ever i r is (inr p) e = h.yes i r is (sym p.1 ∙ e)

-- ---- the look into a rule

-- one that is settled or on the stack
pub look_yes : {t : Table Bytes} {m : List ℕ} (i top : ℕ) → Right t m → state_of m i ≡ 3 → Looked (Reached top) t top m m i
look_yes i top h e = (omega arith, record { searches = searches_none h; reaches = λ r is. h.yes i r is e })

position_case : (v : ℕ) → (v ≡ 0 → ⊥) → (v ≡ 1 → ⊥) → (v ≡ 3 → ⊥) → ((v ≡ 2) × (position_of v ≡ nowhere)) ⊎ (v ≡ OPEN + position_of v)
position_case v a b c = go (leb OPEN v) refl
  where
    go : (d : Bool) → leb OPEN v ≡ d → ((v ≡ 2) × (cond d (v - OPEN) nowhere ≡ nowhere)) ⊎ (v ≡ OPEN + cond d (v - OPEN) nowhere)
    go true e = inr (omega (arith, leb-true OPEN v e))
    go false e = inl (two v a b c (leb-false OPEN v e), refl)
      where
        two : (n : ℕ) → (n ≡ 0 → ⊥) → (n ≡ 1 → ⊥) → (n ≡ 3 → ⊥) → n < OPEN → n ≡ 2
        two zero a b c l = absurd (a refl)
        two (suc zero) a b c l = absurd (b refl)
        two (suc (suc zero)) a b c l = refl
        two (suc (suc (suc zero))) a b c l = absurd (c refl)
        two (suc (suc (suc (suc n)))) a b c l = absurd (omega arith)

pub look_no : {t : Table Bytes} {m : List ℕ} (i top : ℕ) → i < length t → Right t m → (state_of m i ≡ 3 → ⊥) → (state_of m i ≡ 0 → ⊥) → Looked (Silent (position_of (state_of m i)) top) t top m m i
look_no {t} {m} i top l h n z = go (position_case (state_of m i) z (h.states i l) n)
  where
    low : ℕ
    low = position_of (state_of m i)

    go : ((state_of m i ≡ 2) × (position_of (state_of m i) ≡ nowhere)) ⊎ (state_of m i ≡ OPEN + position_of (state_of m i)) → Looked (Silent (position_of (state_of m i)) top) t top m m i
    go (inl p) = (omega (arith, p.0), record { searches = searches_none h; closed = closed_none t low m; quiet = state_quiet low (state_of m i) (inl p.0); leads = λ k. absurd (omega (arith, p.1)) })
    go (inr e) = (omega (arith, e), record { searches = searches_none h; closed = closed_none t low m; quiet = state_quiet low (state_of m i) (inr (omega (arith, e))); leads = λ k f. f i e })

-- one that was not seen comes to position `top`, and its rows are walked
module _ {t : Table Bytes} {m m₁ : List ℕ} {i : ℕ} (top : ℕ) (rule : Rule Bytes) (is : get_elem? t i ≡ some rule) (z : state_of m i ≡ 0) (s : Sets m m₁ i (OPEN + top)) (h : Right t m) where
  pub open_right : Right t m₁
  open_right =
      record {
        states = λ j l. states j l (ℕ_discrete j i);
        no = λ j r k e. h.no j r k (same j e (omega arith) (ℕ_discrete j i));
        yes = λ j r k e. h.yes j r k (same j e (omega arith) (ℕ_discrete j i));
      }
    where
      states : (j : ℕ) → j < length t → Dec (j ≡ i) → state_of m₁ j ≡ 1 → ⊥
      states j l (yes e) q = omega (arith, ap (state_of m₁) e, s.here)
      states j l (no e) q = h.states j l (sym (s.others j e) ∙ q)

      same : (j : ℕ) {v : ℕ} → state_of m₁ j ≡ v → v < OPEN → Dec (j ≡ i) → state_of m j ≡ v
      same j q l (yes e) = absurd (omega (arith, ap (state_of m₁) e, s.here))
      same j q l (no e) = sym (s.others j e) ∙ q

  module _ {m₂ : List ℕ} (a : Searches t (top + 1) m₁ m₂) where
    below : i < length t
    below = inside_rule t i rule is

    still : state_of m₂ i ≡ OPEN + top
    still = a.kept.same i below (omega (arith, s.here)) ∙ s.here

    kept : Kept t m m₂
    kept = record { same = λ j l k. go j l k (ℕ_discrete j i) }
      where
        go : (j : ℕ) → j < length t → 1 ≤ state_of m j → Dec (j ≡ i) → state_of m₂ j ≡ state_of m j
        go j l k (yes e) = absurd (omega (arith, ap (state_of m) e))
        go j l k (no n) = a.kept.same j l (omega (arith, s.others j n)) ∙ s.others j n

    was : (j : ℕ) → j < length t → OPEN ≤ state_of m₂ j → state_of m₂ j < OPEN + top → state_of m j ≡ state_of m₂ j
    was j l lo hi = go (ℕ_discrete j i)
      where
        go : Dec (j ≡ i) → state_of m j ≡ state_of m₂ j
        go (yes e) = absurd (omega (arith, ap (state_of m₂) e, still))
        go (no n) = sym (s.others j n) ∙ a.was j l lo (omega arith)

    -- if it reaches a change, so do those that come after it
    searches : (Reach t m (λ v. OPEN ≤ v) → Reaches t rule.body) → Searches t top m m₂
    searches f = record { right = a.right; kept = kept; was = was; spreads = λ g. a.spreads (λ j l r k. go j l r k (f g) g (ℕ_discrete j i)) }
      where
        go : (j : ℕ) → OPEN ≤ state_of m₁ j → (r : Rule Bytes) → get_elem? t j ≡ some r → Reaches t rule.body → Reach t m (λ v. OPEN ≤ v) → Dec (j ≡ i) → Reaches t r.body
        go j l r k p g (yes e) = rw (some_eq _ _ (sym is ∙ (rw e at k))) at p
        go j l r k p g (no n) = g j (omega (arith, s.others j n)) r k

    this : Reaches t rule.body → RuleReaches t i
    this p r k = rw (some_eq _ _ (sym is ∙ k)) at p

    -- the rules that came to the stack, this one too
    closed_more : (low : ℕ) → Quiet t m₂ low rule.body → Closed t low m₁ m₂ → Closed t low m m₂
    closed_more low q c j r k e l = go (ℕ_discrete j i)
      where
        go : Dec (j ≡ i) → Quiet t m₂ low r.body
        go (yes n) = rw (some_eq _ _ (sym is ∙ (rw n at k))) at q
        go (no n) = c j r k (s.others j n ∙ e) l

  pub looked_yes : {m₂ : List ℕ} → Changing t (top + 1) m₁ m₂ (Reaches t rule.body) → Changing t top m m₂ (RuleReaches t i)
  looked_yes a = record { searches = searches a.searches (λ _. a.reaches); reaches = this a.searches a.reaches }

  module _ {m₂ : List ℕ} {low : ℕ} (a : Passing t (top + 1) low m₁ m₂ (Quiet t m₂ low rule.body) (Reaches t rule.body)) where
    -- left on the stack
    pub looked_open : low < top → top ≤ nowhere → Passing t top low m m₂ (is_quiet low (state_of m₂ i) ≡ true) (RuleReaches t i)
    looked_open l b =
        record {
          searches = searches a.searches (λ f. a.leads (omega arith) (λ j e r k. f j (omega (arith, was a.searches j (inside_rule t j r k) (omega arith) (omega arith))) r k));
          closed = closed_more a.searches low a.quiet a.closed;
          quiet = state_quiet low (state_of m₂ i) (inr (omega (arith, still a.searches)));
          leads = λ k f. this a.searches (a.leads k f);
        }

    -- settled with its group
    module _ {m₃ st : List ℕ} (lower : (j : ℕ) → j < length t → state_of m j < OPEN + top) (l : top ≤ low) (c : Closes (length t) m₂ m₃ st top 2) where
      quiet_all : (j : ℕ) (r : Rule Bytes) → get_elem? t j ≡ some r → OPEN + top ≤ state_of m₂ j → Quiet t m₂ top r.body
      quiet_all j r k v = stays_quiet (kept_none t m₂) l r.body (closed_more a.searches low a.quiet a.closed j r k (new (state_of m j) refl) (omega arith))
        where
          new : (n : ℕ) → state_of m j ≡ n → state_of m j ≡ 0
          new zero e = e
          new (suc n) e = let b = inside_rule t j r k in absurd (omega (arith, (kept a.searches).same j b (omega arith), lower j b))

      here : state_of m₃ i ≡ 2
      here = c.turned i (below a.searches) (omega (arith, still a.searches))

      was₃ : (j : ℕ) → j < length t → OPEN ≤ state_of m₃ j → state_of m j ≡ state_of m₃ j
      was₃ j b v = go (closes_case t c j b)
        where
          go : (OPEN + top ≤ state_of m₂ j × state_of m₃ j ≡ 2) ⊎ (state_of m₂ j < OPEN + top × state_of m₃ j ≡ state_of m₂ j) → state_of m j ≡ state_of m₃ j
          go (inl p) = absurd (omega (arith, p.1))
          go (inr p) = was a.searches j b (omega (arith, p.1)) p.0 ∙ sym p.1

      pub looked_closed : Passing t top nowhere m m₃ (is_quiet nowhere (state_of m₃ i) ≡ true) (RuleReaches t i)
      looked_closed =
          record {
            searches = record {
              right = closes_right t c a.searches.right (λ e. absurd (omega arith)) (λ j v r k. (λ _ p. settles t m₂ top a.searches.right quiet_all r.body p (quiet_all j r k v), λ e. absurd (omega arith)));
              kept = record { same = λ j b v. let e = (kept a.searches).same j b v in c.kept j b (omega (arith, e, lower j b)) ∙ e };
              was = λ j b v _. was₃ j b v;
              spreads = λ f j v r k. f j (omega (arith, was₃ j (inside_rule t j r k) v)) r k;
            };
            closed = λ j r k e v. absurd (omega (arith, was₃ j (inside_rule t j r k) v));
            quiet = state_quiet nowhere (state_of m₃ i) (inl here);
            leads = λ k. absurd (omega arith);
          }

  -- by the answer of the walk
  pub looked : (o b : Outcome) (m₂ m₃ st : List ℕ) → ((j : ℕ) → j < length t → state_of m j < OPEN + top) → top ≤ nowhere → Leaves o b top m₂ m₃ st → Stacked (length t) m₂ st (top_of o) → Walked o t (top + 1) m₁ m₂ rule.body → Looked b t top m m₃ i
  looked (Reached high) b m₂ m₃ st lower few (e, q) c a = rw (e, q) (omega (arith, still a.searches), looked_yes a)
  looked (Silent low high) b m₂ m₃ st lower few (inl (l, e, q)) c a = rw (e, q) (omega (arith, still a.searches), looked_open a l few)
  looked (Silent low high) b m₂ m₃ st lower few (inr (l, e, q)) c a = let d = q (length t) c in rw e (omega (arith, here a lower l d), looked_closed a lower l d)

-- ---- the end of a search from an empty stack

module _ {t : Table Bytes} {m m₁ m₂ st : List ℕ} {i : ℕ} (low : (j : ℕ) → j < length t → state_of m j ≤ 3) (below : i < length t) where
  pub ends_yes : (high : ℕ) → Looked (Reached high) t 0 m m₁ i → Closes (length t) m₁ m₂ st 0 3 → RuleSettled t m m₂ i
  ends_yes high a c =
      let s = a.1.searches in
      record {
        right = closes_right t c s.right (λ e. absurd (omega arith)) (λ j v r k. (λ e. absurd (omega arith), λ _. s.spreads (λ n b q is. absurd (omega (arith, low n (inside_rule t n q is)))) j v r k));
        here = go (closes_case t c i below);
        kept = record { same = λ j l h. let e = s.kept.same j l h in c.kept j l (omega (arith, e, low j l)) ∙ e };
      }
    where
      go : (OPEN + 0 ≤ state_of m₁ i × state_of m₂ i ≡ 3) ⊎ (state_of m₁ i < OPEN + 0 × state_of m₂ i ≡ state_of m₁ i) → 2 ≤ state_of m₂ i
      go (inl p) = omega (arith, p.1)
      go (inr p) = omega (arith, p.1, a.0)

-- a rule that is settled already
pub ends_settled : {t : Table Bytes} {m : List ℕ} {i : ℕ} → Right t m → i < length t → (state_of m i ≡ 0 → ⊥) → RuleSettled t m m i
ends_settled {t} {m} {i} h l n = record { right = h; here = go (state_of m i) refl; kept = kept_none t m }
  where
    go : (v : ℕ) → state_of m i ≡ v → 2 ≤ v
    go zero e = absurd (n e)
    go (suc zero) e = absurd (h.states i l e)
    go (suc (suc v)) e = omega arith
