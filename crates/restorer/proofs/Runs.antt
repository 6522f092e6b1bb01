-- The run of trees that is left to look at, and what a search over rows comes to. Assumes nothing.
use mathlib.Core.Path.{◌≡◌, refl, sym, ◌∙◌, subst}
use mathlib.Core.Bool.{Bool, true, false, ◌&&◌, not, cond}
use mathlib.Core.List.{List, [], ◌∷◌, ◌++◌}
use mathlib.Core.Logic.{◌⊎◌, inl, inr}
use Prim.Native.Nat.{ℕ, ◌+◌, ◌-◌, ◌/◌, ◌≤◌, ◌<◌, min}
use native.Mathlib.Nat.{min-eq_left, min-eq_right}
use native.Mathlib.Decide.{dec_le}
use native.Mathlib.Omega.{arith}
use lib.ListN.{length}
use Rattle.grammar.specs.Numbers.{rule_width}
use Rattle.grammar.specs.Basic.{Bytes}
use Rattle.grammar.specs.Tree.{Expr, E, lit, fixed, skip, un, bin, size, is_un}
use Rattle.grammar.specs.Rows.{Span}
use Rattle.grammar.specs.Text.{resolve}
use Rattle.grammar.specs.Table.{Table, resolve_table}
use Rattle.grammar.specs.Stack.{Reaches, down, left, right, changes_in}
use Rattle.rows.specs.Rows.{At}
use Rattle.rows.proofs.Laws.{root, size_pos}
use Rattle.rows.proofs.Views.{at_unique}
use Rattle.restorer.specs.Search.{OPEN, state_of, loud, Quiet, Right, Reach, Kept, Searches, Closed, nowhere, Changing, Passing, Walked, Looked}
use Rattle.restorer.specs.Lends.{Lent, TreeRows}
use Rattle.restorer.specs.Stacks.{Searching, Ran, top_of}
use Rattle.restorer.specs.Walks.{Run, below, changes_at, AtRoot, Visited, GoesOn, Unseen}
use Rattle.restorer.specs.declared.Outcome.{Outcome}
use Rattle.restorer.specs.declared.Outcome.TheVariants.{Reached, Silent}
use Rattle.restorer.specs.declared.Step.{Step}
use Rattle.restorer.specs.declared.Step.TheVariants.{Changes, Next, Into}
use Rattle.restorer.proofs.Memories.{or_no, stays_quiet, kept_none, kept_then, searches_none, searches_then, closed_none, closed_then, leads_then}
use Rattle.restorer.proofs.Marks.{ran_none, ran_more, given_steady}

-- ---- the least of two

record Least (r a b : ℕ) : Type 0 where
  first : r ≤ a
  second : r ≤ b
  one : (r ≡ a) ⊎ (r ≡ b)

least : (a b : ℕ) → Least (min a b) a b
least a b = record { first = omega arith; second = omega arith; one = go (dec_le a b) }
  where
    go : Dec (a ≤ b) → (min a b ≡ a) ⊎ (min a b ≡ b)
    go (yes h) = inl (min-eq_left h)
    go (no h) = let k : b ≤ a = omega arith in inr (min-eq_right k)

-- ---- where the trees stand

run_low : (w : List ℕ) (from i : ℕ) (qs : List (Expr Span)) → Run w from i qs → from ≤ i
run_low w from i [] h = omega arith
run_low w from i (q ∷ qs) h = let l = run_low w from (i - size q) qs h.1.1 in omega arith

run_append : (w : List ℕ) (from j i : ℕ) (qs ps : List (Expr Span)) → Run w j i qs → Run w from j ps → Run w from i (qs ++ ps)
run_append w from j i [] ps h k = subst (λ (n : ℕ). Run w from n ps) (sym h) k
run_append w from j i (q ∷ qs) ps h k = (h.0, (h.1.0, run_append w from j (i - size q) qs ps h.1.1 k))

-- the tree on top, and the others
pub record Top (w : List ℕ) (from i : ℕ) (qs : List (Expr Span)) : Type 0 where
  pub tree : Expr Span
  pub rest : List (Expr Span)
  pub is : qs ≡ tree ∷ rest
  pub some : 1 ≤ i
  pub at : At w (i - 1) tree
  pub run : Run w from (i - size tree) rest

pub top' : {w : List ℕ} {from i : ℕ} (qs : List (Expr Span)) → Run w from i qs → from < i → Top w from i qs
top' [] h l = absurd (omega arith)
top' (q ∷ qs) h l = record { tree = q; rest = qs; is = refl; some = h.0; at = h.1.0; run = h.1.1 }

run_end : (w : List ℕ) (from i : ℕ) (qs : List (Expr Span)) → Run w from i qs → i ≤ from → qs ≡ []
run_end w from i [] h l = refl
run_end w from i (q ∷ qs) h l = absurd (omega (arith, h.0, run_low w from (i - size q) qs h.1.1, size_pos q, (root h.1.0).most))

-- ---- what they say of the tree that they are left of

abbrev pub AllQuiet : (Bytes → Bool) → Bytes → List (Expr Span) → Type 0
AllQuiet look s [] = Unit {0}
AllQuiet look s (q ∷ qs) = changes_in look (resolve s q) ≡ false × AllQuiet look s qs

abbrev pub AnyReaches : Table Bytes → Bytes → List (Expr Span) → Type 0
AnyReaches t s [] = ⊥
AnyReaches t s (q ∷ qs) = Reaches t (resolve s q) ⊎ AnyReaches t s qs

all_front : (look : Bytes → Bool) (s : Bytes) (qs ps : List (Expr Span)) → AllQuiet look s (qs ++ ps) → AllQuiet look s qs
all_front look s [] ps h = tt
all_front look s (q ∷ qs) ps h = (h.0, all_front look s qs ps h.1)

all_back : (look : Bytes → Bool) (s : Bytes) (qs ps : List (Expr Span)) → AllQuiet look s (qs ++ ps) → AllQuiet look s ps
all_back look s [] ps h = h
all_back look s (q ∷ qs) ps h = all_back look s qs ps h.1

any_case : (t : Table Bytes) (s : Bytes) (qs ps : List (Expr Span)) → AnyReaches t s (qs ++ ps) → AnyReaches t s qs ⊎ AnyReaches t s ps
any_case t s [] ps h = inr h
any_case t s (q ∷ qs) ps (inl h) = inl (inl h)
any_case t s (q ∷ qs) ps (inr h) = go (any_case t s qs ps h)
  where
    go : AnyReaches t s qs ⊎ AnyReaches t s ps → AnyReaches t s (q ∷ qs) ⊎ AnyReaches t s ps
    go (inl k) = inl (inr k)
    go (inr k) = inr k

-- a tree by its root and what is below it
pub below_quiet : (look : Bytes → Bool) (s : Bytes) (r : Expr Span) → changes_at look (resolve s r) ≡ false → AllQuiet look s (below r) → changes_in look (resolve s r) ≡ false
below_quiet look s (lit k p) h a = h
below_quiet look s (fixed f) h a = h
below_quiet look s (skip ss) h a = h
below_quiet look s (un u e) h a = or_no (is_un 18 u) (not (is_un 19 u) && changes_in look (resolve s e)) h (go (is_un 19 u) a)
  where
    go : (b : Bool) → AllQuiet look s (cond b [] (e ∷ [])) → (not b && changes_in look (resolve s e)) ≡ false
    go true k = refl
    go false k = k.0
below_quiet look s (bin b l r) h a = or_no (changes_in look (resolve s l)) (changes_in look (resolve s r)) a.1.0 a.0

pub below_reaches : (t : Table Bytes) (s : Bytes) (r : Expr Span) → AnyReaches t s (below r) → Reaches t (resolve s r)
below_reaches t s (lit k p) h = absurd h
below_reaches t s (fixed f) h = absurd h
below_reaches t s (skip ss) h = absurd h
below_reaches t s (un u e) h = go (is_un 19 u) refl h
  where
    go : (b : Bool) → is_un 19 u ≡ b → AnyReaches t s (cond b [] (e ∷ [])) → Reaches t (un u (resolve s e))
    go true p k = absurd k
    go false p (inl k) = down p k
    go false p (inr k) = absurd k
below_reaches t s (bin b l r) (inl h) = right h
below_reaches t s (bin b l r) (inr (inl h)) = left h
below_reaches t s (bin b l r) (inr (inr h)) = absurd h

-- ---- the search over rows

-- what is known of the tree r while the trees qs are left
pub record So (s : Bytes) (t : Table Bytes) (top low : ℕ) (m m' : List ℕ) (r : Expr Span) (qs : List (Expr Span)) : Type 0 where
  pub searches : Searches t top m m'
  pub closed : Closed t low m m'
  pub quiet : (m'' : List ℕ) (low'' : ℕ) → Kept t m' m'' → low'' ≤ low → AllQuiet (loud t m'' low'') s qs → Quiet t m'' low'' (resolve s r)
  pub reaches : AnyReaches t s qs → Reaches t (resolve s r)
  pub leads : low < nowhere → Reach t m' (λ v. v ≡ OPEN + low) → Reaches t (resolve s r)

module _ {s : Bytes} {t : Table Bytes} {top : ℕ} {m : List ℕ} where
  so_start : (r : Expr Span) → Right t m → So s t top nowhere m m r (r ∷ [])
  so_start r h = record { searches = searches_none h; closed = closed_none t nowhere m; quiet = λ m'' low'' k l a. a.0; reaches = one; leads = λ l. absurd (omega arith) }
    where
      one : AnyReaches t s (r ∷ []) → Reaches t (resolve s r)
      one (inl k) = k
      one (inr k) = absurd k

  module _ {low high : ℕ} {m₁ m₂ : List ℕ} {r : Expr Span} (q : Expr Span) (qs : List (Expr Span)) (le : top ≤ high) (h : So s t top low m m₁ r (q ∷ qs)) where
    so_next : {low' l : ℕ} → Least low' low l → Passing t high l m₁ m₂ (changes_at (loud t m₂ l) (resolve s q) ≡ false) (Reaches t (resolve s q)) → So s t top low' m m₂ r (below q ++ qs)
    so_next {low'} {l} ls p =
        record {
          searches = searches_then le h.searches p.searches;
          closed = closed_then kept ls.first ls.second m h.closed p.closed;
          quiet = λ m'' low'' k b a. h.quiet m'' low'' (kept_then kept k) (omega (arith, ls.first)) (below_quiet (loud t m'' low'') s q (own m'' low'' k (omega (arith, ls.second)) (resolve s q) p.quiet) (all_front (loud t m'' low'') s (below q) qs a), all_back (loud t m'' low'') s (below q) qs a);
          reaches = λ a. h.reaches (go (any_case t s (below q) qs a));
          leads = lead ls.one;
        }
      where
        kept : Kept t m₁ m₂
        kept = p.searches.kept

        -- a root that is quiet stays quiet
        own : (m'' : List ℕ) (low'' : ℕ) → Kept t m₂ m'' → low'' ≤ l → (e : E) → changes_at (loud t m₂ l) e ≡ false → changes_at (loud t m'' low'') e ≡ false
        own m'' low'' k b (lit j x) e = stays_quiet k b (lit j x) e
        own m'' low'' k b (fixed f) e = e
        own m'' low'' k b (skip ss) e = e
        own m'' low'' k b (un u c) e = e
        own m'' low'' k b (bin o x y) e = e

        go : AnyReaches t s (below q) ⊎ AnyReaches t s qs → AnyReaches t s (q ∷ qs)
        go (inl a) = inl (below_reaches t s q a)
        go (inr a) = inr a

        lead : (low' ≡ low) ⊎ (low' ≡ l) → low' < nowhere → Reach t m₂ (λ v. v ≡ OPEN + low') → Reaches t (resolve s r)
        lead (inl e) = rw e (leads_then kept low h.leads)
        lead (inr e) = rw e (λ b f. h.reaches (inl (p.leads b f)))

    so_met : Changing t high m₁ m₂ (Reaches t (resolve s q)) → Changing t top m m₂ (Reaches t (resolve s r))
    so_met p = record { searches = searches_then le h.searches p.searches; reaches = h.reaches (inl p.reaches) }

  so_end : {low : ℕ} {m₁ : List ℕ} {r : Expr Span} → So s t top low m m₁ r [] → Passing t top low m m₁ (Quiet t m₁ low (resolve s r)) (Reaches t (resolve s r))
  so_end {low} {m₁} h = record { searches = h.searches; closed = h.closed; quiet = h.quiet m₁ low (kept_none t m₁) (omega arith) tt; leads = h.leads }

-- the rule that is to be asked
pub asked : {k : ℕ} (rules m : List ℕ) (a : Step) → a ≡ Into k → Unseen a rules m → (k < length rules / rule_width) × (state_of m k ≡ 0)
asked rules m a e h = subst (λ (b : Step). Unseen b rules m) e h

-- the rows from i to `end` are walked, which changed the marks m to m' and the stack to st', up to `high`
pub record Walking (rules rows : List ℕ) (text : Bytes) (m m' st st' : List ℕ) (from end top i low high : ℕ) : Type 0 where
  pub tree : Expr Span
  pub at : At rows (end - 1) tree
  pub left : List (Expr Span)
  pub run : Run rows from i left
  pub ran : Ran (length rules / rule_width) m m' st' top high
  pub long : length m' ≡ length m
  pub longs : length st' ≡ length st
  pub so : (t : Table Span) → Lent t rules rows → Right (resolve_table text t) m → So text (resolve_table text t) top low m m' tree left

module _ {rules rows : List ℕ} {text : Bytes} {m st : List ℕ} {from end top : ℕ} where
  pub walk_start : Searching rules rows text m st top → TreeRows rows from end → Walking rules rows text m m st st from end top end nowhere top
  walk_start g tr =
      record {
        tree = tr.tree;
        at = tr.at;
        left = tr.tree ∷ [];
        run = (omega (arith, tr.rows, size_pos tr.tree), (tr.at, omega (arith, tr.rows)));
        ran = ran_none g.stacked;
        long = refl;
        longs = refl;
        so = λ t l h. so_start tr.tree h;
      }

  module _ {m₁ st₁ : List ℕ} {i low high : ℕ} (inv : Walking rules rows text m m₁ st st₁ from end top i low high) where
    pub walk_given : Searching rules rows text m st top → Searching rules rows text m₁ st₁ high
    walk_given g = record { given = given_steady g.given inv.ran.steady inv.long; stacked = inv.ran.stacked; long = omega (arith, g.long, inv.longs); few = g.few }

    module _ (lt : from < i) where
      abbrev pub walk_top : Top rows from i inv.left
      walk_top = top' inv.left inv.run lt

      abbrev pub so_top : (t : Table Span) → Lent t rules rows → Right (resolve_table text t) m → So text (resolve_table text t) top low m m₁ inv.tree (walk_top.tree ∷ walk_top.rest)
      so_top t l h = subst (λ (qs : List (Expr Span)). So text (resolve_table text t) top low m m₁ inv.tree qs) walk_top.is (inv.so t l h)

      -- the row before i passes, and what is below it stands up to row j
      passed : {m₂ st₂ : List ℕ} {j l low' high' : ℕ} → Ran (length rules / rule_width) m₁ m₂ st₂ high high' → length m₂ ≡ length m₁ → length st₂ ≡ length st₁ → GoesOn (Next j l) rows (i - 1) walk_top.tree → Least low' low l
          → ((t : Table Span) → Lent t rules rows → Right (resolve_table text t) m₁ → AtRoot (Silent l high') text (resolve_table text t) high m₁ m₂ walk_top.tree) → Walking rules rows text m m₂ st st₂ from end top j low' high'
      passed {m₂} {st₂} {j} ran long longs g ls passing =
          let q = walk_top in
          let n : i - 1 + 1 - size q.tree ≡ i - size q.tree = omega (arith, q.some) in
          record {
            tree = inv.tree;
            at = inv.at;
            left = below q.tree ++ q.rest;
            run = run_append rows from (i - size q.tree) j (below q.tree) q.rest (subst (λ (b : ℕ). Run rows b j (below q.tree)) n g.1) q.run;
            ran = ran_more inv.ran ran;
            long = long ∙ inv.long;
            longs = longs ∙ inv.longs;
            so = λ t l h. so_next q.tree q.rest inv.ran.grown (so_top t l h) ls (passing t l (so_top t l h).searches.right);
          }

      -- the stack can change at it
      met : {m₂ : List ℕ} (high' : ℕ) → ((t : Table Span) → Lent t rules rows → Right (resolve_table text t) m₁ → AtRoot (Reached high') text (resolve_table text t) high m₁ m₂ walk_top.tree) → (t : Table Span) (r : Expr Span) → Lent t rules rows → At rows (end - 1) r → Right (resolve_table text t) m → Walked (Reached high') (resolve_table text t) top m m₂ (resolve text r)
      met high' changing t r l b h =
          let q = walk_top in
          let u : inv.tree ≡ r = at_unique inv.tree r inv.at b in
          rw (← u) (so_met q.tree q.rest inv.ran.grown (so_top t l h) (changing t l (so_top t l h).searches.right))

      -- what the visit of the row before i says
      module _ {a : Step}
          (goes : (r : Expr Span) → At rows (i - 1) r → GoesOn a rows (i - 1) r)
          (visited : (t : Table Span) (r : Expr Span) → Lent t rules rows → At rows (i - 1) r → Right (resolve_table text t) m₁ → Visited a text (resolve_table text t) m₁ r) where
        onward : {b : Step} → a ≡ b → GoesOn b rows (i - 1) walk_top.tree
        onward e = let q = walk_top in subst (λ (z : Step). GoesOn z rows (i - 1) q.tree) e (goes q.tree q.at)

        said : {b : Step} → a ≡ b → (t : Table Span) → Lent t rules rows → Right (resolve_table text t) m₁ → Visited b text (resolve_table text t) m₁ walk_top.tree
        said e t l h = let q = walk_top in subst (λ (z : Step). Visited z text (resolve_table text t) m₁ q.tree) e (visited t q.tree l q.at h)

        pub walk_next : {j l low' : ℕ} → a ≡ Next j l → low' ≡ min low l → Walking rules rows text m m₁ st st₁ from end top j low' high
        walk_next {l = l} e ls = passed (ran_none inv.ran.stacked) refl refl (onward e) (rw ls (least low l)) (λ t l h. said e t l h high)

        pub walk_less : {j l : ℕ} → a ≡ Next j l → j < i
        walk_less e = omega (arith, walk_top.some, (onward e).0)

        pub walk_met : a ≡ Changes → (t : Table Span) (r : Expr Span) → Lent t rules rows → At rows (end - 1) r → Right (resolve_table text t) m → Walked (Reached high) (resolve_table text t) top m m₁ (resolve text r)
        walk_met e = met high (λ t l h. said e t l h high)

        -- and the rule that it asks
        module _ {m₂ st₂ : List ℕ} {k : ℕ} {b : Outcome} (e : a ≡ Into k) (ran : Ran (length rules / rule_width) m₁ m₂ st₂ high (top_of b)) (looks : (t : Table Span) → Lent t rules rows → Right (resolve_table text t) m₁ → Looked b (resolve_table text t) high m₁ m₂ k) where
          pub walk_past : {l low' high' : ℕ} → b ≡ Silent l high' → low' ≡ min low l → length m₂ ≡ length m₁ → length st₂ ≡ length st₁ → Walking rules rows text m m₂ st st₂ from end top (i - 1) low' high'
          walk_past {l} {low'} {high'} f ls long longs = passed (rw f at ran) long longs (onward e) (rw ls (least low l)) (λ t v h. said e t v h (Silent l high') high m₂ (rw f at (looks t v h)))

          pub walk_told : {high' : ℕ} → b ≡ Reached high' → (t : Table Span) (r : Expr Span) → Lent t rules rows → At rows (end - 1) r → Right (resolve_table text t) m → Walked (Reached high') (resolve_table text t) top m m₂ (resolve text r)
          walk_told {high'} f = met high' (λ t l h. said e t l h (Reached high') high m₂ (rw f at (looks t l h)))

    pub walk_end : i ≤ from → (t : Table Span) (r : Expr Span) → Lent t rules rows → At rows (end - 1) r → Right (resolve_table text t) m → Walked (Silent low high) (resolve_table text t) top m m₁ (resolve text r)
    walk_end le t r l b h =
        let u : inv.tree ≡ r = at_unique inv.tree r inv.at b in
        rw (← u) (so_end (subst (λ (qs : List (Expr Span)). So text (resolve_table text t) top low m m₁ inv.tree qs) (run_end rows from i inv.left inv.run le) (inv.so t l h)))
