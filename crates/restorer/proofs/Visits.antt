-- The visit of a row: a row that is no Ident by its kind, an Ident by its name and its rule. Assumes nothing.
use Rattle.std.specs.Prelude.{None, Option, Some}
use mathlib.Core.Path.{◌≡◌, refl, sym, ap, ◌∙◌}
use mathlib.Core.Bool.{false≢true, Bool, true, false, not}
use mathlib.Core.List.{List, [], ◌∷◌}
use Prim.Native.Nat.{ℕ, ◌+◌, ◌-◌, ◌/◌, ◌≤◌, ◌<◌}
use native.Mathlib.Omega.{arith}
use lib.ListN.{length}
use lib.Dec.{eqb}
use Rattle.grammar.specs.Numbers.{rule_width, row_width}
use Rattle.grammar.specs.Basic.{Bytes, member}
use Rattle.grammar.specs.Tree.{Str, Insens, Ident, Range, PeekSlice, PeekFrom, Un, PosPred, NegPred, Opt, Rep, RepOnce, Push, RestoreOnErr, RepExact, RepMin, RepMax, RepMinMax, Bin, Seq, Choice, Expr, lit, fixed, skip, un, bin, un_head, size}
use Rattle.grammar.specs.Rows.{Span}
use Rattle.grammar.specs.Text.{bytes_at, resolve}
use Rattle.grammar.specs.Table.{Table, resolve_rule, resolve_table}
use Rattle.grammar.specs.Stack.{Reaches, stack_names, at_push, at_name, through}
use Rattle.grammar.proofs.Logic.{eqb_eq, eqb_self}
use Rattle.rows.specs.Rows.{kind_at, x_at, y_at, size_at, At}
use Rattle.rows.proofs.Laws.{head_of, Found, root, found_size, at_un, at_left_lem, at_right_lem, size_pos}
use Rattle.rows.proofs.Cells.{lit_shape}
use Rattle.rows.proofs.Views.{as_lit, lit_is}
use Rattle.names.specs.Names.{name_of, First, Finds}
use Rattle.names.proofs.Finding.{Looked, looked, not_found, name_is}
use Rattle.restorer.specs.Search.{state_of, memory_of, is_quiet, loud, Right, RuleReaches, nowhere, Looked as Answered}
use Rattle.restorer.specs.declared.Outcome.{Outcome}
use Rattle.restorer.specs.declared.Outcome.TheVariants.{Reached, Silent}
use Rattle.restorer.specs.Lends.{Lent}
use Rattle.restorer.specs.Walks.{Run, below, changes_at, pick, step_from, position_of, recalled, AtRoot, Visited, GoesOn, Unseen}
use Rattle.restorer.specs.declared.Step.{Step}
use Rattle.restorer.specs.declared.Step.TheVariants.{Changes, Next, Into}
use Rattle.restorer.proofs.Memories.{or_no, memory_none, memory_first, rule_resolved, searches_none, closed_none}
use Rattle.restorer.proofs.Settles.{look_yes, look_no}

-- ---- a row that is no Ident

un_goes : (w : List ℕ) (i : ℕ) (u : Un) (e : Expr Span) → size e ≤ i → 1 ≤ i → At w (i - 1) e → GoesOn (step_from (un_head u).0 i (size e + 1)) w i (un u e)
unfolding step_from
un_goes w i PosPred e h l a = (omega arith, (l, (a, omega arith)))
un_goes w i NegPred e h l a = (omega arith, (l, (a, omega arith)))
un_goes w i Opt e h l a = (omega arith, (l, (a, omega arith)))
un_goes w i Rep e h l a = (omega arith, (l, (a, omega arith)))
un_goes w i RepOnce e h l a = (omega arith, (l, (a, omega arith)))
un_goes w i (RepExact n) e h l a = (omega arith, (l, (a, omega arith)))
un_goes w i (RepMin n) e h l a = (omega arith, (l, (a, omega arith)))
un_goes w i (RepMax n) e h l a = (omega arith, (l, (a, omega arith)))
un_goes w i (RepMinMax n k) e h l a = (omega arith, (l, (a, omega arith)))
un_goes w i Push e h l a = tt
un_goes w i RestoreOnErr e h l a = (omega arith, refl)

bin_run : (w : List ℕ) (i : ℕ) (b : Bin) (e f : Expr Span) → At w i (bin b e f) → (i ≤ i) × Run w (i + 1 - (size e + size f + 1)) i (f ∷ e ∷ [])
bin_run w i b e f a =
    let t = (root a).most in
    let x = size_pos e in
    let y = size_pos f in
    let n : i - 1 - size f ≡ i - size f - 1 = omega arith in
    (omega arith, (omega arith, (at_right_lem a, (omega arith, (rw n at (at_left_lem a), omega arith)))))

goes_on : (w : List ℕ) (i : ℕ) (r : Expr Span) → At w i r → ((head_of r).0 ≡ 3 → ⊥) → GoesOn (step_from (head_of r).0 i (size r)) w i r
unfolding step_from
goes_on w i (lit Str p) a n = (omega arith, omega arith)
goes_on w i (lit Insens p) a n = (omega arith, omega arith)
goes_on w i (lit Ident p) a n = absurd (n refl)
goes_on w i (fixed (Range x y)) a n = (omega arith, omega arith)
goes_on w i (fixed (PeekSlice x y)) a n = (omega arith, omega arith)
goes_on w i (fixed (PeekFrom x)) a n = (omega arith, omega arith)
goes_on w i (skip ss) a n = (omega arith, refl)
goes_on w i (un u e) a n = let t = (root a).most in let x = size_pos e in un_goes w i u e (omega arith) (omega arith) (at_un a)
goes_on w i (bin Seq e f) a n = bin_run w i Seq e f a
goes_on w i (bin Choice e f) a n = bin_run w i Choice e f a

module _ (s : Bytes) (t : Table Bytes) (m : List ℕ) (h : Right t m) where
  passes : (r : Expr Span) → changes_at (loud t m nowhere) (resolve s r) ≡ false → (top : ℕ) → AtRoot (Silent nowhere top) s t top m m r
  passes r e top = record { searches = searches_none h; closed = closed_none t nowhere m; quiet = e; leads = λ l. absurd (omega arith) }

  un_visits : (i : ℕ) (u : Un) (e : Expr Span) → Visited (step_from (un_head u).0 i (size e + 1)) s t m (un u e)
  unfolding step_from
  un_visits i PosPred e = passes (un PosPred e) refl
  un_visits i NegPred e = passes (un NegPred e) refl
  un_visits i Opt e = passes (un Opt e) refl
  un_visits i Rep e = passes (un Rep e) refl
  un_visits i RepOnce e = passes (un RepOnce e) refl
  un_visits i (RepExact n) e = passes (un (RepExact n) e) refl
  un_visits i (RepMin n) e = passes (un (RepMin n) e) refl
  un_visits i (RepMax n) e = passes (un (RepMax n) e) refl
  un_visits i (RepMinMax n k) e = passes (un (RepMinMax n k) e) refl
  un_visits i Push e = λ top. record { searches = searches_none h; reaches = at_push }
  un_visits i RestoreOnErr e = passes (un RestoreOnErr e) refl

  visits : (i : ℕ) (r : Expr Span) → ((head_of r).0 ≡ 3 → ⊥) → Visited (step_from (head_of r).0 i (size r)) s t m r
  unfolding step_from
  visits i (lit Str p) n = passes (lit Str p) refl
  visits i (lit Insens p) n = passes (lit Insens p) refl
  visits i (lit Ident p) n = absurd (n refl)
  visits i (fixed (Range x y)) n = passes (fixed (Range x y)) refl
  visits i (fixed (PeekSlice x y)) n = passes (fixed (PeekSlice x y)) refl
  visits i (fixed (PeekFrom x)) n = passes (fixed (PeekFrom x)) refl
  visits i (skip ss) n = passes (skip ss) refl
  visits i (un u e) n = un_visits i u e
  visits i (bin Seq e f) n = passes (bin Seq e f) refl
  visits i (bin Choice e f) n = passes (bin Choice e f) refl

-- the words of row i
pub words_at : (w : List ℕ) (i : ℕ) → i < length w / row_width → Found w i (kind_at w i) (x_at w i) (y_at w i) (size_at w i)
words_at w i h = record { within = h; kind = refl; x = refl; y = refl; rows = refl }

-- the step from a row that was read
module _ {w : List ℕ} {i k x y n v c : ℕ} {a : Step} (f : Found w i k x y n) (d : c ≡ k) (z : c ≡ 3 → ⊥) (e : a ≡ step_from c i v) (g : v ≡ n) where
  step_is : {r : Expr Span} → At w i r → a ≡ step_from (head_of r).0 i (size r)
  step_is {r} b =
      let p : c ≡ (head_of r).0 = d ∙ sym f.kind ∙ (root b).kind in
      let q : v ≡ size r = g ∙ found_size f b in
      e ∙ rw (p, q)

  not_ident : {r : Expr Span} → At w i r → (head_of r).0 ≡ 3 → ⊥
  not_ident b q = z (d ∙ sym f.kind ∙ (root b).kind ∙ q)

  pub row_goes : (r : Expr Span) → At w i r → GoesOn a w i r
  row_goes r b = rw (step_is b) (goes_on w i r b (not_ident b))

  pub row_visited : (s : Bytes) (t : Table Bytes) (m : List ℕ) (r : Expr Span) → At w i r → Right t m → Visited a s t m r
  row_visited s t m r b h = rw (step_is b) (visits s t m h i r (not_ident b))

  pub row_unseen : (rules m : List ℕ) → Unseen a rules m
  unfolding step_from
  row_unseen rules m = rw e (go (eqb c 18) (eqb c 17) (eqb c 19))
    where
      go : (p q o : Bool) → Unseen (pick p Changes (pick q (Next (i + 1 - v) nowhere) (pick o (Next (i + 1 - v) nowhere) (Next i nowhere)))) rules m
      go true q o = tt
      go false true o = tt
      go false false true = tt
      go false false false = tt

-- ---- an Ident

-- the memory of the rule that is named, by cases
module _ (P : Step → Type 0) (s k i : ℕ) where
  recalled_case : (s ≡ 3 → P Changes) → (s ≡ 0 → P (Into k)) → ((s ≡ 3 → ⊥) → (s ≡ 0 → ⊥) → P (Next i (position_of s))) → (a : Step) → a ≡ recalled s k i → P a
  unfolding recalled
  recalled_case x y z a e = rw e (go (eqb s 3) (eqb s 0) refl refl)
    where
      no : (n : ℕ) → eqb s n ≡ false → s ≡ n → ⊥
      no n h q = false≢true (sym h ∙ ap (λ (j : ℕ). eqb j n) q ∙ eqb_self n)

      go : (b c : Bool) → eqb s 3 ≡ b → eqb s 0 ≡ c → P (pick b Changes (pick c (Into k) (Next i (position_of s))))
      go true c p q = x (eqb_eq s 3 p)
      go false true p q = y (eqb_eq s 0 q)
      go false false p q = z (no 3 p) (no 0 q)

pub asks_unseen : (i k : ℕ) (rules m : List ℕ) (a : Step) → k < length rules / rule_width → a ≡ recalled (state_of m k) k i → Unseen a rules m
asks_unseen i k rules m a h = recalled_case (λ b. Unseen b rules m) (state_of m k) k i (λ _. tt) (λ z. (h, z)) (λ _ _. tt) a

pub finds_below : {j : ℕ} (n : ℕ) (rules : List ℕ) (s key : Bytes) (found : Option ℕ) → Finds n rules s key found → found ≡ Some j → j < n
finds_below {j} n rules s key found h e = let f : First n rules s key j = rw e at h in f.below

module _ {w : List ℕ} {i k x y n : ℕ} (f : Found w i k x y n) (z : k ≡ 3) where
  pub ident_is : (r : Expr Span) → At w i r → r ≡ lit Ident (x, y)
  ident_is r b = lit_is Ident (as_lit f b (rw z (lit_shape Ident))) z

  pub ident_goes : (r : Expr Span) → At w i r → (i ≤ i) × Run w (i + 1 - size r) i (below r)
  ident_goes r b = rw (ident_is r b) (omega arith, omega arith)

  pub asks_goes : (v j : ℕ) (a : Step) → a ≡ recalled v j i → (r : Expr Span) → At w i r → GoesOn a w i r
  asks_goes v j a e r b = recalled_case (λ o. GoesOn o w i r) v j i (λ _. tt) (λ _. ident_goes r b) (λ _ _. ident_goes r b) a e

  -- a name that changes the stack
  pub stack_name : {p q : ℕ} (s : Bytes) (t : Table Bytes) (m : List ℕ) (c : Bool) (r : Expr Span) → p ≡ x → q ≡ y → c ≡ member (bytes_at s (p, q)) stack_names → c ≡ true → At w i r → Right t m → (top : ℕ) → AtRoot (Reached top) s t top m m r
  stack_name s t m c r d e g h b l top = rw (ident_is r b) (record { searches = searches_none l; reaches = at_name (rw (d, e, h) at (sym g)) })

  -- one that does not, and what a search by name found
  module _ {p q : ℕ} {rules rows : List ℕ} (s : Bytes) (t : Table Span) (lent : Lent t rules rows) (m : List ℕ) (c : Bool) (found : Option ℕ) (r : Expr Span) (d : p ≡ x) (e : q ≡ y) (g : c ≡ member (bytes_at s (p, q)) stack_names) (h : c ≡ false) (finds : Finds (length rules / rule_width) rules s (bytes_at s (p, q)) found) (b : At w i r) where
    plain : member (bytes_at s (x, y)) stack_names ≡ false
    plain = rw (d, e, h) at (sym g)

    here : Finds (length rules / rule_width) rules s (bytes_at s (x, y)) found
    here = rw (d, e) at finds

    pub ident_nothing : found ≡ None → Right (resolve_table s t) m → (top : ℕ) → AtRoot (Silent nowhere top) s (resolve_table s t) top m m r
    ident_nothing o l =
        let u : Finds (length rules / rule_width) rules s (bytes_at s (x, y)) None = rw o at here in
        let v : memory_of (resolve_table s t) m (bytes_at s (x, y)) ≡ 2 = memory_none (resolve_table s t) m (bytes_at s (x, y)) (not_found s (bytes_at s (x, y)) t (rw lent.heads u)) in
        rw (ident_is r b)
        (passes s (resolve_table s t) m l (lit Ident (x, y)) (or_no (member (bytes_at s (x, y)) stack_names) (loud (resolve_table s t) m nowhere (bytes_at s (x, y))) plain (ap (λ (j : ℕ). not (is_quiet nowhere j)) v)))

    module _ {j : ℕ} (o : found ≡ Some j) where
      first : First (length rules / rule_width) rules s (bytes_at s (x, y)) j
      first = rw o at here

      rule : Looked s (bytes_at s (x, y)) t j
      rule = looked s (bytes_at s (x, y)) t j (rw lent.heads first)

      memory : (m' : List ℕ) → memory_of (resolve_table s t) m' (bytes_at s (x, y)) ≡ state_of m' j
      memory m' = memory_first s (bytes_at s (x, y)) m' t j rule.rule rule.is rule.same (λ k u l v e. first.first k l (ap (λ (ws : List ℕ). name_of ws s k) (sym lent.heads) ∙ name_is s t k u v ∙ e))

      there : RuleReaches (resolve_table s t) j → Reaches (resolve_table s t) (lit Ident (bytes_at s (x, y)))
      there f = through rule.finds (f (resolve_rule s rule.rule) (rule_resolved s t j rule.rule rule.is))

      -- what the look into that rule says
      ident_answers : (a : Outcome) (top : ℕ) (m' : List ℕ) → Answered a (resolve_table s t) top m m' j → AtRoot a s (resolve_table s t) top m m' r
      ident_answers (Reached high) top m' a = rw (ident_is r b) (record { searches = a.1.searches; reaches = there a.1.reaches })
      ident_answers (Silent low high) top m' a =
          rw (ident_is r b)
          (record {
            searches = a.1.searches;
            closed = a.1.closed;
            quiet = or_no (member (bytes_at s (x, y)) stack_names) (loud (resolve_table s t) m' low (bytes_at s (x, y))) plain (ap (λ (n : ℕ). not (is_quiet low n)) (memory m') ∙ ap not a.1.quiet);
            leads = λ l f. there (a.1.leads l f);
          })

      -- what its memory says, or that it is to be asked
      pub ident_asks : j < length (resolve_table s t) → Right (resolve_table s t) m → (a : Step) → a ≡ recalled (state_of m j) j i → Visited a s (resolve_table s t) m r
      ident_asks l u = recalled_case (λ a. Visited a s (resolve_table s t) m r) (state_of m j) j i (λ e top. ident_answers (Reached top) top m (look_yes j top u e)) (λ _ a top m' k. ident_answers a top m' k) (λ y z top. ident_answers (Silent (position_of (state_of m j)) top) top m (look_no j top l u y z))
