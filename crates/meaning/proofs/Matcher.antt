-- A matcher with fuel: an outcome is what some fuel gives. So outcomes can be computed, and an expression has at most one. Assumes nothing.
use mathlib.Core.Path.{◌≡◌, refl, sym, subst, ◌∙◌}
use mathlib.Core.Option.{Option, none, some}
use mathlib.Core.Logic.{◌↔◌}
use Prim.Native.Nat.{ℕ, zero, suc, ◌+◌, ◌≤◌}
use native.Mathlib.Omega.{arith}
use Rattle.grammar.specs.Basic.{Bytes}
use Rattle.grammar.specs.Tree.{E}
use Rattle.grammar.specs.Table.{Table, find}
use Rattle.meaning.specs.Outcome.{Res, fail, ok, Out}
use Rattle.meaning.proofs.Asks.{Next, done, ends, then, from, Ask, stuck, now, rule, first, ask, Follows, is, here, goes, on, Asked, nows, rules, failed, went, by, each_outcome}

abbrev pub Runner : Type 0
Runner = E → ℕ → Option Res

-- after the end m
abbrev pub follow : Runner → ℕ → Next → Option Res
follow go m (done r) = some r
follow go m ends = some (ok m)
follow go m (then e p) = go e p
follow go m (from e) = go e m

abbrev pub enter : Runner → ℕ → Option E → Option Res
enter go p none = none
enter go p (some e) = go e p

abbrev pub branch : Option Res → Option Res → (ℕ → Option Res) → Option Res
branch none f k = none
branch (some fail) f k = f
branch (some (ok m)) f k = k m

abbrev pub perform : Runner → Table Bytes → ℕ → Ask → Option Res
perform go t p stuck = none
perform go t p (now x) = follow go p x
perform go t p (rule x) = enter go p (find t x)
perform go t p (first e f k) = branch (go e p) (follow go p f) (λ m. follow go m k)

-- none: this fuel is too little
abbrev pub run : ℕ → Table Bytes → Bytes → E → ℕ → Option Res
run zero t s e p = none
run (suc n) t s e p = perform (run n t s) t p (ask s e p)

no_res : {r : Res} {P : Type 0} → none ≡ some r → P
no_res h = let z : ◌≡◌ {A = ℕ} 0 1 = cc in absurd (omega arith)

some_res : {q r : Res} → some q ≡ some r → q ≡ r
some_res h = cc

-- What is run answers what is asked for, where the parts' runs give what `Gives` says

module _ {go : Runner} (Gives : E → ℕ → Res → Type 0) (sound : (e : E) (p : ℕ) (r : Res) → go e p ≡ some r → Gives e p r) where
  followed : (m : ℕ) (x : Next) (r : Res) → follow go m x ≡ some r → Follows Gives m x r
  followed m (done q) r h = subst (Follows Gives m (done q)) (some_res h) is
  followed m ends r h = subst (Follows Gives m ends) (some_res h) here
  followed m (then e p) r h = goes (sound e p r h)
  followed m (from e) r h = on (sound e m r h)

  performed : (t : Table Bytes) (p : ℕ) (a : Ask) (r : Res) → perform go t p a ≡ some r → Asked Gives t p a r
  performed t p stuck r h = no_res h
  performed t p (now x) r h = nows (followed p x r h)
  performed t p (rule x) r h = named (find t x) refl h
    where
      named : (o : Option E) → find t x ≡ o → enter go p o ≡ some r → Asked Gives t p (rule x) r
      named none q k = no_res k
      named (some e) q k = rules q (sound e p r k)
  performed t p (first e f k) r h = both (go e p) refl h
    where
      both : (o : Option Res) → go e p ≡ o → branch o (follow go p f) (λ m. follow go m k) ≡ some r → Asked Gives t p (first e f k) r
      both none q g = no_res g
      both (some fail) q g = failed (sound e p fail q) (followed p f r g)
      both (some (ok m)) q g = went (sound e p (ok m) q) (followed m k r g)

pub run_sound : (t : Table Bytes) (s : Bytes) (n : ℕ) (e : E) (p : ℕ) (r : Res) → run n t s e p ≡ some r → Out t s e p r
run_sound t s zero e p r h = no_res h
run_sound t s (suc n) e p r h = by e (performed (Out t s) (run_sound t s n) t p (ask s e p) r h)

-- What runs answer is run, from some fuel on

module _ (t : Table Bytes) (s : Bytes) where
  abbrev From : (ℕ → Option Res) → Res → Type 0
  From f r = (least : ℕ) × ((n : ℕ) → least ≤ n → f n ≡ some r)

  abbrev Runs : E → ℕ → Res → Type 0
  Runs e p r = From (λ n. run n t s e p) r

  follows_run : {m : ℕ} {x : Next} {r : Res} → Follows Runs m x r → From (λ n. follow (run n t s) m x) r
  follows_run is = (0, λ n i. refl)
  follows_run here = (0, λ n i. refl)
  follows_run (goes d) = d
  follows_run (on d) = d

  asked_run : {p : ℕ} {a : Ask} {r : Res} → Asked Runs t p a r → From (λ n. perform (run n t s) t p a) r
  asked_run (nows f) = follows_run f
  asked_run (rules l d) = (d.0, λ n i. rw l (d.1 n i))
  asked_run (failed d f) = let g = follows_run f in (d.0 + g.0, λ n i. rw (d.1 n (omega arith)) (g.1 n (omega arith)))
  asked_run (went d f) = let g = follows_run f in (d.0 + g.0, λ n i. rw (d.1 n (omega arith)) (g.1 n (omega arith)))

  next_run : (e : E) (p : ℕ) (r : Res) → Asked Runs t p (ask s e p) r → Runs e p r
  next_run e p r d = let x = asked_run d in (suc x.0, λ n. more n x.0 x.1)
    where
      more : (n least : ℕ) → ((m : ℕ) → least ≤ m → perform (run m t s) t p (ask s e p) ≡ some r) → suc least ≤ n → run n t s e p ≡ some r
      more zero least h i = absurd (omega arith)
      more (suc n) least h i = h n (omega arith)

  pub run_complete : {e : E} {p : ℕ} {r : Res} → Out t s e p r → Runs e p r
  run_complete d = each_outcome Runs next_run d

  -- AN OUTCOME IS WHAT SOME FUEL GIVES
  pub outcome : (e : E) (p : ℕ) (r : Res) → Out t s e p r ↔ ((n : ℕ) × (run n t s e p ≡ some r))
  outcome e p r = (λ d. let x = run_complete d in (x.0, x.1 x.0 (omega arith)), λ x. run_sound t s x.0 e p r x.1)

-- AN EXPRESSION HAS AT MOST ONE OUTCOME
pub det : {t : Table Bytes} {s : Bytes} {e : E} {p : ℕ} {q r : Res} → Out t s e p q → Out t s e p r → q ≡ r
det {t} {s} d f =
    let x = run_complete t s d in
    let y = run_complete t s f in
    let n : ℕ = x.0 + y.0 in
    some_res (sym (x.1 n (omega arith)) ∙ y.1 n (omega arith))
