-- Loops that are read: one, the rows of a tree, the rules of a table. Assumes nothing.
use Rattle.std.specs.Prelude.{⊤, None, Option as Option', Some, Result, Ok, Err}
use mathlib.Core.Path.{◌≡◌, refl, sym, ap, ap₂, ◌∙◌}
use mathlib.Core.Bool.{false≢true, Bool, true, false, ◌||◌}
use mathlib.Core.List.{List, [], ◌∷◌}
use mathlib.Core.Option.{Option, none, some}
use Prim.Native.Nat.{ℕ, ◌+◌, ◌-◌, ◌≤◌, ◌<◌}
use native.Mathlib.Decide.{dec_le}
use native.Mathlib.Omega.{arith}
use lib.ListN.{length}
use Rattle.grammar.specs.declared.Refusal.{Refusal}
use Rattle.grammar.specs.declared.Refusal.TheVariants.{Cycle}
use Rattle.grammar.specs.Basic.{Bytes}
use Rattle.grammar.specs.Tree.{Str, Rep, E, Expr, lit, fixed, skip, un, bin, as_rep, size, any_node}
use Rattle.grammar.specs.Rows.{Span}
use Rattle.grammar.specs.Text.{resolve}
use Rattle.grammar.specs.Table.{Table, resolve_table}
use Rattle.grammar.specs.Lists.{Reading, nothing, strings, again, read_in, loop_over, is_again}
use Rattle.grammar.specs.Steps.{rotate}
use Rattle.grammar.proofs.Logic.{or_left, or_right}
use Rattle.rows.specs.Rows.{At, AtStrs}
use Rattle.rows.proofs.Laws.{Found, root, at_un, at_left_lem, at_right_lem, at_strs, at_first, at_others}
use Rattle.rows.proofs.Cells.{un_shape}
use Rattle.rows.proofs.Views.{OneView, as_one, one_some, one_none}
use Rattle.skipper.specs.Memory.{mark_of, name_list, Marks, by_marks, Known, Opened, Grows}
use Rattle.skipper.specs.declared.Unlisted.{Unlisted}
use Rattle.skipper.specs.declared.Unlisted.TheVariants.{Again, Absent}
use Rattle.skipper.specs.Lends.{marks_of, memory_of, ReadsOf, Lent, Steady}
use Rattle.skipper.specs.Loops.{OverAt, LoopAnswer, TreeRows, open_in, open_at, Idle, Settled, LoopsOf}
use Rattle.skipper.proofs.Memories.{Below, in_mono, marks_grow, grows_none, grows_more}
use Rattle.skipper.proofs.Rules.{steady_none, steady_more}

idle_opened : {st : Marks} → Idle st → Opened st []
idle_opened i = record { all = λ z e. absurd (i z e); only = λ z m. absurd (false≢true m) }

pub idle_grows : {st st' : Marks} → Idle st → Grows st st' → Idle st'
idle_grows i g z e = i z (g.same z e)

again_is : (p : Reading) → mark_of p ≡ 1 → is_again p ≡ true
again_is nothing e = absurd (omega arith)
again_is (strings ss) e = absurd (omega arith)
again_is again e = refl

again_not : (p : Reading) → 2 ≤ mark_of p → is_again p ≡ false
again_not nothing h = refl
again_not (strings ss) h = refl
again_not again h = absurd (omega arith)

not_again : (p : Reading) → is_again p ≡ false → 2 ≤ mark_of p
not_again nothing h = omega arith
not_again (strings ss) h = omega arith
not_again again h = absurd (false≢true (sym h))

-- an answer is one or the other
pub ok_not_err : {v : ⊤} {r : Refusal} → ◌≡◌ {A = Result ⊤ Refusal} (Ok v) (Err r) → ⊥
ok_not_err e = let z : ◌≡◌ {A = ℕ} 0 1 = cc in omega arith

-- what a list that is read answers: refusal 7 where it came to an open rule
abbrev pub loop_answer : Result ⊤ Unlisted → Result ⊤ Refusal
loop_answer (Ok v) = Ok (record {})
loop_answer (Err Again) = Err Cycle
loop_answer (Err Absent) = Ok (record {})

err_eq : {r d : Refusal} → ◌≡◌ {A = Result ⊤ Refusal} (Err r) (Err d) → r ≡ d
err_eq e = cc

-- a list that is read
loops_settled : {s : Bytes} {t : Table Span} {m m' : List ℕ} {a : ℕ} (x : E) → 2 ≤ a → ReadsOf s t m m' a (λ look. read_in look (rotate x)) → LoopsOf s t m m' (Ok (record {})) (λ look. is_again (read_in look (rotate x)))
loops_settled {s} {t} {m} {m'} {a} x b h = record {
  cycle = λ r e. absurd (ok_not_err e);
  met = λ k i e. absurd (ok_not_err e);
  settled = λ k i n. record { known = (h.read k).known b; grows = (h.read k).grows b; no = again_not (read_in (by_marks (marks_of (resolve_table s t) m')) (rotate x)) (rw ((h.read k).settled b) b) };
}

loops_read : {s : Bytes} {t : Table Span} {m m' : List ℕ} (a : Result ⊤ Unlisted) (x : E) → ReadsOf s t m m' (memory_of a) (λ look. read_in look (rotate x)) → LoopsOf s t m m' (loop_answer a) (λ look. is_again (read_in look (rotate x)))
loops_read {s} {t} {m} {m'} (Err Again) x h = record {
  cycle = λ r e. sym (err_eq e);
  met = λ k i e. again_is (read_in (name_list (resolve_table s t) []) (rotate x)) ((h.read k).met refl [] (idle_opened i));
  settled = λ k i e. absurd (ok_not_err (sym e));
}
loops_read (Err Absent) x h = loops_settled x (omega arith) h
loops_read (Ok v) x h = loops_settled x (omega arith) h

pub loops_none : {s : Bytes} {t : Table Span} {m : List ℕ} → LoopsOf s t m m (Ok (record {})) (λ look. false)
loops_none = record { cycle = λ r e. absurd (ok_not_err e); met = λ k i e. absurd (ok_not_err e); settled = λ k i e. record { known = k; grows = grows_none; no = refl } }

loops_at : {s : Bytes} {t : Table Span} {m m' : List ℕ} {a : Result ⊤ Refusal} (e : E) (o : Option E) → loop_over e ≡ o → LoopsOf s t m m' a (λ look. open_in look o) → LoopsOf s t m m' a (λ look. open_at look e)
unfolding open_at
loops_at e o h l = rw h l

pub loop_no_rep : (e : E) → as_rep e ≡ none → loop_over e ≡ none
unfolding loop_over
loop_no_rep e h = rw h

loop_rep : (e c : E) → as_rep e ≡ some c → loop_over e ≡ loop_over (un Rep c)
unfolding loop_over
loop_rep e c h = rw h

-- row i
module _ (s : Bytes) {w : List ℕ} {i k x y n : ℕ} {r : Expr Span} (f : Found w i k x y n) (a : At w i r) where
  pub loop_no : {t : Table Span} {m : List ℕ} → (k ≡ 11 → ⊥) → LoopsOf s t m m (Ok (record {})) (λ look. open_at look (resolve s r))
  loop_no z = loops_at (resolve s r) none (loop_no_rep (resolve s r) (one_none s 11 f a z)) loops_none

  module _ (z : k ≡ 11) where
    pub rep_view : OneView w i k x y n r
    rep_view = as_one f a (rw z (un_shape Rep))

    pub rep_is : loop_over (resolve s r) ≡ loop_over (un Rep (resolve s rep_view.child))
    rep_is = loop_rep (resolve s r) (resolve s rep_view.child) (one_some s 11 z rep_view)

    module _ {b : Option' ℕ} (h : LoopAnswer b w s (loop_over (un Rep (resolve s rep_view.child)))) where
      pub loop_nothing : {t : Table Span} {m : List ℕ} → b ≡ None → LoopsOf s t m m (Ok (record {})) (λ look. open_at look (resolve s r))
      loop_nothing e = loops_at (resolve s r) none (rep_is ∙ rw e at h) loops_none

      pub loop_over_lem : {j : ℕ} → b ≡ Some j → OverAt j w s (loop_over (un Rep (resolve s rep_view.child)))
      loop_over_lem e = rw e at h

      pub loop_list : {t : Table Span} {m m' : List ℕ} {j : ℕ} (v : Result ⊤ Unlisted) → b ≡ Some j → ((q : Expr Span) → At w j q → ReadsOf s t m m' (memory_of v) (λ look. read_in look (rotate (resolve s q)))) → LoopsOf s t m m' (loop_answer v) (λ look. open_at look (resolve s r))
      loop_list v e g = let o = loop_over_lem e in loops_at (resolve s r) (some (resolve s o.tree)) (rep_is ∙ o.is) (loops_read v (resolve s o.tree) (g o.tree o.at))

-- what is settled stays settled
pub open_mono : (look look' : Bytes → Reading) → ((x : Bytes) → Below (look x) (look' x)) → (e : E) → open_at look e ≡ false → open_at look' e ≡ false
unfolding open_at
open_mono look look' m e = go (loop_over e)
  where
    go : (o : Option E) → open_in look o ≡ false → open_in look' o ≡ false
    go none h = refl
    go (some x) h =
        let b : 2 ≤ mark_of (read_in look (rotate x)) = not_again (read_in look (rotate x)) h in
        again_not (read_in look' (rotate x)) (rw (in_mono (rotate x) look look' m b) b)

-- The rows of a tree

module _ (s : Bytes) (look : Bytes → Reading) {w : List ℕ} where
  -- a test that no row passes
  pub rows_none : {i : ℕ} (r : Expr Span) → At w i r → ((j : ℕ) (q : Expr Span) → i + 1 ≤ j + size r → j ≤ i → At w j q → open_at look (resolve s q) ≡ false) → any_node (open_at look) (resolve s r) ≡ false
  rows_none {i} (lit k p) a h = h i (lit k p) (omega arith) (omega arith) a
  rows_none {i} (fixed f) a h = h i (fixed f) (omega arith) (omega arith) a
  rows_none {i} (skip ss) a h = h i (skip ss) (omega arith) (omega arith) a
  rows_none {i} (un u e) a h =
      let b = (root (at_un a)).least in
      let c = (root a).most in
      ap₂ ◌||◌ (h i (un u e) (omega arith) (omega arith) a) (rows_none {i = i - 1} e (at_un a) (λ j q l n z. h j q (omega arith) (omega arith) z))
  rows_none {i} (bin b l r) a h =
      let x = (root (at_left_lem a)).least in
      let y = (root (at_right_lem a)).least in
      let c = (root a).most in
      ap₂ ◌||◌ (h i (bin b l r) (omega arith) (omega arith) a)
      (ap₂ ◌||◌ (rows_none l (at_left_lem a) (λ j q k n z. h j q (omega arith) (omega arith) z)) (rows_none r (at_right_lem a) (λ j q k n z. h j q (omega arith) (omega arith) z)))

abbrev pub any_open : Bytes → (Bytes → Reading) → Expr Span → Bool
any_open s look r = any_node (open_at look) (resolve s r)

-- each row is a tree's root, and if it passes then the tree has a node that does
pub record Within (s : Bytes) (w : List ℕ) (j : ℕ) (r : Expr Span) : Type 0 where
  pub tree : Expr Span
  pub at : At w j tree
  pub up : (look : Bytes → Reading) → open_at look (resolve s tree) ≡ true → any_node (open_at look) (resolve s r) ≡ true

lit_closed : (look : Bytes → Reading) (s : Bytes) (p : Span) (b : Bool) → open_at look (resolve s (lit Str p)) ≡ true → b ≡ true
unfolding open_at
lit_closed look s p b z = absurd (false≢true z)

strs_within : (s : Bytes) {w : List ℕ} {i j : ℕ} (r : Expr Span) (ss : List Span) → AtStrs w i ss → i ≤ j → j < i + length ss → Within s w j r
strs_within s r [] a h l = absurd (omega arith)
strs_within s {w} {i} {j} r (p ∷ ss) a h l = go (dec_le j i) (λ z. strs_within s {i = i + 1} r ss (at_others a) z (omega arith))
  where
    go : Dec (j ≤ i) → (i + 1 ≤ j → Within s w j r) → Within s w j r
    go (yes e) f = let q : j ≡ i = omega arith in record { tree = lit Str p; at = rw q (at_first a); up = λ look z. lit_closed look s p (any_node (open_at look) (resolve s r)) z }
    go (no n) f = f (omega arith)

pub row_within : (s : Bytes) {w : List ℕ} {i j : ℕ} (r : Expr Span) → At w i r → i + 1 ≤ j + size r → j ≤ i → Within s w j r
row_within s {i = i} {j = j} (lit k p) a h l = let q : j ≡ i = omega arith in record { tree = lit k p; at = rw q a; up = λ look z. z }
row_within s {i = i} {j = j} (fixed f) a h l = let q : j ≡ i = omega arith in record { tree = fixed f; at = rw q a; up = λ look z. z }
row_within s {w} {i} {j} (skip ss) a h l = go (dec_le i j)
  where
    go : Dec (i ≤ j) → Within s w j (skip ss)
    go (yes e) = let q : j ≡ i = omega arith in record { tree = skip ss; at = rw q a; up = λ look z. z }
    go (no n) = strs_within s (skip ss) ss (at_strs a) (omega arith) (omega (arith, (root a).most))
row_within s {w} {i} {j} (un u e) a h l =
    go (dec_le i j) (λ n. let b = (root (at_un a)).least in row_within s {i = i - 1} e (at_un a) (omega (arith, (root a).most)) (omega arith))
  where
    go : Dec (i ≤ j) → (j < i → Within s w j e) → Within s w j (un u e)
    go (yes e') f = let q : j ≡ i = omega arith in record { tree = un u e; at = rw q a; up = λ look z. or_left (open_at look (resolve s (un u e))) (any_node (open_at look) (resolve s e)) z }
    go (no n) f = let v = f (omega arith) in record { tree = v.tree; at = v.at; up = λ look z. or_right (open_at look (resolve s (un u e))) (any_node (open_at look) (resolve s e)) (v.up look z) }
row_within s {w} {i} {j} (bin b e e') a h l =
    go (dec_le i j) (dec_le i (j + size e'))
    (λ n k. row_within s e' (at_right_lem a) (omega (arith, (root a).most, (root (at_left_lem a)).least)) (omega arith))
    (λ k. row_within s e (at_left_lem a) (omega (arith, (root a).most, (root (at_left_lem a)).least)) (omega arith))
  where
    go : Dec (i ≤ j) → Dec (i ≤ j + size e') → (j < i → i ≤ j + size e' → Within s w j e') → (j + size e' < i → Within s w j e) → Within s w j (bin b e e')
    go (yes c) d f g = let q : j ≡ i = omega arith in record { tree = bin b e e'; at = rw q a; up = λ look z. or_left (open_at look (resolve s (bin b e e'))) (any_open s look e || any_open s look e') z }
    go (no n) (yes d) f g = let v = f (omega arith) d in record { tree = v.tree; at = v.at; up = λ look z. or_right (open_at look (resolve s (bin b e e'))) (any_open s look e || any_open s look e') (or_right (any_open s look e) (any_open s look e') (v.up look z)) }
    go (no n) (no d) f g = let v = g (omega arith) in record { tree = v.tree; at = v.at; up = λ look z. or_right (open_at look (resolve s (bin b e e'))) (any_open s look e || any_open s look e') (or_left (any_open s look e) (any_open s look e') (v.up look z)) }

-- the loops among the rows from `from` to i are settled
pub record RowsSettled (s : Bytes) (t : Table Bytes) (w : List ℕ) (st st' : Marks) (from i : ℕ) : Type 0 where
  pub known : Known t st'
  pub grows : Grows st st'
  pub no : (j : ℕ) (q : Expr Span) → from ≤ j → j < i → At w j q → open_at (by_marks st') (resolve s q) ≡ false

module _ (s : Bytes) (t : Table Bytes) (w : List ℕ) (st : Marks) (from : ℕ) where
  pub rows_start : Known t st → RowsSettled s t w st st from from
  rows_start k = record { known = k; grows = grows_none; no = λ j q h l. absurd (omega arith) }

  pub rows_more : {st₁ st₂ : Marks} {i : ℕ} (q : Expr Span) → RowsSettled s t w st st₁ from i → At w i q → ((p : Expr Span) → At w i p → Settled t st₁ st₂ (λ look. open_at look (resolve s p))) → RowsSettled s t w st st₂ from (i + 1)
  rows_more {st₁} {st₂} {i} q h a f =
      let v = f q a in
      record {
        known = v.known;
        grows = grows_more h.grows v.grows;
        no = λ j p l n b. go j p l b n (dec_le i j);
      }
    where
      go : (j : ℕ) (p : Expr Span) → from ≤ j → At w j p → j < i + 1 → Dec (i ≤ j) → open_at (by_marks st₂) (resolve s p) ≡ false
      go j p l b n (yes e) = let z : j ≡ i = omega arith in (f p (rw z at b)).no
      go j p l b n (no e) = open_mono (by_marks st₁) (by_marks st₂) (marks_grow (f q a).grows) (resolve s p) (h.no j p l (omega arith) b)

  pub rows_done : {st' : Marks} {end : ℕ} (r : Expr Span) → RowsSettled s t w st st' from end → At w (end - 1) r → from + size r ≡ end → Settled t st st' (λ look. any_node (open_at look) (resolve s r))
  rows_done {st'} {end} r h a e = record { known = h.known; grows = h.grows; no = rows_none s (by_marks st') r a (λ j q l n b. h.no j q (omega (arith, (root a).least)) (omega (arith, (root a).least)) b) }

-- the rows from `from` to i of the tree that ends at `end` are read, which changed the marks m to m'
pub record RowsRead (rules rows : List ℕ) (text : Bytes) (m m' : List ℕ) (from end i : ℕ) : Type 0 where
  pub low : from ≤ i
  pub high : i ≤ end
  pub steady : Steady m m'
  pub long : length m' ≡ length m
  pub settled : (t : Table Span) → Lent rules rows t → Known (resolve_table text t) (marks_of (resolve_table text t) m) → Idle (marks_of (resolve_table text t) m) → RowsSettled text (resolve_table text t) rows (marks_of (resolve_table text t) m) (marks_of (resolve_table text t) m') from i

same_size : {w : List ℕ} {i : ℕ} {q r : Expr Span} → At w i q → At w i r → size q ≡ size r
same_size a b = sym (root a).rows ∙ (root b).rows

tree_last : {rows : List ℕ} {from end : ℕ} → TreeRows rows from end → 1 ≤ end
tree_last tr = omega (arith, tr.rows, (root tr.at).least)

pub rows_begin : {rules rows : List ℕ} {text : Bytes} {m : List ℕ} {from end : ℕ} → TreeRows rows from end → RowsRead rules rows text m m from end from
rows_begin {text = text} {m = m} {from = from} tr = record { low = omega arith; high = omega (arith, tr.rows); steady = steady_none m; long = refl; settled = λ t l k id. rows_start text (resolve_table text t) _ (marks_of (resolve_table text t) m) from k }

module _ {rules rows : List ℕ} {text : Bytes} {m m₁ : List ℕ} {from end i : ℕ} (tr : TreeRows rows from end) where
  module _ (inv : RowsRead rules rows text m m₁ from end i) (lt : i < end) where
    -- row i is a root of the tree that ends there
    pub row_in : (r : Expr Span) → At rows (end - 1) r → Within text rows i r
    row_in r a = row_within text r a (omega (arith, same_size tr.at a, tr.rows, inv.low, tree_last tr)) (omega (arith, tree_last tr))

    module _ {m₂ : List ℕ} {v : Result ⊤ Refusal} (h : (t : Table Span) (q : Expr Span) → Lent rules rows t → At rows i q → LoopsOf text t m₁ m₂ v (λ look. open_at look (resolve text q))) where
      pub rows_met : {d : Refusal} → v ≡ Err d → (t : Table Span) (r : Expr Span) → Lent rules rows t → At rows (end - 1) r → LoopsOf text t m m₂ (Err d) (λ look. any_node (open_at look) (resolve text r))
      rows_met e t r l a =
          let q = row_in r a in
          record {
            cycle = λ z c. (h t q.tree l q.at).cycle z (e ∙ c);
            met = λ k id z. let x = inv.settled t l k id in q.up (name_list (resolve_table text t) []) ((h t q.tree l q.at).met x.known (idle_grows id x.grows) (e ∙ z));
            settled = λ k id n. absurd (ok_not_err (sym n));
          }

      pub rows_next : Steady m₁ m₂ → length m₂ ≡ length m₁ → v ≡ Ok (record {}) → RowsRead rules rows text m m₂ from end (i + 1)
      rows_next s g n =
          let q = row_in tr.tree tr.at in
          record {
            low = omega (arith, inv.low);
            high = omega arith;
            steady = steady_more inv.steady s;
            long = g ∙ inv.long;
            settled = λ t l k id. let x = inv.settled t l k id in
                rows_more text (resolve_table text t) rows (marks_of (resolve_table text t) m) from q.tree x q.at (λ p b. (h t p l b).settled x.known (idle_grows id x.grows) n);
          }

  pub rows_end : RowsRead rules rows text m m₁ from end i → end ≤ i → (t : Table Span) (r : Expr Span) → Lent rules rows t → At rows (end - 1) r → LoopsOf text t m m₁ (Ok (record {})) (λ look. any_node (open_at look) (resolve text r))
  rows_end inv le t r l a =
      let e : i ≡ end = omega (arith, inv.high) in
      record {
        cycle = λ z c. absurd (ok_not_err c);
        met = λ k id z. absurd (ok_not_err z);
        settled = λ k id z. rows_done text (resolve_table text t) rows (marks_of (resolve_table text t) m) from r (rw e at (inv.settled t l k id)) a (ap (λ (b : ℕ). from + b) (same_size a tr.at) ∙ tr.rows);
      }
