-- The answer is step 2's own: 0 exactly where `skip?` of the row's tree is a Skip, 9 exactly where its reading is again. Assumes nothing.
use mathlib.Core.Path.{◌≡◌, refl, sym, ap, ◌∙◌, subst}
use mathlib.Core.Bool.{Bool, true, false, cond}
use mathlib.Core.List.{List, []}
use mathlib.Core.Option.{Option, none, some}
use Prim.Native.Nat.{ℕ, suc, ◌-◌}
use native.Mathlib.Omega.{arith}
use lib.ListN.{length}
use Rattle.grammar.specs.Basic.{Bytes, same_bytes, ◌>>=◌, test}
use Rattle.grammar.specs.Tree.{E, skip, as_rep, as_seq, as_neg_pred, as_ident}
use Rattle.grammar.specs.Table.{Table}
use Rattle.grammar.specs.Lists.{Reading, nothing, strings, read_name, skip_list, ANY, loop_over}
use Rattle.grammar.specs.Steps.{rotate, is_atomic, skip?}
use Rattle.grammar.proofs.Logic.{none_some, some_eq, eq_same}
use Rattle.explanation.specs.Ends as places
use Rattle.explanation.specs.Ends.{Ends, reads, unknown, other, ends_in, ends_name}
use Rattle.explanation.specs.Explain.{Answer, not_seq, not_neg_pred, not_any, ends, Node, node_from, of_right, of_left, of_seq, explain}
use Rattle.explanation.proofs.Ties.{mark_of, end_of, in_alike, name_alike}

-- ---- the parts of a loop

-- what stays a loop before its list is read
pub data Early : Answer → Type 0 where
  seq : Early not_seq
  left : Early not_neg_pred
  right : Early not_any

-- the loop's expression is read, or one of its parts is another
pub data Parted (e : E) (read : E → Ends) : Answer → Type 0 where
  over : (x : E) → loop_over e ≡ some x → Parted e read (ends (read x))
  early : (a : Answer) → Early a → loop_over e ≡ none → Parted e read a

parted : (e s : E) (read : E → Ends) → as_rep e ≡ some s → Parted e read (of_seq (as_seq s) read)
unfolding loop_over
parted e s read h = go (as_seq s) refl
  where
    test_any : (x : E) (y : Bytes) (b : Bool) → loop_over e ≡ (test b >>= λ _. some x) → Parted e read (cond b (ends (read x)) not_any)
    test_any x y true k = over x k
    test_any x y false k = early not_any right k

    on_right : (x : E) (o : Option Bytes) → loop_over e ≡ (o >>= λ y. test (same_bytes y ANY) >>= λ _. some x) → Parted e read (of_right o (ends (read x)))
    on_right x none k = early not_any right k
    on_right x (some y) k = test_any x y (same_bytes y ANY) k

    on_left : (o : Option E) (r : E) → loop_over e ≡ (o >>= λ x. as_ident r >>= λ y. test (same_bytes y ANY) >>= λ _. some x) → Parted e read (of_left o (as_ident r) read)
    on_left none r k = early not_neg_pred left k
    on_left (some x) r k = on_right x (as_ident r) k

    go : (o : Option (E × E)) → as_seq s ≡ o → Parted e read (of_seq o read)
    go none k = early not_seq seq (rw (h, k))
    go (some (l, r)) k = on_left (as_neg_pred l) r (rw (h, k))

-- ---- the answer for a Rep of an Atomic rule with nothing to regroup

pub record ASkip (t : Table Bytes) (e : E) : Type 0 where
  pub strings' : List Bytes
  pub is : skip? t e ≡ some (skip strings')

pub record MeetsAgain (t : Table Bytes) (e : E) : Type 0 where
  pub over' : E
  pub loop : loop_over e ≡ some over'
  pub is : skip_list t over' ≡ Reading.again

pub record NineAt (a : Answer) : Type 0 where
  pub rule : ℕ
  pub at : ℕ
  pub met : ℕ
  pub path : List ℕ
  pub is : a ≡ ends (places.again rule at met path)

module _ (t : Table Bytes) (row : ℕ) (n : Node) (found : node_from 0 t row ≡ some n) (s : E) (rep : as_rep n.tree ≡ some s) (still : rotate n.tree ≡ n.tree) (atomic : is_atomic n.type ≡ true) where
  abbrev read : E → Ends
  read x = ends_in (ends_name (suc (length t)) t []) n.rule (row - 4) x

  explain_is : explain t row ≡ of_seq (as_seq s) read
  unfolding explain
  explain_is = rw (found, rep, eq_same (rotate n.tree) n.tree still, atomic)

  alike : (x : E) → end_of (read x) ≡ mark_of (skip_list t x)
  unfolding skip_list
  alike x = in_alike (ends_name (suc (length t)) t []) (read_name (suc (length t)) t []) (name_alike (suc (length t)) t [] [] (λ _ _ _. refl)) n.rule (row - 4) x

  end_answer : Answer → ℕ
  end_answer (ends w) = end_of w
  end_answer Answer.not_rep = 0
  end_answer Answer.regroup = 0
  end_answer Answer.not_atomic = 0
  end_answer not_seq = 0
  end_answer not_neg_pred = 0
  end_answer not_any = 0

  -- what the reading of the loop's list comes to, and what is answered
  pub data Told : Answer → Type 0 where
    list : (x : E) (ss : List Bytes) → loop_over n.tree ≡ some x → skip_list t x ≡ strings ss → Told (ends reads)
    none' : (x : E) (w : Ends) → loop_over n.tree ≡ some x → skip_list t x ≡ nothing → end_of w ≡ 2 → Told (ends w)
    met : (x : E) (i at j : ℕ) (o : List ℕ) → loop_over n.tree ≡ some x → skip_list t x ≡ Reading.again → Told (ends (places.again i at j o))
    apart : (a : Answer) → Early a → loop_over n.tree ≡ none → Told a

  pub told : Told (explain t row)
  told = subst Told (sym explain_is) (go (of_seq (as_seq s) read) (parted n.tree s read rep))
    where
      of_read : (x : E) → loop_over n.tree ≡ some x → (w : Ends) (p : Reading) → skip_list t x ≡ p → end_of w ≡ mark_of p → Told (ends w)
      of_read x k reads (strings ss) e f = list x ss k e
      of_read x k reads nothing e f = absurd (omega (arith, f))
      of_read x k reads Reading.again e f = absurd (omega (arith, f))
      of_read x k (unknown i at) (strings ss) e f = absurd (omega (arith, f))
      of_read x k (unknown i at) nothing e f = none' x (unknown i at) k e refl
      of_read x k (unknown i at) Reading.again e f = absurd (omega (arith, f))
      of_read x k (other i at) (strings ss) e f = absurd (omega (arith, f))
      of_read x k (other i at) nothing e f = none' x (other i at) k e refl
      of_read x k (other i at) Reading.again e f = absurd (omega (arith, f))
      of_read x k (places.again i at j o) (strings ss) e f = absurd (omega (arith, f))
      of_read x k (places.again i at j o) nothing e f = absurd (omega (arith, f))
      of_read x k (places.again i at j o) Reading.again e f = met x i at j o k e

      go : (a : Answer) → Parted n.tree read a → Told a
      go a (over x k) = of_read x k (read x) (skip_list t x) refl (alike x)
      go a (early b e k) = apart b e k

  -- 0 exactly where step 2 makes a Skip of the row's tree
  pub zero_skip : explain t row ≡ ends reads → ASkip t n.tree
  unfolding skip? end_answer
  zero_skip h = go (explain t row) told h
    where
      go : (a : Answer) → Told a → a ≡ ends reads → ASkip t n.tree
      go a (list x ss k p) e = record { strings' = ss; is = rw (k, p) }
      go a (none' x w k p z) e = absurd (omega (arith, z, ap end_answer e))
      go a (met x i at j o k p) e = let z : ◌≡◌ {A = ℕ} 1 3 = ap end_answer e in absurd (omega (arith, z))
      go a (apart b seq k) e = let z : ◌≡◌ {A = ℕ} 0 3 = ap end_answer e in absurd (omega (arith, z))
      go a (apart b left k) e = let z : ◌≡◌ {A = ℕ} 0 3 = ap end_answer e in absurd (omega (arith, z))
      go a (apart b right k) e = let z : ◌≡◌ {A = ℕ} 0 3 = ap end_answer e in absurd (omega (arith, z))

  pub skip_zero : (u : E) → skip? t n.tree ≡ some u → explain t row ≡ ends reads
  unfolding skip?
  skip_zero u h = go (explain t row) told
    where
      stays : {P : Type 0} → skip? t n.tree ≡ none → P
      stays e = none_some (sym e ∙ h)

      go : (a : Answer) → Told a → a ≡ ends reads
      go a (list x ss k p) = refl
      go a (none' x w k p z) = stays (rw (k, p))
      go a (met x i at j o k p) = stays (rw (k, p))
      go a (apart b e k) = stays (rw k)

  -- 9 exactly where the reading of its list is again
  pub nine_again : NineAt (explain t row) → MeetsAgain t n.tree
  unfolding end_answer
  nine_again h = go (explain t row) told (ap end_answer h.is)
    where
      go : (a : Answer) → Told a → end_answer a ≡ 1 → MeetsAgain t n.tree
      go a (list x ss k p) e = absurd (omega (arith, e))
      go a (none' x w k p z) e = absurd (omega (arith, z, e))
      go a (met x i at j o k p) e = record { over' = x; loop = k; is = p }
      go a (apart b seq k) e = absurd (omega (arith, e))
      go a (apart b left k) e = absurd (omega (arith, e))
      go a (apart b right k) e = absurd (omega (arith, e))

  pub again_nine : MeetsAgain t n.tree → NineAt (explain t row)
  again_nine h = go (explain t row) told
    where
      same_over : (x : E) → loop_over n.tree ≡ some x → skip_list t x ≡ Reading.again
      same_over x k = ap (skip_list t) (some_eq x h.over' (sym k ∙ h.loop)) ∙ h.is

      go : (a : Answer) → Told a → NineAt a
      go a (list x ss k p) = let z : ◌≡◌ {A = ℕ} 3 1 = ap mark_of (sym p ∙ same_over x k) in absurd (omega (arith, z))
      go a (none' x w k p z) = let y : ◌≡◌ {A = ℕ} 2 1 = ap mark_of (sym p ∙ same_over x k) in absurd (omega (arith, y))
      go a (met x i at j o k p) = record { rule = i; at = at; met = j; path = o; is = refl }
      go a (apart b e k) = none_some (sym k ∙ h.loop)
