-- Factor's law, case by case. Assumes nothing.
use mathlib.Core.Path.{◌≡◌, refl}
use mathlib.Core.Bool.{Bool, true, false}
use mathlib.Core.Option.{Option, none, some}
use Prim.Native.Nat.{ℕ}
use Rattle.grammar.specs.Basic.{Bytes, ◌>>=◌, test}
use Rattle.grammar.specs.Tree.{Opt, Seq, Choice, E, un, bin, size, as_seq, as_choice, same}
use Rattle.grammar.specs.Table.{Table}
use Rattle.grammar.specs.Steps.{factor_case, factor?, is_tight, factor}
use Rattle.grammar.proofs.Logic.{none_some, some_eq, bind_case, test_true, same_eq}
use Rattle.grammar.proofs.TopDown.{as_seq_is}
use Rattle.meaning.specs.Outcome.{Res, fail, ok, Out, seq_go, seq_no, choice_ok, choice_no, opt_ok, opt_no}
use Rattle.meaning.proofs.Matcher.{det}
use Rattle.meaning.proofs.Same.{Same, ◌∘◌, equal, result, moved, never, top_down_same, or_same_same}
use Rattle.meaning.proofs.Views.{as_choice_is}

module _ {t : Table Bytes} {s : Bytes} where
  both_to : {a b c : E} {p : ℕ} {r : Res} → Out t s (bin Choice (bin Seq a b) (bin Seq a c)) p r → Out t s (bin Seq a (bin Choice b c)) p r
  both_to (choice_ok (seq_go d f)) = seq_go d (choice_ok f)
  both_to (choice_no (seq_no d) (seq_no g)) = seq_no d
  both_to (choice_no (seq_no d) (seq_go g h)) = never d g
  both_to (choice_no (seq_go d f) (seq_no g)) = never g d
  both_to (choice_no (seq_go d f) (seq_go g h)) = seq_go d (choice_no f (moved (det d g) h))

  both_from : {a b c : E} {p : ℕ} {r : Res} → Out t s (bin Seq a (bin Choice b c)) p r → Out t s (bin Choice (bin Seq a b) (bin Seq a c)) p r
  both_from (seq_no d) = choice_no (seq_no d) (seq_no d)
  both_from (seq_go d (choice_ok f)) = choice_ok (seq_go d f)
  both_from (seq_go d (choice_no f g)) = choice_no (seq_go d f) (seq_go d g)

  -- (a~b)|(a~c) and a~(b|c)
  pub both : {a b c : E} → Same t s (bin Choice (bin Seq a b) (bin Seq a c)) (bin Seq a (bin Choice b c))
  both = record { to = both_to; from = both_from }

  left_to : {a b : E} {p : ℕ} {r : Res} → Out t s (bin Choice (bin Seq a b) a) p r → Out t s (bin Seq a (un Opt b)) p r
  left_to (choice_ok (seq_go d f)) = seq_go d (opt_ok f)
  left_to (choice_no (seq_no d) g) = result (det d g) (seq_no d)
  left_to (choice_no (seq_go d f) g) = result (det d g) (seq_go d (opt_no f))

  left_from : {a b : E} {p : ℕ} {r : Res} → Out t s (bin Seq a (un Opt b)) p r → Out t s (bin Choice (bin Seq a b) a) p r
  left_from (seq_no d) = choice_no (seq_no d) d
  left_from (seq_go d (opt_ok f)) = choice_ok (seq_go d f)
  left_from (seq_go d (opt_no f)) = choice_no (seq_go d f) d

  -- (a~b)|a and a~b?
  pub left : {a b : E} → Same t s (bin Choice (bin Seq a b) a) (bin Seq a (un Opt b))
  left = record { to = left_to; from = left_from }

  right_to : {a b : E} {p : ℕ} {r : Res} → Out t s (bin Choice a (bin Seq a b)) p r → Out t s a p r
  right_to (choice_ok d) = d
  right_to (choice_no d (seq_no f)) = d
  right_to (choice_no d (seq_go f g)) = never d f

  right_from : {a b : E} {p : ℕ} {r : Res} → Out t s a p r → Out t s (bin Choice a (bin Seq a b)) p r
  right_from {r = fail} d = choice_no d (seq_no d)
  right_from {r = ok m} d = choice_ok d

  -- a|(a~b) and a
  pub right : {a b : E} → Same t s (bin Choice a (bin Seq a b)) a
  right = record { to = right_to; from = right_from }

  -- a case that asks for equal heads
  tested : (a b y x e : E) → (a ≡ b → Same t s e y) → (test (same a b) >>= λ _. some y) ≡ some x → Same t s e x
  tested a b y x e law h = bind_case (test (same a b)) (λ _. some y) x h (λ u f g. law (same_eq a b (test_true (same a b) u f)) ∘ equal (some_eq y x g))

  case_same : (tight : Bool) (l r x : E) (o q : Option (E × E)) → as_seq l ≡ o → as_seq r ≡ q → factor_case tight l r o q ≡ some x → Same t s (bin Choice l r) x
  unfolding factor_case
  case_same tight l r x (some p) (some q) f g h = tested p.0 q.0 _ x (bin Choice l r) (λ k. rw (as_seq_is l p f, as_seq_is r q g, ← k) both) h
  case_same true l r x (some p) none f g h = tested p.0 r _ x (bin Choice l r) (λ k. rw (as_seq_is l p f, ← k) left) h
  case_same false l r x (some p) none f g h = none_some h
  case_same tight l r x none (some q) f g h = tested l q.0 _ x (bin Choice l r) (λ k. rw (as_seq_is r q g, ← k) right) h
  case_same tight l r x none none f g h = none_some h

  factor?-same : (tight : Bool) (e x : E) → factor? tight e ≡ some x → Same t s e x
  unfolding factor?
  factor?-same tight e x h = bind_case (as_choice e) _ x h (λ p f g. equal (as_choice_is e p f) ∘ case_same tight p.0 p.1 x (as_seq p.0) (as_seq p.1) refl refl g)

  pub factor_same : (y : ℕ) (e : E) → Same t s e (factor y e)
  unfolding factor
  factor_same y e = top_down_same (or_same_same (factor? (is_tight y)) (factor?-same (is_tight y))) (size e) e
