-- Rotate's law: a node of Seq, or of Choice, may be regrouped. Assumes nothing.
use Prim.Native.Nat.{ℕ}
use Rattle.grammar.specs.Basic.{Bytes}
use Rattle.grammar.specs.Tree.{Bin, Seq, Choice, E, lit, fixed, skip, un, bin, size}
use Rattle.grammar.specs.Table.{Table}
use Rattle.grammar.specs.Steps.{rotated, rotate_at, rotate}
use Rattle.meaning.specs.Outcome.{Res, Out, seq_go, seq_no, choice_ok, choice_no}
use Rattle.meaning.proofs.Same.{Same, same, ◌∘◌, top_down_same}

module _ {t : Table Bytes} {s : Bytes} where
  regroup : {a b c : E} {p : ℕ} {r : Res} (k : Bin) → Out t s (bin k (bin k a b) c) p r → Out t s (bin k a (bin k b c)) p r
  regroup Seq (seq_no (seq_no d)) = seq_no d
  regroup Seq (seq_no (seq_go d f)) = seq_go d (seq_no f)
  regroup Seq (seq_go (seq_go d f) g) = seq_go d (seq_go f g)
  regroup Choice (choice_ok (choice_ok d)) = choice_ok d
  regroup Choice (choice_ok (choice_no d f)) = choice_no d (choice_ok f)
  regroup Choice (choice_no (choice_no d f) g) = choice_no d (choice_no f g)

  back : {a b c : E} {p : ℕ} {r : Res} (k : Bin) → Out t s (bin k a (bin k b c)) p r → Out t s (bin k (bin k a b) c) p r
  back Seq (seq_no d) = seq_no (seq_no d)
  back Seq (seq_go d (seq_no f)) = seq_no (seq_go d f)
  back Seq (seq_go d (seq_go f g)) = seq_go (seq_go d f) g
  back Choice (choice_ok d) = choice_ok (choice_ok d)
  back Choice (choice_no d (choice_ok f)) = choice_ok (choice_no d f)
  back Choice (choice_no d (choice_no f g)) = choice_no (choice_no d f) g

  -- (a~b)~c and a~(b~c); (a|b)|c and a|(b|c)
  pub grouping : (k : Bin) {a b c : E} → Same t s (bin k (bin k a b) c) (bin k a (bin k b c))
  grouping k = record { to = regroup k; from = back k }

  rotated_same : (k : Bin) (l r : E) → Same t s (bin k l r) (rotated k l r)
  rotated_same k (lit j w) r = same
  rotated_same k (fixed f) r = same
  rotated_same k (skip ss) r = same
  rotated_same k (un u e) r = same
  rotated_same Seq (bin Seq x y) r = grouping Seq ∘ rotated_same Seq x (bin Seq y r)
  rotated_same Seq (bin Choice x y) r = same
  rotated_same Choice (bin Seq x y) r = same
  rotated_same Choice (bin Choice x y) r = grouping Choice ∘ rotated_same Choice x (bin Choice y r)

  rotate_at_same : (e : E) → Same t s e (rotate_at e)
  rotate_at_same (lit k w) = same
  rotate_at_same (fixed f) = same
  rotate_at_same (skip ss) = same
  rotate_at_same (un u e) = same
  rotate_at_same (bin k l r) = rotated_same k l r

  pub rotate_same : (e : E) → Same t s e (rotate e)
  unfolding rotate
  rotate_same e = top_down_same rotate_at_same (size e) e
