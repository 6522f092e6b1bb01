-- Concatenate's law: the bytes of two literals, one after the other, are the bytes of one. Assumes nothing.
use mathlib.Core.Path.{◌≡◌, refl, sym, ap, ◌∙◌}
use mathlib.Core.Bool.{Bool}
use mathlib.Core.List.{[], ◌∷◌, ◌++◌}
use mathlib.Core.Option.{some}
use Prim.Native.Nat.{ℕ}
use lib.Dec.{eqb}
use Rattle.grammar.specs.Basic.{Bytes, ◌>>=◌}
use Rattle.grammar.specs.Tree.{Lit, Str, Insens, Seq, E, lit, bin, lit_kind, lit_at, as_seq}
use Rattle.grammar.specs.Table.{Table}
use Rattle.grammar.specs.Steps.{is_atomic, join_str, join_insens, concat?, concatenate}
use Rattle.grammar.proofs.Logic.{bind_case, alt_case, some_eq}
use Rattle.grammar.proofs.TopDown.{as_seq_is}
use Rattle.meaning.specs.Outcome.{Res, fail, ok, one, next, bytes, folded, Out, str, insens, seq_go, seq_no}
use Rattle.meaning.proofs.Same.{Same, ◌∘◌, equal, result, cond_same, or_same_same, bottom_up_same}
use Rattle.meaning.proofs.Views.{lit_at_is}

bytes_append : (alike : ℕ → ℕ → Bool) (s v w : Bytes) (p : ℕ) → bytes alike s (v ++ w) p ≡ next (bytes alike s v p) (bytes alike s w)
bytes_append alike s [] w p = refl
bytes_append alike s (c ∷ v) w p = go (bytes_append alike s v w) (one (alike c) s p)
  where
    go : ((q : ℕ) → bytes alike s (v ++ w) q ≡ next (bytes alike s v q) (bytes alike s w)) → (x : Res) → next x (bytes alike s (v ++ w)) ≡ next (next x (bytes alike s v)) (bytes alike s w)
    go ih fail = refl
    go ih (ok q) = ih q

-- a literal of this kind takes its bytes, compared so
pub record Takes (t : Table Bytes) (s : Bytes) (k : Lit) (alike : ℕ → ℕ → Bool) : Type 0 where
  pub makes : {w : Bytes} {p : ℕ} {r : Res} → bytes alike s w p ≡ r → Out t s (lit k w) p r
  pub takes : {w : Bytes} {p : ℕ} {r : Res} → Out t s (lit k w) p r → bytes alike s w p ≡ r

module _ {t : Table Bytes} {s : Bytes} where
  str_takes : Takes t s Str eqb
  str_takes = record { makes = str; takes = λ d. bytes_of d }
    where
      bytes_of : {w : Bytes} {p : ℕ} {r : Res} → Out t s (lit Str w) p r → bytes eqb s w p ≡ r
      bytes_of (str h) = h

  insens_takes : Takes t s Insens folded
  insens_takes = record { makes = insens; takes = λ d. bytes_of d }
    where
      bytes_of : {w : Bytes} {p : ℕ} {r : Res} → Out t s (lit Insens w) p r → bytes folded s w p ≡ r
      bytes_of (insens h) = h

  module _ {k : Lit} {alike : ℕ → ℕ → Bool} (c : Takes t s k alike) where
    join : {v w : Bytes} {p : ℕ} {r : Res} → Out t s (bin Seq (lit k v) (lit k w)) p r → Out t s (lit k (v ++ w)) p r
    join {v} {w} {p} (seq_no d) = c.makes (bytes_append alike s v w p ∙ ap (λ (x : Res). next x (bytes alike s w)) (c.takes d))
    join {v} {w} {p} (seq_go d f) = c.makes (bytes_append alike s v w p ∙ ap (λ (x : Res). next x (bytes alike s w)) (c.takes d) ∙ c.takes f)

    split : (v w : Bytes) {p : ℕ} {r : Res} (x : Res) → bytes alike s v p ≡ x → next x (bytes alike s w) ≡ r → Out t s (bin Seq (lit k v) (lit k w)) p r
    split v w fail h q = result q (seq_no (c.makes h))
    split v w (ok m) h q = seq_go (c.makes h) (c.makes q)

    -- Seq of two literals of that kind, and the one literal
    pub joined : {v w : Bytes} → Same t s (bin Seq (lit k v) (lit k w)) (lit k (v ++ w))
    joined {v} {w} = record { to = join; from = λ d. parted d }
      where
        parted : {p : ℕ} {r : Res} → Out t s (lit k (v ++ w)) p r → Out t s (bin Seq (lit k v) (lit k w)) p r
        parted {p} d = split v w (bytes alike s v p) refl (sym (bytes_append alike s v w p) ∙ c.takes d)

    pub join?-same : (l r x : E) → (lit_at (lit_kind k) l >>= λ v. lit_at (lit_kind k) r >>= λ w. some (lit k (v ++ w))) ≡ some x → Same t s (bin Seq l r) x
    join?-same l r x h =
        bind_case (lit_at (lit_kind k) l) _ x h λ v f g.
        bind_case (lit_at (lit_kind k) r) _ x g λ w f' q.
        rw (lit_at_is k l v f, lit_at_is k r w f') (joined ∘ equal (some_eq _ _ q))

  concat?-same : (e x : E) → concat? e ≡ some x → Same t s e x
  concat?-same e x h =
      bind_case (as_seq e) _ x h λ q f g.
      equal (as_seq_is e q f)
      ∘ alt_case (join_str q.0 q.1) (join_insens q.0 q.1) x g (join?-same str_takes q.0 q.1 x) (join?-same insens_takes q.0 q.1 x)

  pub concatenate_same : (y : ℕ) (e : E) → Same t s e (concatenate y e)
  unfolding concatenate
  concatenate_same y e = cond_same (is_atomic y) (bottom_up_same (or_same_same concat? concat?-same) e)
