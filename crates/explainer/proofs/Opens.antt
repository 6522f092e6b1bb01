-- The rules that are being read: one more, and the same after a reading to a list. Assumes nothing.
use mathlib.Core.Path.{◌≡◌, refl, sym, ap, ◌∙◌}
use mathlib.Core.Bool.{Bool, true, false}
use mathlib.Core.List.{List, [], ◌∷◌, ◌++◌}
use mathlib.Core.Logic.{⊎_elim}
use mathlib.Core.Option.{some}
use Prim.Native.Nat.{ℕ, suc, ◌+◌, ◌-◌, ◌≤◌, ◌<◌}
use native.Mathlib.Omega.{arith}
use lib.ListN.{length, length-append}
use Rattle.grammar.specs.Basic.{Bytes, member, same_bytes, bytes_discrete}
use Rattle.grammar.specs.Table.{Table}
use Rattle.grammar.specs.Lists.{read_name}
use Rattle.grammar.proofs.Logic.{or_case, or_left, or_right, same_bytes_eq, eq_same_bytes}
use Rattle.grammar.proofs.Readings.{read_name_enough}
use Rattle.skipper.specs.Memory.{Marks, Known, Opened, Grows, Unfinished, mark_of, name_list}
use Rattle.skipper.proofs.Memories.{Sets}
use Rattle.explanation.specs.Ends.{Place, place_from, ends_name}
use Rattle.explanation.proofs.Ties as ties
use Rattle.explanation.proofs.Ties.{Numbers, numbers_more, place_some, end_of, name_alike}
use Rattle.explainer.specs.Reading.{Within}
use Rattle.explainer.proofs.Places.{opens_one}

-- a reading to a list closes what it opened
pub within_grows : {t : Table Bytes} {st st₁ : Marks} {o : List ℕ} {l : List Bytes} {d : ℕ} → Within t st o l d → Grows st st₁ → Within t st₁ o l d
within_grows w g = record { all = record { all = λ z e. w.all.all z (g.same z e); only = λ z m. g.still z (w.all.only z m) }; numbers = w.numbers; deep = w.deep; room = w.room }

-- x is one more rule that is being read
opened_opens : {st st₁ : Marks} {x : Bytes} {l : List Bytes} → Sets st st₁ x 1 → Opened st l → Opened st₁ (x ∷ l)
opened_opens {st} {st₁} {x} {l} s p = record { all = λ w e. all w e (bytes_discrete w x); only = λ w m. only w m (bytes_discrete w x) }
  where
    all : (w : Bytes) → st₁ w ≡ 1 → Dec (w ≡ x) → member w (x ∷ l) ≡ true
    all w e (yes q) = or_left (same_bytes w x) (member w l) (eq_same_bytes w x q)
    all w e (no n) = or_right (same_bytes w x) (member w l) (p.all w (sym (s.others w n) ∙ e))

    only : (w : Bytes) → member w (x ∷ l) ≡ true → Dec (w ≡ x) → st₁ w ≡ 1
    only w m (yes q) = ap st₁ q ∙ s.here
    only w m (no n) = s.others w n ∙ p.only w (⊎_elim (λ e. absurd (n (same_bytes_eq w x e))) (λ e. e) (or_case (same_bytes w x) (member w l) m))

module _ {t : Table Bytes} {st st₁ : Marks} {x : Bytes} (s : Sets st st₁ x 1) (z : st x ≡ 0) where
  pub known_opens : Known t st → Known t st₁
  known_opens k = record { so = λ y o h u. go y o h u (bytes_discrete y x) }
    where
      keeps : (w : Bytes) → st₁ w < 2 → Dec (w ≡ x) → st w < 2
      keeps w h (yes e) = rw e (omega (arith, z))
      keeps w h (no n) = omega (arith, h, s.others w n)

      go : (y : Bytes) (o : List Bytes) → 2 ≤ st₁ y → Unfinished st₁ o → Dec (y ≡ x) → mark_of (name_list t o y) ≡ st₁ y
      go y o h u (yes e) = absurd (omega (arith, h, ap st₁ e, s.here))
      go y o h u (no n) = k.so y o (omega (arith, h, s.others y n)) (λ w m. keeps w (u w m) (bytes_discrete w x)) ∙ sym (s.others y n)

  module _ {o : List ℕ} {l : List Bytes} {d : ℕ} (w : Within t st o l d) where
    pub not_member : member x l ≡ false
    not_member = go (member x l) refl
      where
        go : (b : Bool) → member x l ≡ b → b ≡ false
        go true e = absurd (omega (arith, z, w.all.only x e))
        go false e = refl

    pub within_opens : (p : Place) → place_from 0 0 t x ≡ some p → Within t st₁ (o ++ (p.rule ∷ [])) (x ∷ l) (d + 1)
    within_opens p e =
        record {
          all = opened_opens s w.all;
          numbers = numbers_more t o l x p e w.numbers;
          deep = length-append o (p.rule ∷ []) ∙ ap (λ (n : ℕ). n + 1) w.deep;
          room = omega (arith, w.room, opens_one t x l p.body (place_some 0 0 t x p e) not_member);
        }

-- A RULE THAT WAS READ TO A LIST IS ONE FROM WHEREVER IT IS NAMED
pub read_once : {t : Table Bytes} {st : Marks} {o : List ℕ} {l : List Bytes} {d : ℕ} → Known t st → Within t st o l d → (x : Bytes) → st x ≡ 3 → (i at : ℕ) → end_of (ends_name (suc (length t) - d) t o i at x) ≡ 3
unfolding name_list
read_once {t} {st} {o} {l} {d} k w x e i at =
    name_alike (suc (length t) - d) t o l w.numbers i at x
    ∙ ap ties.mark_of (read_name_enough t (suc (length t) - d) (suc (length t)) l x (omega (arith, w.room)) (omega (arith, w.room)))
    ∙ marks_same (read_name (suc (length t)) t l x)
    ∙ k.so x l (omega (arith, e)) (λ z m. omega (arith, w.all.only z m))
    ∙ e
  where
    marks_same : (p : Rattle.grammar.specs.Lists.Reading) → ties.mark_of p ≡ mark_of p
    marks_same Rattle.grammar.specs.Lists.nothing = refl
    marks_same Rattle.grammar.specs.Lists.again = refl
    marks_same (Rattle.grammar.specs.Lists.strings ss) = refl
