-- Laws of the memory of skip lists: a name is read once, and its mark serves from then on. Assumes nothing.
use mathlib.Core.Path.{◌≡◌, refl, sym, ap, ◌∙◌, fun_ext}
use mathlib.Core.Bool.{false≢true, Bool, true, false, ◌||◌, cond}
use mathlib.Core.List.{List, [], ◌∷◌}
use mathlib.Core.Option.{none, some}
use mathlib.Core.Logic.{⊎_elim}
use Prim.Native.Nat.{ℕ, suc, ◌+◌, ◌≤◌, ◌<◌}
use native.Mathlib.Omega.{arith}
use lib.ListN.{length}
use lib.Dec.{eqb}
use Rattle.grammar.specs.Basic.{Bytes, member, same_bytes, bytes_discrete}
use Rattle.grammar.specs.Tree.{Lit, Str, Insens, Ident, Seq, Choice, E, lit, fixed, skip, un, bin}
use Rattle.grammar.specs.Table.{Table, find}
use Rattle.grammar.specs.Lists.{Reading, nothing, strings, again, and_then, read_lit, read_left, read_in, read_name}
use Rattle.grammar.proofs.Logic.{none_some, eqb_eq, same_bytes_eq, eq_same_bytes, or_case, or_left, or_right}
use Rattle.grammar.proofs.Readings.{unopened, read_name_enough}
use Rattle.grammar.proofs.Leaves.{read_leaves}
use Rattle.skipper.specs.Memory.{mark_of, name_list, Marks, by_mark, by_marks, Unfinished, Known, Opened, Grows, Reads}

-- the fuel of a name's reading is enough, so it obeys its own recursion equation

unopened_most : (t : Table Bytes) (o : List Bytes) → unopened t o ≤ length t
unopened_most [] o = omega arith
unopened_most (r ∷ rs) o = go (member r.name o) (unopened_most rs o)
  where
    go : (b : Bool) → unopened rs o ≤ length rs → cond b 0 1 + unopened rs o ≤ length (r ∷ rs)
    go true h = omega arith
    go false h = omega arith

opened_less : (t : Table Bytes) (x : Bytes) (o : List Bytes) (e : E) → find t x ≡ some e → unopened t (x ∷ o) < length t
opened_less [] x o e h = none_some h
opened_less (r ∷ rs) x o e h = go (same_bytes r.name x) h (opened_less rs x o e) (unopened_most rs (x ∷ o))
  where
    less : (b : Bool) → unopened rs (x ∷ o) < length rs → cond b 0 1 + unopened rs (x ∷ o) < length (r ∷ rs)
    less true k = omega arith
    less false k = omega arith

    go : (a : Bool) → cond a (some r.body) (find rs x) ≡ some e → (find rs x ≡ some e → unopened rs (x ∷ o) < length rs) → unopened rs (x ∷ o) ≤ length rs → cond (a || member r.name o) 0 1 + unopened rs (x ∷ o) < length (r ∷ rs)
    go true q ih m = omega arith
    go false q ih m = less (member r.name o) (ih q)

pub name_none : (t : Table Bytes) (o : List Bytes) (x : Bytes) → find t x ≡ none → name_list t o x ≡ nothing
unfolding name_list
name_none t o x f = rw f

pub name_met : (t : Table Bytes) (o : List Bytes) (x : Bytes) (e : E) → find t x ≡ some e → member x o ≡ true → name_list t o x ≡ again
unfolding name_list
name_met t o x e f m = rw (f, m)

pub name_step : (t : Table Bytes) (o : List Bytes) (x : Bytes) (e : E) → find t x ≡ some e → member x o ≡ false → name_list t o x ≡ read_in (name_list t (x ∷ o)) e
unfolding name_list
name_step t o x e f m =
    let l : unopened t (x ∷ o) < length t = opened_less t x o e f in
    let q : read_name (length t) t (x ∷ o) ≡ read_name (suc (length t)) t (x ∷ o) = fun_ext (λ y. read_name_enough t (length t) (suc (length t)) (x ∷ o) y (omega arith) (omega arith)) in
    let s : read_name (suc (length t)) t o x ≡ read_in (read_name (length t) t (x ∷ o)) e = rw (f, m) in
    s ∙ ap (λ (look : Bytes → Reading). read_in look e) q

-- A reading by marks says no more than a reading of the rules

-- where p is read to its end, q is read like it
abbrev pub Below : Reading → Reading → Type 0
Below p q = 2 ≤ mark_of p → mark_of q ≡ mark_of p

pub then_below : (p p' q q' : Reading) → Below p p' → Below q q' → Below (and_then p q) (and_then p' q')
then_below again p' q q' f g h = absurd (omega arith)
then_below nothing nothing q q' f g h = refl
then_below nothing again q q' f g h = absurd (omega (arith, f h))
then_below nothing (strings ts) q q' f g h = absurd (omega (arith, f h))
then_below (strings ss) nothing q q' f g h = let l : 2 ≤ 3 = omega arith in absurd (omega (arith, f l))
then_below (strings ss) again q q' f g h = let l : 2 ≤ 3 = omega arith in absurd (omega (arith, f l))
then_below (strings ss) (strings ts) again q' f g h = absurd (omega arith)
then_below (strings ss) (strings ts) nothing nothing f g h = refl
then_below (strings ss) (strings ts) nothing again f g h = absurd (omega (arith, g h))
then_below (strings ss) (strings ts) nothing (strings us) f g h = absurd (omega (arith, g h))
then_below (strings ss) (strings ts) (strings us) nothing f g h = absurd (omega (arith, g h))
then_below (strings ss) (strings ts) (strings us) again f g h = absurd (omega (arith, g h))
then_below (strings ss) (strings ts) (strings us) (strings vs) f g h = refl

-- a reading over how a name is read that goes along with it
abbrev pub Monotone : ((Bytes → Reading) → Reading) → Type 0
Monotone f = (look look' : Bytes → Reading) → ((x : Bytes) → Below (look x) (look' x)) → Below (f look) (f look')

pub lit_mono : (k : Lit) (s : Bytes) → Monotone (λ look. read_lit look k s)
lit_mono Str s look look' h = λ _. refl
lit_mono Insens s look look' h = λ _. refl
lit_mono Ident s look look' h = h s

pub left_mono : (e : E) → Monotone (λ look. read_left look e)
left_mono (lit k s) look look' h = lit_mono k s look look' h
left_mono (fixed f) look look' h = λ _. refl
left_mono (skip ss) look look' h = λ _. refl
left_mono (un u e) look look' h = λ _. refl
left_mono (bin b l r) look look' h = λ _. refl

pub in_mono : (e : E) → Monotone (λ look. read_in look e)
in_mono (lit k s) look look' h = lit_mono k s look look' h
in_mono (fixed f) look look' h = λ _. refl
in_mono (skip ss) look look' h = λ _. refl
in_mono (un u e) look look' h = λ _. refl
in_mono (bin Seq l r) look look' h = λ _. refl
in_mono (bin Choice l r) look look' h = then_below (read_left look l) (read_left look' l) (read_in look r) (read_in look' r) (left_mono l look look' h) (in_mono r look look' h)

pub leaves_mono : (e : E) → Monotone (λ look. read_leaves look e)
leaves_mono (lit k s) look look' h = lit_mono k s look look' h
leaves_mono (fixed f) look look' h = λ _. refl
leaves_mono (skip ss) look look' h = λ _. refl
leaves_mono (un u e) look look' h = λ _. refl
leaves_mono (bin Seq l r) look look' h = λ _. refl
leaves_mono (bin Choice l r) look look' h = then_below (read_leaves look l) (read_leaves look' l) (read_leaves look r) (read_leaves look' r) (leaves_mono l look look' h) (leaves_mono r look look' h)

-- the reading that a mark stands for
by_mark_lem : (s : ℕ) → 2 ≤ mark_of (by_mark s) → mark_of (by_mark s) ≡ s
by_mark_lem s h = go (eqb s 2) (eqb s 3) refl refl h
  where
    go : (a b : Bool) → eqb s 2 ≡ a → eqb s 3 ≡ b → 2 ≤ mark_of (cond a nothing (cond b (strings []) again)) → mark_of (cond a nothing (cond b (strings []) again)) ≡ s
    go true b p q k = sym (eqb_eq s 2 p)
    go false true p q k = sym (eqb_eq s 3 q)
    go false false p q k = absurd (omega arith)

mark_by : (p : Reading) (s : ℕ) → 2 ≤ s → mark_of p ≡ s → mark_of (by_mark s) ≡ s
mark_by again s h e = absurd (omega arith)
mark_by nothing s h e = rw (← e)
mark_by (strings ss) s h e = rw (← e)

pub marks_below : {t : Table Bytes} {st : Marks} (o : List Bytes) → Known t st → Unfinished st o → (x : Bytes) → Below (by_marks st x) (name_list t o x)
marks_below {t} {st} o k u x h = let e : mark_of (by_mark (st x)) ≡ st x = by_mark_lem (st x) h in k.so x o (omega arith) u ∙ sym e

pub marks_grow : {st st' : Marks} → Grows st st' → (x : Bytes) → Below (by_marks st x) (by_marks st' x)
marks_grow {st} {st'} g x h = let e : mark_of (by_mark (st x)) ≡ st x = by_mark_lem (st x) h in ap (λ (s : ℕ). mark_of (by_mark s)) (g.done x (omega arith))

-- How readings go on

-- what was settled is so, whichever unfinished rules are being read
pub settled_so : {t : Table Bytes} {st : Marks} {a : ℕ} (f : (Bytes → Reading) → Reading) (o : List Bytes) → Monotone f → Known t st → Unfinished st o → 2 ≤ a → mark_of (f (by_marks st)) ≡ a → mark_of (f (name_list t o)) ≡ a
settled_so {t} {st} f o m k u h e = m (by_marks st) (name_list t o) (marks_below o k u) (omega arith) ∙ e

pub grows_none : {st : Marks} → Grows st st
grows_none = record { done = λ z h. refl; still = λ z h. h; same = λ z h. h }

pub grows_more : {st st₁ st₂ : Marks} → Grows st st₁ → Grows st₁ st₂ → Grows st st₂
grows_more g h = record { done = λ z l. h.done z (omega (arith, g.done z l)) ∙ g.done z l; still = λ z e. h.still z (g.still z e); same = λ z e. g.same z (h.same z e) }

opened_unfinished : {st st₁ : Marks} {o : List Bytes} → Opened st o → Grows st st₁ → Unfinished st₁ o
opened_unfinished p g z m = omega (arith, g.still z (p.only z m))

opened_grows : {st st₁ : Marks} {o : List Bytes} → Opened st o → Grows st st₁ → Opened st₁ o
opened_grows p g = record { all = λ z e. p.all z (g.same z e); only = λ z m. g.still z (p.only z m) }

-- a reading that looks at no name
pub reads_plain : {t : Table Bytes} {st : Marks} (p : Reading) → Known t st → 2 ≤ mark_of p → Reads t st st (mark_of p) (λ _. p)
reads_plain p k h = record { met = λ e o q. e; known = λ _. k; grows = λ _. grows_none; settled = λ _. refl }

-- a name with a mark
pub reads_marked : {t : Table Bytes} {st : Marks} (x : Bytes) (e : E) → find t x ≡ some e → Known t st → 1 ≤ st x → Reads t st st (st x) (λ look. look x)
reads_marked {t} {st} x e f k h =
    record {
      met = λ m o p. ap mark_of (name_met t o x e f (p.all x m));
      known = λ _. k;
      grows = λ _. grows_none;
      settled = λ l. mark_by (name_list t [] x) (st x) l (k.so x [] l (λ z m. absurd (false≢true m)));
    }

-- one reading, then another
pub reads_then : {t : Table Bytes} {st st₁ st₂ : Marks} {a : ℕ} (f g : (Bytes → Reading) → Reading) → Monotone f → Reads t st st₁ 3 f → Reads t st₁ st₂ a g → Reads t st st₂ a (λ look. and_then (f look) (g look))
reads_then {t} {st} {st₁} {st₂} {a} f g m p q =
    let l : 2 ≤ 3 = omega arith in
    record {
      met = λ e o w. then_mark (f (name_list t o)) (g (name_list t o)) (settled_so f o m (p.known l) (opened_unfinished w (p.grows l)) l (p.settled l)) ∙ q.met e o (opened_grows w (p.grows l));
      known = q.known;
      grows = λ h. grows_more (p.grows l) (q.grows h);
      settled = λ h. then_mark (f (by_marks st₂)) (g (by_marks st₂)) (m (by_marks st₁) (by_marks st₂) (marks_grow (q.grows h)) (omega (arith, p.settled l)) ∙ p.settled l) ∙ q.settled h;
    }
  where
    then_mark : (u v : Reading) → mark_of u ≡ 3 → mark_of (and_then u v) ≡ mark_of v
    then_mark nothing v e = absurd (omega arith)
    then_mark again v e = absurd (omega arith)
    then_mark (strings ss) nothing e = refl
    then_mark (strings ss) again e = refl
    then_mark (strings ss) (strings ts) e = refl

-- "the first none ends it", and so does the first again
pub reads_stop : {t : Table Bytes} {st st₁ : Marks} {a : ℕ} (f g : (Bytes → Reading) → Reading) → (a ≡ 3 → ⊥) → Reads t st st₁ a f → Reads t st st₁ a (λ look. and_then (f look) (g look))
reads_stop {t} {st} {st₁} {a} f g n p =
    record {
      met = λ e o w. stops (f (name_list t o)) (g (name_list t o)) 1 (λ z. absurd (omega arith)) (p.met e o w);
      known = p.known;
      grows = p.grows;
      settled = λ h. stops (f (by_marks st₁)) (g (by_marks st₁)) a n (p.settled h);
    }
  where
    stops : (u v : Reading) (b : ℕ) → (b ≡ 3 → ⊥) → mark_of u ≡ b → mark_of (and_then u v) ≡ b
    stops nothing v b k e = e
    stops again v b k e = e
    stops (strings ss) v b k e = absurd (k (sym e))

-- The look into a rule that was not read

-- the marks with the one of x changed
pub record Sets (st st' : Marks) (x : Bytes) (v : ℕ) : Type 0 where
  pub here : st' x ≡ v
  pub others : (y : Bytes) → (y ≡ x → ⊥) → st' y ≡ st y

-- x is one more rule that is being read
opens_known : {t : Table Bytes} {st st₁ : Marks} {x : Bytes} → Sets st st₁ x 1 → st x ≡ 0 → Known t st → Known t st₁
opens_known {t} {st} {st₁} {x} s z k = record { so = λ y o h u. go y o h u (bytes_discrete y x) }
  where
    keeps : (w : Bytes) → st₁ w < 2 → Dec (w ≡ x) → st w < 2
    keeps w h (yes e) = rw e (omega arith)
    keeps w h (no n) = omega (arith, s.others w n)

    go : (y : Bytes) (o : List Bytes) → 2 ≤ st₁ y → Unfinished st₁ o → Dec (y ≡ x) → mark_of (name_list t o y) ≡ st₁ y
    go y o h u (yes e) = absurd (omega (arith, ap st₁ e, s.here))
    go y o h u (no n) = k.so y o (omega (arith, s.others y n)) (λ w m. keeps w (u w m) (bytes_discrete w x)) ∙ sym (s.others y n)

member_other : (z x : Bytes) (o : List Bytes) → (z ≡ x → ⊥) → member z (x ∷ o) ≡ true → member z o ≡ true
member_other z x o n m = ⊎_elim (λ e. absurd (n (same_bytes_eq z x e))) (λ e. e) (or_case (same_bytes z x) (member z o) m)

opens_opened : {st st₁ : Marks} {x : Bytes} {o : List Bytes} → Sets st st₁ x 1 → st x ≡ 0 → Opened st o → Opened st₁ (x ∷ o)
opens_opened {st} {st₁} {x} {o} s z p = record { all = λ w e. all w e (bytes_discrete w x); only = λ w m. only w m (bytes_discrete w x) }
  where
    all : (w : Bytes) → st₁ w ≡ 1 → Dec (w ≡ x) → member w (x ∷ o) ≡ true
    all w e (yes q) = or_left (same_bytes w x) (member w o) (eq_same_bytes w x q)
    all w e (no n) = or_right (same_bytes w x) (member w o) (p.all w (sym (s.others w n) ∙ e))

    only : (w : Bytes) → member w (x ∷ o) ≡ true → Dec (w ≡ x) → st₁ w ≡ 1
    only w m (yes q) = ap st₁ q ∙ s.here
    only w m (no n) = s.others w n ∙ p.only w (member_other w x o n m)

-- A RULE IS READ: its mark says that it is being read, its expression is read, and its mark says what came of it
module _ {t : Table Bytes} {st st₁ st₂ st₃ : Marks} {x : Bytes} {e : E} {a : ℕ} (f : find t x ≡ some e) (z : st x ≡ 0) (k : Known t st) (s : Sets st st₁ x 1) (p : Known t st₁ → Reads t st₁ st₂ a (λ look. read_in look e)) (s₃ : Sets st₂ st₃ x a) where
  abbrev body_read : Reads t st₁ st₂ a (λ look. read_in look e)
  body_read = p (opens_known s z k)

  not_opened : (o : List Bytes) → (st x ≡ 0) → Opened st o → (b : Bool) → member x o ≡ b → member x o ≡ false
  not_opened o y w true m = absurd (omega (arith, w.only x m))
  not_opened o y w false m = m

  not_unfinished : 2 ≤ a → (o : List Bytes) → Unfinished st₃ o → (b : Bool) → member x o ≡ b → member x o ≡ false
  not_unfinished h o u true m = absurd (omega (arith, u x m, s₃.here))
  not_unfinished h o u false m = m

  still_open : 2 ≤ a → st₂ x ≡ 1
  still_open h = (body_read.grows h).still x s.here

  unfinished_before : 2 ≤ a → (o : List Bytes) → Unfinished st₃ o → Unfinished st₂ (x ∷ o)
  unfinished_before h o u w m = go (bytes_discrete w x)
    where
      go : Dec (w ≡ x) → st₂ w < 2
      go (yes q) = omega (arith, ap st₂ q, still_open h)
      go (no n) = omega (arith, s₃.others w n, u w (member_other w x o n m))

  unfinished_rest : 2 ≤ a → (o : List Bytes) → Unfinished st₃ o → Unfinished st₂ o
  unfinished_rest h o u w m = unfinished_before h o u w (or_right (same_bytes w x) (member w o) m)

  rule_known : 2 ≤ a → Known t st₃
  rule_known h = record { so = λ y o l u. go y o l u (bytes_discrete y x) }
    where
      go : (y : Bytes) (o : List Bytes) → 2 ≤ st₃ y → Unfinished st₃ o → Dec (y ≡ x) → mark_of (name_list t o y) ≡ st₃ y
      go y o l u (no n) = (body_read.known h).so y o (omega (arith, s₃.others y n)) (unfinished_rest h o u) ∙ sym (s₃.others y n)
      go y o l u (yes q) =
          ap (λ (v : Bytes). mark_of (name_list t o v)) q
          ∙ ap mark_of (name_step t o x e f (not_unfinished h o u (member x o) refl))
          ∙ settled_so (λ look. read_in look e) (x ∷ o) (in_mono e) (body_read.known h) (unfinished_before h o u) h (body_read.settled h)
          ∙ sym (ap st₃ q ∙ s₃.here)

  rule_grows : 2 ≤ a → Grows st st₃
  rule_grows h = record { done = λ w l. done w l (bytes_discrete w x); still = λ w q. still w q (bytes_discrete w x); same = λ w q. same w q (bytes_discrete w x) }
    where
      done : (w : Bytes) → 2 ≤ st w → Dec (w ≡ x) → st₃ w ≡ st w
      done w l (yes q) = absurd (omega (arith, ap st q))
      done w l (no n) = s₃.others w n ∙ (body_read.grows h).done w (omega (arith, s.others w n)) ∙ s.others w n

      still : (w : Bytes) → st w ≡ 1 → Dec (w ≡ x) → st₃ w ≡ 1
      still w q (yes v) = absurd (omega (arith, ap st v))
      still w q (no n) = s₃.others w n ∙ (body_read.grows h).still w (s.others w n ∙ q)

      same : (w : Bytes) → st₃ w ≡ 1 → Dec (w ≡ x) → st w ≡ 1
      same w q (yes v) = absurd (omega (arith, ap st₃ v, s₃.here))
      same w q (no n) = sym (s.others w n) ∙ (body_read.grows h).same w (sym (s₃.others w n) ∙ q)

  pub reads_rule : Reads t st st₃ a (λ look. look x)
  reads_rule =
      record {
        met = λ m o w. ap mark_of (name_step t o x e f (not_opened o z w (member x o) refl)) ∙ body_read.met m (x ∷ o) (opens_opened s z w);
        known = rule_known;
        grows = rule_grows;
        settled = λ h. ap (λ (v : ℕ). mark_of (by_mark v)) s₃.here ∙ mark_by (read_in (by_marks st₂) e) a h (body_read.settled h);
      }

-- a name of no rule
pub reads_unknown : {t : Table Bytes} {st : Marks} (x : Bytes) → Known t st → st x ≡ 2 → Reads t st st 2 (λ look. look x)
reads_unknown x k e = record { met = λ m. absurd (omega arith); known = λ _. k; grows = λ _. grows_none; settled = λ _. rw e }
