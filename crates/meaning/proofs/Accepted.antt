-- What an accepted call tells of its table. Assumes nothing.
use mathlib.Core.Path.{◌≡◌, refl, sym, ap, ◌∙◌}
use mathlib.Core.Bool.{Bool, true, false, ◌||◌, cond}
use mathlib.Core.List.{List, [], ◌∷◌}
use mathlib.Core.Option.{Option, none, some}
use Prim.Native.Nat.{ℕ}
use native.Mathlib.Omega.{arith}
use Rattle.grammar.specs.Basic.{Bytes, any, same_bytes, member}
use Rattle.grammar.specs.Tree.{E}
use Rattle.grammar.specs.Rows.{Span}
use Rattle.grammar.specs.Table.{Table, Words, resolve_table, find}
use Rattle.grammar.specs.Reading.{Kinds, read_table, input_kinds}
use Rattle.grammar.specs.Lists.{ANY}
use Rattle.grammar.specs.Stack.{stack_names}
use Rattle.grammar.specs.Refusals.{short, short_marks, bad_counts, bad_text, reserved, repeated, names, bad_names, zero_counts, meets, too_large}
use Rattle.grammar.specs.Optimize.{stages, pairs, last_of, Result, finished, refuse_if, of_read, result, answer, optimize}
use Rattle.grammar.proofs.Logic.{none_some, some_eq, same_bytes_eq}
use Rattle.meaning.specs.Demand3.{StandFor, after}
use Rattle.meaning.proofs.Views.{neither}

-- Refusal 5: no rule is named ANY

abbrev pub Plain : Table Bytes → Type 0
Plain t = (x : Bytes) (e : E) → find t x ≡ some e → same_bytes x ANY ≡ false

unreserved : (t : Table Bytes) → any (λ x. member x reserved) (names t) ≡ false → Plain t
unfolding same_bytes
unreserved [] h x e l = none_some l
unreserved (r ∷ t) h x e l =
    let p = neither (member r.name reserved) (any (λ x. member x reserved) (names t)) h in
    let q = neither (same_bytes r.name ANY) (member r.name stack_names) p.0 in
    go (same_bytes r.name x) refl l q.0 (unreserved t p.1 x e)
  where
    go : (b : Bool) → same_bytes r.name x ≡ b → cond b (some r.body) (find t x) ≡ some e → same_bytes r.name ANY ≡ false → (find t x ≡ some e → same_bytes x ANY ≡ false) → same_bytes x ANY ≡ false
    go true q k a ih = rw (← same_bytes_eq r.name x q) a
    go false q k a ih = ih k

pub accepted_plain : (t : Table Bytes) → bad_names t ≡ false → Plain t
unfolding bad_names
accepted_plain t h = unreserved t (neither (repeated (names t)) (any (λ x. member x reserved) (names t)) h).1

-- What an accepted call tells: refusals 5 and 6 do not apply, and it ends with the table after the seventh step

pub record Accepted (t : Table Bytes) (r : Result) : Type 0 where
  pub named : bad_names t ≡ false
  pub counts : zero_counts t ≡ false
  pub ends : r ≡ finished (pairs (stages t)) (after 7 t)

abbrev tests : (b₁ b₂ b₄ b₅ b₆ b₇ b₈ : Bool) → Result → Result
tests b₁ b₂ b₄ b₅ b₆ b₇ b₈ r = refuse_if b₁ 1 (refuse_if b₂ 2 (refuse_if b₄ 4 (refuse_if b₅ 5 (refuse_if b₆ 6 (refuse_if b₇ 7 (refuse_if b₈ 8 r))))))

passed : (out : Words) (b₁ b₂ b₄ b₅ b₆ b₇ b₈ : Bool) (r : Result) → (answer out (tests b₁ b₂ b₄ b₅ b₆ b₇ b₈ r)).number ≡ 0 → (b₅ ≡ false) × (b₆ ≡ false) × (tests b₁ b₂ b₄ b₅ b₆ b₇ b₈ r ≡ r)
passed out true b₂ b₄ b₅ b₆ b₇ b₈ r h = absurd (omega arith)
passed out false true b₄ b₅ b₆ b₇ b₈ r h = absurd (omega arith)
passed out false false true b₅ b₆ b₇ b₈ r h = absurd (omega arith)
passed out false false false true b₆ b₇ b₈ r h = absurd (omega arith)
passed out false false false false true b₇ b₈ r h = absurd (omega arith)
passed out false false false false false true b₈ r h = absurd (omega arith)
passed out false false false false false false true r h = absurd (omega arith)
passed out false false false false false false false r h = (refl, refl, refl)

pub accepted : (in' out a b : Words) (marks : List ℕ) (spans : Table Span) → read_table input_kinds in'.rules in'.rows ≡ some spans → (optimize in' out a b marks).number ≡ 0 → Accepted (resolve_table in'.text spans) (result in' out a b marks)
unfolding optimize after
accepted in' out a b marks spans read h =
    let t : Table Bytes = resolve_table in'.text spans in
    let b₁ : Bool = short out || (short a || (short b || short_marks marks)) in
    let q : result in' out a b marks ≡ refuse_if b₁ 1 (refuse_if (bad_counts in') 2 (of_read in'.text (some spans))) = ap (λ (o : Option (Table Span)). refuse_if b₁ 1 (refuse_if (bad_counts in') 2 (of_read in'.text o))) read in
    let x = passed out b₁ (bad_counts in') (bad_text in'.text spans) (bad_names t) (zero_counts t) (meets t) (any too_large (stages t)) (finished (pairs (stages t)) (last_of (stages t))) (sym (ap (λ (r : Result). (answer out r).number) q) ∙ h) in
    record { named = x.0; counts = x.1; ends = q ∙ x.2 }

-- its words are read
pub lent : (in' out a b : Words) (marks : List ℕ) → (optimize in' out a b marks).number ≡ 0 → (t : Table Bytes) × StandFor input_kinds in' t
unfolding optimize
lent in' out a b marks h = go (read_table input_kinds in'.rules in'.rows) refl (short out || (short a || (short b || short_marks marks))) (bad_counts in') h
  where
    go : (o : Option (Table Span)) → read_table input_kinds in'.rules in'.rows ≡ o → (b₁ b₂ : Bool) → (answer out (refuse_if b₁ 1 (refuse_if b₂ 2 (of_read in'.text o)))).number ≡ 0 → (t : Table Bytes) × StandFor input_kinds in' t
    go (some spans) q b₁ b₂ k = (resolve_table in'.text spans, record { spans = spans; read = q; means = refl })
    go none q true b₂ k = absurd (omega arith)
    go none q false true k = absurd (omega arith)
    go none q false false k = absurd (omega arith)

-- words stand for one table
pub one_table : {kinds : Kinds} {w : Words} {t u : Table Bytes} → StandFor kinds w t → StandFor kinds w u → t ≡ u
one_table {kinds} {w} p q = sym p.means ∙ ap (resolve_table w.text) (some_eq p.spans q.spans (sym p.read ∙ q.read)) ∙ q.means
