-- Rules one by one: a table is a rule whose rows are one tree, and the table of the rest. Assumes nothing.
use mathlib.Core.Path.{◌≡◌, refl, sym, ap, ap₂, subst, ◌∙◌}
use mathlib.Core.Bool.{Bool, true}
use mathlib.Core.List.{List, [], ◌∷◌}
use Prim.Native.Nat.{ℕ, ◌+◌, ◌-◌, ◌*◌, ◌≤◌, ◌<◌}
use native.Mathlib.Omega.{arith}
use borrow.Author.Tests.{le-leb, leb-true, eq-eqb}
use lib.Dec.{eqb, leb}
use lib.ListN.{length, get_or, take, drop, length-take, length-drop, drop_of_length-le}
use lib.Seq.{drop-drop}
use Rattle.grammar.specs.Table.{NonAtomic}
use Rattle.grammar.specs.Numbers.{rule_width, length_word, type_word, rows_word, row_width}
use Rattle.grammar.specs.Basic.{test}
use Rattle.grammar.specs.Tree.{Expr, size}
use Rattle.grammar.specs.Rows.{Span}
use Rattle.grammar.specs.Reading.{Kinds, no_words, read_tree, read_table}
use Rattle.grammar.proofs.Logic.{bind_case, none_some, test_true, eqb_eq}
use Rattle.grammar.proofs.Words.{tree_is, flat_length}
use Rattle.rows.specs.Rows.{Tells}
use Rattle.rows.proofs.Cells.{tells_iff, tells_eqb}
use Rattle.refusals.specs.Local.{IsTree, IsTable}
use Rattle.rows.proofs.Fours.{four}

-- what a table's words say of its first rule
record Parts (ok : Kinds) (y n : ℕ) (rules rows : List ℕ) : Type 0 where
  type' : y ≤ NonAtomic
  room : row_width * n ≤ length rows
  tree : IsTree ok (take (row_width * n) rows)
  rest : IsTable ok rules (drop (row_width * n) rows)

module _ (ok : Kinds) (o l y n : ℕ) (rules rows : List ℕ) where
  parts : IsTable ok (o ∷ l ∷ y ∷ n ∷ rules) rows → Parts ok y n rules rows
  unfolding read_table
  parts t =
      bind_case (test (leb y NonAtomic)) _ t.table t.read λ v f₀ g₀.
      bind_case (read_tree ok (take (row_width * n) rows)) _ t.table g₀ λ e f₁ g₁.
      bind_case (test (eqb (size e) n)) _ t.table g₁ λ u f₂ g₂.
      bind_case (read_table ok rules (drop (row_width * n) rows)) _ t.table g₂ λ r f₃ g₃.
      let m : size e ≡ n = eqb_eq (size e) n (test_true (eqb (size e) n) u f₂) in
      let q : row_width * size e ≡ length (take (row_width * n) rows) = sym (flat_length e) ∙ ap length (tree_is ok (take (row_width * n) rows) e f₁) in
      record {
        type' = leb-true y NonAtomic (test_true (leb y NonAtomic) v f₀);
        room = omega (arith, q, length-take (row_width * n) rows);
        tree = record { tree = e; read = f₁ };
        rest = record { table = r; read = f₃ };
      }

  join : y ≤ NonAtomic → row_width * n ≤ length rows → IsTree ok (take (row_width * n) rows) → IsTable ok rules (drop (row_width * n) rows) → IsTable ok (o ∷ l ∷ y ∷ n ∷ rules) rows
  unfolding read_table
  join h r t rest =
      let e : Expr Span = t.tree in
      let m : size e ≡ n = omega (arith, flat_length e, ap length (tree_is ok (take (row_width * n) rows) e t.read), length-take (row_width * n) rows) in
      record {
        table = record { name = (o, l); type = y; body = e } ∷ rest.table;
        read = rw (t.read, rest.read, le-leb y NonAtomic h, eq-eqb (size e) n m);
      }

-- the same of rule i, with its n rows from row `from` on
module _ (ok : Kinds) (rules rows : List ℕ) (i from n : ℕ) (inside : i * rule_width + rule_width ≤ length rules) (count : n ≡ get_or rules (i * rule_width + rows_word) 0) where
  abbrev type_of : ℕ
  type_of = get_or rules (i * rule_width + type_word) 0

  abbrev Here : Type 0
  Here = IsTable ok (drop (i * rule_width) rules) (drop (from * row_width) rows)

  abbrev Next : Type 0
  Next = IsTable ok (drop ((i + 1) * rule_width) rules) (drop ((from + n) * row_width) rows)

  abbrev Tree : Type 0
  Tree = IsTree ok (take (row_width * n) (drop (from * row_width) rows))

  rest_is : drop (row_width * n) (drop (from * row_width) rows) ≡ drop ((from + n) * row_width) rows
  rest_is = let e : from * row_width + row_width * n ≡ (from + n) * row_width = omega arith in drop-drop (row_width * n) (from * row_width) rows ∙ ap (λ (m : ℕ). drop m rows) e

  head_is : drop (i * rule_width) rules ≡ get_or rules (i * rule_width) 0 ∷ get_or rules (i * rule_width + length_word) 0 ∷ type_of ∷ n ∷ drop ((i + 1) * rule_width) rules
  head_is =
      let e : i * rule_width + rule_width ≡ (i + 1) * rule_width = omega arith in
      four rules (i * rule_width) inside ∙ ap₂ (λ (k m : ℕ). get_or rules (i * rule_width) 0 ∷ get_or rules (i * rule_width + length_word) 0 ∷ type_of ∷ k ∷ drop m rules) (sym count) e

  here_parts : Here → Parts ok type_of n (drop ((i + 1) * rule_width) rules) (drop (from * row_width) rows)
  here_parts t = parts ok _ _ type_of n (drop ((i + 1) * rule_width) rules) (drop (from * row_width) rows) (subst (λ (w : List ℕ). IsTable ok w (drop (from * row_width) rows)) head_is t)

  pub type_no : NonAtomic < type_of → Here → ⊥
  type_no h t = omega (arith, (here_parts t).type')

  pub room_no : from * row_width ≤ length rows → length rows < (from + n) * row_width → Here → ⊥
  room_no k h t = omega (arith, (here_parts t).room, length-drop (from * row_width) rows)

  pub tree_no : (Tree → ⊥) → Here → ⊥
  tree_no f t = f (here_parts t).tree

  pub next : Here → Next
  next t = rw rest_is at (here_parts t).rest

  pub back : type_of ≤ NonAtomic → (from + n) * row_width ≤ length rows → Tree → Next → Here
  back h k t r =
      subst (λ (w : List ℕ). IsTable ok w (drop (from * row_width) rows)) (sym head_is)
      (join ok _ _ type_of n (drop ((i + 1) * rule_width) rules) (drop (from * row_width) rows) h (omega (arith, length-drop (from * row_width) rows)) t (rw rest_is r))

-- the n rows between two places
pub between : (ok : Kinds) (rows : List ℕ) (from n : ℕ) (b : Bool) → Tells b (IsTree ok (take (row_width * (from + n - from)) (drop (from * row_width) rows))) → Tells b (IsTree ok (take (row_width * n) (drop (from * row_width) rows)))
between ok rows from n b t = let e : from + n - from ≡ n = omega arith in rw e at t

-- no rules: no rows either
module _ (ok : Kinds) (rules rows : List ℕ) (i from total : ℕ) (done : length rules ≤ i * rule_width) (long : length rows ≡ total * row_width) (within : from ≤ total) where
  no_words_lem : (w : List ℕ) → no_words w ≡ true → length w ≡ 0
  no_words_lem [] h = refl
  no_words_lem (x ∷ w) h = none_some (ap test h)

  pub end_tells : Tells (eqb from total) (IsTable ok (drop (i * rule_width) rules) (drop (from * row_width) rows))
  unfolding read_table
  end_tells =
      rw (drop_of_length-le rules done)
      (tells_iff (eqb from total)
      (λ e. record { table = []; read = rw (drop_of_length-le rows (all e)) })
      (λ t. bind_case (test (no_words (drop (from * row_width) rows))) _ t.table t.read λ u f g.
      omega (arith, length-drop (from * row_width) rows, no_words_lem (drop (from * row_width) rows) (test_true (no_words (drop (from * row_width) rows)) u f)))
      (tells_eqb from total))
    where
      all : from ≡ total → length rows ≤ from * row_width
      all e = omega arith
