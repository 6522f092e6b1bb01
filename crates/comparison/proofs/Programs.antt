-- Programs that the contracts of a comparison and of a literal rule out, and that they allow one answer. Assumes nothing.
use mathlib.Core.Path.{◌≡◌, refl, sym, ap, ◌∙◌}
use mathlib.Core.List.{List, [], ◌∷◌}
use Prim.Native.Nat.{ℕ, ◌≤◌}
use native.Mathlib.Omega.{arith}
use lib.ListN.{get_or, replicate}
use Rattle.grammar.specs.Basic.{Bytes}
use Rattle.grammar.specs.Table.{Normal, Atomic, Table, Words, words_of}
use Rattle.grammar.specs.Refusals.{full_marks}
use Rattle.grammar.proofs.Notation.{a, b, r, rule, str, x, y}
use Rattle.comparison.specs.Compare.{Compared, compare_words, full_list}
use Rattle.comparison.specs.Shown.{Shown, shown}
use Rattle.comparison.proofs.Examples.{here_ab, there_ab, two_rules}

abbrev pub Program : Type 0
Program = (left right : Words) (list left_marks right_marks : List ℕ) → Compared

abbrev pub Keeps : Program → Type 0
Keeps P = (left right : Words) (list left_marks right_marks : List ℕ) → P left right list left_marks right_marks ≡ compare_words left right list left_marks right_marks

-- SOME PROGRAM MEETS IT, and any two that do give the same, whatever the marks hold
pub can_be_met : Keeps compare_words
can_be_met left right list m n = refl

pub same_programs : (P Q : Program) → Keeps P → Keeps Q → (left right : Words) (list m n : List ℕ) → P left right list m n ≡ Q left right list m n
same_programs P Q p q left right list m n = p left right list m n ∙ sym (q left right list m n)

-- a list and marks of full size
abbrev full : List ℕ
full = replicate full_list 0

abbrev marks : List ℕ
marks = replicate full_marks 0

module _ (P : Program) where
  abbrev pub run : (left right : Words) → Compared
  run left right = P left right full marks marks

  told : Keeps P → (left right : Words) → run left right ≡ compare_words left right full marks marks
  told ok left right = ok left right full marks marks

  -- one that takes two literals at different offsets for different
  pub by_offset : ((left right : Words) → (left.rows ≡ right.rows → ⊥) → (run left right).count ≡ 0 → ⊥) → Keeps P → ⊥
  unfolding compare_words
  by_offset wrong ok = wrong here_ab there_ab (λ e. let z : ◌≡◌ {A = ℕ} 1 0 = ap (λ (w : List ℕ). get_or w 1 0) e in omega arith) (ap (λ (w : Compared). w.count) (told ok here_ab there_ab))

  -- one that reports the order of rules
  pub reports_order : ((t u : Table Bytes) → (t ≡ u → ⊥) → (run (words_of t) (words_of u)).count ≡ 0 → ⊥) → Keeps P → ⊥
  unfolding compare_words
  reports_order wrong ok =
      let t : Table Bytes = rule r Normal (str a) ∷ rule x Atomic (str b) ∷ [] in
      let u : Table Bytes = rule x Atomic (str b) ∷ rule r Normal (str a) ∷ [] in
      wrong t u (λ e. let z : ◌≡◌ {A = ℕ} 0 2 = ap (λ (v : Table Bytes). get_or (words_of v).rules 2 0) e in omega arith) (ap (λ (w : Compared). w.count) (told ok (words_of t) (words_of u)))

  -- one that lists the right rules before the left ones
  pub right_first : ((t u : Table Bytes) → 2 ≤ (run (words_of t) (words_of u)).count → get_or (run (words_of t) (words_of u)).list 0 0 ≡ 3) → Keeps P → ⊥
  unfolding compare_words
  right_first wrong ok =
      let t : Table Bytes = rule r Normal (str a) ∷ [] in
      let u : Table Bytes = rule y Normal (str a) ∷ [] in
      let e = told ok (words_of t) (words_of u) in
      let n : (run (words_of t) (words_of u)).count ≡ 2 = ap (λ (w : Compared). w.count) e in
      let z : ◌≡◌ {A = ℕ} 3 0 = sym (wrong t u (omega (arith, n))) ∙ ap (λ (w : Compared). get_or w.list 0 0) e in
      omega arith

  -- one that stops at the first difference of the whole table
  pub stops_early : ((left right : Words) → (run left right).count ≤ 1) → Keeps P → ⊥
  unfolding compare_words
  stops_early wrong ok =
      let t : Words = words_of (rule r Normal (str a) ∷ []) in
      let u : Words = words_of (rule y Normal (str a) ∷ []) in
      let n : (run t u).count ≡ 2 = ap (λ (w : Compared). w.count) (told ok t u) in
      omega (arith, n, wrong t u)

-- ---- the literal

abbrev pub Shows : Type 0
Shows = (left right : Words) (side rule row : ℕ) → Shown

abbrev pub KeepsShown : Shows → Type 0
KeepsShown P = (left right : Words) (side rule row : ℕ) → P left right side rule row ≡ shown left right side rule row

pub shown_can_be_met : KeepsShown shown
shown_can_be_met left right side rule row = refl

pub same_shown : (P Q : Shows) → KeepsShown P → KeepsShown Q → (left right : Words) (side rule row : ℕ) → P left right side rule row ≡ Q left right side rule row
same_shown P Q p q left right side rule row = p left right side rule row ∙ sym (q left right side rule row)

module _ (P : Shows) where
  -- one that always looks left
  pub one_side : ((left right : Words) (rule row : ℕ) → P left right 1 rule row ≡ P left right 0 rule row) → KeepsShown P → ⊥
  unfolding shown
  one_side wrong ok =
      let z : ◌≡◌ {A = ℕ} 0 1 = ap (λ (s : Shown). s.offset) (sym (ok here_ab there_ab 1 0 0) ∙ wrong here_ab there_ab 0 0 ∙ ok here_ab there_ab 0 0 0) in omega (arith, z)

  -- one that runs on into the next rule
  pub runs_on : ((left right : Words) → P left right 0 0 3 ≡ P left right 0 1 0) → KeepsShown P → ⊥
  unfolding shown
  runs_on wrong ok =
      let z : ◌≡◌ {A = ℕ} 0 1 = ap (λ (s : Shown). s.found) (sym (ok two_rules two_rules 0 0 3) ∙ wrong two_rules two_rules ∙ ok two_rules two_rules 0 1 0) in omega (arith, z)
