-- The five programs that 01 holds against the contract do not meet it, by W1, W2 and W6. Assumes nothing.
use mathlib.Core.Path.{◌≡◌, refl, sym, ap, ◌∙◌, subst}
use mathlib.Core.Bool.{Bool, true, false}
use mathlib.Core.List.{List}
use mathlib.Core.Option.{Option, some}
use Prim.Native.Nat.{ℕ, suc}
use native.Mathlib.Omega.{arith}
use lib.ListN.{get_or, length, length-replicate, replicate}
use Rattle.grammar.specs.Basic.{Bytes, any}
use Rattle.grammar.specs.Rows.{Span}
use Rattle.grammar.specs.Table.{Atomic, Table, Words, resolve_table, words_of}
use Rattle.grammar.specs.Reading.{input_kinds, read_table}
use Rattle.grammar.specs.Refusals.{max_text, full_rules, full_rows, full_marks, bad_counts, bad_names, bad_text, meets, too_large, zero_counts}
use Rattle.grammar.specs.Steps.{rotate}
use Rattle.grammar.specs.Optimize.{Answer, Result, answer, finished, last_of, of_read, of_words, optimize, pairs, refuse_if, stages}
use Rattle.contract.specs.Programs.{CopiesInput, InventsReport, Lent, Keeps, OneFixedTable, Program, RefusesEverything, RotatesOnly, WrongNumber, run}
use Rattle.grammar.proofs.Notation.{◌~◌, a, b, c, full, sole, str}
use Rattle.grammar.proofs.Examples.{w1_in, w2_in, w6a_in}

-- SOME PROGRAM MEETS THE CONTRACT, and areas of full size can be lent
pub can_be_met : Keeps optimize
can_be_met in' out a b marks = refl

exactly : (w : Words) (marks : List ℕ) → length w.rules ≡ full_rules → length w.rows ≡ full_rows → length w.text ≡ max_text → length marks ≡ full_marks → Lent
exactly w marks p q r s = record { out = w; a = w; b = w; marks = marks; full = rw (p, q, r, s) }

pub some_lent : Lent
some_lent = exactly full (replicate full_marks 0) (many full_rules 2779096485) (many full_rows 2779096485) (many max_text 165) (many full_marks 0)
  where
    many : (n a : ℕ) → length (replicate n a) ≡ n
    many n a = length-replicate n a

-- with areas of full size an answer comes from the input's words
pub of_input : (l : Lent) (in' : Words) → run optimize l in' ≡ answer l.out (of_words in')
unfolding optimize
of_input l in' = ap (λ (short : Bool). answer l.out (refuse_if short 1 (of_words in'))) l.full

-- The five programs

module _ (P : Program) (l : Lent) where
  told : Keeps P → (in' : Words) → run P l in' ≡ answer l.out (of_words in')
  told ok in' = ok in' l.out l.a l.b l.marks ∙ of_input l in'

  number_told : Keeps P → (in' : Words) → (run P l in').number ≡ (answer l.out (of_words in')).number
  number_told ok in' = ap (λ (x : Answer). x.number) (told ok in')

  report_told : Keeps P → (in' : Words) → (run P l in').report ≡ (answer l.out (of_words in')).report
  report_told ok in' = ap (λ (x : Answer). x.report) (told ok in')

  out_told : Keeps P → (in' : Words) → (run P l in').out ≡ (answer l.out (of_words in')).out
  out_told ok in' = ap (λ (x : Answer). x.out) (told ok in')

  -- W1 is not refused
  pub refuses_everything : RefusesEverything P l → Keeps P → ⊥
  unfolding of_words
  refuses_everything wrong ok = wrong w1_in (number_told ok w1_in)

  -- W6: the second row of e{0,} has kind 14, that of e* has 11
  pub copies_input : CopiesInput P l → Keeps P → ⊥
  unfolding of_words
  copies_input wrong ok =
      let in' : Words = words_of w6a_in in
      let kind : ◌≡◌ {A = ℕ} 14 11 = ap (λ (w : Words). get_or w.rows 4 0) (sym (wrong w6a_in (number_told ok in')) ∙ out_told ok in') in
      omega arith

  -- W1 against W2: the first literal of "abc" has three bytes, that of "a" ~ ("b" ~ "c") has one
  pub one_fixed_table : OneFixedTable P l → Keeps P → ⊥
  unfolding of_words
  one_fixed_table wrong ok =
      let in' : Words = words_of w2_in in
      let first : (run P l w1_in).out ≡ (run P l in').out = wrong.1 w1_in (number_told ok w1_in) ∙ sym (wrong.1 in' (number_told ok in')) in
      let bytes : ◌≡◌ {A = ℕ} 3 1 = ap (λ (w : Words). get_or w.rows 2 0) (sym (out_told ok w1_in) ∙ first ∙ out_told ok in') in
      omega arith

  -- W1: "a" ~ ("b" ~ "c") against "abc"
  pub rotates_only : RotatesOnly P l → Keeps P → ⊥
  unfolding of_words rotate
  rotates_only wrong ok =
      let t : Table Bytes = sole Atomic ((str a ~ str b) ~ str c) in
      let bytes : ◌≡◌ {A = ℕ} 1 3 = ap (λ (w : Words). get_or w.rows 2 0) (sym (wrong t (number_told ok (words_of t))) ∙ out_told ok (words_of t)) in
      omega arith

  -- W1 against W2: after step 4 one row is left, or five
  pub invents_report : InventsReport P l → Keeps P → ⊥
  unfolding of_words
  invents_report wrong ok =
      let in' : Words = words_of w2_in in
      let one : (run P l w1_in).report ≡ (run P l in').report = wrong.1 w1_in (number_told ok w1_in) ∙ sym (wrong.1 in' (number_told ok in')) in
      let rows : ◌≡◌ {A = ℕ} 1 5 = ap (λ (r : List ℕ). get_or r 7 0) (sym (report_told ok w1_in) ∙ one ∙ report_told ok in') in
      omega arith

-- EACH PAIR IS THE ROW COUNT of the defined table before and after that step

-- how a call ends, if it is accepted, has this report
abbrev Reports : Words → List ℕ → Result → Type 0
Reports out report r = (answer out r).number ≡ 0 → (answer out r).report ≡ report

past : (out : Words) (report : List ℕ) (b : Bool) (n : ℕ) (r : Result) → Reports out report r → Reports out report (refuse_if b (suc n) r)
past out report true n r h k = absurd (omega arith)
past out report false n r h k = h k

reports : (out in' : Words) (t : Table Span) → read_table input_kinds in'.rules in'.rows ≡ some t → Reports out (pairs (stages (resolve_table in'.text t))) (of_words in')
unfolding of_words
reports out in' t read =
    let u : Table Bytes = resolve_table in'.text t in
    let r : Result = finished (pairs (stages u)) (last_of (stages u)) in
    let r₈ : Result = refuse_if (any too_large (stages u)) 8 r in
    let r₇ : Result = refuse_if (meets u) 7 r₈ in
    let r₆ : Result = refuse_if (zero_counts u) 6 r₇ in
    let r₅ : Result = refuse_if (bad_names u) 5 r₆ in
    let r₄ : Result = refuse_if (bad_text in'.text t) 4 r₅ in
    let go = past out (pairs (stages u)) in
    let p : Reports out (pairs (stages u)) (refuse_if (bad_counts in') 2 r₄) =
    go (bad_counts in') 1 r₄ (go (bad_text in'.text t) 3 r₅ (go (bad_names u) 4 r₆ (go (zero_counts u) 5 r₇ (go (meets u) 6 r₈ (go (any too_large (stages u)) 7 r (λ _. refl)))))) in
    subst (λ (o : Option (Table Span)). Reports out (pairs (stages u)) (refuse_if (bad_counts in') 2 (of_read in'.text o))) (sym read) p

module _ (P : Program) (l : Lent) where
  pub report_pairs : Keeps P → (in' : Words) (t : Table Span) → read_table input_kinds in'.rules in'.rows ≡ some t → (run P l in').number ≡ 0 → (run P l in').report ≡ pairs (stages (resolve_table in'.text t))
  report_pairs ok in' t read h = report_told P l ok in' ∙ reports l.out in' t read (sym (number_told P l ok in') ∙ h)

  pub wrong_number : WrongNumber P l → Keeps P → ⊥
  wrong_number w ok = w.off (ap (λ (r : List ℕ). get_or r w.i 0) (report_pairs ok w.in' w.t w.read w.accepts))
