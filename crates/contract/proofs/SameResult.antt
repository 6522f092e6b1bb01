-- "Any two results it allows are the same." Assumes nothing.
use mathlib.Core.Path.{◌≡◌, sym, ap, ◌∙◌}
use mathlib.Core.List.{List}
use Prim.Native.Nat.{ℕ}
use Rattle.grammar.specs.Table.{Words}
use Rattle.grammar.specs.Optimize.{Answer, answer, of_words}
use Rattle.contract.specs.Programs.{Allows, Lent, Keeps, Program, run}
use Rattle.contract.proofs.Programs.{of_input}

pub same_result : (in' out a b : Words) (marks : List ℕ) (x y : Answer) → Allows in' out a b marks x → Allows in' out a b marks y → x ≡ y
same_result in' out a b marks x y p q = p ∙ sym q

-- field by field, and the output areas to their last word
pub record SameFields (x y : Answer) : Type 0 where
  pub number : x.number ≡ y.number
  pub rules : x.rules ≡ y.rules
  pub rows : x.rows ≡ y.rows
  pub text : x.text ≡ y.text
  pub report : x.report ≡ y.report
  pub out_rules : x.out.rules ≡ y.out.rules
  pub out_rows : x.out.rows ≡ y.out.rows
  pub out_text : x.out.text ≡ y.out.text

pub same_fields : (in' out a b : Words) (marks : List ℕ) (x y : Answer) → Allows in' out a b marks x → Allows in' out a b marks y → SameFields x y
same_fields in' out a b marks x y p q =
    let e : x ≡ y = same_result in' out a b marks x y p q in
    record {
      number = ap (λ (z : Answer). z.number) e;
      rules = ap (λ (z : Answer). z.rules) e;
      rows = ap (λ (z : Answer). z.rows) e;
      text = ap (λ (z : Answer). z.text) e;
      report = ap (λ (z : Answer). z.report) e;
      out_rules = ap (λ (z : Answer). z.out.rules) e;
      out_rows = ap (λ (z : Answer). z.out.rows) e;
      out_text = ap (λ (z : Answer). z.out.text) e;
    }

pub same_programs : (P Q : Program) → Keeps P → Keeps Q → (in' out a b : Words) (marks : List ℕ) → P in' out a b marks ≡ Q in' out a b marks
same_programs P Q p q in' out a b marks = same_result in' out a b marks (P in' out a b marks) (Q in' out a b marks) (p in' out a b marks) (q in' out a b marks)

-- and what stands in work areas of full size does not matter
pub work_areas_unread : (P Q : Program) (l m : Lent) → Keeps P → Keeps Q → l.out ≡ m.out → (in' : Words) → run P l in' ≡ run Q m in'
work_areas_unread P Q l m p q e in' =
    p in' l.out l.a l.b l.marks
    ∙ of_input l in'
    ∙ ap (λ (out : Words). answer out (of_words in')) e
    ∙ sym (of_input m in')
    ∙ sym (q in' m.out m.a m.b m.marks)
