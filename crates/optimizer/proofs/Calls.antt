-- The whole call: its refusals, and the fronts of its work areas. Assumes nothing.
use mathlib.Core.Path.{◌≡◌, ap}
use mathlib.Core.Bool.{Bool, false, ◌||◌}
use mathlib.Core.List.{List, ◌++◌}
use Prim.Native.Nat.{ℕ, ◌≤◌}
use native.Mathlib.Omega.{arith}
use borrow.Author.Tests.{ltb-false}
use lib.ListN.{length, take, drop, length-append, length-drop}
use lib.Seq.{length-take-le}
use lib.Dec.{ltb}
use Rattle.grammar.specs.Table.{Words}
use Rattle.grammar.specs.Refusals.{max_text, full_rules, full_rows, full_marks, short, short_marks}
use Rattle.grammar.specs.Optimize.{answer, of_words, refuse_if, optimize}
use Rattle.refusals.proofs.Fours.{neither_left, neither_right}
use Rattle.turns.specs.Chain.{Sized, Works}
use Rattle.optimizer.specs.Entry.{AtLeast, Lengths}

-- refusal 1
short_fine : (w : Words) → short w ≡ false → AtLeast w.rules w.rows w.text
short_fine w h =
    let a : Bool = ltb (length w.rules) full_rules in
    let b : Bool = ltb (length w.rows) full_rows in
    let c : Bool = ltb (length w.text) max_text in
    let k : (b || c) ≡ false = neither_right a (b || c) h in
    record { rules = ltb-false (length w.rules) full_rules (neither_left a (b || c) h); rows = ltb-false (length w.rows) full_rows (neither_left b c k); text = ltb-false (length w.text) max_text (neither_right b c k) }

abbrev pub any_short : (out a b : Words) (marks : List ℕ) → Bool
any_short out a b marks = short out || (short a || (short b || short_marks marks))

pub none_short : (out a b : Words) (marks : List ℕ) → any_short out a b marks ≡ false → Lengths out.rules out.rows out.text a.rules a.rows a.text b.rules b.rows b.text marks
none_short out a b marks h =
    let k = neither_right (short out) (short a || (short b || short_marks marks)) h in
    let l = neither_right (short a) (short b || short_marks marks) k in
    record {
      out = short_fine out (neither_left (short out) (short a || (short b || short_marks marks)) h);
      one = short_fine a (neither_left (short a) (short b || short_marks marks) k);
      other = short_fine b (neither_left (short b) (short_marks marks) l);
      marked = ltb-false (length marks) full_marks (neither_right (short b) (short_marks marks) l);
    }

-- the whole call, once that is known
pub whole_call : (in' out a b : Words) (marks : List ℕ) {low : Bool} → low ≡ any_short out a b marks → answer out (refuse_if low 1 (of_words in')) ≡ optimize in' out a b marks
unfolding optimize
whole_call in' out a b marks h = ap (λ (x : Bool). answer out (refuse_if x 1 (of_words in'))) h

-- the fronts of the work areas
cut_sized : {os o s : List ℕ} → AtLeast os o s → Sized (take full_rules os) (take full_rows o) (take max_text s)
cut_sized {os} {o} {s} l = record { rules = length-take-le full_rules os l.rules; rows = length-take-le full_rows o l.rows; text = length-take-le max_text s l.text }

pub cut_works : {os o s os₂ o₂ s₂ : List ℕ} → AtLeast os o s → AtLeast os₂ o₂ s₂ → Works (take full_rules os) (take full_rows o) (take max_text s) (take full_rules os₂) (take full_rows o₂) (take max_text s₂)
cut_works l k = record { one = cut_sized l; other = cut_sized k }

-- a part is given back
pub put_back : (n : ℕ) (new old : List ℕ) → n ≤ length old → length new ≡ length (take n old) → length (new ++ drop n old) ≡ length old
put_back n new old h e = omega (arith, length-append new (drop n old), length-drop n old, e, length-take-le n old h)
