-- What the whole call answers after a check: its refusal, or the rest of the work on the table that stands there. Assumes nothing.
use Rattle.std.specs.Prelude.{Err}
use mathlib.Core.Path.{◌≡◌, refl, sym, ap}
use mathlib.Core.Bool.{Bool, true, false, cond}
use mathlib.Core.List.{List}
use mathlib.Core.Option.{Option, none, some}
use Prim.Native.Nat.{ℕ, ◌<◌}
use native.Mathlib.Omega.{arith}
use Rattle.grammar.specs.Numbers.{number_of}
use Rattle.grammar.specs.declared.Refusal.{Refusal}
use Rattle.grammar.specs.Basic.{Bytes}
use Rattle.grammar.specs.Rows.{Span}
use Rattle.grammar.specs.Table.{Table, Words, resolve_table}
use Rattle.grammar.specs.Reading.{read_table, input_kinds}
use Rattle.grammar.specs.Refusals.{bad_counts, bad_text, bad_names, zero_counts, meets}
use Rattle.grammar.specs.Optimize.{Result, refused, refuse_if, stages, finish, of_table, of_read, of_words}
use Rattle.refusals.specs.Check.{lowest_named, lowest_read, lowest, Passed, Checked}

-- two of them in order
in_order : (a : Bool) (m k n : ℕ) (r : Result) → n ≡ cond a m k → (n ≡ k → r ≡ refused n) → refuse_if a m r ≡ refused n
in_order true m k n r e f = ap refused (sym e)
in_order false m k n r e f = f e

of_table_lem : (t : Table Bytes) (n : ℕ) → 0 < n → n ≡ lowest_named t → of_table t ≡ refused n
unfolding of_table lowest_named
of_table_lem t n p e = in_order (bad_names t) 5 (cond (zero_counts t) 6 0) n _ e (λ q. in_order (zero_counts t) 6 0 n _ q (λ z. absurd (omega arith)))

of_read_lem : (text : Bytes) (o : Option (Table Span)) (n : ℕ) → 0 < n → n ≡ lowest_read text o → of_read text o ≡ refused n
unfolding of_read lowest_read
of_read_lem text none n p e = ap refused (sym e)
of_read_lem text (some t) n p e = in_order (bad_text text t) 4 (lowest_named (resolve_table text t)) n _ e (λ q. of_table_lem (resolve_table text t) n p q)

-- a refusal's number is that of the whole call
pub call_refused : (w : Words) (r : Refusal) (marks : List ℕ) → Checked (Err r) w marks → of_words w ≡ refused (number_of r)
unfolding of_words lowest
call_refused w r marks c =
    let n : ℕ = number_of r in
    let p : 0 < n = omega (arith, c.refused r refl) in
    in_order (bad_counts w) 2 (lowest_read w.text (read_table input_kinds w.rules w.rows)) n _ c.number (λ q. of_read_lem w.text (read_table input_kinds w.rules w.rows) n p q)

-- where nothing is refused, the whole call is what is left: refusal 7, then the steps
pub call_passed : (w : Words) (marks : List ℕ) (p : Passed w marks) → let t = resolve_table w.text p.table in of_words w ≡ refuse_if (meets t) 7 (finish (stages t))
unfolding of_words of_read of_table
call_passed w marks p = rw (p.counts, p.read, p.text', p.names, p.zeros)
