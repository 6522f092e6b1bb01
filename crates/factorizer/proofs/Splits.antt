-- A Seq's sides in rows, and the case of a Choice by what was told of its sides. Assumes nothing.
use Rattle.std.specs.Prelude.{None, Option, Some}
use mathlib.Core.Path.{◌≡◌, ap, subst}
use mathlib.Core.Bool.{Bool, true}
use mathlib.Core.List.{List}
use mathlib.Core.Option.{none}
use Prim.Native.Nat.{ℕ, ◌-◌}
use Rattle.grammar.specs.Basic.{Bytes}
use Rattle.grammar.specs.Tree.{Expr, Seq, bin, as_seq}
use Rattle.grammar.specs.Rows.{Span}
use Rattle.grammar.specs.Text.{resolve}
use Rattle.rows.specs.Rows.{At, Inside, StandsIn}
use Rattle.rows.proofs.Views.{SidesAt}
use Rattle.rows.proofs.Insides.{inside_within}
use Rattle.factorizer.specs.declared.Sides.{Sides}
use Rattle.factorizer.specs.declared.Case.TheVariants.{Plain}
use Rattle.factorizer.specs.Cases.{SeqAt, SidesTold, CaseTold}
use Rattle.factorizer.proofs.Factors.{no_heads, no_tail, no_first, no_seqs}

-- ---- a Seq row

pub seq_at : {w : List ℕ} {i l : ℕ} {r : Expr Span} → SidesAt Seq w i l r → SeqAt w l (i - 1) r
seq_at v = record { head = v.left; tail = v.right; is = v.is; at_head = v.at_left; at_tail = v.at_right }

-- ---- what was told

module _ {s : Option Sides} (w : List ℕ) (t : Bytes) (x : Expr Span) where
  pub told_split : {v : Sides} → s ≡ Some v → SidesTold s w t x → SeqAt w v.head v.tail x
  told_split e h = subst (λ (z : Option Sides). SidesTold z w t x) e h

  pub told_other : s ≡ None → SidesTold s w t x → as_seq (resolve t x) ≡ none
  told_other e h = subst (λ (z : Option Sides). SidesTold z w t x) e h

-- a tree of the rows, with its literals in the text
pub stands_in : {w : List ℕ} {i n : ℕ} {r : Expr Span} → Inside w n → At w i r → StandsIn w i n
stands_in {n} {r} h a = record { tree = r; at = a; within = inside_within n r h a }

is_bin_lem : (t : Bytes) {w : List ℕ} {a b : ℕ} {z : Expr Span} (s : SeqAt w a b z) → resolve t z ≡ bin Seq (resolve t s.head) (resolve t s.tail)
is_bin_lem t s = ap (resolve t) s.is

module _ (tight : Bool) (w : List ℕ) (t : Bytes) (x y : Expr Span) where
  pub plain_heads : {a b c d : ℕ} (l : SeqAt w a b x) (r : SeqAt w c d y) → (resolve t l.head ≡ resolve t r.head → ⊥) → CaseTold Plain tight w t x y
  plain_heads l r n = no_heads tight _ _ _ _ _ _ (is_bin_lem t l) (is_bin_lem t r) n

  pub plain_tail : {a b : ℕ} (l : SeqAt w a b x) → as_seq (resolve t y) ≡ none → (tight ≡ true → resolve t l.head ≡ resolve t y → ⊥) → CaseTold Plain tight w t x y
  plain_tail l r n = no_tail tight _ _ _ _ (is_bin_lem t l) r n

  pub plain_first : {c d : ℕ} → as_seq (resolve t x) ≡ none → (r : SeqAt w c d y) → (resolve t x ≡ resolve t r.head → ⊥) → CaseTold Plain tight w t x y
  plain_first l r n = no_first tight _ _ _ _ l (is_bin_lem t r) n

  pub plain_other : as_seq (resolve t x) ≡ none → as_seq (resolve t y) ≡ none → CaseTold Plain tight w t x y
  plain_other l r = no_seqs tight _ _ l r
