-- Answers of steps, as a pass reads them. Assumes nothing.
use Rattle.std.specs.Prelude.{None, Option, Some}
use mathlib.Core.Path.{◌≡◌, ap, ◌∙◌, subst}
use mathlib.Core.List.{List, ◌++◌, append_assoc}
use Prim.Native.Nat.{ℕ, ◌+◌, ◌*◌, ◌/◌, ◌≤◌}
use native.Mathlib.Omega.{arith}
use lib.ListN.{length, take, length-append, length-take}
use Rattle.grammar.specs.Numbers.{rule_width, row_width}
use Rattle.grammar.proofs.Packing.{packed_size}
use Rattle.rows.proofs.Laws.{length_flat}
use Rattle.grammar.specs.Basic.{Bytes}
use Rattle.grammar.specs.Tree.{E, size}
use Rattle.grammar.specs.Rows.{row, flat}
use Rattle.grammar.specs.Text.{text_of, packed, bytes_at, resolve}
use Rattle.writing.specs.Writes.{Room, Answer, stored}
use Rattle.writing.specs.Keeps.{Kept, KeptAnswer}
use Rattle.writing.specs.declared.Place.{Place}
use Rattle.writing.proofs.Keeps.{written_kept}
use Rattle.writing.proofs.Runs.{take_stored, length_stored}
use Rattle.passes.specs.Passes.{StepAnswer, Prepared, NamePut, NameAnswer, RuleFits, RulePrepared, RuleKept}

-- of a step that can grow
pub answer_step : (a : Option Place) (p : Place) (e : E) (o o' t t' : List ℕ) → Answer a p e o o' t t' → StepAnswer a p e o o' t t'
answer_step (Some q) p e o o' t t' h = written_kept h
answer_step None p e o o' t t' h = h

-- of a step that can't
pub kept_step : (a : Option Place) (p : Place) (e : E) (o o' t t' : List ℕ) → KeptAnswer a p e o o' t t' → StepAnswer a p e o o' t t'
kept_step (Some q) p e o o' t t' h = h
kept_step None p e o o' t t' h = absurd h

-- an answer that is known
pub name_done : {a : Option Place} {q : Place} (p : Place) (s t t' : List ℕ) → a ≡ Some q → NameAnswer a p s t t' → NamePut q p s t t'
name_done p s t t' e h = subst (λ (a : Option Place). NameAnswer a p s t t') e h

pub step_done : {a : Option Place} {q : Place} (p : Place) (e : E) (o o' t t' : List ℕ) → a ≡ Some q → StepAnswer a p e o o' t t' → Kept q p e o o' t t'
step_done p e o o' t t' k h = subst (λ (a : Option Place). StepAnswer a p e o o' t t') k h

-- a rule whose name or whose tree does not fit
pub no_name : {a : Option Place} (p : Place) (s t t' : List ℕ) (e : E) (o : List ℕ) → a ≡ None → NameAnswer a p s t t' → RuleFits p s e o t → ⊥
no_name p s t t' e o k h f = subst (λ (a : Option Place). NameAnswer a p s t t') k h (omega (arith, f.text, length-append s (text_of e)))

pub no_tree : {a : Option Place} {q p : Place} {s t t₁ : List ℕ} (t₂ : List ℕ) (e : E) (o o' : List ℕ) → length t₁ ≡ length t → NamePut q p s t t₁ → a ≡ None → StepAnswer a q e o o' t₁ t₂ → RuleFits p s e o t → ⊥
no_tree {a} {q} {p} {s} {t} {t₁} t₂ e o o' l n k h f =
    subst (λ (a : Option Place). StepAnswer a q e o o' t₁ t₂) k h
    (record { rows = omega (arith, f.rows, n.rows); text = omega (arith, f.text, n.text, length-append s (text_of e)) })

-- a rule's name, its tree and its words
pub rule_kept : {r q p : Place} {i y n m : ℕ} {s t t₁ t₂ : List ℕ} {e : E} {os os' o o' : List ℕ} → NamePut q p s t t₁ → Kept r q e o o' t₁ t₂ → n ≡ length s → m ≡ size e → os' ≡ stored os (i * rule_width) (row (p.text, n, y) m) → RuleKept r p i y s e os os' o o' t t₂
rule_kept {r} {q} {p} {i} {y} {n} {m} {s} {t} {t₁} {t₂} {e} {os} {os'} {o} {o'} a b u v w =
    record {
      rows = omega (arith, a.rows, b.rows);
      text = omega (arith, a.text, b.text, length-append s (text_of e));
      heads = w ∙ cc;
      words = b.words ∙ cc;
      bytes = b.bytes ∙ ap (λ (l : List ℕ). l ++ text_of e) (ap (take q.text) a.bytes ∙ take_stored t s p.text q.text a.text (omega (arith, a.fits, a.text))) ∙ append_assoc (take p.text t) s (text_of e);
    }

-- the same name by equal offsets
pub name_same : (a : Option Place) (p : Place) (text : Bytes) {x n x' n' : ℕ} (t t' : List ℕ) → x ≡ x' → n ≡ n' → NameAnswer a p (bytes_at text (x, n)) t t' → NameAnswer a p (bytes_at text (x', n')) t t'
name_same a p text {x} {n} {x'} {n'} t t' u v h = subst (λ (k : ℕ). NameAnswer a p (bytes_at text (x', k)) t t') v (subst (λ (k : ℕ). NameAnswer a p (bytes_at text (k, n)) t t') u h)

pub name_length_lem : {q p : Place} {s t t' : List ℕ} → NamePut q p s t t' → length t' ≡ length t
name_length_lem {q} {p} {s} {t} n = ap length n.bytes ∙ length_stored t p.text s

pub name_room : {q p : Place} {s o t t' : List ℕ} → NamePut q p s t t' → Room p o t → Room q o t'
name_room n r =
    let l = name_length_lem n in
    record { rows = omega (arith, r.rows, n.rows); text = omega (arith, n.text, n.fits, l); areas = record { words = r.areas.words; bytes = omega (arith, r.areas.bytes, l) } }

-- what stands up to a place lies in the area
pub kept_within : {q p : Place} {e : E} {o o' t t' : List ℕ} → p.rows ≤ length o / row_width → Kept q p e o o' t t' → q.rows * row_width ≤ length o'
kept_within {q} {p} {e} {o} {o'} h k =
    let a : length (take (q.rows * row_width) o') ≡ length (take (p.rows * row_width) o) + size e * row_width =
    ap length k.words ∙ length-append (take (p.rows * row_width) o) (flat (packed p.text e)) ∙ ap (λ (n : ℕ). length (take (p.rows * row_width) o) + n) (length_flat (packed p.text e) ∙ ap (λ (n : ℕ). n * 4) (packed_size p.text e)) in
    omega (arith, a, k.rows, length-take (q.rows * row_width) o', length-take (p.rows * row_width) o)

-- what is asked of the rule is asked of its tree, after its name
pub prepared : {q p : Place} {s t t' : List ℕ} {step type : ℕ} {rs₀ ws₀ : List ℕ} {text₀ : Bytes} {marks ws : List ℕ} {text : Bytes} {root : ℕ} {o : List ℕ} → NamePut q p s t t' → RulePrepared step type rs₀ ws₀ text₀ marks ws text root p s o t → Prepared step type rs₀ ws₀ text₀ marks ws text root q o t'
prepared {q} {p} {s} {t} {t'} {step} {type} {rs₀} {ws₀} {text₀} {marks} {ws} {text} n r =
    record {
      fits = λ k x a. let f = r.fits k x a in record { rows = omega (arith, f.rows, n.rows); text = omega (arith, f.text, n.text, name_length_lem n, length-append s (text_of (resolve text x))) };
      asks = r.asks;
    }
