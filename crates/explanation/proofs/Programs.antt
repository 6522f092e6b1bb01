-- Programs that the contract of an explanation rules out, and that it allows one answer. Assumes nothing.
use mathlib.Core.Path.{◌≡◌, refl, sym, ap, ◌∙◌}
use mathlib.Core.List.{List, [], ◌∷◌}
use Prim.Native.Nat.{ℕ, ◌<◌}
use native.Mathlib.Omega.{arith}
use lib.ListN.{replicate}
use Rattle.grammar.specs.Table.{Normal, Atomic, Words, words_of}
use Rattle.grammar.specs.Refusals.{full_marks}
use Rattle.grammar.specs.Tree.{Insens, lit}
use Rattle.grammar.proofs.Notation.{◌or◌, a, id, r, rule, str, until, x, y, z}
use Rattle.explanation.specs.Explain.{Explained, explain_words, full_list}

abbrev pub Program : Type 0
Program = (w : Words) (row : ℕ) (list marks : List ℕ) → Explained

abbrev pub Keeps : Program → Type 0
Keeps P = (w : Words) (row : ℕ) (list marks : List ℕ) → P w row list marks ≡ explain_words w row list marks

-- SOME PROGRAM MEETS IT, and any two that do give the same, whatever the marks hold
pub can_be_met : Keeps explain_words
can_be_met w row list marks = refl

pub same_programs : (P Q : Program) → Keeps P → Keeps Q → (w : Words) (row : ℕ) (list marks : List ℕ) → P w row list marks ≡ Q w row list marks
same_programs P Q p q w row list marks = p w row list marks ∙ sym (q w row list marks)

-- a loop over a name of a rule with a Choice on the left of a Choice; over two names for one rule; over a literal in any case and then an unknown name;
-- a rule that is its own loop
abbrev nested : Words
nested = words_of (rule r Atomic (until (id x)) ∷ rule x Normal ((str a or str a) or str a) ∷ [])

abbrev diamond : Words
diamond = words_of (rule r Atomic (until (id x or id y)) ∷ rule x Normal (id z) ∷ rule y Normal (id z) ∷ rule z Normal (str a) ∷ [])

abbrev both : Words
both = words_of (rule r Atomic (until (lit Insens a or id y)) ∷ [])

abbrev own : Words
own = words_of (rule r Atomic (until (id r)) ∷ [])

module _ (P : Program) where
  abbrev pub run : (w : Words) (row : ℕ) → Explained
  run w row = P w row (replicate full_list 0) (replicate full_marks 0)

  told : Keeps P → (w : Words) (row : ℕ) → run w row ≡ explain_words w row (replicate full_list 0) (replicate full_marks 0)
  told ok w row = ok w row (replicate full_list 0) (replicate full_marks 0)

  -- one that calls a rule met again which two others name
  pub twice_named : (run diamond 6).answer ≡ 9 → Keeps P → ⊥
  unfolding explain_words
  twice_named wrong ok = let e : ◌≡◌ {A = ℕ} 9 0 = sym wrong ∙ ap (λ (e : Explained). e.answer) (told ok diamond 6) in omega (arith, e)

  -- one that takes the loop's own rule for one that is being read
  pub own_rule : (run own 4).answer ≡ 9 → Keeps P → ⊥
  unfolding explain_words
  own_rule wrong ok = let e : ◌≡◌ {A = ℕ} 9 8 = sym wrong ∙ ap (λ (e : Explained). e.answer) (told ok own 4) in omega (arith, e)

  -- one that gives the last reason
  pub last_reason : (run both 6).answer ≡ 7 → Keeps P → ⊥
  unfolding explain_words
  last_reason wrong ok = let e : ◌≡◌ {A = ℕ} 7 8 = sym wrong ∙ ap (λ (e : Explained). e.answer) (told ok both 6) in omega (arith, e)

  -- one that counts the row within its rule
  pub row_in_rule : (run nested 4).at < 5 → Keeps P → ⊥
  unfolding explain_words
  row_in_rule wrong ok = let e : (run nested 4).at ≡ 7 = ap (λ (e : Explained). e.at) (told ok nested 4) in omega (arith, e, wrong)
