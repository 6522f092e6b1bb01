-- The walk along a Choice: what is read so far, and that the rest makes the whole. Assumes nothing.
use mathlib.Core.Path.{◌≡◌, refl, ◌∙◌}
use mathlib.Core.List.{List}
use Prim.Native.Nat.{ℕ, ◌-◌, ◌/◌, ◌≤◌}
use native.Mathlib.Omega.{arith}
use lib.ListN.{length}
use Rattle.grammar.specs.Numbers.{rule_width}
use Rattle.grammar.specs.Basic.{Bytes}
use Rattle.grammar.specs.Tree.{Expr}
use Rattle.grammar.specs.Rows.{Span}
use Rattle.grammar.specs.Text.{resolve}
use Rattle.grammar.specs.Table.{Table}
use Rattle.grammar.specs.Lists.{read_left, read_in}
use Rattle.rows.specs.Rows.{At, Stands, kind_at, size_at}
use Rattle.skipper.specs.Lends.{Lent}
use Rattle.skipper.proofs.Leaf.{read_found_lem, choice_view, choice_left}
use Rattle.explanation.specs.Ends.{ends_left, ends_in}
use Rattle.explainer.specs.declared.Explained.{Explained}
use Rattle.explainer.specs.declared.Reason.TheVariants.{BecomesSkip}
use Rattle.explainer.specs.Reading.{unread, Ready, ReadSo}
use Rattle.explainer.proofs.Marks.{given_steady}
use Rattle.explainer.proofs.Arms.{arm_then}

-- the expression at row `root` of rule i is read up to what stands at row `at`; the marks were m₀ and are m, the list was l₀ and is l
pub record Walked (rules rows : List ℕ) (s : Bytes) (m₀ l₀ : List ℕ) (i root d : ℕ) (m l : List ℕ) (at : ℕ) : Type 0 where
  pub ready : Ready rules rows s m l d
  pub stands : Stands rows at
  pub fewer : unread (length rules / rule_width) m ≤ unread (length rules / rule_width) m₀
  pub marks : length m ≡ length m₀
  pub list : length l ≡ length l₀
  pub whole : (t : Table Span) (r : Expr Span) → Lent rules rows t → At rows root r → (a : Explained) (m' l' : List ℕ)
      → ((q : Expr Span) → At rows at q → ReadSo s t (length rules / rule_width) d m m' l l' a (λ look. read_in look (resolve s q)) (λ look. ends_in look i at (resolve s q)))
      → ReadSo s t (length rules / rule_width) d m₀ m' l₀ l' a (λ look. read_in look (resolve s r)) (λ look. ends_in look i root (resolve s r))

module _ {rules rows : List ℕ} {s : Bytes} {m₀ l₀ : List ℕ} {i root d : ℕ} where
  pub walk_starts : Ready rules rows s m₀ l₀ d → Stands rows root → Walked rules rows s m₀ l₀ i root d m₀ l₀ root
  walk_starts y h = record { ready = y; stands = h; fewer = omega arith; marks = refl; list = refl; whole = λ t r l a b m' l' f. f r a }

  module _ {m l : List ℕ} {at : ℕ} (v : Walked rules rows s m₀ l₀ i root d m l at) {k : ℕ} (e : k ≡ kind_at rows at) (z : k ≡ 9) where
    -- a row stands before a Choice
    pub walk_past : 1 ≤ at
    walk_past = let a = v.stands.at in let w = choice_view (read_found_lem a e) a z in omega (arith, w.most, w.least_left)

    module _ {c : ℕ} (b : c ≡ at - 1 - size_at rows (at - 1)) where
      -- the left side of a Choice stands at row c
      pub walk_left : Stands rows c
      walk_left = let a = v.stands.at in record { tree = (choice_view (read_found_lem a e) a z).left; at = choice_left (read_found_lem a e) a z b }

      -- it was read to a list: the walk goes on with the right side
      pub walk_on : {a : Explained} {m₁ l₁ : List ℕ} → a.answer ≡ BecomesSkip → length m₁ ≡ length m → length l₁ ≡ length l
          → ((t : Table Span) (q : Expr Span) → Lent rules rows t → At rows c q → ReadSo s t (length rules / rule_width) d m m₁ l l₁ a (λ look. read_left look (resolve s q)) (λ look. ends_left look i c (resolve s q)))
          → Walked rules rows s m₀ l₀ i root d m₁ l₁ (at - 1)
      walk_on {a} {m₁} {l₁} h n p so =
          let y = v.ready in
          let w = v.stands.at in
          let u = choice_view (read_found_lem w e) w z in
          let x = so y.given.table walk_left.tree y.given.lent walk_left.at in
          record {
            ready =
                record {
                  given = given_steady y.given x.steady n;
                  few = y.few;
                  low = y.low;
                  clean = x.clean h;
                  deep = omega (arith, y.deep, x.steady.fewer);
                  room = omega (arith, y.room, p);
                };
            stands = record { tree = u.right; at = u.at_right };
            fewer = omega (arith, v.fewer, x.steady.fewer);
            marks = n ∙ v.marks;
            list = p ∙ v.list;
            whole = λ t r g f c' m' l' rest. v.whole t r g f c' m' l' (λ q o. arm_then s t (length rules / rule_width) d (read_found_lem o e) i o z b h (λ q' o'. so t q' g o') rest);
          }
