-- The look into a rule that was not seen, as what is lent says it. Assumes nothing.
use mathlib.Core.Path.{◌≡◌, subst}
use mathlib.Core.List.{List}
use mathlib.Core.Logic.{inl, inr}
use Prim.Native.Nat.{ℕ, ◌+◌, ◌*◌, ◌/◌, ◌≤◌, ◌<◌}
use native.Mathlib.Omega.{arith}
use lib.ListN.{length, set, length-set}
use Rattle.names.specs.Names.{memory_word}
use Rattle.grammar.specs.Numbers.{rule_width, mark_width}
use Rattle.grammar.specs.Basic.{Bytes}
use Rattle.grammar.specs.Rows.{Span}
use Rattle.grammar.specs.Text.{resolve}
use Rattle.grammar.specs.Table.{Table, resolve_rule, resolve_table}
use Rattle.names.proofs.Finding.{There}
use Rattle.restorer.specs.Search.{OPEN, state_of, Right, Walked, Looked, RuleSettled}
use Rattle.restorer.specs.Lends.{Lent, Steady}
use Rattle.restorer.specs.Stacks.{unseen, Stacked, Searching, Ran, top_of, Within, Closes, Leaves}
use Rattle.restorer.specs.declared.Outcome.{Outcome}
use Rattle.restorer.specs.declared.Outcome.TheVariants.{Reached, Silent}
use Rattle.restorer.proofs.Memories.{rule_resolved}
use Rattle.restorer.proofs.Settles.{open_right, looked, ends_yes}
use Rattle.restorer.proofs.Marks.{Sets, sets_state, pushed_less, pushed, stack_top, steady_more, steady_set, given_steady, count_resolved}

-- where the stack ends
pub stack_within : {n : ℕ} {m st : List ℕ} {from top : ℕ} → Stacked n m st top → from ≤ top → n ≤ length st → n * mark_width ≤ length m → Within m st from top
stack_within s l a b = record { low = l; long = omega (arith, s.room); marks = λ p h. omega (arith, s.below p h) }

module _ {rules rows : List ℕ} {text : Bytes} {m st : List ℕ} {top i : ℕ} (g : Searching rules rows text m st top) (h : i < length rules / rule_width) (z : state_of m i ≡ 0) where
  puts : Sets m (set m (i * mark_width + memory_word) (OPEN + top)) i (OPEN + top)
  puts = sets_state m i (OPEN + top) (omega (arith, g.given.marked.index.long))

  pub look_room : top < length rules / rule_width
  look_room = omega (arith, g.stacked.room, pushed_less g.stacked h z puts)

  -- it comes to the stack
  module _ {m₁ st₁ : List ℕ} (e : m₁ ≡ set m (i * mark_width + memory_word) (OPEN + top)) (f : st₁ ≡ set st top i) where
    pub look_less : unseen (length rules / rule_width) m₁ + 1 ≡ unseen (length rules / rule_width) m
    look_less = rw e (pushed_less g.stacked h z puts)

    pub look_opens : Searching rules rows text m₁ st₁ (top + 1)
    look_opens =
        rw (e, f)
        (record {
          given = given_steady g.given (steady_set m i (OPEN + top)) (length-set m (i * mark_width + memory_word) (OPEN + top));
          stacked = pushed g.stacked h z puts (omega (arith, look_room, g.long));
          long = omega (arith, g.long, length-set st top i);
          few = g.few;
        })

    -- its rows are walked
    module _ {m₂ st₂ : List ℕ} (o : Outcome) (ran : Ran (length rules / rule_width) m₁ m₂ st₂ (top + 1) (top_of o)) where
      -- and it is left
      module _ {m₃ : List ℕ} (b : Outcome) (steady : Steady m₂ m₃) (leaves : Leaves o b top m₂ m₃ st₂) where
        pub look_ran : Ran (length rules / rule_width) m m₃ st₂ top (top_of b)
        look_ran = go o b ran leaves
          where
            start : Steady m m₁
            start = rw e (steady_set m i (OPEN + top))

            same : (a : Outcome) → Ran (length rules / rule_width) m₁ m₂ st₂ (top + 1) (top_of a) → Ran (length rules / rule_width) m m₂ st₂ top (top_of a)
            same a r = record { steady = steady_more start r.steady; fewer = omega (arith, r.fewer, look_less); grown = omega (arith, r.grown); stacked = r.stacked }

            go : (a c : Outcome) → Ran (length rules / rule_width) m₁ m₂ st₂ (top + 1) (top_of a) → Leaves a c top m₂ m₃ st₂ → Ran (length rules / rule_width) m m₃ st₂ top (top_of c)
            go (Reached high) c r (p, q) = rw (p, q) (same (Reached high) r)
            go (Silent low high) c r (inl (l, p, q)) = rw (p, q) (same (Silent low high) r)
            go (Silent low high) c r (inr (l, p, q)) =
                let d = q (length rules / rule_width) r.stacked in
                rw p (record { steady = steady_more (steady_more start r.steady) steady; fewer = omega (arith, r.fewer, look_less, d.fewer); grown = omega arith; stacked = d.stacked })

        pub look_says : (t : Table Span) (l : Lent t rules rows) (r : There t i) → Right (resolve_table text t) m → (Right (resolve_table text t) m₁ → Walked o (resolve_table text t) (top + 1) m₁ m₂ (resolve text r.rule.body)) → Looked b (resolve_table text t) top m m₃ i
        look_says t l r k w =
            let rule = resolve_rule text r.rule in
            let is = rule_resolved text t i r.rule r.is in
            let s : Sets m m₁ i (OPEN + top) = rw e puts in
            let n = count_resolved l text in
            looked top rule is z s k o b m₂ m₃ st₂ (λ j d. stack_top g.stacked (omega (arith, n))) (omega (arith, look_room, g.few)) leaves (subst (λ (v : ℕ). Stacked v m₂ st₂ (top_of o)) n ran.stacked) (w (open_right top rule is z s k))

-- ---- a search from an empty stack

module _ {rules rows : List ℕ} {text : Bytes} {m m₁ st st₁ : List ℕ} {i : ℕ} {o : Outcome} (g : Searching rules rows text m st 0) (h : i < length rules / rule_width) (ran : Ran (length rules / rule_width) m m₁ st₁ 0 (top_of o)) (looks : (t : Table Span) → Lent t rules rows → Right (resolve_table text t) m → Looked o (resolve_table text t) 0 m m₁ i) where
  -- a change is reached
  module _ {high : ℕ} (e : o ≡ Reached high) where
    rule_stack : Stacked (length rules / rule_width) m₁ st₁ high
    rule_stack = subst (λ (a : Outcome). Stacked (length rules / rule_width) m₁ st₁ (top_of a)) e ran.stacked

    pub rule_within : length m₁ ≡ length m → length st₁ ≡ length st → Within m₁ st₁ 0 high
    rule_within a b = stack_within rule_stack (omega arith) (omega (arith, g.long)) (omega (arith, g.given.marked.index.long))

    module _ {m₂ : List ℕ} (c : (n : ℕ) → Stacked n m₁ st₁ high → Closes n m₁ m₂ st₁ 0 3) where
      pub rule_yes : (t : Table Span) → Lent t rules rows → Right (resolve_table text t) m → RuleSettled (resolve_table text t) m m₂ i
      rule_yes t l r =
          let n = count_resolved l text in
          let k : Stacked (length (resolve_table text t)) m₁ st₁ high = subst (λ (v : ℕ). Stacked v m₁ st₁ high) n rule_stack in
          ends_yes (λ j b. let q = stack_top {i = j} g.stacked (omega (arith, n)) in omega arith) (omega (arith, n)) high (rw e at (looks t l r)) (c (length (resolve_table text t)) k)
