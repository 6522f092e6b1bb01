-- Factor on trees, case by case, and that it takes no more rows and no more text. Assumes nothing.
use mathlib.Core.Path.{◌≡◌, refl, ap, ◌∙◌}
use mathlib.Core.Bool.{Bool, true, false}
use mathlib.Core.Option.{Option, none, some}
use Prim.Native.Nat.{ℕ, zero, suc, ◌≤◌}
use native.Mathlib.Omega.{arith}
use lib.ListN.{length, length-append}
use Rattle.grammar.specs.Basic.{◌>>=◌, or_else, test}
use Rattle.grammar.specs.Tree.{E, Un, Opt, Seq, Choice, lit, fixed, skip, un, bin, size, as_seq, as_choice, same}
use Rattle.grammar.specs.Text.{text_of}
use Rattle.grammar.specs.Steps.{children, top_down_in, or_same, factor_case, factor?, factor, is_tight}
use Rattle.grammar.proofs.Logic.{eq_same, same_eq}
use Rattle.grammar.proofs.TopDown.{top_down_step, factor_falls, as_seq_is, size_pos}
use Rattle.factorizer.specs.Factors.{factored, beneath}

pub factor_is : (type : ℕ) (e : E) → factor type e ≡ factored (is_tight type) e
unfolding factor factored
factor_is type e = refl

pub factor_rule : (type : ℕ) (tight : Bool) (e : E) → tight ≡ is_tight type → factor type e ≡ factored tight e
factor_rule type tight e h = factor_is type e ∙ rw h

pub factored_step : (tight : Bool) (e : E) → factored tight e ≡ beneath tight (or_same (factor? tight) e)
unfolding factored
factored_step tight e = top_down_step (or_same (factor? tight)) (factor_falls tight) e

-- trees that are not equal
pub differ : (a b : E) → (a ≡ b → ⊥) → same a b ≡ false
differ a b n = go (same a b) refl
  where
    go : (v : Bool) → same a b ≡ v → v ≡ false
    go true e = absurd (n (same_eq a b e))
    go false e = refl

-- ---- by node

pub factored_un : (tight : Bool) (u : Un) (e : E) → factored tight (un u e) ≡ un u (factored tight e)
unfolding factor?
factored_un tight u e = factored_step tight (un u e)

-- a root that is no Choice is not tried
pub factored_other : (tight : Bool) (e : E) → as_choice e ≡ none → factored tight e ≡ beneath tight e
unfolding factor?
factored_other tight e h = factored_step tight e ∙ rw h

-- ---- at a Choice

left : (v : Bool) (x : E) → v ≡ false → (test v >>= λ _. some x) ≡ none
left v x e = rw e

tails : (v : Bool) (l r a b : E) → (v ≡ true → a ≡ r → ⊥) → factor_case v l r (some (a, b)) none ≡ none
unfolding factor_case
tails true l r a b n = left (same a r) _ (differ a r (n refl))
tails false l r a b n = refl

module _ (tight : Bool) (l r : E) where
  -- the case that the two views pick
  at_choice : (o q : Option (E × E)) → as_seq l ≡ o → as_seq r ≡ q → factor? tight (bin Choice l r) ≡ factor_case tight l r o q
  unfolding factor?
  at_choice o q e f = rw (e, f)

  fires : (x : E) → factor? tight (bin Choice l r) ≡ some x → factored tight (bin Choice l r) ≡ beneath tight x
  fires x h = factored_step tight (bin Choice l r) ∙ rw h

  pub choice_heads : (a b c d : E) → l ≡ bin Seq a b → r ≡ bin Seq c d → a ≡ c → factored tight (bin Choice l r) ≡ bin Seq (factored tight a) (factored tight (bin Choice b d))
  unfolding factor_case
  choice_heads a b c d p q s = fires (bin Seq a (bin Choice b d)) (at_choice (some (a, b)) (some (c, d)) (ap as_seq p) (ap as_seq q) ∙ rw (eq_same a c s))

  pub choice_tail : (a b : E) → tight ≡ true → l ≡ bin Seq a b → as_seq r ≡ none → a ≡ r → factored tight (bin Choice l r) ≡ bin Seq (factored tight a) (un Opt (factored tight b))
  unfolding factor_case
  choice_tail a b t p q s =
      fires (bin Seq a (un Opt b)) (at_choice (some (a, b)) none (ap as_seq p) q ∙ rw (t, eq_same a r s))
      ∙ ap (bin Seq (factored tight a)) (factored_un tight Opt b)

  pub choice_first : (c d : E) → as_seq l ≡ none → r ≡ bin Seq c d → l ≡ c → factored tight (bin Choice l r) ≡ beneath tight l
  unfolding factor_case
  choice_first c d p q s = fires l (at_choice none (some (c, d)) p (ap as_seq q) ∙ rw (eq_same l c s))

  pub choice_plain : factor? tight (bin Choice l r) ≡ none → factored tight (bin Choice l r) ≡ bin Choice (factored tight l) (factored tight r)
  choice_plain h = factored_step tight (bin Choice l r) ∙ rw h

  -- where no case fits
  pub no_heads : (a b c d : E) → l ≡ bin Seq a b → r ≡ bin Seq c d → (a ≡ c → ⊥) → factor? tight (bin Choice l r) ≡ none
  unfolding factor_case
  no_heads a b c d p q n = at_choice (some (a, b)) (some (c, d)) (ap as_seq p) (ap as_seq q) ∙ left (same a c) _ (differ a c n)

  pub no_tail : (a b : E) → l ≡ bin Seq a b → as_seq r ≡ none → (tight ≡ true → a ≡ r → ⊥) → factor? tight (bin Choice l r) ≡ none
  no_tail a b p q n = at_choice (some (a, b)) none (ap as_seq p) q ∙ tails tight l r a b n

  pub no_first : (c d : E) → as_seq l ≡ none → r ≡ bin Seq c d → (l ≡ c → ⊥) → factor? tight (bin Choice l r) ≡ none
  unfolding factor_case
  no_first c d p q n = at_choice none (some (c, d)) p (ap as_seq q) ∙ left (same l c) _ (differ l c n)

  pub no_seqs : as_seq l ≡ none → as_seq r ≡ none → factor? tight (bin Choice l r) ≡ none
  unfolding factor_case
  no_seqs p q = at_choice none none p q

-- ---- no more rows, and no more text

-- a measure of trees that adds up over children, and to which a node adds the same whatever its children are
module _ (m : E → ℕ) (child : (g : E → E) (x : E) → ((y : E) → m (g y) ≤ m y) → m (children g x) ≤ m x) (f : E → E) (once : (e : E) → m (f e) ≤ m e) where
  down : (n : ℕ) (e : E) → m (top_down_in n f e) ≤ m e
  down zero e = omega arith
  down (suc n) e = omega (arith, child (top_down_in n f) (f e) (down n), once e)

size_child : (g : E → E) (x : E) → ((y : E) → size (g y) ≤ size y) → size (children g x) ≤ size x
size_child g (lit k s) h = omega arith
size_child g (fixed f) h = omega arith
size_child g (skip ss) h = omega arith
size_child g (un u e) h = omega (arith, h e)
size_child g (bin b l r) h = omega (arith, h l, h r)

abbrev chars : E → ℕ
chars e = length (text_of e)

chars_child : (g : E → E) (x : E) → ((y : E) → chars (g y) ≤ chars y) → chars (children g x) ≤ chars x
chars_child g (lit k s) h = omega arith
chars_child g (fixed f) h = omega arith
chars_child g (skip ss) h = omega arith
chars_child g (un u e) h = h e
chars_child g (bin b l r) h = omega (arith, h l, h r, length-append (text_of (g l)) (text_of (g r)), length-append (text_of l) (text_of r))

-- one rewrite
module _ (m : E → ℕ) where
  kept_or : (t : Bool) (x e : E) → m x ≤ m e → m (or_else (test t >>= λ _. some x) e) ≤ m e
  kept_or true x e h = h
  kept_or false x e h = omega arith

  -- the three forms are no larger than the Choice
  record Smaller : Type 0 where
    heads : (a b c d : E) → m (bin Seq a (bin Choice b d)) ≤ m (bin Choice (bin Seq a b) (bin Seq c d))
    tail : (a b r : E) → m (bin Seq a (un Opt b)) ≤ m (bin Choice (bin Seq a b) r)
    first : (l r : E) → m l ≤ m (bin Choice l r)

  module _ (h : Smaller) where
    sides : (tight : Bool) (l r : E) (o q : Option (E × E)) → as_seq l ≡ o → as_seq r ≡ q → m (or_else (factor_case tight l r o q) (bin Choice l r)) ≤ m (bin Choice l r)
    unfolding factor_case
    sides tight l r (some p) (some q) e f = kept_or (same p.0 q.0) _ (bin Choice l r) (rw (as_seq_is l p e, as_seq_is r q f) (h.heads _ _ _ _))
    sides true l r (some p) none e f = kept_or (same p.0 r) _ (bin Choice l r) (rw (as_seq_is l p e) (h.tail _ _ _))
    sides false l r (some p) none e f = omega arith
    sides tight l r none (some q) e f = kept_or (same l q.0) _ (bin Choice l r) (h.first l r)
    sides tight l r none none e f = omega arith

    once : (tight : Bool) (e : E) → m (or_same (factor? tight) e) ≤ m e
    unfolding factor?
    once tight (lit k s) = omega arith
    once tight (fixed f) = omega arith
    once tight (skip ss) = omega arith
    once tight (un u e) = omega arith
    once tight (bin Seq l r) = omega arith
    once tight (bin Choice l r) = sides tight l r (as_seq l) (as_seq r) refl refl

pub factored_size : (tight : Bool) (e : E) → size (factored tight e) ≤ size e
unfolding factored
factored_size tight e = down size size_child (or_same (factor? tight)) (once size (record { heads = λ a b c d. omega (arith, size_pos c); tail = λ a b r. omega (arith, size_pos r); first = λ l r. omega arith }) tight) (size e) e

pub factored_text : (tight : Bool) (e : E) → length (text_of (factored tight e)) ≤ length (text_of e)
unfolding factored
factored_text tight e = down chars chars_child (or_same (factor? tight)) (once chars (record { heads = λ a b c d. simp length-append (omega arith); tail = λ a b r. simp length-append (omega arith); first = λ l r. simp length-append (omega arith) }) tight) (size e) e

pub factor_size : (type : ℕ) (e : E) → size (factor type e) ≤ size e
factor_size type e = rw (factor_is type e) (factored_size (is_tight type) e)

pub factor_text : (type : ℕ) (e : E) → length (text_of (factor type e)) ≤ length (text_of e)
factor_text type e = rw (factor_is type e) (factored_text (is_tight type) e)
