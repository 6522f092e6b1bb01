-- A rule through which the stack cannot change, and in which no RestoreOnErr hides a change, is restored as it is. Assumes nothing.
use mathlib.Core.Path.{◌≡◌, refl, sym, ap, ap₂, ◌∙◌}
use mathlib.Core.Bool.{Bool, true, false, false≢true, ◌||◌}
use mathlib.Core.List.{List}
use Prim.Native.Nat.{ℕ, ◌+◌, ◌-◌, ◌*◌, ◌≤◌}
use native.Mathlib.Omega.{arith}
use lib.ListN.{get_or}
use Rattle.grammar.specs.Numbers.{rule_width, rows_word}
use Rattle.grammar.specs.Basic.{Bytes}
use Rattle.grammar.specs.Tree.{Un, PosPred, NegPred, Opt, Rep, RepOnce, Push, RestoreOnErr, RepExact, RepMin, RepMax, RepMinMax, Bin, Seq, Choice, Expr, E, lit, fixed, skip, un, bin, bin_kind, un_head, size}
use Rattle.grammar.specs.Rows.{Span}
use Rattle.grammar.specs.Text.{bytes_at, resolve}
use Rattle.grammar.specs.Table.{Table, resolve_rule, resolve_table}
use Rattle.grammar.specs.Stack.{changes}
use Rattle.grammar.specs.Steps.{restore}
use Rattle.grammar.proofs.Stacks.{changes_is}
use Rattle.rows.specs.Rows.{At}
use Rattle.rows.proofs.Laws.{root, at_un, at_left_lem, at_right_lem, size_pos}
use Rattle.rows.proofs.Views.{at_unique}
use Rattle.names.proofs.Finding.{There}
use Rattle.restorer.specs.Lends.{Lent, Settles}
use Rattle.restorer.specs.Restores.{is_guard, guarded_if, shows_through, SettledNo, Unset}
use Rattle.restorer.proofs.Memories.{or_no_left, or_no_right, rule_resolved}
use Rattle.restorer.proofs.Marks.{rule_there, rule_at}
use Rattle.restorer.proofs.Showing.{changes_un, changes_bin, restore_lit, restore_fixed, restore_skip, restore_un, restore_bin}
use Rattle.restorer.proofs.Stills.{guarded_still}

-- what does not show through a node that is no RestoreOnErr does not show below it
below_un : (u : Un) (b : Bool) → ((un_head u).0 ≡ 19 → ⊥) → shows_through (un_head u).0 b ≡ false → b ≡ false
below_un PosPred b n h = h
below_un NegPred b n h = h
below_un Opt b n h = h
below_un Rep b n h = h
below_un RepOnce b n h = h
below_un (RepExact i) b n h = h
below_un (RepMin i) b n h = h
below_un (RepMax i) b n h = h
below_un (RepMinMax i j) b n h = h
below_un Push b n h = absurd (false≢true (sym h))
below_un RestoreOnErr b n h = absurd (n refl)

below_bin : (b : Bin) (x : Bool) → shows_through (bin_kind b) x ≡ false → x ≡ false
below_bin Seq x h = h
below_bin Choice x h = h

module _ (t : Table Bytes) (s : Bytes) (w : List ℕ) where
  restore_unset : {i : ℕ} (r : Expr Span) → At w i r → Unset w i (size r) → changes t (resolve s r) ≡ false → restore t (resolve s r) ≡ resolve s r
  restore_unset (lit k p) a n h = restore_lit t k (bytes_at s p)
  restore_unset (fixed f) a n h = restore_fixed t f
  restore_unset (skip ss) a n h = restore_skip t _
  restore_unset {i} (un u e) a n h =
      let c = root a in
      let m : 1 ≤ size e = size_pos e in
      let g : Unset w (i - 1) (size e) = λ j p q. n j (omega (arith, c.most)) (omega (arith, c.most)) in
      let k : changes t (resolve s e) ≡ false = below_un u _ (λ z. n i (omega arith) (omega arith) (c.kind ∙ z)) (sym (changes_un t u (resolve s e)) ∙ h) in
      restore_un t u (resolve s e)
      ∙ ap (λ (x : E). un u (guarded_if t (is_guard (un_head u).0) x)) (restore_unset {i = i - 1} e (at_un a) g k)
      ∙ ap (un u) (guarded_still t (is_guard (un_head u).0) (resolve s e) k)
  restore_unset {i} (bin b l r) a n h =
      let c = root a in
      let m : 1 ≤ size l = size_pos l in
      let o : 1 ≤ size r = size_pos r in
      let g : Unset w (i - 1 - size r) (size l) = λ j p q. n j (omega (arith, c.most)) (omega (arith, c.most)) in
      let d : Unset w (i - 1) (size r) = λ j p q. n j (omega (arith, c.most)) (omega (arith, c.most)) in
      let z : (changes t (resolve s l) || changes t (resolve s r)) ≡ false = below_bin b _ (sym (changes_bin t b (resolve s l) (resolve s r)) ∙ h) in
      let x : changes t (resolve s l) ≡ false = or_no_left (changes t (resolve s l)) (changes t (resolve s r)) z in
      let y : changes t (resolve s r) ≡ false = or_no_right (changes t (resolve s l)) (changes t (resolve s r)) z in
      restore_bin t b (resolve s l) (resolve s r)
      ∙ ap₂ (λ (u v : E). bin b (guarded_if t (is_guard (bin_kind b)) u) (guarded_if t (is_guard (bin_kind b)) v)) (restore_unset l (at_left_lem a) g x) (restore_unset r (at_right_lem a) d y)
      ∙ ap₂ (bin b) (guarded_still t (is_guard (bin_kind b)) (resolve s l) x) (guarded_still t (is_guard (bin_kind b)) (resolve s r) y)

-- rule i, which is settled as one through which the stack cannot change, and whose last row is row `last`
module _ {rules rows : List ℕ} {text : Bytes} {m : List ℕ} (i last : ℕ) (own : SettledNo rules m i last) (s : Settles rules rows text m) (t : Table Span) (lent : Lent t rules rows) where
  body_calm : (h : There t i) → changes (resolve_table text t) (resolve text h.rule.body) ≡ false
  body_calm h = go (changes (resolve_table text t) (resolve text h.rule.body)) refl
    where
      go : (b : Bool) → changes (resolve_table text t) (resolve text h.rule.body) ≡ b → b ≡ false
      go true e = absurd ((s.settled t lent).right.no i (resolve_rule text h.rule) (rule_resolved text t i h.rule h.is) own.no ((changes_is (resolve_table text t) (resolve text h.rule.body)).0 e))
      go false e = refl

  pub restore_no : (r : Expr Span) → At rows last r → Unset rows last (size r) → restore (resolve_table text t) (resolve text r) ≡ resolve text r
  restore_no r a n =
      let h : There t i = rule_there lent i own.below in
      let b : At rows (last + 1 - 1) h.rule.body = rule_at lent m i h own.below s.ended (last + 1) (get_or rules (i * rule_width + rows_word) 0) own.ends refl in
      let q : last + 1 - 1 ≡ last = omega arith in
      let e : h.rule.body ≡ r = at_unique h.rule.body r (rw q at b) a in
      restore_unset (resolve_table text t) text rows r a n (rw e at (body_calm h))
