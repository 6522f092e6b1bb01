use mathlib.Core.Path.{refl, ◌∙◌}
use Rattle.std.proofs.Common.{◌≢◌}
use native.Mathlib.Omega.{arith}
use borrow.Author.Tests.{ne_eqb}
use Rattle.unroller.specs.Items.{items_for}
use Rattle.unroller.proofs.items_for.Goals as goal

pub returns-in-12 : goal.returns-in-12
unfolding items_for
returns-in-12 c = c.counts.ensures ∙ rw c.in-12.is refl

pub returns-in-13 : goal.returns-in-13
unfolding items_for
returns-in-13 c = c.counts-in-13.ensures ∙ rw c.in-13.is refl

pub returns-in-14 : goal.returns-in-14
unfolding items_for
returns-in-14 c = c.counts-in-14.ensures ∙ rw c.in-14.is refl

pub returns-in-15 : goal.returns-in-15
unfolding items_for
returns-in-15 c = c.counts-in-15.ensures ∙ rw c.in-15.is refl

pub returns-in_default : goal.returns-in_default
unfolding items_for
returns-in_default c = let k = c.args.kind in
    let a : k ≢ 12 = omega arith in
    let b : k ≢ 13 = omega arith in
    let d : k ≢ 14 = omega arith in
    let e : k ≢ 15 = omega arith in
    c.counts-in_default.ensures ∙ simp (c.min.ensures, c.saturating_sub.ensures, ne_eqb _ _ a, ne_eqb _ _ b, ne_eqb _ _ d, ne_eqb _ _ e)
