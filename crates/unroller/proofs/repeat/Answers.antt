use mathlib.Core.Path.{refl, ◌∙◌}
use native.Mathlib.Omega.{arith}
use Rattle.unroller.specs.Items.{item_of}
use Rattle.unroller.proofs.Lays.{source_put, laid_none, laid_more, repeat_copyable}
use Rattle.unroller.proofs.repeat.Goals as goal

pub loop-i-init : goal.loop-i-init
loop-i-init c = (omega arith, refl, refl, λ e h. laid_none c.args.at c.args.out.now c.args.lits.now (omega (arith, c.requires.fits.rows)) (omega (arith, c.requires.fits.text)))

pub next-s-requires : goal.next-s-requires
next-s-requires c = repeat_copyable {k = c.loop-i.i} c.requires (omega arith) (c.loop-i.invariant.3 c.requires.tree c.requires.source)

pub loop-i-preserved : goal.loop-i-preserved
loop-i-preserved c = (omega arith, c.next-s.auto.out ∙ c.loop-i.invariant.1, c.next-s.auto.lits ∙ c.loop-i.invariant.2, λ e h. laid_more c.loop-i.i (item_of c.args.item e) (c.loop-i.invariant.3 e h) (c.next-s.ensures e (source_put h c.requires.behind c.requires.beyond (c.loop-i.invariant.3 e h))))
