use Rattle.names.specs.Names.{halves, if_not, if_so}
use Rattle.names.proofs.Index.{forked_is}
use Prim.Native.Nat.{◌+◌, ◌*◌}
use Rattle.names.proofs.fork.Goals as goal

pub returns : goal.returns
returns c = let a = c.args in forked_is a.marks.now (a.i * halves) a.d (a.i * halves + if_not) a.j (a.i * halves + if_so) a.i a.slot (a.count + a.i) c.set_half.ensures c.set_half-2.ensures c.set_half-3.ensures c.set_half-4.ensures
