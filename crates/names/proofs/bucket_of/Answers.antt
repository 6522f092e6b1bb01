use native.Mathlib.Nat.{mod-lt}
use Rattle.names.proofs.Marks.{bucket_is}
use Rattle.names.proofs.bucket_of.Goals as goal

pub returns : goal.returns
returns c = let a = c.args in (bucket_is a.text.now a.x a.n a.count _ _ c.requires.n_in_bounds c.last_from-from.ensures c.hash_bytes.ensures, mod-lt _ c.requires.count_nonzero)
