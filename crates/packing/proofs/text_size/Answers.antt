use Rattle.std.proofs.Common.{of_calls}
use Rattle.packing.specs.Packing.{name_length, row_length}
use Rattle.packing.proofs.Sums.{sum_lent}
use Rattle.packing.proofs.text_size.Goals as goal

pub returns : goal.returns
returns c = λ t text g h li ni. sum_lent text t _ _ _ _ (c.sum_four.ensures.sum name_length (search of_calls)) (c.sum_four-2.ensures.sum row_length (search of_calls)) g h li ni
