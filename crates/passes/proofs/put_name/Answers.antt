-- `put_name` meets its contract. Assumes nothing.
use Rattle.passes.proofs.put_name.Goals as goal

pub returns : goal.returns
returns c = c.put_bytes.ensures
