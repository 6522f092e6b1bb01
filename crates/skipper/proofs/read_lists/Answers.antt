-- the marks are cleared
use Rattle.std.proofs.lemmas.Result.{err_from_is_err_and}
use Rattle.skipper.proofs.Leaf.{given_steady}
use Rattle.skipper.proofs.Tables.{forgotten, all_met, all_read}
use Rattle.skipper.proofs.read_lists.Goals as goal

pub read_rules-requires : goal.read_rules-requires
read_rules-requires c = forgotten c.requires c.forget.ensures

pub shorten-requires : goal.shorten-requires
shorten-requires c = given_steady (forgotten c.requires c.forget.ensures) c.read_rules.ensures.steady c.read_rules.auto.marks

pub returns-in_err-read_rules-clause-given : goal.returns-in_err-read_rules-clause-given
returns-in_err-read_rules-clause-given c = given_steady (forgotten c.requires c.forget.ensures) c.read_rules.ensures.steady c.read_rules.auto.marks

pub returns-in_err-read_rules-clause-lists_answer : goal.returns-in_err-read_rules-clause-lists_answer
returns-in_err-read_rules-clause-lists_answer c =
    let p = err_from_is_err_and c.from_residual.result c.from_residual.ensures.1 in
    rw (p.1, p.2) (λ u l. all_met c.requires u l (rw c.forget.ensures at (c.read_rules.ensures.loops_of u l)) c.in_err-read_rules.was)

pub returns-clause-given : goal.returns-clause-given
returns-clause-given c = given_steady (given_steady (forgotten c.requires c.forget.ensures) c.read_rules.ensures.steady c.read_rules.auto.marks) c.shorten.ensures.relisted.steady c.shorten.auto.marks

pub returns-clause-lists_answer : goal.returns-clause-lists_answer
returns-clause-lists_answer c =
    λ u l. all_read c.requires u l (rw c.forget.ensures at (c.read_rules.ensures.loops_of u l)) c.in_ok-read_rules.was c.shorten.ensures.relisted (c.shorten.ensures.targets u l)
