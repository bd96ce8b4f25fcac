use Rattle.tables.specs.Loans.{tables_in}
use Rattle.plan.proofs.Steps.{resume_is}
use Rattle.plan.proofs.resume.Goals as goal

pub returns : goal.returns
returns c =
    resume_is _ (tables_in c.args.t.now) _ c.lsn_at.ensures
    c.get_checkpoint.ensures (c.assembly_of.ensures c.args.t.now.store.now)
