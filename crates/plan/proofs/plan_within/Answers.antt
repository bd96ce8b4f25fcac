use Rattle.tables.specs.Loans.{tables_in}
use Rattle.plan.proofs.Steps.{within_none, within_some}
use native.Mathlib.Omega.{arith}
use Rattle.plan.proofs.plan_within.Goals as goal

pub returns-in-0 : goal.returns-in-0
returns-in-0 c = within_none _ (tables_in c.args.t.now) _ c.not_above.ensures.0 c.in-0.is

pub returns-in_default : goal.returns-in_default
returns-in_default c =
    within_some _ (tables_in c.args.t.now) _ c.not_above.ensures.0 (λ e. omega arith)
    c.resume.ensures
