use Rattle.tables.specs.Loans.{tables_in}
use Rattle.plan.proofs.Steps.{plan_open, plan_past, plan_before}
use Rattle.plan.proofs.plan_in.Goals.{in_default-via-in-Some+else-e-first, in_default-via-in_default}
use Rattle.plan.proofs.plan_in.Goals as goal

pub returns-in-Some : goal.returns-in-Some
returns-in-Some c = plan_past _ (tables_in c.args.t.now) _ c.in-Some.is c.if-e-first.true

pub returns-in_default : goal.returns-in_default
returns-in_default c =
    elim c.in_default.branch [
      | in_default-via-in-Some+else-e-first w ↦ plan_before _ (tables_in c.args.t.now) _ w.in-Some.is w.if-e-first.false
          c.plan_within.ensures
      | in_default-via-in_default w ↦ plan_open _ (tables_in c.args.t.now) _ w.in_default.is c.plan_within.ensures
    ]
