use borrow.Author.Tests.{ne_eqb}
use Rattle.rules.specs.Refusals.{refusal_number, number_in}
use Rattle.rules.proofs.Refusals.{number_ne0}
use Rattle.drawer.specs.Ask.{numbered}
use Rattle.drawer.proofs.ask.with_pairs.Goals as goal

pub returns-in-Ok : goal.returns-in-Ok
unfolding numbered number_in
returns-in-Ok c = rw c.in-Ok.is

pub returns-in-Err : goal.returns-in-Err
unfolding numbered number_in
returns-in-Err c =
    rw (c.in-Err.is, ne_eqb (refusal_number c.in-Err.e) 0 (number_ne0 c.in-Err.e))
    (rw c.from.ensures at c.refused.ensures)
