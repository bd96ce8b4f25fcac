use Rattle.field.proofs.Records.{records_length}
use Rattle.sections.proofs.Questions.{ordered}
use Rattle.inspect.specs.Tails.{from_end, answered}
use Rattle.inspect.proofs.Tails.{after_no, after_yes}
use borrow.Author.Rules.{rules}
use Rattle.inspect.proofs.inspect_end.Goals as goal

pub returns-then-number-ne0 : goal.returns-then-number-ne0
unfolding from_end answered
returns-then-number-ne0 c = rw (← c.end_number-number.ensures, after_no c.end_number-number.result _ c.if-number-ne0.true)

pub frontier_of-front-requires : goal.frontier_of-front-requires
frontier_of-front-requires c = let o = ordered c.args.area c.requires.0 in search rules

pub returns : goal.returns
unfolding from_end
returns c = rw (← c.end_number-number.ensures, after_yes _ c.if-number-ne0.false, records_length, ← c.ending_of.ensures.1, ← c.frontier_of-front.ensures) c.inspect_malformed.ensures
