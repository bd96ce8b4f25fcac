use Rattle.rules.specs.Tests.{number_of}
use Rattle.index.specs.Index.{made_of}
use Rattle.player_record.proofs.block.made_number.Goals as goal

pub returns-in-Refused : goal.returns-in-Refused
unfolding number_of made_of
returns-in-Refused c = cc

pub returns-in-Index : goal.returns-in-Index
unfolding number_of made_of
returns-in-Index c = cc
