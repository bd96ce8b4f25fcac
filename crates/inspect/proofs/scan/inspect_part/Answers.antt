use Rattle.inspect.proofs.scan.Parts.{part_stopped, part_ruled}
use Rattle.inspect.proofs.scan.inspect_part.Goals as goal

pub returns-in-Refused : goal.returns-in-Refused
returns-in-Refused c = part_stopped _ _ _ _ _ _ _ _ c.held.ensures c.in-Refused.is

pub returns-in-Part : goal.returns-in-Part
returns-in-Part c = part_ruled _ _ _ _ _ _ _ _ c.held.ensures c.in-Part.is c.place_part.ensures
