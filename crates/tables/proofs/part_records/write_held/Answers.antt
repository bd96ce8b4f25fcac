use mathlib.Core.Path.{ap, ◌∙◌}
use mir.Syntax.{w32}
use mir.Val.{SFits}
use mir.ValLaws.{to_z-of_z}
use Rattle.rules.specs.File.{unsigned32}
use Rattle.tables.proofs.part_records.Records.{held_put}
use borrow.Author.Rules.{rules}
use Rattle.tables.proofs.part_records.write_held.Goals as goal

pub returns : goal.returns
returns c =
    held_put _ _ c.args.p (c.unsigned.ensures ∙ ap unsigned32 (to_z-of_z w32 _ ((let got : SFits w32 c.args.p.remaining = search rules in got))))
    c.kind_number.ensures c.write_three.ensures c.write_three-2.ensures
