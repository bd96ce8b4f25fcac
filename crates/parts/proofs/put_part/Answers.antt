use Rattle.parts.specs.Parts.{piece_in}
use Rattle.parts.proofs.Putting.{put_is}
use mir.Syntax.{w32}
use mir.Val.{SFits}
use mir.ValLaws.{to_z-of_z}
use borrow.Author.Rules.{rules}
use Rattle.parts.proofs.put_part.Goals as goal

pub returns : goal.returns
returns c =
    put_is (piece_in c.args.p c.args.bytes.now) c.requires c.write_header.ensures
    c.copy_part.ensures
    (rw (to_z-of_z w32 _ ((let got : SFits w32 c.args.p.remaining = search rules in got))) at c.write_held.ensures)
