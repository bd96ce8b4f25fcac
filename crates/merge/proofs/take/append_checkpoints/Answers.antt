use Rattle.std.proofs.Common.{rules}
use Rattle.merge.proofs.take.Copies.{appended, append_room}
use Rattle.merge.proofs.take.append_checkpoints.Goals as goal

pub copy_part-requires : goal.copy_part-requires
copy_part-requires c = append_room c.requires c.saturating_sub-k.ensures

pub returns : goal.returns
returns c =
    appended _ _ c.requires (λ i. search rules) (λ i. (c.type_inv.other i).fits) c.saturating_sub-k.ensures
    c.copy_part.ensures
