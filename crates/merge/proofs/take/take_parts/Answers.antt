use Rattle.merge.proofs.take.Held.{parts_asked}
use Rattle.merge.proofs.take.take_parts.Goals as goal

pub add_parts-requires : goal.add_parts-requires
add_parts-requires c = parts_asked c.requires (c.used_bytes.ensures _)
