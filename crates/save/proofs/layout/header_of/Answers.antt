use Rattle.save.proofs.layout.Numbers.{header_is, byte_bit}
use Rattle.field.specs.Number.{decode}
use Rattle.save.proofs.layout.header_of.Goals as goal

pub returns : goal.returns
unfolding decode
returns c =
    λ t.
    header_is _ t _ _ _ _ (c.version_of.ensures t) (byte_bit _ _ c.from.ensures c.is_complete.ensures) (byte_bit _ _ c.from-2.ensures c.is_stated.ensures)
    c.end_of-e.ensures
