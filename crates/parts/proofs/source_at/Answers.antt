use mathlib.Core.Path.{refl}
use Rattle.parts.proofs.Adding.{source_next}
use Rattle.parts.proofs.source_at.Goals as goal

pub returns : goal.returns
returns c = (
  refl,
  source_next _ _ _ _ c.requires.0 c.get_header.ensures c.requires.1 c.requires.2
      c.if-g-s.false,
)
