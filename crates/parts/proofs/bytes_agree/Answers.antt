use mathlib.Core.Path.{refl, ◌∙◌}
use Rattle.parts.proofs.Agreeing.{agree_by}
use Rattle.parts.proofs.bytes_agree.Goals as goal

pub returns : goal.returns
returns c =
    c.same.ensures ∙ agree_by _ _ _ _ _ _ _ c.requires.0 c.requires.1 c.min-shorter.ensures refl
    refl
