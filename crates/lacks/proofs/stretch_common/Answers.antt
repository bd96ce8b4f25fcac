use Rattle.lacks.proofs.Parts.{stretch_by}
use mathlib.Core.Path.{refl}
use Rattle.lacks.proofs.stretch_common.Goals as goal

pub returns : goal.returns
returns c =
    stretch_by c.args.store.now c.args.from c.args.len c.args.other.now
    c.args.at c.args.n c.common_of.ensures refl refl
