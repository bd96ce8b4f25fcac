use mathlib.Core.Path.{refl}
use Rattle.shelf.proofs.Laws.{restamped_stands}
use Rattle.shelf.proofs.restamped.Goals as goal

pub returns : goal.returns
returns c = restamped_stands {k = c.args.a} _ _ c.requires.0 c.requires.1 refl refl refl refl
