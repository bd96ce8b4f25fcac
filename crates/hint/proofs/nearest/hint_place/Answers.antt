use Rattle.std.proofs.Common.{refl}
use Rattle.hint.proofs.nearest.Place.{place_confirmed, place_any, start_confirmed, start_nearest}
use Rattle.hint.proofs.nearest.hint_place.Goals as goal

pub returns-in-Some : goal.returns-in-Some
returns-in-Some c = (
  place_confirmed _ _ _ _ _ c.in-Some.ensures refl,
  start_confirmed _ _ _ _ _ c.in-Some.ensures refl,
)

pub returns-in-None : goal.returns-in-None
returns-in-None c = (
  place_any _ _ _ _ _ c.in-None.ensures refl c.largest-in-None.ensures,
  start_nearest _ _ _ _ _ c.in-None.ensures refl,
)
