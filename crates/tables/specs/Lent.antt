-- What the types of lent numbers and tables say of them.
use Rattle.std.specs.Prelude.{◌≡◌, true, ◌≤◌}
use Rattle.field.specs.Records.{Bytes}
use Rattle.rules.specs.declared.AreaIndex.{AreaIndex}
use Rattle.rules.specs.Values.{max32, max64, stated}
use Rattle.rules.specs.Sizes.{known_sized}
use Rattle.tables.specs.Index.{Tables}

-- the ranges of an index's numbers that questions 1, 2 and 4 leave open
pub record Typed (x : AreaIndex) : Type 0 where
  pub start : x.area.key.start ≤ max32
  pub end : x.area.key.end ≤ max32
  pub channels : x.area.key.channels ≤ 255
  pub sectors : x.area.key.sectors ≤ max64
  pub spacing : x.spacing ≤ max32
  pub fingerprint : known_sized (stated x.fingerprint) ≡ true

-- tables are bytes
pub record TableBytes (t : Tables) : Type 0 where
  pub checkpoints : Bytes t.checkpoints
  pub frames : Bytes t.frames
  pub store : Bytes t.store
  pub parts : Bytes t.parts
  pub malformed : Bytes t.malformed
  pub hints : Bytes t.hints
  pub confirmed : Bytes t.confirmed
