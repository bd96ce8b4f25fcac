-- Frames and parts taken by the part rule. Assumes nothing.
use mathlib.Core.Path.{◌≡◌, refl}
use Prim.Native.Nat.{ℕ}
use Rattle.rules.specs.declared.AreaIndex.{AreaIndex}
use Rattle.rules.specs.Values.{used}
use Rattle.tables.specs.Tables.{frames_in, parts_in}
use Rattle.parts.specs.Parts.{PartTables}
use Rattle.parts.specs.Steps.{Lent, Room, wanted}
use Rattle.merge.specs.Steps.{PartsReady}

module _ {x : AreaIndex} {f h : ℕ} {t u : PartTables} (p : PartsReady x f h t u) where
  pub parts_asked : {n : ℕ} → n ≡ used (frames_in x.frames t.frames t.store)
      → Lent f h u × Room (wanted x.checkpoints (parts_in h u.parts)) x.budget (record { frames = x.frames; parts = x.parts; used = n }) t
  parts_asked {n} q = (p.lent, p.room (record { frames = x.frames; parts = x.parts; used = n }) refl refl q)
