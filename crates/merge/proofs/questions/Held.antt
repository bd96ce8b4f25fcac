-- The frames and parts of two lists where nothing refuses a merge: what the part rule needs of the tables. Assumes nothing.
use mathlib.Core.Path.{◌≡◌, refl, sym, ◌∙◌}
use mathlib.Core.Bool.{Bool, cond}
use mathlib.Core.List.{List}
use Prim.Native.Nat.{ℕ, ◌+◌, ◌*◌, ◌≤◌}
use native.Mathlib.Omega.{arith}
use lib.ListN.{length}
use Rattle.field.specs.Records.{records}
use Rattle.field.proofs.Records.{records_length}
use Rattle.rules.specs.declared.AreaIndex.{AreaIndex}
use Rattle.rules.specs.Values.{boundaries, used}
use Rattle.rules.specs.File.{decode_checkpoint}
use Rattle.rules.proofs.Tests.{test}
use Rattle.tables.specs.Tables.{frames_in, parts_in}
use Rattle.tables.specs.Index.{Tables}
use Rattle.index.proofs.Questions.{space, passes_long, passes_kinds, passes_store}
use Rattle.parts.specs.declared.Counts.{Counts}
use Rattle.parts.specs.Parts.{PartTables, part_tables}
use Rattle.parts.specs.Steps.{Lent, Room, wanted}
use Rattle.parts.proofs.Callers.{lent_from, wanted_from, room_from}
use Rattle.merge.specs.Merge.{further_in}
use Rattle.merge.specs.Steps.{Joins}
use Rattle.merge.proofs.questions.Ready.{scan_is, store_room, few_boundaries, few_checkpoints, other_few, further_fewer}

-- no parts of another list
none_lent : (f : ℕ) (t : PartTables) → f * 8 ≤ length t.frames → used (frames_in f t.frames t.store) ≤ length t.store → Lent f 0 t
unfolding records
none_lent f t h g = record { frames = h; parts = omega arith; store = g; order = tt }

none_wanted : (n : ℕ) (t : List ℕ) → wanted n (parts_in 0 t) ≡ 0
unfolding wanted records
none_wanted n t = refl

module _ {x y : AreaIndex} {t u : Tables} {go : Bool} (j : Joins x t y u) (g : go ≡ further_in x y) where
  abbrev own_tables : PartTables
  own_tables = part_tables t.frames t.store t.parts

  abbrev other_tables : PartTables
  other_tables = part_tables u.frames u.store u.parts

  pub lent : Lent y.frames (cond go y.parts 0) other_tables
  lent =
      let k = passes_long j.other in
      test go (λ e. rw e (lent_from y.frames y.parts other_tables (scan_is j.other).stretch.held k.frames k.parts (store_room j.other)))
      (λ e. rw e (none_lent y.frames other_tables k.frames (passes_store j.other)))

  -- as many parts as checkpoints are appended, at most
  wanted_few : x.checkpoints + wanted x.checkpoints (parts_in (cond go y.parts 0) u.parts) ≤ boundaries x.area x.interval
  wanted_few =
      let b = few_checkpoints j.own in let o = other_few j in
      let n = records_length 24 decode_checkpoint y.checkpoints u.checkpoints in
      test go
      (λ e. let f = further_fewer j (sym g ∙ e) in
      let w = wanted_from y.frames y.parts other_tables (scan_is j.other).stretch.held x.checkpoints (omega arith) in rw e (omega arith))
      (λ e. rw (e, none_wanted x.checkpoints u.parts) (omega arith))

  pub room : (c : Counts) → c.frames ≡ x.frames → c.parts ≡ x.parts → c.used ≡ used (frames_in x.frames t.frames t.store)
      → Room (wanted x.checkpoints (parts_in (cond go y.parts 0) u.parts)) x.budget c own_tables
  room c ef eh eu =
      let s = space j.own.roomy in
      let sf = s.frames in let sp = s.parts in
      let n = records_length 24 decode_checkpoint x.checkpoints t.checkpoints in let w = wanted_few in
      room_from x.frames x.parts own_tables (scan_is j.own).stretch.held {c = c} _ (boundaries x.area x.interval) ef eh eu (passes_kinds j.own)
      (omega arith) (omega arith) (omega arith) (store_room j.own) (few_boundaries j.own)
