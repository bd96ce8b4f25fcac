-- The bytes of lent tables, and that tables lent to be written come back as those that were lent.
use Rattle.std.specs.Prelude.{◌≡◌}
use Rattle.tables.specs.declared.lent.Tables.{Tables}
use Rattle.tables.specs.declared.lent.RecorderTables.{RecorderTables}
use Rattle.tables.specs.declared.lent.RecorderTablesMut.{RecorderTablesMut}
use Rattle.tables.specs.Index as index
use Rattle.tables.specs.Recorder as recorder

abbrev pub tables_in : Tables → index.Tables
tables_in t = index.tables t.checkpoints.now t.frames.now t.store.now t.parts.now t.malformed.now t.hints.now t.confirmed.now

abbrev pub recorder_tables_in : RecorderTables → recorder.RecorderTables
recorder_tables_in t = recorder.recorder_tables t.checkpoints.now t.frames.now t.store.now t.parts.now

abbrev pub recorder_tables_mut_in : RecorderTablesMut → recorder.RecorderTables
recorder_tables_mut_in t = recorder.recorder_tables t.checkpoints.now t.frames.now t.store.now t.parts.now

-- the same memory, lent by the same loans; its bytes may have changed
abbrev pub SameRecorderLoans : RecorderTablesMut → RecorderTablesMut → Type 0
SameRecorderLoans old new =
    (new.checkpoints.ref_ptr ≡ old.checkpoints.ref_ptr)
    × (new.checkpoints.ghost_name ≡ old.checkpoints.ghost_name)
    × (new.frames.ref_ptr ≡ old.frames.ref_ptr)
    × (new.frames.ghost_name ≡ old.frames.ghost_name)
    × (new.store.ref_ptr ≡ old.store.ref_ptr)
    × (new.store.ghost_name ≡ old.store.ghost_name)
    × (new.parts.ref_ptr ≡ old.parts.ref_ptr)
    × (new.parts.ghost_name ≡ old.parts.ghost_name)
