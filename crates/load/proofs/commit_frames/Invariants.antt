use Prim.Native.Nat.{◌*◌}
use mathlib.Core.List.{◌++◌}
use mathlib.Core.Path.{◌≡◌}
use lib.ListN.{length, drop}
use Rattle.field.specs.Records.{bytes_of}
use Rattle.rules.specs.Values.{used}
use Rattle.rules.specs.File.{encode_frame_header}
use Rattle.tables.specs.Files.{frames_read}
use Rattle.tables.specs.Index.{store_of}
use Rattle.load.proofs.limit.Frames.{Moving}
use Rattle.load.proofs.commit_frames.Given as goal

abbrev pub invariant-loop-i : goal.invariant-loop-i
invariant-loop-i l = Moving l.b l.f (used (frames_read l.f (drop l.at l.b))) (bytes_of encode_frame_header (frames_read l.f (drop l.at l.b)) ++ drop (l.f * 8) l.initial.frames)
    (store_of (frames_read l.f (drop l.at l.b)) ++ drop (used (frames_read l.f (drop l.at l.b))) l.initial.store) l.i l.here l.used l.frames l.store
    × (length l.frames ≡ length l.initial.frames) × (length l.store ≡ length l.initial.store)
