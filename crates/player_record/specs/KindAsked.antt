-- A frame whose kind is neither 0 nor 1 is refused by question 7.
use Rattle.std.specs.Prelude.{ℕ, eqb, leb, ℤ, ◌&&◌, ◌||◌, List, ◌≡◌}
use Rattle.rules.specs.Record.{question7}
use Rattle.rules.specs.Values.{Recorder}
use Rattle.tables.specs.Recorder.{assembling_in}
use Rattle.player_record.specs.Block.{frame_from}

-- 7 of a frame in numbers: there is none, or its kind is 0 or 1 and the rules' 7 of the frame holds
abbrev pub KindAsked : Type 0
KindAsked =
    (r : Recorder) (lsn mark start number kind : ℕ) (remaining : ℤ) (bytes : List ℕ)
    → question7 r lsn (assembling_in (frame_from mark start number kind remaining) bytes)
    ≡ (eqb mark 0 || (leb kind 1 && question7 r lsn (assembling_in (frame_from 1 start number 0 remaining) bytes)))
