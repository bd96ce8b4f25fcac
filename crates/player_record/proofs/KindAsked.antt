-- A frame whose kind is neither 0 nor 1 is refused by question 7. Assumes nothing.
use Rattle.std.specs.Prelude.{None, Some}
use mathlib.Core.Path.{◌≡◌, refl}
use mathlib.Core.Bool.{Bool, true, false, ◌&&◌, ◌||◌, cond}
use mathlib.Core.List.{List}
use Prim.Native.Nat.{ℕ}
use lib.Dec.{eqb, leb, ltb}
use lib.IntN.{ℤ}
use Rattle.rules.specs.declared.FrameKind.{FrameKind}
use Rattle.rules.specs.Record.{question7}
use Rattle.rules.specs.Tests.{all}
use Rattle.rules.specs.Values.{Recorder, lim}
use Rattle.tables.specs.Recorder.{assembling_in}
use Rattle.player_record.specs.Block.{kind_from, number_from, frame_from}
use Rattle.player_record.specs.KindAsked.{KindAsked}

no_last : (a b : Bool) → (a && (b && false)) ≡ false
no_last true true = refl
no_last true false = refl
no_last false b = refl

module _ (r : Recorder) (lsn start number : ℕ) (remaining : ℤ) (bytes : List ℕ) (k l : FrameKind) where
  asked : (none known : Bool)
      → question7 r lsn (assembling_in (cond none None (Some (record { start = start; number = cond known number lim; kind = k; remaining = remaining }))) bytes)
      ≡ (none || (known && question7 r lsn (assembling_in (Some (record { start = start; number = number; kind = l; remaining = remaining })) bytes)))
  unfolding question7 all assembling_in
  asked true known = refl
  asked false true = refl
  asked false false = no_last (leb r.area.start start) (ltb start lsn)

pub kind_asked : KindAsked
unfolding frame_from number_from
kind_asked r lsn mark start number kind remaining bytes = asked r lsn start number remaining bytes (kind_from kind) (kind_from 0) (eqb mark 0) (leb kind 1)
