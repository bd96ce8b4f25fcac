-- A part by the header of its frame. Assumes nothing.
use Rattle.std.specs.Prelude.{Option}
use mathlib.Core.Path.{◌≡◌, sym, ◌∙◌}
use mathlib.Core.Bool.{◌&&◌}
use mathlib.Core.List.{List, []}
use Prim.Native.Nat.{ℕ}
use Rattle.field.proofs.Records.{records_length}
use Rattle.rules.specs.declared.Area.{Area}
use Rattle.rules.specs.declared.Held.{Held}
use Rattle.rules.specs.Sections.{part_ok}
use Rattle.tables.specs.Tables.{checkpoints_in, decode_header, headers_in, header_at, frames_in, part_near, part_here}
use Rattle.tables.proofs.Frames.{part_by, frames_length, frame_start, frame_length}

pub part_is : (a : Area) (k first n f : ℕ) (cps headers : List ℕ) (o : Option Held) (p : Held)
    → part_ok a k first (checkpoints_in n cps) (frames_in f headers []) o p
    ≡ (part_near f o p && part_here a k first n (checkpoints_in n cps) p (header_at (headers_in f headers) p.frame))
part_is a k first n f cps headers o p =
    sym (part_by (frames_in f headers []) a k first n f cps o p
    (frames_length (headers_in f headers) [] ∙ records_length 8 decode_header f headers)
    (frame_start (headers_in f headers) [] p.frame)
    (frame_length (headers_in f headers) [] p.frame))
