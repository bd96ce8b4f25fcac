-- Document 01, "File": the layout, and saving.
use Rattle.std.specs.Prelude.{ℕ, ◌+◌, ◌-◌, ◌*◌, Bool, ◌&&◌, ◌||◌, not, cond, List, [], ◌∷◌, ◌++◌, eqb, leb, ltb, ℤ, pos, negsuc, length, get_or, drop, Option, None, Some}
use Rattle.field.specs.Number.{encode, decode, number_at}
use Rattle.field.specs.Records.{bytes_of}
use Rattle.fnv.specs.Fnv.{fnv64}
use Rattle.rules.specs.declared.Checkpoint.{Checkpoint}
use Rattle.rules.specs.declared.Confirmation.{Confirmation}
use Rattle.rules.specs.declared.EndState.{EndState}
use Rattle.rules.specs.declared.FrameKind.{FrameKind}
use Rattle.rules.specs.declared.FrameKind.TheVariants.{Dst, Dsd}
use Rattle.rules.specs.declared.Header.{Header}
use Rattle.rules.specs.declared.Held.{Held}
use Rattle.rules.specs.declared.Hint.{Hint}
use Rattle.rules.specs.Tests.{is_some, Answer, Accepted, after, ask, first_no}
use Rattle.rules.specs.Values.{Frame, Index, Lengths, max32, max_short_hints, default_spacing, default_hints, used, complete, stated}
use Rattle.rules.specs.Questions.{four}

-- ---- the header
-- offset and width of a field
pub record Field : Type 0 where
  pub offset : ℕ
  pub width : ℕ

abbrev pub field : ℕ → ℕ → Field
field o w = record { offset = o; width = w }

-- One constant table gives offset and width of the header's nineteen fields, in the order of the file
unfoldable pub header_fields : List Field
header_fields =
    field 0 8 ∷ field 8 4 ∷ field 12 1 ∷ field 13 1 ∷ field 14 1 ∷ field 15 1 ∷ field 16 4 ∷ field 20 4 ∷ field 24 8 ∷ field 32 4 ∷ field 36 4
    ∷ field 40 4 ∷ field 44 4 ∷ field 48 4 ∷ field 52 4 ∷ field 56 8 ∷ field 64 4 ∷ field 68 4 ∷ field 72 8 ∷ []

-- field number i of the bytes b
unfoldable pub field_at : List ℕ → ℕ → ℕ
field_at b i = number_at (get_or header_fields i (field 0 0)).width b (get_or header_fields i (field 0 0)).offset

unfoldable pub read_header : List ℕ → Header
read_header b =
    record {
      magic = field_at b 0;
      version = field_at b 1;
      slot = field_at b 2;
      channels = field_at b 3;
      flags = field_at b 4;
      zero15 = field_at b 5;
      start = field_at b 6;
      end = field_at b 7;
      sectors = field_at b 8;
      interval = field_at b 9;
      checkpoints = field_at b 10;
      frames = field_at b 11;
      parts = field_at b 12;
      malformed = field_at b 13;
      zero52 = field_at b 14;
      budget = field_at b 15;
      threshold = field_at b 16;
      zero68 = field_at b 17;
      counted = field_at b 18;
    }

abbrev pub header_values : Header → List ℕ
header_values h =
    h.magic ∷ h.version ∷ h.slot ∷ h.channels ∷ h.flags ∷ h.zero15 ∷ h.start ∷ h.end ∷ h.sectors ∷ h.interval ∷ h.checkpoints ∷ h.frames
    ∷ h.parts ∷ h.malformed ∷ h.zero52 ∷ h.budget ∷ h.threshold ∷ h.zero68 ∷ h.counted ∷ []

-- values in their fields, one behind the other
unfoldable pub write_fields : List Field → List ℕ → List ℕ
write_fields [] vs = []
write_fields (f ∷ fs) [] = []
write_fields (f ∷ fs) (v ∷ vs) = encode f.width v ++ write_fields fs vs

abbrev pub header_bytes : Header → List ℕ
header_bytes h = write_fields header_fields (header_values h)

-- SBSEEKIX
abbrev pub magic_bytes : List ℕ
magic_bytes = 83 ∷ 66 ∷ 83 ∷ 69 ∷ 69 ∷ 75 ∷ 73 ∷ 88 ∷ []

-- ---- from byte 80: checkpoints 24 bytes; frames 8 and bytes; parts 24; malformed LSNs 4; hints 8; confirmations 16
unfoldable pub encode_checkpoint : Checkpoint → List ℕ
encode_checkpoint c = encode 4 c.threshold ++ (encode 4 c.back ++ (encode 8 c.malformed ++ encode 8 c.digest))

unfoldable pub decode_checkpoint : List ℕ → Checkpoint
decode_checkpoint b = record { threshold = number_at 4 b 0; back = number_at 4 b 4; malformed = number_at 8 b 8; digest = number_at 8 b 16 }

-- start and length, and in the file the bytes behind them
unfoldable pub encode_frame_header : Frame → List ℕ
encode_frame_header f = encode 4 f.start ++ encode 4 (length f.bytes)

unfoldable pub encode_frame : Frame → List ℕ
encode_frame f = encode_frame_header f ++ f.bytes

-- a signed number of 32 bits in four bytes
unfoldable pub unsigned32 : ℤ → ℕ
unsigned32 (pos n) = n
unsigned32 (negsuc n) = max32 - n

unfoldable pub signed32 : ℕ → ℤ
signed32 v = cond (ltb v 2147483648) (pos v) (negsuc (max32 - v))

unfoldable pub kind_number : FrameKind → ℕ
kind_number Dst = 0
kind_number Dsd = 1

unfoldable pub kind_of : ℕ → FrameKind
kind_of v = cond (eqb v 0) Dst Dsd

unfoldable pub encode_held : Held → List ℕ
encode_held p =
    encode 4 p.at
    ++ (encode 4 p.frame
    ++ (encode 4 p.len ++ (encode 4 p.number ++ (encode 4 (unsigned32 p.remaining) ++ encode 4 (kind_number p.kind)))))

unfoldable pub decode_held : List ℕ → Held
decode_held b =
    record {
      at = number_at 4 b 0;
      frame = number_at 4 b 4;
      len = number_at 4 b 8;
      number = number_at 4 b 12;
      kind = kind_of (number_at 4 b 20);
      remaining = signed32 (number_at 4 b 16);
    }

unfoldable pub encode_lsn : ℕ → List ℕ
encode_lsn l = encode 4 l

unfoldable pub decode_lsn : List ℕ → ℕ
decode_lsn b = number_at 4 b 0

-- a file, a delivered list and a hint recorder's list hold no mark
unfoldable pub encode_hint : Hint → List ℕ
encode_hint h = encode 4 h.lsn ++ encode 4 h.number

unfoldable pub decode_hint : List ℕ → Hint
decode_hint b = record { lsn = number_at 4 b 0; number = number_at 4 b 4; mark = 0 }

unfoldable pub encode_confirmation : Confirmation → List ℕ
encode_confirmation c = encode 4 c.lsn ++ (encode 4 c.threshold ++ encode 8 c.digest)

unfoldable pub decode_confirmation : List ℕ → Confirmation
decode_confirmation b = record { lsn = number_at 4 b 0; threshold = number_at 4 b 4; digest = number_at 8 b 8 }

-- ---- what is saved
unfoldable pub or_zero : Option ℕ → ℕ
or_zero None = 0
or_zero (Some v) = v

unfoldable pub end_or_zero : Option EndState → EndState
end_or_zero None = record { threshold = 0; malformed = 0 }
end_or_zero (Some e) = e

unfoldable pub bit : Bool → ℕ
bit b = cond b 1 0

-- has the list confirmations? (Question 4 lets it have them only beside a fingerprint.)
abbrev pub has_confirmed : Index → Bool
has_confirmed x = not (eqb (length x.hinting.confirmed) 0)

-- does the content need version 2 at least?
unfoldable pub has_hinting : Index → Bool
has_hinting x =
    is_some (stated x.fingerprint)
    || (not (eqb (length x.hinting.hints) 0) || not (eqb x.hinting.spacing default_spacing && eqb x.hinting.most default_hints))

-- The version is the lowest that carries the content; 4 where M is above 65,536 (change request 12)
unfoldable pub version_of : Index → ℕ
version_of x = cond (ltb max_short_hints x.hinting.most) 4 (cond (has_confirmed x) 3 (cond (has_hinting x) 2 1))

unfoldable pub header_of : Index → Header
header_of x =
    record {
      magic = decode magic_bytes;
      version = version_of x;
      slot = x.scan.area.key.slot;
      channels = x.scan.area.key.channels;
      flags = bit (complete x.scan) + 2 * bit (is_some (stated x.fingerprint));
      zero15 = 0;
      start = x.scan.area.key.start;
      end = x.scan.area.key.end;
      sectors = x.scan.area.key.sectors;
      interval = x.scan.interval;
      checkpoints = length x.scan.checkpoints;
      frames = length x.scan.frames;
      parts = length x.scan.parts;
      malformed = length x.scan.malformed;
      zero52 = 0;
      budget = x.scan.budget;
      threshold = (end_or_zero x.scan.ending).threshold;
      zero68 = 0;
      counted = (end_or_zero x.scan.ending).malformed;
    }

-- from version 2 a hint header 24 (fingerprint, spacing, M, count, zero) and hints 8
unfoldable pub hint_section : Index → List ℕ
hint_section x =
    cond (leb 2 (version_of x))
    (encode 8 (or_zero (stated x.fingerprint))
    ++ (encode 4 x.hinting.spacing
    ++ (encode 4 x.hinting.most
    ++ (encode 4 (length x.hinting.hints) ++ (encode 4 0 ++ bytes_of encode_hint x.hinting.hints)))))
    []

-- from version 3 a header 8 (count, zero) and confirmations 16
unfoldable pub confirmed_section : Index → List ℕ
confirmed_section x =
    cond (leb 3 (version_of x))
    (encode 4 (length x.hinting.confirmed) ++ (encode 4 0 ++ bytes_of encode_confirmation x.hinting.confirmed))
    []

-- everything before the sum
unfoldable pub body_of : Index → List ℕ
body_of x =
    header_bytes (header_of x)
    ++ (bytes_of encode_checkpoint x.scan.checkpoints
    ++ (bytes_of encode_frame x.scan.frames
    ++ (bytes_of encode_held x.scan.parts
    ++ (bytes_of encode_lsn x.scan.malformed ++ (hint_section x ++ confirmed_section x)))))

-- last the sum of all before
unfoldable pub saved : Index → List ℕ
saved x = body_of x ++ encode 8 (fnv64 (body_of x))

-- its length
unfoldable pub saved_length : Index → ℕ
saved_length x =
    80 + 24 * length x.scan.checkpoints + (8 * length x.scan.frames + used x.scan.frames) + 24 * length x.scan.parts
    + 4 * length x.scan.malformed
    + cond (leb 2 (version_of x)) (24 + 8 * length x.hinting.hints) 0
    + cond (leb 3 (version_of x)) (8 + 16 * length x.hinting.confirmed) 0
    + 8

-- Save: 1 to 4, 40 is the output long enough? What lies past the length stays.
unfoldable pub save : Lengths → Index → ℕ → Answer (List ℕ)
save l x out = after (first_no (four l x (ask (leb (saved_length x) out) 40 ∷ []))) (Accepted (saved x))

abbrev pub over : List ℕ → List ℕ → List ℕ
over new old = new ++ drop (length new) old
