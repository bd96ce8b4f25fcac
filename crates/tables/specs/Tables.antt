-- How the bytes of tables stand for the lists of an index. The tables are in the file's layout; the frames' bytes lie end to end in a store.
use Rattle.std.specs.Prelude.{◌≡◌, ℕ, ◌+◌, ◌-◌, ◌*◌, ◌%◌, ◌/◌, Bool, true, false, ◌&&◌, leb, ltb, List, [], ◌∷◌, ◌++◌, take, drop, get_or, replicate, length, Option, None, Some}
use Rattle.field.specs.Number.{encode, number_at}
use Rattle.field.specs.Records.{records}
use Rattle.rules.specs.declared.Area.{Area}
use Rattle.rules.specs.declared.Checkpoint.{Checkpoint}
use Rattle.rules.specs.declared.Confirmation.{Confirmation}
use Rattle.rules.specs.declared.Held.{Held}
use Rattle.rules.specs.declared.Hint.{Hint}
use Rattle.rules.specs.Values.{Frame, used, checkpoint_at, lim}
use Rattle.rules.specs.Sections.{Passed, Filled, filled, frame_ok, follows, belongs}
use Rattle.rules.specs.File.{decode_checkpoint, decode_held, decode_lsn, decode_hint, decode_confirmation}
use Rattle.rules.specs.Hints.{unkept_hint}
use Rattle.tables.specs.declared.FrameHeader.{FrameHeader}

abbrev pub checkpoints_in : ℕ → List ℕ → List Checkpoint
checkpoints_in n t = records 24 decode_checkpoint n t

abbrev pub parts_in : ℕ → List ℕ → List Held
parts_in h t = records 24 decode_held h t

abbrev pub lsns_in : ℕ → List ℕ → List ℕ
lsns_in m t = records 4 decode_lsn m t

-- of a delivered list, a hint recorder's list or a file, which hold no mark
abbrev pub hints_in : ℕ → List ℕ → List Hint
hints_in n t = records 8 decode_hint n t

-- a hint in an index's table: LSN, frame number in three bytes, and mark
unfoldable pub encode_kept : Hint → List ℕ
encode_kept h = encode 4 h.lsn ++ (encode 3 h.number ++ encode 1 h.mark)

unfoldable pub decode_kept : List ℕ → Hint
decode_kept b = record { lsn = number_at 4 b 0; number = number_at 3 b 4; mark = number_at 1 b 7 }

-- of an index's table
abbrev pub kept_in : ℕ → List ℕ → List Hint
kept_in n t = records 8 decode_kept n t

-- the four bytes of a frame number and a mark, as a number
abbrev pub kept_word : ℕ → ℕ → ℕ
kept_word number mark = number % 16777216 + mark * 16777216

abbrev pub confirmations_in : ℕ → List ℕ → List Confirmation
confirmations_in n t = records 16 decode_confirmation n t

-- ---- frames
unfoldable pub decode_header : List ℕ → FrameHeader
decode_header b = record { start = number_at 4 b 0; len = number_at 4 b 4 }

abbrev pub headers_in : ℕ → List ℕ → List FrameHeader
headers_in f t = records 8 decode_header f t

-- past the end of the headers, zeros
abbrev pub header_at : List FrameHeader → ℕ → FrameHeader
header_at hs i = get_or hs i (record { start = 0; len = 0 })

-- the first n bytes of a store; past its end, zeros
unfoldable pub stretch : ℕ → List ℕ → List ℕ
stretch n store = take n (store ++ replicate n 0)

-- the frame of a header, with its bytes at the start of the store
abbrev pub frame_of : FrameHeader → List ℕ → Frame
frame_of h store = record { start = h.start; bytes = stretch h.len store }

-- the frames of headers, with their bytes one behind the other in the store
unfoldable pub frames_of : List FrameHeader → List ℕ → List Frame
frames_of [] store = []
frames_of (h ∷ hs) store = frame_of h store ∷ frames_of hs (drop h.len store)

abbrev pub frames_in : ℕ → List ℕ → List ℕ → List Frame
frames_in f headers store = frames_of (headers_in f headers) store

-- the rule of frames, asked of a header
abbrev pub header_ok : Area → ℕ → Filled → FrameHeader → Bool
header_ok a budget s h = frame_ok a budget s h.start h.len

abbrev pub header_next : Filled → FrameHeader → Filled
header_next s h = filled s h.start h.len

-- ---- where a check is
abbrev pub filled_to : ℕ → ℕ → Filled
filled_to floor used = record { floor = floor; used = used }

-- before checkpoint number j, and behind b
abbrev pub passed_at : ℕ → Checkpoint → Passed
passed_at j b = record { number = j; threshold = b.threshold; malformed = b.malformed }

-- the part before the next one, none at first
unfoldable pub before : Bool → Held → Option Held
before true q = None
before false q = Some q

-- the rule of parts in two: by the part before it and the count of frames, and by its checkpoint and its frame
abbrev pub part_near : ℕ → Option Held → Held → Bool
part_near f o p = ltb p.frame f && follows o p

abbrev pub part_here : Area → ℕ → ℕ → ℕ → List Checkpoint → Held → FrameHeader → Bool
part_here a k first n cs p h =
    leb first p.at && (ltb p.at (first + n) && (belongs a k p (checkpoint_at cs (p.at - first)) (frame_of h []) && ltb p.number lim))

abbrev pub part_next : Option Held → Held → Option Held
part_next o p = Some p

-- what a check of frames ensures: the answer of p, and the bytes of the frames where it is yes
pub record Checked (p : List Frame → Bool) (fs : List Frame) (ok : Bool) (bytes : ℕ) : Type 0 where
  pub answer : ok ≡ p fs
  pub bytes_are : ok ≡ true → bytes ≡ used fs

-- the malformed LSNs of the reading, from their bytes
abbrev pub given_in : List ℕ → List ℕ
given_in ms = lsns_in (length ms / 4) ms

-- a hint of a list that arrives: its mark is not taken
abbrev pub decode_unkept : List ℕ → Hint
decode_unkept b = unkept_hint (decode_kept b)

abbrev pub unkept_in : ℕ → List ℕ → List Hint
unkept_in n list = records 8 decode_unkept n list

-- the hints of a delivered list; a rest shorter than a record is not looked at
abbrev pub hints_of : List ℕ → List Hint
hints_of list = hints_in (length list / 8) list
