-- What a player in C rests on: the one number that saving answers, and the tables of lists and recorders.
use Rattle.std.specs.Prelude.{ℕ, ◌/◌, ◌≤◌, ◌≡◌, Bool, true, List, [], ◌∷◌, ◌≢◌, leb, length, Some}
use Rattle.rules.specs.declared.Area.{Area}
use Rattle.rules.specs.declared.AreaIndex.{AreaIndex}
use Rattle.rules.specs.declared.HintRecorder.{HintRecorder}
use Rattle.rules.specs.Tests.{all, ask, first_no, Answer, Refused, Accepted, after, bind}
use Rattle.rules.specs.Values.{Index, max_list, same_key}
use Rattle.rules.specs.Values as values
use Rattle.rules.specs.Questions.{area_ok, question3, recorder_question3}
use Rattle.rules.specs.Load.{from_bytes, limited, load}
use Rattle.tables.specs.Index.{Tables, room_of}
use Rattle.tables.specs.Recorder.{RecorderTables, recorder_room}
use Rattle.hint_recorder.specs.HintRecorder.{created_in}
use Rattle.save.specs.Save.{save_in}
use Rattle.rules.specs.declared.TableSizes.{TableSizes}
use Rattle.sizes.specs.Sizes.{sizes_of, sizes_for, has_sizes, file_sizes, file_length, file_area}
use Rattle.blocks.specs.Calls.{saved_number}

-- ---- saving
-- a refusal number is 1 to 40, a length at least 88: one number tells both
abbrev pub Told : Answer ℕ → ℕ → Type 0
Told s n = (s ≡ Refused n → (1 ≤ n) × (n ≤ 40)) × (s ≡ Accepted n → 88 ≤ n)

abbrev pub SaveNumber : Type 0
SaveNumber = (x : AreaIndex) (t : Tables) (out : List ℕ) (n : ℕ) → Told (save_in x t out).answer n

-- the length that is told before saving is the number that saving answers, where the output is that long
abbrev pub LengthIsSaved : Type 0
LengthIsSaved = (x : AreaIndex) (t : Tables) (out : List ℕ) → file_length x t ≤ length out
    → saved_number (save_in x t out).answer ≡ file_length x t

-- ---- the tables of a list
-- question 3 passes exactly where every table has at least the sizes
abbrev pub RoomIsSizes : Type 0
RoomIsSizes = (x : Index) (t : Tables) → question3 (room_of t) x ≡ has_sizes (sizes_for x) t

-- loading without question 3
unfoldable pub load_without3 : Area → List ℕ → ℕ → Answer Index
load_without3 a b limit = after (first_no (ask (area_ok a) 1 ∷ []))
    (bind (from_bytes a b) (λ x. Accepted (limited limit x)))

-- in tables of the sizes of a file, loading it never answers 3
abbrev pub LoadFits : Type 0
LoadFits =
    (a : Area) (b : List ℕ) (limit : ℕ) (t : Tables) (s : TableSizes) → file_sizes a b limit ≡ Accepted s
    → has_sizes s t ≡ true
    → load (room_of t) a b limit ≡ load_without3 a b limit

-- where no sizes are told, loading refuses with the same number, whatever the tables
abbrev pub LoadRefused : Type 0
LoadRefused =
    (a : Area) (b : List ℕ) (limit n : ℕ) (t : Tables) → file_sizes a b limit ≡ Refused n → load (room_of t) a b limit
    ≡ Refused n

-- ---- recorders
-- has each of the four tables at least the bytes that a list's has?
unfoldable pub has_four : TableSizes → RecorderTables → Bool
has_four s t =
    all (leb s.checkpoints (length t.checkpoints) ∷ leb s.frames (length t.frames)
    ∷ leb s.store (length t.store)
    ∷ leb s.parts (length t.parts) ∷ [])

-- question 3 of a recorder passes exactly where its tables have the sizes of a list's, whatever M
abbrev pub RecorderRoomIsSizes : Type 0
RecorderRoomIsSizes =
    (r : values.Recorder) (t : RecorderTables) (most : ℕ)
    → recorder_question3 (recorder_room t) r ≡ has_four (sizes_of r.area r.interval r.budget most) t

-- ---- hint recorders
-- question 3 of a hint recorder passes exactly where its list has 524,288 bytes
abbrev pub HintListIsSize : Type 0
HintListIsSize = (list : List ℕ) → leb max_list (length list / 8) ≡ leb 524288 (length list)

-- a hint recorder that is made has a spacing: a first word of 0 tells that there is none
abbrev pub MadeHasSpacing : Type 0
MadeHasSpacing = (x : AreaIndex) (t : Tables) (h : HintRecorder) → created_in x t ≡ Accepted (Some h) → 1 ≤ h.spacing

-- ---- the area of a file
pub record FileAreaIsLoadings : Type 0 where
  -- where it is refused, loading refuses with the same number under every area
  pub refused : (b : List ℕ) (n : ℕ) → file_area b ≡ Refused n → (a : Area) → from_bytes a b ≡ Refused n
  -- the area that it gives is one that 26 accepts
  pub accepted : (b : List ℕ) (a : Area) → file_area b ≡ Accepted a → from_bytes a b ≢ Refused 26
  -- every area under which the file loads has its key
  pub loads : (a : Area) (b : List ℕ) (x : Index) → from_bytes a b ≡ Accepted x → (c : Area)
      × (file_area b ≡ Accepted c) × (same_key c.key a.key ≡ true)
