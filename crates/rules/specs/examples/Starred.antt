-- The examples of document 01, and some for its traps: what the definitions give, and what it should be.
use Rattle.std.specs.Prelude.{ℕ, ◌-◌, cond, ◌≡◌, List, [], ◌∷◌, map, pos, negsuc, length, replicate, set, take, Option, None, Some}
use Rattle.rules.specs.declared.Area.{Area}
use Rattle.rules.specs.declared.Checkpoint.{Checkpoint}
use Rattle.rules.specs.declared.Confirmation.{Confirmation}
use Rattle.rules.specs.declared.EndState.{EndState}
use Rattle.rules.specs.declared.Fingerprint.{Fingerprint}
use Rattle.rules.specs.declared.Fingerprint.TheVariants.{Unknown, Checked}
use Rattle.rules.specs.declared.Absence.TheVariants.{NoFrame, Missing}
use Rattle.rules.specs.declared.First.{First}
use Rattle.rules.specs.declared.First.TheVariants.{Number, Nothing}
use Rattle.rules.specs.declared.FrameKind.TheVariants.{Dst, Dsd}
use Rattle.rules.specs.declared.Hint.{Hint}
use Rattle.rules.specs.declared.Mode.TheVariants.{Running}
use Rattle.rules.specs.declared.Plan.{Plan}
use Rattle.rules.specs.declared.Plan.TheVariants.{Start, At, End}
use Rattle.rules.specs.FirstRecord.{first_record}
use Rattle.rules.specs.Tests.{Answer, Refused, Accepted, number_of}
use Rattle.rules.specs.Values.{Index, Recorder, Lengths, boundaries, lsn_of, used, complete, last_checkpoint}
use Rattle.rules.specs.Create.{new, empty_index}
use Rattle.rules.specs.Plan.{plan}
use Rattle.rules.specs.PartRule.{Stored, Piece, add_part}
use Rattle.rules.specs.Record.{Assembling, record_at}
use Rattle.rules.specs.Hints.{thin, keep_confirmation, hint, Hinted}
use Rattle.rules.specs.Merge.{merge}
use Rattle.rules.specs.File.{saved, saved_length, version_of}
use Rattle.rules.specs.Load.{load}

-- ---- values that the examples use
-- tables that are long enough
abbrev pub ample : Lengths
ample =
    record { checkpoints = 100000; frames = 100000; store = 5000000000; parts = 100000; malformed = 4096; hints = 600000; confirmed = 300000 }

-- tables that are too short for any list
abbrev pub short : Lengths
short = record { checkpoints = 0; frames = 0; store = 0; parts = 0; malformed = 0; hints = 0; confirmed = 0 }

abbrev pub area : ℕ → ℕ → Area
area start end = record { key = record { slot = 0; start = start; end = end; channels = 2; sectors = 9000 }; start = start; end = end }

abbrev pub hint_at : ℕ → ℕ → Hint
hint_at l t = record { lsn = l; number = t; mark = 0 }

abbrev pub confirmed_at : ℕ → ℕ → ℕ → Confirmation
confirmed_at l t d = record { lsn = l; threshold = t; digest = d }

abbrev pub checkpoint : ℕ → ℕ → ℕ → Checkpoint
checkpoint t back m = record { threshold = t; back = back; malformed = m; digest = 7 }

-- an index of checkpoints, an end state, hints and confirmations under M
abbrev pub index_of : Area → ℕ → List Checkpoint → Option EndState → Fingerprint → ℕ → List Hint → List Confirmation → Index
index_of a k cs e f most hs qs =
    record {
      scan = record { area = a; interval = k; budget = 100; checkpoints = cs; frames = []; parts = []; ending = e; malformed = [] };
      hinting = record { spacing = 8; most = most; hints = hs; confirmed = qs };
      fingerprint = f;
      image = None;
    }

-- three checkpoints with thresholds 0, 0, 75
abbrev pub three : Index
three = index_of (area 1000 1250) 100 (checkpoint 0 0 0 ∷ checkpoint 0 0 0 ∷ checkpoint 75 0 0 ∷ []) None Unknown 2048 [] []

-- a recorder at checkpoint 1, LSN 1100
abbrev pub recording : Recorder
recording =
    record {
      area = area 1000 1250;
      interval = 100;
      budget = 100;
      first = 0;
      from = 1000;
      checkpoints = checkpoint 0 0 0 ∷ [];
      frames = [];
      parts = [];
      mode = Running;
    }

-- a frame of four bytes under assembly that starts in a sector
abbrev pub assembling : ℕ → Option Assembling
assembling start = Some (record { start = start; number = 5; kind = Dst; remaining = negsuc 0; bytes = 1 ∷ 2 ∷ 3 ∷ 4 ∷ [] })

-- an index with a held part of three bytes, in a frame of four, at checkpoint 1 with this back
abbrev pub holding : ℕ → Index
holding back =
    record {
      scan =
          record {
            area = area 1000 1250;
            interval = 100;
            budget = 100;
            checkpoints = checkpoint 0 0 0 ∷ checkpoint 0 back 0 ∷ [];
            frames = record { start = 1100 - back; bytes = 1 ∷ 2 ∷ 3 ∷ 4 ∷ [] } ∷ [];
            parts = record { at = 1; frame = 0; len = 3; number = 5; kind = Dsd; remaining = negsuc 2 } ∷ [];
            ending = None;
            malformed = [];
          };
      hinting = record { spacing = 8; most = 2048; hints = []; confirmed = [] };
      fingerprint = Unknown;
      image = None;
    }

-- a new list under the default limits
abbrev pub empty : Index
empty = empty_index (area 1000 1250) 100 100 8 2048

-- with its first checkpoint
abbrev pub first : Index
first = index_of (area 1000 1250) 100 (checkpoint 0 0 0 ∷ []) None Unknown 2048 [] []

-- with a hint, and with confirmations
abbrev pub version2 : Index
version2 = index_of (area 0 1000) 100 [] None Unknown 2048 (hint_at 100 10 ∷ []) []

abbrev pub version3 : Index
version3 = index_of (area 0 1000) 100 [] None (Checked 9) 2048 (hint_at 100 10 ∷ []) (confirmed_at 10 1 1 ∷ confirmed_at 20 1 1 ∷ [])

-- complete, with the end threshold 80
abbrev pub closed : Index → Index
closed x = index_of x.scan.area x.scan.interval x.scan.checkpoints (Some (record { threshold = 80; malformed = 0 })) Unknown 2048 [] []

abbrev pub stored_in : Index → Stored
stored_in x = record { frames = x.scan.frames; parts = x.scan.parts }

-- the first n bytes of the frame that holding 33 holds, for checkpoint 2
abbrev pub shorter : ℕ → Piece
shorter n =
    record { at = 2; start = 1067; bytes = take n (1 ∷ 2 ∷ 3 ∷ 4 ∷ []); number = 5; kind = Dsd; remaining = pos 0 }

-- ---- answers as numbers
-- the refusal number, or 0 and the values
unfoldable pub numbers_of : {A : Type 0} → (A → List ℕ) → Answer A → List ℕ
numbers_of f (Refused n) = n ∷ []
numbers_of f (Accepted a) = 0 ∷ f a

-- the frame number and its offset; 1 where no frame starts, 2 where bytes are missing
unfoldable pub first_numbers : First → List ℕ
first_numbers (Number t) = t.number ∷ t.offset ∷ []
first_numbers (Nothing NoFrame) = 1 ∷ []
first_numbers (Nothing Missing) = 2 ∷ []

-- 1 and the value where it is known, else 0
unfoldable pub known_numbers : Option ℕ → List ℕ
known_numbers None = 0 ∷ []
known_numbers (Some v) = 1 ∷ v ∷ []

unfoldable pub hint_numbers : List Hint → List ℕ
hint_numbers [] = []
hint_numbers (h ∷ hs) = h.lsn ∷ h.number ∷ hint_numbers hs

unfoldable pub confirmed_numbers : List Confirmation → List ℕ
confirmed_numbers [] = []
confirmed_numbers (c ∷ cs) = c.lsn ∷ c.threshold ∷ c.digest ∷ confirmed_numbers cs

-- 0 for the start, 1 and the checkpoint's number, or 2 for the end
unfoldable pub plan_numbers : Plan → List ℕ
plan_numbers Start = 0 ∷ []
plan_numbers (At r) = 1 ∷ r.number ∷ []
plan_numbers (End e) = 2 ∷ []

unfoldable pub hinted_numbers : Option Hinted → List ℕ
hinted_numbers None = []
hinted_numbers (Some h) = h.lsn ∷ h.number ∷ h.upper ∷ cond h.later 1 0 ∷ []

-- checkpoints, frames, their bytes, parts, completeness, version, M, hints and confirmations
unfoldable pub index_numbers : Index → List ℕ
index_numbers x =
    length x.scan.checkpoints ∷ length x.scan.frames ∷ used x.scan.frames ∷ length x.scan.parts ∷ cond (complete x.scan) 1 0
    ∷ version_of x ∷ x.hinting.most ∷ length x.hinting.hints ∷ length x.hinting.confirmed ∷ []

-- the last back, the parts and the bytes that a recorder holds
unfoldable pub part_numbers : Recorder → List ℕ
part_numbers r = (last_checkpoint r.checkpoints).back ∷ length r.parts ∷ used r.frames ∷ []

-- 1 and the confirmations, or 0 where nothing is kept
unfoldable pub kept_numbers : Option Index → List ℕ
kept_numbers None = 0 ∷ []
kept_numbers (Some x) = 1 ∷ confirmed_numbers x.hinting.confirmed

-- ---- the table
pub record Example : Type 0 where
  pub found : List ℕ
  pub expected : List ℕ

abbrev pub example : List ℕ → List ℕ → Example
example f e = record { found = f; expected = e }

-- the statement about a table: each example gives what it should
abbrev pub Hold : List Example → Type 0
Hold t = map (λ (e : Example). e.found) t ≡ map (λ (e : Example). e.expected) t

-- what saving gives is loaded under a limit
abbrev pub reloaded : Index → ℕ → List ℕ
reloaded x limit = numbers_of index_numbers (load ample x.scan.area (saved x) limit)

-- ★ the starred ones
unfoldable pub starred : List Example
starred =
    -- 1000..1250 by 100: 3 boundaries, at 1000, 1100, 1200; 1000..1000: 0
    example
    (boundaries (area 1000 1250) 100 ∷ lsn_of (area 1000 1250) 100 0 ∷ lsn_of (area 1000 1250) 100 1 ∷ lsn_of (area 1000 1250) 100 2 ∷ [])
    (3 ∷ 1000 ∷ 1100 ∷ 1200 ∷ [])
    ∷ example (boundaries (area 1000 1000) 100 ∷ []) (0 ∷ [])
    -- interval 1 and 65,536 pass; 0 and 65,537 give 2
    ∷ example (number_of (new ample (area 1000 1250) 1 100 8 2048) ∷ number_of (new ample (area 1000 1250) 65536 100 8 2048) ∷ []) (0 ∷ 0 ∷ [])
    ∷ example (number_of (new ample (area 1000 1250) 0 100 8 2048) ∷ number_of (new ample (area 1000 1250) 65537 100 8 2048) ∷ []) (2 ∷ 2 ∷ [])
    -- header 0x24, bytes 1, 2, 3 at offset 3: 4,653; 0x20: none
    ∷ example (first_numbers (first_record (0x24 ∷ 0 ∷ 0 ∷ 1 ∷ 2 ∷ 3 ∷ []))) (4653 ∷ 3 ∷ [])
    ∷ example (first_numbers (first_record (0x20 ∷ 0 ∷ 0 ∷ 1 ∷ 2 ∷ 3 ∷ []))) (1 ∷ [])
    -- thresholds 0, 0, 75: frame 74 plans checkpoint 1; 75 plans 2
    ∷ example (numbers_of plan_numbers (plan ample three 74)) (0 ∷ 1 ∷ 1 ∷ [])
    ∷ example (numbers_of plan_numbers (plan ample three 75)) (0 ∷ 1 ∷ 2 ∷ [])
    -- back 32 copies nothing, 33 does
    ∷ example (numbers_of part_numbers (record_at ample recording 1100 0 0 (assembling 1068) (replicate 2048 0))) (0 ∷ 32 ∷ 0 ∷ 0 ∷ [])
    ∷ example (numbers_of part_numbers (record_at ample recording 1100 0 0 (assembling 1067) (replicate 2048 0))) (0 ∷ 33 ∷ 1 ∷ 4 ∷ [])
    -- hints (10,5) (20,8) (30,9) (40,30) thinned to 2: (10,5) (40,30)
    ∷ example (hint_numbers (thin 2 (hint_at 10 5 ∷ hint_at 20 8 ∷ hint_at 30 9 ∷ hint_at 40 30 ∷ []))) (10 ∷ 5 ∷ 40 ∷ 30 ∷ [])
    -- M = 2, confirmed at 10 and 20: a new one at 5 is itself dropped
    ∷ example
    (numbers_of kept_numbers
    (keep_confirmation ample (index_of (area 0 1000) 100 [] None (Checked 9) 2 [] (confirmed_at 10 1 1 ∷ confirmed_at 20 1 1 ∷ [])) (confirmed_at 5 1 1)))
    (0 ∷ 1 ∷ 10 ∷ 1 ∷ 1 ∷ 20 ∷ 1 ∷ 1 ∷ [])
    -- area 0..1000, playtime 500, hints (100,10) (200,40), frames 45 to 75: (200, 40, 349, no)
    ∷ example
    (numbers_of hinted_numbers (hint ample (index_of (area 0 1000) 100 [] None Unknown 2048 (hint_at 100 10 ∷ hint_at 200 40 ∷ []) []) 45 75 500))
    (0 ∷ 200 ∷ 40 ∷ 349 ∷ 0 ∷ []) ∷ []

-- the traps
unfoldable pub traps : List Example
traps =
    -- the shortest file has 88 bytes, and loads as an empty list
    example (length (saved empty) ∷ saved_length empty ∷ []) (88 ∷ 88 ∷ [])
    ∷ example (reloaded empty 32768) (0 ∷ 0 ∷ 0 ∷ 0 ∷ 0 ∷ 0 ∷ 1 ∷ 2048 ∷ 0 ∷ 0 ∷ [])
    -- a limit of 100 lowers M to 12, and the list is saved as version 2
    ∷ example (reloaded empty 100) (0 ∷ 0 ∷ 0 ∷ 0 ∷ 0 ∷ 0 ∷ 2 ∷ 12 ∷ 0 ∷ 0 ∷ [])
    -- 7 bytes give 20, 8 give 21, a changed byte 22
    ∷ example
    (number_of (load ample (area 0 100) (replicate 7 0) 0) ∷ number_of (load ample (area 0 100) (replicate 8 0) 0)
    ∷ number_of (load ample empty.scan.area (set (saved empty) 79 1) 0) ∷ [])
    (20 ∷ 21 ∷ 22 ∷ [])
    -- version 2 by a hint, version 3 by a confirmation
    ∷ example (reloaded version2 32768) (0 ∷ 0 ∷ 0 ∷ 0 ∷ 0 ∷ 0 ∷ 2 ∷ 2048 ∷ 1 ∷ 0 ∷ [])
    ∷ example (reloaded version3 32768) (0 ∷ 0 ∷ 0 ∷ 0 ∷ 0 ∷ 0 ∷ 3 ∷ 2048 ∷ 1 ∷ 2 ∷ [])
    -- under a limit of 16 one confirmation and the hint stay; the last confirmation is kept
    ∷ example (reloaded version3 16) (0 ∷ 0 ∷ 0 ∷ 0 ∷ 0 ∷ 0 ∷ 3 ∷ 2 ∷ 1 ∷ 1 ∷ [])
    -- a part whose back is 32 loads, in a frame longer than it
    ∷ example (reloaded (holding 32) 32768) (0 ∷ 2 ∷ 1 ∷ 4 ∷ 1 ∷ 0 ∷ 1 ∷ 2048 ∷ 0 ∷ 0 ∷ [])
    -- under a limit of 3 its frame of four bytes goes, and the part
    ∷ example (reloaded (holding 32) 3) (0 ∷ 2 ∷ 0 ∷ 0 ∷ 0 ∷ 0 ∷ 2 ∷ 0 ∷ 0 ∷ 0 ∷ [])
    -- falling and equal numbers have the largest gap: of those the lowest place goes first
    ∷ example (hint_numbers (thin 2 (hint_at 10 50 ∷ hint_at 20 8 ∷ hint_at 30 8 ∷ hint_at 40 9 ∷ []))) (20 ∷ 8 ∷ 30 ∷ 8 ∷ [])
    -- a merge that takes an end state only
    ∷ example (numbers_of index_numbers (merge ample three ample (closed three))) (0 ∷ 3 ∷ 0 ∷ 0 ∷ 0 ∷ 1 ∷ 1 ∷ 2048 ∷ 0 ∷ 0 ∷ [])
    -- no checkpoint and one have the same frontier; the one is taken
    ∷ example (numbers_of index_numbers (merge ample empty ample first)) (0 ∷ 1 ∷ 0 ∷ 0 ∷ 0 ∷ 0 ∷ 1 ∷ 2048 ∷ 0 ∷ 0 ∷ [])
    -- a part with fewer bytes than the last one of its frame is passed over
    ∷ example (length (add_part 100 (stored_in (holding 33)) (shorter 3)).parts ∷ length (add_part 100 (stored_in (holding 33)) (shorter 2)).parts ∷ [])
    (2 ∷ 1 ∷ []) ∷ []
