-- The numbers of an index, a recorder and a hint recorder as words of a block of bytes, and read from one.
use Rattle.rules.specs.declared.Hint.{Hint}
use Rattle.rules.specs.declared.EndState.{EndState}
use Rattle.std.specs.Prelude.{ℕ, ◌%◌, List, [], ◌∷◌, cond, Bool, ◌&&◌, eqb, leb, get_or, length, set, Option, None, Some}
use Rattle.field.specs.Number.{encode, decode, same_bytes}
use Rattle.field.specs.Records.{records, bytes_of}
use Rattle.rules.specs.declared.Absence.{Absence}
use Rattle.rules.specs.declared.Absence.TheVariants.{NoFrame, Missing}
use Rattle.rules.specs.declared.AreaIndex.{AreaIndex}
use Rattle.rules.specs.declared.Fingerprint.{Fingerprint}
use Rattle.rules.specs.declared.Fingerprint.TheVariants.{Unknown, Held, Checked}
use Rattle.rules.specs.declared.First.{First}
use Rattle.rules.specs.declared.First.TheVariants as first
use Rattle.rules.specs.declared.HintRecorder.{HintRecorder}
use Rattle.rules.specs.declared.Mode.{Mode}
use Rattle.rules.specs.declared.Mode.TheVariants.{Running, Finished, Stopped}
use Rattle.rules.specs.declared.Recorder.{Recorder}
use Rattle.rules.specs.declared.Area.{Area}
use Rattle.blocks.specs.declared.Marked.{Marked}
use Rattle.blocks.specs.declared.Told.{Told}

-- ---- words in bytes
abbrev pub words_in : ℕ → List ℕ → List ℕ
words_in n b = records 8 decode n b

abbrev pub block_of : List ℕ → List ℕ
block_of ws = bytes_of (encode 8) ws

-- ---- to words
abbrev pub marked : ℕ → ℕ → ℕ → Marked
marked k a b = record { mark = k; first = a; second = b }

unfoldable pub end_words : Option EndState → Marked
end_words None = marked 0 0 0
end_words (Some e) = marked 1 e.threshold e.malformed

unfoldable pub fingerprint_words : Fingerprint → Marked
fingerprint_words Unknown = marked 0 0 0
fingerprint_words (Held v) = marked 1 v 0
fingerprint_words (Checked v) = marked 2 v 0

unfoldable pub image_words : Option ℕ → Marked
image_words None = marked 0 0 0
image_words (Some v) = marked 1 v 0

unfoldable pub mode_words : Mode → Marked
mode_words Running = marked 0 0 0
mode_words (Finished e) = marked 1 e.threshold e.malformed
mode_words Stopped = marked 2 0 0

unfoldable pub last_words : Option ℕ → Marked
last_words None = marked 0 0 0
last_words (Some t) = marked 1 t 0

unfoldable pub tail_words : Option Hint → Marked
tail_words None = marked 0 0 0
tail_words (Some h) = marked 1 h.lsn h.number

-- the seven words of an area, then ws
abbrev pub with_area : Area → List ℕ → List ℕ
with_area a ws = a.key.slot ∷ a.key.channels ∷ a.key.start ∷ a.key.end ∷ a.key.sectors ∷ a.start ∷ a.end ∷ ws

abbrev pub index_array : AreaIndex → Marked → Marked → Marked → List ℕ
index_array x e f i =
    with_area x.area
    (x.interval ∷ x.budget ∷ x.spacing ∷ x.most ∷ x.checkpoints ∷ x.frames ∷ x.parts ∷ x.malformed ∷ x.hints
    ∷ x.confirmed ∷ e.mark ∷ e.first ∷ e.second ∷ f.mark ∷ f.first ∷ i.mark ∷ i.first ∷ [])

unfoldable pub index_words : AreaIndex → List ℕ
index_words x = index_array x (end_words x.ending) (fingerprint_words x.fingerprint) (image_words x.image)

abbrev pub recorder_array : Recorder → Marked → List ℕ
recorder_array x m =
    with_area x.area
    (x.interval ∷ x.budget ∷ x.first ∷ x.from ∷ x.checkpoints ∷ x.frames ∷ x.parts ∷ m.mark ∷ m.first
    ∷ m.second ∷ 0 ∷ 0 ∷ 0 ∷ 0 ∷ 0 ∷ 0 ∷ 0 ∷ [])

unfoldable pub recorder_words : Recorder → List ℕ
recorder_words x = recorder_array x (mode_words x.mode)

-- why there is no first record: 1 no frame starts there, 2 bytes are missing
unfoldable pub absence_number : Absence → ℕ
absence_number NoFrame = 1
absence_number Missing = 2

-- a first record: whether there is one, its frame number, its offset, and why there is none
abbrev pub told : ℕ → ℕ → ℕ → ℕ → Told
told found number offset why = record { found = found; number = number; offset = offset; why = why }

unfoldable pub first_told : First → Told
first_told (first.Number t) = told 1 t.number t.offset 0
first_told (first.Nothing a) = told 0 0 0 (absence_number a)

-- words 7 to 10 tell the first record of the sector that was seen; nothing reads them back
unfoldable pub hint_recorder_array : HintRecorder → Told → List ℕ
hint_recorder_array x f =
    x.spacing ∷ (last_words x.last).mark ∷ (last_words x.last).first ∷ (tail_words x.tail).mark ∷ (tail_words x.tail).first
    ∷ (tail_words x.tail).second ∷ x.count ∷ f.found ∷ f.number ∷ f.offset ∷ f.why
    ∷ 0 ∷ 0 ∷ 0 ∷ 0 ∷ 0 ∷ 0 ∷ 0 ∷ 0 ∷ 0 ∷ 0 ∷ 0 ∷ 0 ∷ 0 ∷ []

unfoldable pub hint_recorder_words : HintRecorder → List ℕ
hint_recorder_words x = hint_recorder_array x (told 0 0 0 0)

unfoldable pub seen_words : HintRecorder → First → List ℕ
seen_words x f = hint_recorder_array x (first_told f)

-- ---- what a field is too narrow for is cut off
abbrev pub at : List ℕ → ℕ → ℕ
at ws i = get_or ws i 0

abbrev pub low8 : ℕ → ℕ
low8 v = v % 256

abbrev pub low32 : ℕ → ℕ
low32 v = v % 4294967296

-- a flag of 0 is unknown, anything else known
unfoldable pub end_read : ℕ → ℕ → ℕ → Option EndState
end_read known t m = cond (eqb known 0) None (Some (record { threshold = low32 t; malformed = m }))

-- 0 unknown, 1 held, anything else checked
unfoldable pub fingerprint_read : ℕ → ℕ → Fingerprint
fingerprint_read mark v = cond (eqb mark 0) Unknown (cond (eqb mark 1) (Held v) (Checked v))

unfoldable pub image_read : ℕ → ℕ → Option ℕ
image_read known v = cond (eqb known 0) None (Some v)

-- 0 running, 1 finished, anything else stopped
unfoldable pub mode_read : ℕ → ℕ → ℕ → Mode
mode_read mark t m = cond (eqb mark 0) Running (cond (eqb mark 1) (Finished (record { threshold = low32 t; malformed = m })) Stopped)

unfoldable pub last_read : ℕ → ℕ → Option ℕ
last_read known t = cond (eqb known 0) None (Some (low32 t))

unfoldable pub tail_read : ℕ → ℕ → ℕ → Option Hint
tail_read known l t = cond (eqb known 0) None (Some (record { lsn = low32 l; number = low32 t; mark = 0 }))

unfoldable pub area_read : List ℕ → Area
area_read ws =
    record {
      key = record { slot = low8 (at ws 0); start = low32 (at ws 2); end = low32 (at ws 3); channels = low8 (at ws 1); sectors = at ws 4 };
      start = at ws 5;
      end = at ws 6;
    }

unfoldable pub index_read : List ℕ → AreaIndex
index_read ws =
    record {
      area = area_read ws;
      interval = low32 (at ws 7);
      budget = at ws 8;
      spacing = low32 (at ws 9);
      most = low32 (at ws 10);
      checkpoints = low32 (at ws 11);
      frames = low32 (at ws 12);
      parts = low32 (at ws 13);
      malformed = low32 (at ws 14);
      hints = low32 (at ws 15);
      confirmed = low32 (at ws 16);
      ending = end_read (at ws 17) (at ws 18) (at ws 19);
      fingerprint = fingerprint_read (at ws 20) (at ws 21);
      image = image_read (at ws 22) (at ws 23);
    }

unfoldable pub recorder_read : List ℕ → Recorder
recorder_read ws =
    record {
      area = area_read ws;
      interval = low32 (at ws 7);
      budget = at ws 8;
      first = low32 (at ws 9);
      from = at ws 10;
      checkpoints = low32 (at ws 11);
      frames = low32 (at ws 12);
      parts = low32 (at ws 13);
      mode = mode_read (at ws 14) (at ws 15) (at ws 16);
    }

unfoldable pub hint_recorder_read : List ℕ → HintRecorder
hint_recorder_read ws =
    record {
      spacing = low32 (at ws 0);
      last = last_read (at ws 1) (at ws 2);
      tail = tail_read (at ws 3) (at ws 4) (at ws 5);
      count = low32 (at ws 6);
    }

-- has a block 192 bytes?
abbrev pub is_block : List ℕ → Bool
is_block b = leb 192 (length b)

-- has it, and are its words those that what is read from them is written as: no word wider than its number, no other mark, no number behind a mark of 0?
unfoldable pub is_head : (List ℕ → List ℕ) → List ℕ → Bool
is_head again b = is_block b && same_bytes (words_in 24 b) (again (words_in 24 b))

-- ---- words read, and written again
abbrev pub index_again : List ℕ → List ℕ
index_again ws = index_words (index_read ws)

abbrev pub recorder_again : List ℕ → List ℕ
recorder_again ws = recorder_words (recorder_read ws)

-- words 7 to 10 of ws in the place of those of vs
unfoldable pub with_free : List ℕ → List ℕ → List ℕ
with_free ws vs = set (set (set (set vs 7 (at ws 7)) 8 (at ws 8)) 9 (at ws 9)) 10 (at ws 10)

-- words 7 to 10 of a hint recorder are free
abbrev pub hint_recorder_again : List ℕ → List ℕ
hint_recorder_again ws = with_free ws (hint_recorder_words (hint_recorder_read ws))

-- ---- heads
abbrev pub is_index : List ℕ → Bool
is_index b = is_head index_again b

abbrev pub is_recorder : List ℕ → Bool
is_recorder b = is_head recorder_again b

abbrev pub is_hint_recorder : List ℕ → Bool
is_hint_recorder b = is_head hint_recorder_again b
