-- Decode of encode is the identity: what is proved of heads.
use Rattle.rules.specs.declared.Hint.{Hint}
use Rattle.std.specs.Prelude.{◌≡◌, true, List, [], length, ℕ, ◌<◌, ◌≤◌, Option, None, Some}
use Rattle.rules.specs.declared.Area.{Area}
use Rattle.rules.specs.declared.AreaIndex.{AreaIndex}
use Rattle.rules.specs.declared.HintRecorder.{HintRecorder}
use Rattle.rules.specs.declared.Recorder.{Recorder}
use Rattle.rules.specs.File.{over}
use Rattle.blocks.specs.Blocks.{at, index_read, recorder_read, hint_recorder_read, is_head, with_free, is_index, is_recorder, is_hint_recorder, words_in, block_of, end_words, fingerprint_words, image_words, mode_words, last_words, tail_words, index_words, recorder_words, hint_recorder_array, hint_recorder_words}
use Rattle.blocks.specs.declared.Told.{Told}

-- numbers have the widths of their types
abbrev pub Fits8 : ℕ → Type 0
Fits8 v = v < 256

abbrev pub Fits32 : ℕ → Type 0
Fits32 v = v < 4294967296

abbrev pub Fits64 : ℕ → Type 0
Fits64 v = v < 18446744073709551616

pub record AreaFits (a : Area) : Type 0 where
  pub slot : Fits8 a.key.slot
  pub channels : Fits8 a.key.channels
  pub key_start : Fits32 a.key.start
  pub key_end : Fits32 a.key.end
  pub sectors : Fits64 a.key.sectors
  pub start : Fits64 a.start
  pub end : Fits64 a.end

pub record IndexFits (x : AreaIndex) : Type 0 where
  pub area : AreaFits x.area
  pub interval : Fits32 x.interval
  pub budget : Fits64 x.budget
  pub spacing : Fits32 x.spacing
  pub most : Fits32 x.most
  pub checkpoints : Fits32 x.checkpoints
  pub frames : Fits32 x.frames
  pub parts : Fits32 x.parts
  pub malformed : Fits32 x.malformed
  pub hints : Fits32 x.hints
  pub confirmed : Fits32 x.confirmed
  pub threshold : Fits32 (end_words x.ending).first
  pub counted : Fits64 (end_words x.ending).second
  pub fingerprint : Fits64 (fingerprint_words x.fingerprint).first
  pub image : Fits64 (image_words x.image).first

pub record RecorderFits (r : Recorder) : Type 0 where
  pub area : AreaFits r.area
  pub interval : Fits32 r.interval
  pub budget : Fits64 r.budget
  pub first : Fits32 r.first
  pub from : Fits64 r.from
  pub checkpoints : Fits32 r.checkpoints
  pub frames : Fits32 r.frames
  pub parts : Fits32 r.parts
  pub threshold : Fits32 (mode_words r.mode).first
  pub counted : Fits64 (mode_words r.mode).second

-- a tail has no kept mark: a head holds none
unfoldable pub tail_mark : Option Hint → ℕ
tail_mark None = 0
tail_mark (Some h) = h.mark

pub record HintRecorderFits (r : HintRecorder) : Type 0 where
  pub spacing : Fits32 r.spacing
  pub last : Fits32 (last_words r.last).first
  pub lsn : Fits32 (tail_words r.tail).first
  pub number : Fits32 (tail_words r.tail).second
  pub mark : tail_mark r.tail ≡ 0
  pub count : Fits32 r.count

pub record ToldFits (f : Told) : Type 0 where
  pub found : Fits64 f.found
  pub number : Fits64 f.number
  pub offset : Fits64 f.offset
  pub why : Fits64 f.why

-- what is written over a block is read from it again
abbrev pub IndexBack : Type 0
IndexBack = (x : AreaIndex) (b : List ℕ) → IndexFits x → index_read (words_in 24 (over (block_of (index_words x)) b)) ≡ x

abbrev pub RecorderBack : Type 0
RecorderBack = (r : Recorder) (b : List ℕ) → RecorderFits r → recorder_read (words_in 24 (over (block_of (recorder_words r)) b)) ≡ r

-- whatever words 7 to 10 are
abbrev pub HintRecorderBack : Type 0
HintRecorderBack =
    (r : HintRecorder) (f : Told) (b : List ℕ) → HintRecorderFits r → ToldFits f → hint_recorder_read (words_in 24 (over (block_of (hint_recorder_array r f)) b)) ≡ r

-- what is written over a block of 192 bytes is a head
abbrev pub IndexIsHead : Type 0
IndexIsHead = (x : AreaIndex) (b : List ℕ) → IndexFits x → 192 ≤ length b → is_index (over (block_of (index_words x)) b) ≡ true

abbrev pub RecorderIsHead : Type 0
RecorderIsHead = (r : Recorder) (b : List ℕ) → RecorderFits r → 192 ≤ length b → is_recorder (over (block_of (recorder_words r)) b) ≡ true

-- of a hint recorder whatever stands in its free words
abbrev pub HintRecorderIsHead : Type 0
HintRecorderIsHead =
    (r : HintRecorder) (free b : List ℕ) → HintRecorderFits r → ((k : ℕ) → Fits64 (at free k)) → 192 ≤ length b
    → is_hint_recorder (over (block_of (with_free free (hint_recorder_words r))) b) ≡ true

-- and its free words are 0 where none are written
abbrev pub NoneFree : Type 0
NoneFree = (r : HintRecorder) → with_free [] (hint_recorder_words r) ≡ hint_recorder_words r

-- nothing of a head is cut off: what is read from its words is written as them
abbrev pub HeadWords : Type 0
HeadWords = (again : List ℕ → List ℕ) (b : List ℕ) → is_head again b ≡ true → again (words_in 24 b) ≡ words_in 24 b
