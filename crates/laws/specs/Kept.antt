-- What frames and parts keep.
use Rattle.std.specs.Prelude.{ℕ, ◌<◌, ◌≤◌, ◌≡◌, true, List, [], ◌∷◌, ◌++◌, length, get_or, take}
use Rattle.rules.specs.declared.Held.{Held}
use Rattle.rules.specs.Values.{Frame, Index, Recorder, no_held, frame_at}
use Rattle.rules.specs.Questions.{question1, question2, question4, recorder_question1, recorder_question2, recorder_question4}
use Rattle.rules.specs.PartRule.{Stored, Piece}
use Rattle.rules.specs.Run.{Content, content_of}

-- frames gs hold all that fs hold, each under its number
pub record Grow (fs gs : List Frame) : Type 0 where
  pub more : length fs ≤ length gs
  pub start : (i : ℕ) → i < length fs → (frame_at gs i).start ≡ (frame_at fs i).start
  pub long : (i : ℕ) → i < length fs → length (frame_at fs i).bytes ≤ length (frame_at gs i).bytes
  pub bytes : (i n : ℕ) → i < length fs → n ≤ length (frame_at fs i).bytes → take n (frame_at gs i).bytes ≡ take n (frame_at fs i).bytes

-- what a part says as it is handed over
abbrev pub content_in : Piece → Content
content_in p = record { bytes = p.bytes; number = p.number; kind = p.kind; remaining = p.remaining }

-- h' is h with one more part, which says what p says; what h held stays
pub record Added (h h' : Stored) (p : Piece) : Type 0 where
  pub new : Held
  pub parts : h'.parts ≡ h.parts ++ (new ∷ [])
  pub at : new.at ≡ p.at
  pub content : content_of h'.frames new ≡ content_in p
  pub kept : Grow h.frames h'.frames

-- h' is h with more parts after its own, and frames that hold all that h's hold
pub record Keeps (h h' : Stored) : Type 0 where
  pub more : List Held
  pub parts : h'.parts ≡ h.parts ++ more
  pub frames : Grow h.frames h'.frames

-- P holds of each part's checkpoint number and of what the part says
abbrev pub Says : (ℕ → Content → Type 0) → List Frame → List Held → Type 0
Says P fs ps = (i : ℕ) → i < length ps → P (get_or ps i no_held).at (content_of fs (get_or ps i no_held))

-- questions 1, 2 and 4 of a recorder, and of an index
abbrev pub Sound : Recorder → Type 0
Sound r = (recorder_question1 r ≡ true) × (recorder_question2 r ≡ true) × (recorder_question4 r ≡ true)

abbrev pub SoundIndex : Index → Type 0
SoundIndex x = (question1 x ≡ true) × (question2 x ≡ true) × (question4 x ≡ true)
