-- Terms of document 01 that several statements use.
use Rattle.std.specs.Prelude.{ℕ, ◌*◌, ◌<◌, ◌≤◌, ◌≡◌, true, List, length, get_or}
use Rattle.rules.specs.declared.AreaIndex.{AreaIndex}
use Rattle.rules.specs.Values.{Scan, Index, Recorder, HintRecorder, Lengths, max_list, no_held}
use Rattle.rules.specs.Questions.{question1, question2, question3, question4, recorder_question1, recorder_question2, recorder_question3, recorder_question4}
use Rattle.rules.specs.PartRule.{Stored}
use Rattle.rules.specs.Run.{Reading, Content, content_of, Cut, Place, Call, State, begin, run}
use Rattle.tables.specs.Index.{Tables, room_of, index_in, kinds_in}

-- ---- "each call on an index or recorder": 1 to 4
-- an index passes questions 1 to 4, in tables of the lengths l
pub record Valid (l : Lengths) (x : Index) : Type 0 where
  pub one : question1 x ≡ true
  pub two : question2 x ≡ true
  pub three : question3 l x ≡ true
  pub four : question4 x ≡ true

-- an index in its tables does, its parts' kinds among them
pub record ValidIn (x : AreaIndex) (t : Tables) : Type 0 where
  pub valid : Valid (room_of t) (index_in x t)
  pub kinds : kinds_in x t ≡ true

-- a recorder does
pub record ValidRecorder (l : Lengths) (r : Recorder) : Type 0 where
  pub one : recorder_question1 r ≡ true
  pub two : recorder_question2 r ≡ true
  pub three : recorder_question3 l r ≡ true
  pub four : recorder_question4 r ≡ true

-- a hint recorder passes 3 and 4, where its list has space for n hints
pub record ValidHintRecorder (n : ℕ) (r : HintRecorder) : Type 0 where
  pub three : max_list ≤ n
  pub four : length r.list ≤ max_list

-- ---- "Held part"
-- frames and parts of an index
abbrev pub stored_in : Scan → Stored
stored_in x = record { frames = x.frames; parts = x.parts }

-- part number i of h stays in its place in h', and its bytes, number, kind and remaining stay
pub record Stays (h h' : Stored) (i : ℕ) : Type 0 where
  pub part : get_or h'.parts i no_held ≡ get_or h.parts i no_held
  pub content : content_of h'.frames (get_or h'.parts i no_held) ≡ content_of h.frames (get_or h.parts i no_held)

-- h holds a part for checkpoint number at, with the content c
pub record Holds (h : Stored) (at : ℕ) (c : Content) : Type 0 where
  pub place : ℕ
  pub inside : place < length h.parts
  pub checkpoint : (get_or h.parts place no_held).at ≡ at
  pub content : content_of h.frames (get_or h.parts place no_held) ≡ c

-- ---- "Index" and "File"
-- a limit that lowers neither the budget nor M, and keeps M confirmations
pub record Ample (limit : ℕ) (x : Index) : Type 0 where
  pub budget : x.scan.budget ≤ limit
  pub hints : 16 * x.hinting.most ≤ limit

-- ---- "Run"
-- t has the checkpoints, end state and malformed list of u
pub record SameRead (t u : Scan) : Type 0 where
  pub checkpoints : t.checkpoints ≡ u.checkpoints
  pub ending : t.ending ≡ u.ending
  pub malformed : t.malformed ≡ u.malformed

-- at first each place holds a list cut from the reading R
abbrev pub AllCut : Reading → (ℕ → Place) → Type 0
AllCut R p = (i : ℕ) → Cut R (p i).list

-- what the calls of a run leave
abbrev pub after_calls : Reading → (ℕ → Place) → List Call → State
after_calls R p calls = run R.area calls (begin p)
