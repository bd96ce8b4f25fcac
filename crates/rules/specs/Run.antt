-- Document 01, "One reading" and "Run".
use Rattle.std.specs.Prelude.{ℕ, suc, ◌<◌, ◌≤◌, ℤ, ◌≡◌, ◌⊎◌, true, false, cond, eqb, length, get_or, take, Option, None, Some}
use mathlib.Core.List.{List, [], ◌∷◌, ◌++◌, Memᴰ}
use Rattle.rules.specs.declared.Area.{Area}
use Rattle.rules.specs.declared.Checkpoint.{Checkpoint}
use Rattle.rules.specs.declared.EndState.{EndState}
use Rattle.rules.specs.declared.FrameKind.{FrameKind}
use Rattle.rules.specs.declared.Held.{Held}
use Rattle.rules.specs.Tests.{Answer, Refused, Accepted}
use Rattle.rules.specs.Values.{Frame, Index, Lengths, max_malformed, no_held, part_bytes, boundaries, lsn_of, count, complete, frontier}
use Rattle.rules.specs.Questions.{question1, question2, question4}
use Rattle.rules.specs.Sizes.{sized}
use Rattle.rules.specs.Record.{below}
use Rattle.rules.specs.Merge.{merge, merge_number}
use Rattle.rules.specs.File.{save}
use Rattle.rules.specs.Load.{load}

-- ---- one reading
-- a checkpoint of the reading without its malformed count
pub record Mark : Type 0 where
  pub threshold : ℕ
  pub back : ℕ
  pub digest : ℕ

-- what a part says: its bytes, number, kind and remaining
pub record Content : Type 0 where
  pub bytes : List ℕ
  pub number : ℕ
  pub kind : FrameKind
  pub remaining : ℤ

-- one area, interval, checkpoint sequence, part for each checkpoint, malformed list and end state,
-- of which threshold is given: its malformed count is that of all
pub record Reading : Type 0 where
  pub area : Area
  pub interval : ℕ
  pub marks : List Mark
  pub part : ℕ → Content
  pub malformed : List ℕ
  pub threshold : ℕ

-- each malformed count being the number of malformed LSNs below its checkpoint
unfoldable pub counted_from : Area → ℕ → List ℕ → ℕ → List Mark → List Checkpoint
counted_from a k ls j [] = []
counted_from a k ls j (m ∷ ms) =
    record { threshold = m.threshold; back = m.back; malformed = length (below (lsn_of a k j) ls); digest = m.digest } ∷ counted_from a k ls (suc j) ms

abbrev pub checkpoints_of : Reading → List Checkpoint
checkpoints_of R = counted_from R.area R.interval R.malformed 0 R.marks

-- (for the end state, of all)
abbrev pub end_state_of : Reading → EndState
end_state_of R = record { threshold = R.threshold; malformed = length R.malformed }

-- bytes, number, kind and remaining of a held part
abbrev pub content_of : List Frame → Held → Content
content_of fs p = record { bytes = part_bytes fs p; number = p.number; kind = p.kind; remaining = p.remaining }

-- ---- a list cut from the reading R, its numbers within their types
-- passes questions 1, 2 and 4 and has its area and interval, the first n checkpoints, some of their parts,
-- the malformed LSNs below its frontier (first 4,096), and, only if n is the number of boundaries, the end state or not
pub record Cut (R : Reading) (x : Index) : Type 0 where
  pub one : question1 x ≡ true
  pub two : question2 x ≡ true
  pub four : question4 x ≡ true
  pub fits : sized x ≡ true
  pub area : x.scan.area ≡ R.area
  pub interval : x.scan.interval ≡ R.interval
  pub checkpoints : x.scan.checkpoints ≡ take (count x.scan) (checkpoints_of R)
  pub ending : (x.scan.ending ≡ None) ⊎ ((x.scan.ending ≡ Some (end_state_of R)) × (count x.scan ≡ boundaries R.area R.interval))
  pub malformed : x.scan.malformed ≡ take max_malformed (below (frontier x.scan) R.malformed)
  pub parts :
      (i : ℕ) → i < length x.scan.parts → content_of x.scan.frames (get_or x.scan.parts i no_held) ≡ R.part (get_or x.scan.parts i no_held).at

-- ---- a run
-- each place holds a list, in tables nobody else writes
pub record Place : Type 0 where
  pub list : Index
  pub room : Lengths

-- merge into one place from another; save a place, into an output of a length;
-- right after an accepted save, load exactly its bytes there, any limit
pub data Call : Type 0 where
  merge_call : ℕ → ℕ → Call
  save_call : ℕ → ℕ → Call
  load_call : ℕ → Call

-- bytes that an accepted save has just written, and of which place
pub record Saved : Type 0 where
  pub place : ℕ
  pub bytes : List ℕ

-- the places, whose first lists went into each, and what the call before saved
pub record State : Type 0 where
  pub now : ℕ → Place
  pub went : ℕ → List ℕ
  pub just : Option Saved

-- Into a place went its first list
abbrev pub begin : (ℕ → Place) → State
begin p = record { now = p; went = λ i. i ∷ []; just = None }

-- s with p at i
abbrev pub replace {ℓ} : {A : Type ℓ} → (ℕ → A) → ℕ → A → ℕ → A
replace s i p k = cond (eqb k i) p (s k)

-- refused ones change nothing
unfoldable pub answered : Place → Answer Index → Place
answered p (Refused n) = p
answered p (Accepted x) = record { list = x; room = p.room }

abbrev pub merge_into : Place → Place → Answer Index
merge_into own other = merge own.room own.list other.room other.list

abbrev pub merge_refusal : Place → Place → ℕ
merge_refusal own other = merge_number own.room own.list other.room other.list

unfoldable pub just_saved : ℕ → Answer (List ℕ) → Option Saved
just_saved i (Refused n) = None
just_saved i (Accepted b) = Some (record { place = i; bytes = b })

-- exactly the bytes just saved, loaded there under the reading's area a; nothing where nothing was just saved
unfoldable pub load_into : Area → ℕ → State → Option Saved → State
load_into a limit s None = s
load_into a limit s (Some b) =
    record {
      now = replace s.now b.place (answered (s.now b.place) (load (s.now b.place).room a b.bytes limit));
      went = s.went;
      just = None;
    }

-- a merge that no question refuses adds what went into the other
unfoldable pub step : Area → Call → State → State
step a (merge_call i j) s =
    record {
      now = replace s.now i (answered (s.now i) (merge_into (s.now i) (s.now j)));
      went = replace s.went i (cond (eqb (merge_refusal (s.now i) (s.now j)) 0) (s.went i ++ s.went j) (s.went i));
      just = None;
    }
step a (save_call i out) s = record { now = s.now; went = s.went; just = just_saved i (save (s.now i).room (s.now i).list out) }
step a (load_call limit) s = load_into a limit s s.just

-- Each call works on what those before it left
unfoldable pub run : Area → List Call → State → State
run a [] s = s
run a (c ∷ cs) s = run a cs (step a c s)

-- ---- the furthest of several lists is a complete one, else one with the most checkpoints:
-- that of w among the first lists p of the places ws
abbrev pub Furthest : (ℕ → Place) → List ℕ → ℕ → Type 0
Furthest p ws w =
    (complete (p w).list.scan ≡ true)
    ⊎ (((v : ℕ) → Memᴰ v ws → complete (p v).list.scan ≡ false)
    × ((v : ℕ) → Memᴰ v ws → count (p v).list.scan ≤ count (p w).list.scan))
