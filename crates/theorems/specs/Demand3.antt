-- Demand 3, about whole runs.
use Rattle.std.specs.Prelude.{ℕ, min, ◌<◌, ◌≤◌, ◌≡◌, true, false, ◌≢◌, eqb, length, get_or, Option, None, Some}
use mathlib.Core.List.{List, Memᴰ}
use Rattle.rules.specs.Values.{Scan, no_held, count}
use Rattle.rules.specs.Questions.{question3}
use Rattle.rules.specs.Merge.{question42, further}
use Rattle.rules.specs.Load.{fitting, within}
use Rattle.rules.specs.Run.{Reading, content_of, Cut, Place, Call, merge_call, save_call, load_call, Saved, State, merge_refusal, step, Furthest}
use Rattle.theorems.specs.Jump.{JumpNotBack}
use Rattle.theorems.specs.PartRule.{Admits}
use Rattle.theorems.specs.Terms.{SameRead, AllCut, after_calls, stored_in}

-- what is claimed of place i in a state s, whose places held the lists p at first, all cut from the reading R
pub record Outcome (R : Reading) (p : ℕ → Place) (s : State) (i : ℕ) : Type 0 where
  -- as many checkpoints as the largest of those that went into it
  pub at_least : (w : ℕ) → Memᴰ w (s.went i) → count (p w).list.scan ≤ count (s.now i).list.scan
  pub largest : (w : ℕ) × Memᴰ w (s.went i) × Furthest p (s.went i) w
      × (count (s.now i).list.scan ≡ count (p w).list.scan)
  -- what the furthest of them has read
  pub furthest : (w : ℕ) → Memᴰ w (s.went i) → Furthest p (s.went i) w
      → SameRead (s.now i).list.scan (p w).list.scan
  -- the list is itself cut from the reading: each held part is the reading's
  pub cut : Cut R (s.now i).list
  -- in the tables that it had at first
  pub room : (s.now i).room ≡ (p i).room
  -- a merge into it is refused only where a table is too short, or image ids or fingerprints differ
  pub joins :
      (j : ℕ) → question3 (s.now i).room (s.now i).list ≡ true → question3 (s.now j).room (s.now j).list ≡ true
      → question42 (s.now i).list (s.now j).list ≡ true → merge_refusal (s.now i) (s.now j) ≡ 0

-- every place, after any calls
abbrev pub Outcomes : Type 0
Outcomes = (R : Reading) (p : ℕ → Place) → AllCut R p → (calls : List Call) (i : ℕ)
    → Outcome R p (after_calls R p calls) i

-- ---- the held parts are those that merge, the part rule and loading leave
-- of a merge that no question refuses: y holds what own does and, of a further list's parts, those that the part rule admits; of any other list none
pub record MergedParts (own other y : Scan) : Type 0 where
  pub taken : further own other ≡ true → Admits own.budget other.frames (count own) other.parts
      (stored_in own) (stored_in y)
  pub kept : further own other ≡ false → stored_in y ≡ stored_in own

-- of a load: the first frames of x that together fit the lowered budget, and their parts
pub record LoadedParts (limit : ℕ) (x y : Scan) : Type 0 where
  pub frames : y.frames ≡ fitting (min x.budget limit) x.frames
  pub parts : y.parts ≡ within (length y.frames) x.parts

-- place k holds in s' what it held in s
abbrev pub KeepsParts : State → State → ℕ → Type 0
KeepsParts s s' k = stored_in (s'.now k).list.scan ≡ stored_in (s.now k).list.scan

-- a merge into place i from place j
pub record MergeLeaves (s s' : State) (i j : ℕ) : Type 0 where
  pub accepted : merge_refusal (s.now i) (s.now j) ≡ 0
      → MergedParts (s.now i).list.scan (s.now j).list.scan (s'.now i).list.scan
  pub refused : merge_refusal (s.now i) (s.now j) ≢ 0 → KeepsParts s s' i
  pub others : (k : ℕ) → eqb k i ≡ false → KeepsParts s s' k

-- a load of the file b where the call before saved it
pub record LoadLeaves (limit : ℕ) (s s' : State) (b : Saved) : Type 0 where
  pub loaded : LoadedParts limit (s.now b.place).list.scan (s'.now b.place).list.scan
  pub others : (k : ℕ) → eqb k b.place ≡ false → KeepsParts s s' k

unfoldable pub JustLeaves : ℕ → State → State → Option Saved → Type 0
JustLeaves limit s s' None = (k : ℕ) → KeepsParts s s' k
JustLeaves limit s s' (Some b) = LoadLeaves limit s s' b

-- s' is the state after a call in s
unfoldable pub PartsLeft : State → Call → State → Type 0
PartsLeft s (merge_call i j) s' = MergeLeaves s s' i j
PartsLeft s (save_call i out) s' = (k : ℕ) → KeepsParts s s' k
PartsLeft s (load_call limit) s' = JustLeaves limit s s' s.just

-- after any calls, whichever call comes next
abbrev pub PartsByRule : Type 0
PartsByRule =
    (R : Reading) (p : ℕ → Place) → AllCut R p → (calls : List Call) (c : Call)
    → PartsLeft (after_calls R p calls) c (step R.area c (after_calls R p calls))

-- parts for one checkpoint in the results of two runs over one reading agree byte for byte
abbrev pub PartsAgree : Type 0
PartsAgree =
    (R : Reading) (p q : ℕ → Place) → AllCut R p → AllCut R q → (cs ds : List Call) (i j a b : ℕ)
    → let x = ((after_calls R p cs).now i).list.scan in let y = ((after_calls R q ds).now j).list.scan in
    a < length x.parts → b < length y.parts → (get_or x.parts a no_held).at ≡ (get_or y.parts b no_held).at
    → content_of x.frames (get_or x.parts a no_held) ≡ content_of y.frames (get_or y.parts b no_held)

-- where the tables were long enough at first, and no two image ids or fingerprints differed, no merge is ever refused
abbrev pub NoneRefused : Type 0
NoneRefused =
    (R : Reading) (p : ℕ → Place) → AllCut R p → ((i : ℕ) → question3 (p i).room (p i).list ≡ true)
    → ((i j : ℕ) → question42 (p i).list (p j).list ≡ true) → (calls : List Call) (i j : ℕ)
    → merge_refusal ((after_calls R p calls).now i) ((after_calls R p calls).now j) ≡ 0

-- ---- demand 3
pub record Demand3 : Type 0 where
  -- count, checkpoints, end state and malformed list of every place after any calls, and that each held part is the reading's
  pub outcomes : Outcomes
  -- which parts are held
  pub parts_by_rule : PartsByRule
  -- parts of two results are equal, byte for byte
  pub parts_agree : PartsAgree
  -- no merge is refused
  pub none_refused : NoneRefused
  -- of a single merge, of any two lists
  pub jump : JumpNotBack
