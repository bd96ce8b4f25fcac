-- Document 01, "The questions": 1 to 4, which each call on an index or recorder asks.
use Rattle.std.specs.Prelude.{ℕ, ◌+◌, Bool, ◌&&◌, ◌||◌, not, List, [], ◌∷◌, eqb, leb, length, Option, None, Some}
use Rattle.rules.specs.declared.Area.{Area}
use Rattle.rules.specs.declared.Checkpoint.{Checkpoint}
use Rattle.rules.specs.declared.EndState.{EndState}
use Rattle.rules.specs.declared.Fingerprint.{Fingerprint}
use Rattle.rules.specs.declared.Held.{Held}
use Rattle.rules.specs.declared.Mode.{Mode}
use Rattle.rules.specs.declared.Mode.TheVariants.{Running, Finished, Stopped}
use Rattle.rules.specs.Tests.{all, is_some, Ask, ask}
use Rattle.rules.specs.Values.{Frame, Scan, Hinting, Index, Recorder, HintRecorder, Lengths, max_malformed, max_hints, max_list, merge_room, max_interval, max32, boundaries, count, complete, frontier, counted, stated}
use Rattle.rules.specs.Sections.{counts_ok, checkpoints_ok, frames_ok, parts_ok, ending_ok, malformed_ok, hints_ok, confirmations_ok, marks_ok}

-- ---- 1: is the slot 0 or 1 and start ≤ end ≤ 4,294,967,295?
unfoldable pub area_ok : Area → Bool
area_ok a = all (leb a.key.slot 1 ∷ leb a.start a.end ∷ leb a.end max32 ∷ [])

-- ---- 2: is interval 1..65,536 and budget ≤ 4,294,967,295?
unfoldable pub numbers_ok : ℕ → ℕ → Bool
numbers_ok k budget = all (leb 1 k ∷ leb k max_interval ∷ leb budget max32 ∷ [])

-- ---- 3: are the tables long enough?
-- checkpoints, frames and parts at least boundaries, frame bytes the budget
unfoldable pub scan_room : Lengths → ℕ → ℕ → Bool
scan_room l b budget = all (leb b l.checkpoints ∷ leb b l.frames ∷ leb b l.parts ∷ leb budget l.store ∷ [])

-- hints M + 262,144, confirmations M + 1 (malformed 4,096: question3)
unfoldable pub hinting_room : Lengths → ℕ → Bool
hinting_room l most = all (leb (most + merge_room) l.hints ∷ leb (most + 1) l.confirmed ∷ [])

-- ---- 4: do they hold what loading would accept, with confirmations or a checked mark only beside a fingerprint?
unfoldable pub held_ok : Area → ℕ → ℕ → ℕ → List Checkpoint → List Frame → List Held → Bool
held_ok a k budget first cs fs ps = all (frames_ok a budget fs ∷ parts_ok a k first cs fs ps ∷ [])

unfoldable pub scan_ok : Scan → Bool
scan_ok x =
    all (counts_ok (boundaries x.area x.interval) (count x) (complete x) (length x.frames) (length x.parts) (length x.malformed)
    ∷ checkpoints_ok x.interval 0 x.checkpoints ∷ held_ok x.area x.interval x.budget 0 x.checkpoints x.frames x.parts
    ∷ ending_ok x.area x.checkpoints x.ending ∷ malformed_ok x.area (frontier x) (counted x.checkpoints x.ending) x.malformed ∷ [])

-- confirmations only beside a fingerprint (a checked mark is beside one by its type); the kept marks last
unfoldable pub hinting_ok : Area → Fingerprint → Hinting → Bool
hinting_ok a f r =
    all (leb r.most max_hints ∷ leb (length r.hints) r.most ∷ leb (length r.confirmed) r.most ∷ hints_ok a r.hints
    ∷ confirmations_ok a r.confirmed ∷ (eqb (length r.confirmed) 0 || is_some (stated f)) ∷ marks_ok r.most r.hints ∷ [])

-- ---- of an index
unfoldable pub question1 : Index → Bool
question1 x = area_ok x.scan.area

unfoldable pub question2 : Index → Bool
question2 x = numbers_ok x.scan.interval x.scan.budget

unfoldable pub question3 : Lengths → Index → Bool
question3 l x =
    all (scan_room l (boundaries x.scan.area x.scan.interval) x.scan.budget ∷ leb max_malformed l.malformed
    ∷ hinting_room l x.hinting.most ∷ [])

unfoldable pub question4 : Index → Bool
question4 x = all (scan_ok x.scan ∷ hinting_ok x.scan.area x.fingerprint x.hinting ∷ [])

-- ---- the answers to 1 to 4 of one object
pub record Four : Type 0 where
  pub one : Bool
  pub two : Bool
  pub three : Bool
  pub four : Bool

-- of two objects: each question is asked of both before the next one is asked of either
abbrev pub both : Four → Four → Four
both p q = record { one = p.one && q.one; two = p.two && q.two; three = p.three && q.three; four = p.four && q.four }

-- 1 to 4, and then qs
abbrev pub ask_four : Four → List Ask → List Ask
ask_four p qs = ask p.one 1 ∷ ask p.two 2 ∷ ask p.three 3 ∷ ask p.four 4 ∷ qs

-- of an index in tables of the lengths l
abbrev pub four_of : Lengths → Index → Four
four_of l x = record { one = question1 x; two = question2 x; three = question3 l x; four = question4 x }

abbrev pub four : Lengths → Index → List Ask → List Ask
four l x qs = ask_four (four_of l x) qs

-- ---- of a recorder, which keeps these rules over its own stretch
-- the end state that a recorder has
unfoldable pub end_of : Mode → Option EndState
end_of Running = None
end_of (Finished e) = Some e
end_of Stopped = None

unfoldable pub recorder_question1 : Recorder → Bool
recorder_question1 r = area_ok r.area

unfoldable pub recorder_question2 : Recorder → Bool
recorder_question2 r = numbers_ok r.interval r.budget

unfoldable pub recorder_question3 : Lengths → Recorder → Bool
recorder_question3 l r = scan_room l (boundaries r.area r.interval) r.budget

unfoldable pub recorder_question4 : Recorder → Bool
recorder_question4 r =
    all (leb (r.first + length r.checkpoints) (boundaries r.area r.interval)
    ∷ (not (is_some (end_of r.mode)) || eqb (r.first + length r.checkpoints) (boundaries r.area r.interval))
    ∷ leb (length r.parts) (length r.checkpoints) ∷ leb (length r.frames) (length r.parts) ∷ checkpoints_ok r.interval r.first r.checkpoints
    ∷ held_ok r.area r.interval r.budget r.first r.checkpoints r.frames r.parts
    ∷ ending_ok r.area r.checkpoints (end_of r.mode) ∷ [])

abbrev pub recorder_four_of : Lengths → Recorder → Four
recorder_four_of l r =
    record { one = recorder_question1 r; two = recorder_question2 r; three = recorder_question3 l r; four = recorder_question4 r }

abbrev pub recorder_four : Lengths → Recorder → List Ask → List Ask
recorder_four l r qs = ask_four (recorder_four_of l r) qs

-- ---- of a hint recorder, whose own list has space for n hints: 65,536, and it lists at most as many
abbrev pub hint_recorder_four : ℕ → HintRecorder → List Ask → List Ask
hint_recorder_four n r qs = ask (leb max_list n) 3 ∷ ask (leb (length r.list) max_list) 4 ∷ qs
