-- Document 01, "Checkpoint" and "Index": record, finish and absorb.
use Rattle.std.specs.Prelude.{ℕ, ◌+◌, ◌-◌, ◌*◌, min, ℤ, Bool, true, false, ◌&&◌, ◌||◌, not, cond, List, [], ◌∷◌, ◌++◌, eqb, leb, ltb, length, take, drop, Option, None, Some}
use Rattle.field.specs.Number.{same_bytes}
use Rattle.fnv.specs.Fnv.{fnv64}
use Rattle.rules.specs.declared.Checkpoint.{Checkpoint}
use Rattle.rules.specs.declared.EndState.{EndState}
use Rattle.rules.specs.declared.FrameKind.{FrameKind}
use Rattle.rules.specs.declared.Mode.{Mode}
use Rattle.rules.specs.declared.Mode.TheVariants.{Running, Finished, Stopped}
use Rattle.rules.specs.Tests.{all, or_else, agree, agrees, Answer, Accepted, after, ask, first_no}
use Rattle.rules.specs.Values.{Scan, Index, Recorder, Lengths, lim, max_malformed, max32, replay_sectors, boundaries, lsn_of, count, frontier, counted, last_checkpoint, same_area, same_end}
use Rattle.rules.specs.Sections.{end_ok, rising, own_lsn, any_lsn}
use Rattle.rules.specs.Questions.{question4, both, ask_four, four_of, recorder_four_of, recorder_four, end_of}
use Rattle.rules.specs.PartRule.{Stored, add_part, add_parts}

-- ---- record
-- a frame under assembly
pub record Assembling : Type 0 where
  pub start : ℕ
  pub number : ℕ
  pub kind : FrameKind
  pub remaining : ℤ
  pub bytes : List ℕ

unfoldable pub is_running : Mode → Bool
is_running Running = true
is_running (Finished e) = false
is_running Stopped = false

-- the number of the next checkpoint
abbrev pub next_number : Recorder → ℕ
next_number r = r.first + length r.checkpoints

-- 5: is it the due LSN, inside the area, not finished or stopped, with a sector of 2,048 bytes?
unfoldable pub question5 : Recorder → ℕ → List ℕ → Bool
question5 r lsn sector =
    all (is_running r.mode ∷ eqb lsn (lsn_of r.area r.interval (next_number r)) ∷ ltb lsn r.area.end ∷ eqb (length sector) 2048 ∷ [])

-- 6: do threshold (< LIM + 1) and malformed count (≤ j × interval) not fall?
unfoldable pub question6 : Recorder → ℕ → ℕ → Bool
question6 r threshold malformed =
    all (leb (last_checkpoint r.checkpoints).threshold threshold ∷ ltb threshold (lim + 1)
    ∷ leb (last_checkpoint r.checkpoints).malformed malformed ∷ leb malformed (next_number r * r.interval) ∷ [])

-- 7: does the frame start in the area before this LSN, with number < LIM?
unfoldable pub question7 : Recorder → ℕ → Option Assembling → Bool
question7 r lsn None = true
question7 r lsn (Some f) = all (leb r.area.start f.start ∷ ltb f.start lsn ∷ ltb f.number lim ∷ [])

-- no frame under assembly: back 0; else LSN − frame start, which 7 keeps above 0
unfoldable pub back_of : ℕ → Option Assembling → ℕ
back_of lsn None = 0
back_of lsn (Some f) = lsn - f.start

abbrev pub stored_of : Recorder → Stored
stored_of r = record { frames = r.frames; parts = r.parts }

-- the part is stored only if back exceeds 32
unfoldable pub assembled : Recorder → ℕ → Option Assembling → Stored
assembled r lsn None = stored_of r
assembled r lsn (Some f) =
    cond (ltb replay_sectors (lsn - f.start))
    (add_part r.budget (stored_of r)
    (record { at = next_number r; start = f.start; bytes = f.bytes; number = f.number; kind = f.kind; remaining = f.remaining }))
    (stored_of r)

-- a further checkpoint: threshold, back, malformed count, digest
abbrev pub recorded : Recorder → ℕ → ℕ → ℕ → Option Assembling → List ℕ → Recorder
recorded r lsn threshold malformed f sector =
    record {
      area = r.area;
      interval = r.interval;
      budget = r.budget;
      first = r.first;
      from = r.from;
      checkpoints =
          r.checkpoints ++ (record { threshold = threshold; back = back_of lsn f; malformed = malformed; digest = fnv64 sector } ∷ []);
      frames = (assembled r lsn f).frames;
      parts = (assembled r lsn f).parts;
      mode = r.mode;
    }

-- the call: 1 to 4, 5 to 7
unfoldable pub record_at : Lengths → Recorder → ℕ → ℕ → ℕ → Option Assembling → List ℕ → Answer Recorder
record_at l r lsn threshold malformed f sector =
    after
    (first_no
    (recorder_four l r (ask (question5 r lsn sector) 5 ∷ ask (question6 r threshold malformed) 6 ∷ ask (question7 r lsn f) 7 ∷ [])))
    (Accepted (recorded r lsn threshold malformed f sector))

-- ---- finish
abbrev pub with_mode : Recorder → Mode → Recorder
with_mode r m =
    record {
      area = r.area;
      interval = r.interval;
      budget = r.budget;
      first = r.first;
      from = r.from;
      checkpoints = r.checkpoints;
      frames = r.frames;
      parts = r.parts;
      mode = m;
    }

-- Finish: 5 is every boundary passed, and the recorder not finished or stopped? 6 as an end state in loading?
unfoldable pub finish : Lengths → Recorder → EndState → Answer Recorder
finish l r e =
    after
    (first_no
    (recorder_four l r
    (ask (is_running r.mode && eqb (next_number r) (boundaries r.area r.interval)) 5
    ∷ ask (end_ok r.area (last_checkpoint r.checkpoints) e) 6 ∷ [])))
    (Accepted (with_mode r (Finished e)))

-- ---- absorb
-- the same threshold and malformed count
unfoldable pub same_counts : Checkpoint → Checkpoint → Bool
same_counts c d = all (eqb c.threshold d.threshold ∷ eqb c.malformed d.malformed ∷ [])

-- 8: same image, if both known?
unfoldable pub question8 : Index → Option ℕ → Bool
question8 x image = agree eqb x.image image

-- 9: same area and interval?
unfoldable pub question9 : Index → Recorder → Bool
question9 x r = all (same_area x.scan.area r.area ∷ eqb x.scan.interval r.interval ∷ [])

-- 10: recorder joins the index?
unfoldable pub question10 : Index → Recorder → Bool
question10 x r = all (leb r.from (frontier x.scan) ∷ leb r.first (count x.scan) ∷ [])

-- 11: thresholds, malformed counts and end state agree where both have them? Behind 10: the recorder's first checkpoint is the index's number first.
unfoldable pub question11 : Index → Recorder → Bool
question11 x r =
    all (agrees same_counts (drop r.first x.scan.checkpoints) r.checkpoints ∷ agree same_end x.scan.ending (end_of r.mode) ∷ [])

-- the LSNs below a bound; of a rising list (12) they are the first ones, which the source takes (take_while)
unfoldable pub below : ℕ → List ℕ → List ℕ
below b [] = []
below b (l ∷ ls) = cond (ltb l b) (l ∷ below b ls) (below b ls)

-- the index's own parts, then the recorder's for the checkpoints that are appended
abbrev pub taken_stored : Scan → Recorder → Stored
taken_stored x r = add_parts x.budget r.frames (count x) r.parts (record { frames = x.frames; parts = x.parts })

-- the scan with the recorder's further checkpoints and end state; its malformed list is ms. Behind 10, which keeps count − first from falling below 0,
-- and 4: a finished recorder has passed every boundary.
abbrev pub joined : Scan → Recorder → List ℕ → Scan
joined x r ms =
    record {
      area = x.area;
      interval = x.interval;
      budget = x.budget;
      checkpoints = x.checkpoints ++ drop (count x - r.first) r.checkpoints;
      frames = (taken_stored x r).frames;
      parts = (taken_stored x r).parts;
      ending = or_else (end_of r.mode) x.ending;
      malformed = ms;
    }

-- the given malformed LSNs below the frontier, at most 4,096, where the frontier moves; else those held
abbrev pub moves : Scan → Recorder → Bool
moves x r = ltb (frontier x) (frontier (joined x r []))

abbrev pub taken_malformed : Scan → Recorder → List ℕ → List ℕ
taken_malformed x r ms = cond (moves x r) (take max_malformed (below (frontier (joined x r [])) ms)) x.malformed

-- Absorbing fills in the image id too
abbrev pub absorbed_index : Index → Recorder → Option ℕ → List ℕ → Index
absorbed_index x r image ms =
    record {
      scan = joined x.scan r (taken_malformed x.scan r ms);
      hinting = x.hinting;
      fingerprint = x.fingerprint;
      image = or_else x.image image;
    }

-- 12: if the frontier moves, do the rules of 4 hold afterwards, and is the malformed list rising, opening with the held one, with
-- min(counted, 4,096) LSNs below the frontier, capped so?
unfoldable pub question12 : Index → Recorder → Option ℕ → List ℕ → Bool
question12 x r image ms =
    let y = (absorbed_index x r image ms).scan in
    not (moves x.scan r)
    || all (rising own_lsn any_lsn 0 (max32 + 1) ms ∷ same_bytes (take (length x.scan.malformed) ms) x.scan.malformed
    ∷ eqb (length y.malformed) (min (counted y.checkpoints y.ending) max_malformed) ∷ question4 (absorbed_index x r image ms) ∷ [])

-- and stops a finished one
unfoldable pub drained : Mode → Mode
drained Running = Running
drained (Finished e) = Stopped
drained Stopped = Stopped

-- `absorb` then empties the recorder
abbrev pub emptied : Recorder → Recorder
emptied r =
    record {
      area = r.area;
      interval = r.interval;
      budget = r.budget;
      first = next_number r;
      from = r.from;
      checkpoints = [];
      frames = [];
      parts = [];
      mode = drained r.mode;
    }

unfoldable pub is_stopped : Mode → Bool
is_stopped Running = false
is_stopped (Finished e) = false
is_stopped Stopped = true

-- the refusal number, 0 where it is accepted, and both afterwards
pub record Absorbed : Type 0 where
  pub number : ℕ
  pub index : Index
  pub recorder : Recorder

-- 1 to 4 of both; a stopped recorder brings nothing and is no refusal after 4
abbrev pub absorb_number : Lengths → Index → Lengths → Recorder → Option ℕ → List ℕ → ℕ
absorb_number l x m r image ms =
    first_no
    (ask_four (both (four_of l x) (recorder_four_of m r))
    (ask (is_stopped r.mode || question8 x image) 8 ∷ ask (is_stopped r.mode || question9 x r) 9
    ∷ ask (is_stopped r.mode || question10 x r) 10 ∷ ask (is_stopped r.mode || question11 x r) 11
    ∷ ask (is_stopped r.mode || question12 x r image ms) 12 ∷ []))

-- A "no" refuses with that number and changes nothing, 8 excepted: it stops the recorder
abbrev pub absorbed_by : ℕ → Index → Recorder → Option ℕ → List ℕ → Absorbed
absorbed_by n x r image ms =
    cond (eqb n 0)
    (cond (is_stopped r.mode) (record { number = 0; index = x; recorder = r })
    (record { number = 0; index = absorbed_index x r image ms; recorder = emptied r }))
    (record { number = n; index = x; recorder = cond (eqb n 8) (with_mode r Stopped) r })

-- the call
unfoldable pub absorb : Lengths → Index → Lengths → Recorder → Option ℕ → List ℕ → Absorbed
absorb l x m r image ms = absorbed_by (absorb_number l x m r image ms) x r image ms
