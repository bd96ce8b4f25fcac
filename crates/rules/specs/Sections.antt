-- The rule of each section, once: for question 4, for loading and for a recorder's own stretch.
use Rattle.std.specs.Prelude.{ℕ, suc, ◌+◌, ◌-◌, ◌*◌, ◌/◌, min, Bool, true, ◌||◌, not, cond, List, [], ◌∷◌, eqb, leb, ltb, length, Option, None, Some}
use Rattle.rules.specs.declared.Area.{Area}
use Rattle.rules.specs.declared.Checkpoint.{Checkpoint}
use Rattle.rules.specs.declared.EndState.{EndState}
use Rattle.rules.specs.declared.Held.{Held}
use Rattle.rules.specs.declared.Hint.{Hint}
use Rattle.rules.specs.declared.Confirmation.{Confirmation}
use Rattle.rules.specs.Tests.{all, each, walk, last_or}
use Rattle.rules.specs.Values.{Frame, lim, max_frame, max_malformed, checkpoint_at, frame_at, last_checkpoint, no_held, lsn_of, same_kind}

-- ---- 30: counts, of boundaries, checkpoints, completeness, frames, parts, malformed LSNs
unfoldable pub counts_ok : ℕ → ℕ → Bool → ℕ → ℕ → ℕ → Bool
counts_ok b n whole f h m = all (leb n b ∷ (not whole || eqb n b) ∷ leb h n ∷ leb f h ∷ leb m max_malformed ∷ [])

-- ---- 31: checkpoints
-- the number of the next checkpoint, and threshold and malformed count of the one before it
pub record Passed : Type 0 where
  pub number : ℕ
  pub threshold : ℕ
  pub malformed : ℕ

-- before checkpoint number first
abbrev pub begun : ℕ → Passed
begun first = record { number = first; threshold = 0; malformed = 0 }

abbrev pub passed : Passed → Checkpoint → Passed
passed s c = record { number = suc s.number; threshold = c.threshold; malformed = c.malformed }

-- threshold and malformed count do not fall, and stay at most LIM and j × interval; no frame starts before the area
unfoldable pub checkpoint_ok : ℕ → Passed → Checkpoint → Bool
checkpoint_ok k s c =
    all (leb s.threshold c.threshold ∷ leb c.threshold lim ∷ leb s.malformed c.malformed ∷ leb c.malformed (s.number * k)
    ∷ leb c.back (s.number * k) ∷ [])

unfoldable pub checkpoints_ok : ℕ → ℕ → List Checkpoint → Bool
checkpoints_ok k first cs = walk (checkpoint_ok k) passed (begun first) cs

-- ---- 32: frames
-- the lowest start that the next frame may have, and the bytes so far
pub record Filled : Type 0 where
  pub floor : ℕ
  pub used : ℕ

abbrev pub unfilled : Area → Filled
unfilled a = record { floor = a.start; used = 0 }

abbrev pub filled : Filled → ℕ → ℕ → Filled
filled s start len = record { floor = suc start; used = s.used + len }

-- starts rise in the area; a frame has at most 65,536 bytes, and all have at most the budget
unfoldable pub frame_ok : Area → ℕ → Filled → ℕ → ℕ → Bool
frame_ok a budget s start len =
    all (leb s.floor start ∷ ltb start a.end ∷ leb len max_frame ∷ leb (s.used + len) budget ∷ [])

unfoldable pub frames_ok : Area → ℕ → List Frame → Bool
frames_ok a budget fs =
    walk (λ s f. frame_ok a budget s f.start (length f.bytes)) (λ s f. filled s f.start (length f.bytes)) (unfilled a) fs

-- ---- 32: parts
-- may p come after the part before it, if there is one?
unfoldable pub follows : Option Held → Held → Bool
follows None p = eqb p.frame 0
follows (Some q) p =
    all (ltb q.at p.at
    ∷ (all (eqb p.frame q.frame ∷ leb q.len p.len ∷ eqb q.number p.number ∷ same_kind q.kind p.kind ∷ [])
    || eqb p.frame (suc q.frame))
    ∷ [])

-- does p belong to checkpoint c, with a frame under assembly, and to frame f, which starts where that frame does? The checkpoint's rule, asked
-- beside this (in loading before it, 31), keeps its LSN − back from falling below the start.
unfoldable pub belongs : Area → ℕ → Held → Checkpoint → Frame → Bool
belongs a k p c f = all (ltb 0 c.back ∷ eqb (lsn_of a k p.at - c.back) f.start ∷ leb p.len (length f.bytes) ∷ [])

-- a part of the checkpoints cs, of which first is the first number, and of the frames fs
unfoldable pub part_ok : Area → ℕ → ℕ → List Checkpoint → List Frame → Option Held → Held → Bool
part_ok a k first cs fs o p =
    all (leb first p.at ∷ ltb p.at (first + length cs) ∷ ltb p.frame (length fs)
    ∷ belongs a k p (checkpoint_at cs (p.at - first)) (frame_at fs p.frame) ∷ follows o p ∷ ltb p.number lim ∷ [])

-- how many frames the parts reach
unfoldable pub reached : List Held → ℕ
reached ps = cond (eqb (length ps) 0) 0 (suc (last_or no_held ps).frame)

unfoldable pub parts_ok : Area → ℕ → ℕ → List Checkpoint → List Frame → List Held → Bool
parts_ok a k first cs fs ps = all (walk (part_ok a k first cs fs) (λ o p. Some p) None ps ∷ eqb (reached ps) (length fs) ∷ [])

-- ---- 34: the end state, after the last checkpoint c; behind question 1, which keeps end − start from falling below 0
unfoldable pub end_ok : Area → Checkpoint → EndState → Bool
end_ok a c e =
    all (leb c.threshold e.threshold ∷ leb e.threshold lim ∷ leb c.malformed e.malformed ∷ leb e.malformed (a.end - a.start) ∷ [])

unfoldable pub ending_ok : Area → List Checkpoint → Option EndState → Bool
ending_ok a cs None = true
ending_ok a cs (Some e) = end_ok a (last_checkpoint cs) e

-- ---- sections in the order of an LSN: it rises from start on and stays below end, and ok holds of each
unfoldable pub rising_ok : {A : Type 0} → (A → ℕ) → (A → Bool) → ℕ → ℕ → A → Bool
rising_ok key ok end s x = all (leb s (key x) ∷ ltb (key x) end ∷ ok x ∷ [])

abbrev pub risen : {A : Type 0} → (A → ℕ) → ℕ → A → ℕ
risen key s x = suc (key x)

unfoldable pub rising : {A : Type 0} → (A → ℕ) → (A → Bool) → ℕ → ℕ → List A → Bool
rising key ok start end xs = walk (rising_ok key ok end) (risen key) start xs

-- 35: malformed LSNs, as many as are counted, at most 4,096, below the frontier
abbrev pub own_lsn : ℕ → ℕ
own_lsn l = l

abbrev pub any_lsn : ℕ → Bool
any_lsn l = true

unfoldable pub malformed_ok : Area → ℕ → ℕ → List ℕ → Bool
malformed_ok a front n ms = all (eqb (length ms) (min n max_malformed) ∷ rising own_lsn any_lsn a.start front ms ∷ [])

-- 36: hints
abbrev pub hint_lsn : Hint → ℕ
hint_lsn h = h.lsn

abbrev pub hint_ok : Hint → Bool
hint_ok h = ltb h.number lim

unfoldable pub hints_ok : Area → List Hint → Bool
hints_ok a hs = rising hint_lsn hint_ok a.start a.end hs

-- at most a quarter of the hint limit, rounded down, may be kept at a time (change request 11); each mark is 0 or 1
unfoldable pub is_kept : Hint → Bool
is_kept h = eqb h.mark 1

unfoldable pub kept_count : List Hint → ℕ
kept_count [] = 0
kept_count (h ∷ hs) = cond (is_kept h) 1 0 + kept_count hs

abbrev pub mark_ok : Hint → Bool
mark_ok h = leb h.mark 1

unfoldable pub marks_ok : ℕ → List Hint → Bool
marks_ok most hs = all (each mark_ok hs ∷ leb (kept_count hs) (most / 4) ∷ [])

-- 37: confirmations
abbrev pub confirmed_lsn : Confirmation → ℕ
confirmed_lsn c = c.lsn

abbrev pub confirmation_ok : Confirmation → Bool
confirmation_ok c = ltb c.threshold lim

unfoldable pub confirmations_ok : Area → List Confirmation → Bool
confirmations_ok a cs = rising confirmed_lsn confirmation_ok a.start a.end cs
