-- Document 01, "New", "Confirmation" and "Index": new, the fingerprint entry and the recorders that an index gives.
use Rattle.std.specs.Prelude.{ℕ, min, ◌||◌, cond, [], ◌∷◌, eqb, Option, None, Some}
use Rattle.rules.specs.declared.Area.{Area}
use Rattle.rules.specs.declared.Fingerprint.TheVariants.{Unknown, Checked}
use Rattle.rules.specs.declared.Mode.TheVariants.{Running, Stopped}
use Rattle.rules.specs.Tests.{agree, Answer, Accepted, after, ask, first_no}
use Rattle.rules.specs.Values.{Scan, Hinting, Index, Recorder, HintRecorder, Lengths, max_hints, count, complete, stated}
use Rattle.rules.specs.Questions.{question1, question2, question3, four}

-- an empty index; M above 262,144 is lowered (change request 12)
abbrev pub empty_index : Area → ℕ → ℕ → ℕ → ℕ → Index
empty_index a k budget spacing most =
    record {
      scan = record { area = a; interval = k; budget = budget; checkpoints = []; frames = []; parts = []; ending = None; malformed = [] };
      hinting = record { spacing = spacing; most = min most max_hints; hints = []; confirmed = [] };
      fingerprint = Unknown;
      image = None;
    }

-- New: 1, 2, then 3 with the lowered M
unfoldable pub new : Lengths → Area → ℕ → ℕ → ℕ → ℕ → Answer Index
new l a k budget spacing most =
    let x = empty_index a k budget spacing most in
    after (first_no (ask (question1 x) 1 ∷ ask (question2 x) 2 ∷ ask (question3 l x) 3 ∷ [])) (Accepted x)

-- The entry that states a fingerprint is added: it stores the fingerprint if none is held and sets the checked mark.
-- Behind 15 v is the held one, if any.
abbrev pub bound : Index → ℕ → Index
bound x v = record { scan = x.scan; hinting = x.hinting; fingerprint = Checked v; image = x.image }

-- 1 to 4, 15: the held one, if any?
unfoldable pub bind_fingerprint : Lengths → Index → ℕ → Answer Index
bind_fingerprint l x v = after (first_no (four l x (ask (agree eqb (stated x.fingerprint) (Some v)) 15 ∷ []))) (Accepted (bound x v))

-- A complete index gives a stopped recorder
abbrev pub empty_recorder : Scan → ℕ → Recorder
empty_recorder x from =
    record {
      area = x.area;
      interval = x.interval;
      budget = x.budget;
      first = count x;
      from = from;
      checkpoints = [];
      frames = [];
      parts = [];
      mode = cond (complete x) Stopped Running;
    }

-- the call: 1 to 4
unfoldable pub recorder : Lengths → Index → ℕ → Answer Recorder
recorder l x from = after (first_no (four l x [])) (Accepted (empty_recorder x.scan from))

-- Spacing or M of 0: no hint recorder
abbrev pub empty_hint_recorder : Hinting → Option HintRecorder
empty_hint_recorder r =
    cond (eqb r.spacing 0 || eqb r.most 0) None (Some (record { spacing = r.spacing; last = None; tail = None; list = [] }))

-- the call: 1 to 4
unfoldable pub hint_recorder : Lengths → Index → Answer (Option HintRecorder)
hint_recorder l x = after (first_no (four l x [])) (Accepted (empty_hint_recorder x.hinting))
