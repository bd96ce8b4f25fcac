-- Document 01, "Index". `plan`: End if complete and the frame is at or past the end threshold; else the last checkpoint
-- whose threshold is not above it, with its held part; else Start. (What a definition uses stands above it.)
use Rattle.rules.specs.declared.HeldPart.{HeldPart}
use Rattle.std.specs.Prelude.{ℕ, zero, suc, ◌+◌, cond, List, [], ◌∷◌, eqb, leb, length, take, drop, Option, None, Some}
use Rattle.rules.specs.declared.Area.{Area}
use Rattle.rules.specs.declared.Checkpoint.{Checkpoint}
use Rattle.rules.specs.declared.EndState.{EndState}
use Rattle.rules.specs.declared.Held.{Held}
use Rattle.rules.specs.declared.Plan.{Plan}
use Rattle.rules.specs.declared.Plan.TheVariants.{Start, At, End}
use Rattle.rules.specs.Tests.{Answer, Accepted, after, first_no}
use Rattle.rules.specs.Values.{Frame, Scan, Index, Lengths, checkpoint_at, used, lsn_of}
use Rattle.rules.specs.Questions.{four}

-- ---- with its held part
-- where the bytes of frame number f begin in the store
abbrev pub offset_of : List Frame → ℕ → ℕ
offset_of fs f = used (take f fs)

-- the part of checkpoint number j
unfoldable pub assembly_of : List Frame → List Held → ℕ → Option HeldPart
assembly_of fs [] j = None
assembly_of fs (p ∷ ps) j =
    cond (eqb p.at j)
    (Some (record { kind = p.kind; number = p.number; remaining = p.remaining; offset = offset_of fs p.frame; len = p.len }))
    (assembly_of fs ps j)

-- checkpoint number j, with its held part
abbrev pub resume : Scan → ℕ → Plan
resume x j =
    At
    (record {
      number = j;
      lsn = lsn_of x.area x.interval j;
      checkpoint = checkpoint_at x.checkpoints j;
      assembly = assembly_of x.frames x.parts j;
    })

-- ---- else the last checkpoint whose threshold is not above it; else Start
-- its number, among the first n
unfoldable pub last_not_above : ℕ → List Checkpoint → ℕ → Option ℕ
last_not_above t cs zero = None
last_not_above t cs (suc n) = cond (leb (checkpoint_at cs n).threshold t) (Some n) (last_not_above t cs n)

unfoldable pub plan_from : Scan → Option ℕ → Plan
plan_from x None = Start
plan_from x (Some j) = resume x j

-- ---- End if complete and the frame is at or past the end threshold; else p
unfoldable pub plan_or : ℕ → Option EndState → Plan → Plan
plan_or t None p = p
plan_or t (Some e) p = cond (leb e.threshold t) (End e) p

-- ---- what `plan` answers for frame t
unfoldable pub planned : Scan → ℕ → Plan
planned x t = plan_or t x.ending (plan_from x (last_not_above t x.checkpoints (length x.checkpoints)))

-- the call: 1 to 4
unfoldable pub plan : Lengths → Index → ℕ → Answer Plan
plan l x t = after (first_no (four l x [])) (Accepted (planned x.scan t))

-- ---- A jump's start is what `plan` answers, hints apart
-- Start is the area's start, a checkpoint its own LSN, not lessened by its back, with a held part or without, and End the
-- area's end
unfoldable pub start_of : Area → Plan → ℕ
start_of a Start = a.start
start_of a (At r) = r.lsn
start_of a (End e) = a.end

abbrev pub jump : Scan → ℕ → ℕ
jump x t = start_of x.area (planned x t)

-- ---- a second call returns the bytes as part of the lent store; none where they do not lie in it
unfoldable pub bytes_at : List ℕ → ℕ → ℕ → List ℕ
bytes_at store offset len = cond (leb (offset + len) (length store)) (take len (drop offset store)) []
