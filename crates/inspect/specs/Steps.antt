-- What the functions of inspect need of each other.
use Rattle.std.specs.Prelude.{◌≡◌, ℕ, ◌*◌, ◌≤◌, Bool, true, cond, ◌||◌, List, [], ◌∷◌, length, eqb, leb}
use Rattle.rules.specs.declared.Area.{Area}
use Rattle.rules.specs.declared.Header.{Header}
use Rattle.rules.specs.declared.Held.{Held}
use Rattle.rules.specs.declared.Confirmation.{Confirmation}
use Rattle.rules.specs.declared.HintHeader.{HintHeader}
use Rattle.rules.specs.Tests.{Answer, Refused, Accepted, all, after, ask, bind, first_no}
use Rattle.rules.specs.Values.{Frame}
use Rattle.rules.specs.Sections.{part_ok, risen, hint_lsn, confirmed_lsn, rising_ok, own_lsn, any_lsn}
use Rattle.rules.specs.Load.{Read, read, read_each, read_hint, read_confirmation, HintSection, adds, most_ok, may_confirm, has_fingerprint, read_record}
use Rattle.rules.specs.File.{decode_lsn}
use Rattle.tables.specs.Tables.{checkpoints_in, before}
use Rattle.tables.specs.Files.{place_at, frames_read}
use Rattle.inspect.specs.declared.cursor.Cursor.{Cursor}
use Rattle.inspect.specs.Behind.{behind}
use Rattle.inspect.specs.declared.scan.OneFrame.{OneFrame}
use Rattle.inspect.specs.declared.scan.OneFrame.TheVariants as frame
use Rattle.inspect.specs.declared.scan.OnePart.{OnePart}
use Rattle.inspect.specs.declared.scan.OnePart.TheVariants as part
use Rattle.inspect.specs.declared.scan.Placed.{Placed}
use Rattle.inspect.specs.declared.scan.Taken.{Taken}
use Rattle.inspect.specs.declared.scan.Taken.TheVariants as taken

-- the header of a frame that was read of the body s
unfoldable pub one_frame : List ℕ → Answer (Read Frame) → OneFrame
one_frame s (Refused n) = frame.Refused n
one_frame s (Accepted t) = frame.Header (record { start = t.value.start; len = length t.value.bytes }) (behind s t.rest)

-- a part, and where its frame begins in frames
abbrev pub placed : List ℕ → Held → Placed
placed frames p = record { part = p; place = place_at frames 0 p.frame }

-- a part that was read of the body s
unfoldable pub one_part : List ℕ → List ℕ → Answer (Read Held) → OnePart
one_part s frames (Refused n) = part.Refused n
one_part s frames (Accepted t) = part.Part (placed frames t.value) (behind s t.rest)

-- a part and the cursor behind it; 32 where its rule does not hold
unfoldable pub placed_if : List ℕ → Held → Cursor → Bool → OnePart
placed_if frames p c ok = cond ok (part.Part (placed frames p) c) (part.Refused 32)

-- the rule of the part p of a header's checkpoints and frames; last is the part before it, unless p begins the section
abbrev pub part_rule : Area → Header → List ℕ → List ℕ → Bool → Placed → Held → Bool
part_rule a h checkpoints frames begins last p =
    part_ok a h.interval 0 (checkpoints_in h.checkpoints checkpoints) (frames_read h.frames frames) (before begins last.part) p

-- the checkpoints and the frames of a header are there
pub record HeaderReads (a : Area) (h : Header) (checkpoints frames : List ℕ) : Type 0 where
  pub small : a.start ≤ 4294967295
  pub table : h.checkpoints * 24 ≤ length checkpoints
  pub inside : place_at frames 0 h.frames ≤ length frames

-- the part before the next one; where there is none, frame 0 is the next
pub record LastAt (frames : List ℕ) (begins : Bool) (last : Placed) : Type 0 where
  pub place : last.place ≡ place_at frames 0 last.part.frame
  pub first : begins ≡ true → last.part.frame ≡ 0

-- 28 and 36
unfoldable pub hint_rest : Header → HintHeader → Bool → ℕ
hint_rest h g there =
    first_no
    (ask (eqb g.zero20 0) 28
    ∷ ask (all (adds h g ∷ (has_fingerprint h || eqb g.fingerprint 0) ∷ most_ok h g.most ∷ leb g.count g.most ∷ there ∷ [])) 36 ∷ [])

-- then the hints of the header g
unfoldable pub hints_from : Area → Header → HintHeader → Bool → List ℕ → Answer (Read HintSection)
hints_from a h g there b =
    after (hint_rest h g there)
    (bind (read_each (read_hint a) (risen hint_lsn) g.count a.start b) (λ t. read (record { header = g; hints = t.value }) t.rest))

-- 37
unfoldable pub confirmed_rest : Header → ℕ → ℕ → ℕ → Bool → ℕ
confirmed_rest h n reserved most there = first_no (ask (all (eqb reserved 0 ∷ may_confirm h n ∷ leb n most ∷ there ∷ [])) 37 ∷ [])

-- then the n confirmations
unfoldable pub confirmed_from : Area → Header → ℕ → ℕ → ℕ → Bool → List ℕ → Answer (Read (List Confirmation))
confirmed_from a h most n reserved there b =
    after (confirmed_rest h n reserved most there) (read_each (read_confirmation a) (risen confirmed_lsn) n a.start b)

-- the refusal, or the cursor behind what was read of the body s
unfoldable pub taken_of : {A : Type 0} → List ℕ → Answer (Read A) → Taken
taken_of s (Refused n) = taken.Refused n
taken_of s (Accepted t) = taken.Behind (behind s t.rest)

-- malformed LSNs below front: read_malformed, where front is the frontier
abbrev pub read_lsns : Area → Header → ℕ → List ℕ → Answer (Read (List ℕ))
read_lsns a h front b = read_each (read_record 4 decode_lsn (rising_ok own_lsn any_lsn front) 35) (risen own_lsn) h.malformed a.start b
