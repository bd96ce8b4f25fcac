-- Document 01, "Index": merge, and questions 41 to 43.
use Rattle.std.specs.Prelude.{ℕ, Bool, ◌&&◌, ◌||◌, not, cond, [], ◌∷◌, ◌++◌, eqb, ltb, drop, Option, None, Some}
use Rattle.rules.specs.declared.Area.{Area}
use Rattle.rules.specs.declared.Fingerprint.{Fingerprint}
use Rattle.rules.specs.declared.Fingerprint.TheVariants.{Unknown, Checked}
use Rattle.rules.specs.declared.Fingerprint.TheVariants as fingerprint
use Rattle.rules.specs.Tests.{all, or_else, agree, agrees, Answer, Accepted, after, ask, first_no}
use Rattle.rules.specs.Values.{Scan, Hinting, Index, Lengths, complete, count, stated, is_checked, same_area, same_checkpoint, same_end}
use Rattle.rules.specs.Questions.{both, ask_four, four_of}
use Rattle.rules.specs.PartRule.{Stored, add_parts}
use Rattle.rules.specs.Hints.{unkept, joined_hints, keep_all}

-- 41: same area and interval?
unfoldable pub question41 : Index → Index → Bool
question41 own other = all (same_area own.scan.area other.scan.area ∷ eqb own.scan.interval other.scan.interval ∷ [])

-- 42: no differing image id or fingerprint?
unfoldable pub question42 : Index → Index → Bool
question42 own other =
    all (agree eqb own.image other.image ∷ agree eqb (stated own.fingerprint) (stated other.fingerprint) ∷ [])

-- 43: common checkpoints, all four fields, and, where both have them, end states equal?
unfoldable pub question43 : Index → Index → Bool
question43 own other =
    all (agrees same_checkpoint own.scan.checkpoints other.scan.checkpoints ∷ agree same_end own.scan.ending other.scan.ending ∷ [])

-- is the own list not complete and the other is, or has more checkpoints?
unfoldable pub further : Scan → Scan → Bool
further own other = not (complete own) && (complete other || ltb (count own) (count other))

-- with their parts: the own parts, then the other's for the checkpoints that are appended
abbrev pub merged_stored : Scan → Scan → Stored
merged_stored own other = add_parts own.budget other.frames (count own) other.parts (record { frames = own.frames; parts = own.parts })

-- appends the rest with their parts and takes its end state and malformed list
abbrev pub taken_scan : Scan → Scan → Scan
taken_scan own other =
    record {
      area = own.area;
      interval = own.interval;
      budget = own.budget;
      checkpoints = own.checkpoints ++ drop (count own) other.checkpoints;
      frames = (merged_stored own other).frames;
      parts = (merged_stored own other).parts;
      ending = other.ending;
      malformed = other.malformed;
    }

-- if the own list is not complete and the other is, or has more checkpoints; else the own one
unfoldable pub merged_scan : Scan → Scan → Scan
merged_scan own other = cond (further own other) (taken_scan own other) own

-- the other's fingerprint where none is held, and without its checked mark
unfoldable pub held_from : Option ℕ → Fingerprint
held_from None = Unknown
held_from (Some v) = fingerprint.Held v

unfoldable pub merged_fingerprint : Fingerprint → Fingerprint → Fingerprint
merged_fingerprint Unknown g = held_from (stated g)
merged_fingerprint (fingerprint.Held v) g = fingerprint.Held v
merged_fingerprint (Checked v) g = Checked v

-- hints and confirmations by their rules, without 13 and 14: question 4 of the other answers them; none of the other's kept marks is taken
abbrev pub merged_hinting : Area → Bool → Hinting → Hinting → Hinting
merged_hinting a checked own other =
    record {
      spacing = own.spacing;
      most = own.most;
      hints = joined_hints a own.most own.hints (unkept other.hints);
      confirmed = keep_all checked own.most own.confirmed other.confirmed;
    }

-- `merge` takes the other's image id and fingerprint where none is held,
-- adds its hints and confirmations by their rules, and the rest as above
unfoldable pub merged : Index → Index → Index
merged own other =
    record {
      scan = merged_scan own.scan other.scan;
      hinting = merged_hinting own.scan.area (is_checked own.fingerprint) own.hinting other.hinting;
      fingerprint = merged_fingerprint own.fingerprint other.fingerprint;
      image = or_else own.image other.image;
    }

-- 1 to 4 of both, then 41 to 43
unfoldable pub merge_number : Lengths → Index → Lengths → Index → ℕ
merge_number l own m other =
    first_no
    (ask_four (both (four_of l own) (four_of m other))
    (ask (question41 own other) 41 ∷ ask (question42 own other) 42 ∷ ask (question43 own other) 43 ∷ []))

-- the call: the own index afterwards
unfoldable pub merge : Lengths → Index → Lengths → Index → Answer Index
merge l own m other = after (merge_number l own m other) (Accepted (merged own other))
