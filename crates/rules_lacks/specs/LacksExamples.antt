-- Examples of what a list lacks, one for each kind of thing.
use Rattle.std.specs.Prelude.{ℕ, List, [], ◌∷◌, None}
use Rattle.rules.specs.declared.Fingerprint.TheVariants.{Unknown, Checked}
use Rattle.rules.specs.declared.Fingerprint.TheVariants as fingerprint
use Rattle.rules.specs.declared.Held.{Held}
use Rattle.rules.specs.File.{bit}
use Rattle.rules.specs.Tests.{number_of}
use Rattle.rules.specs.Values.{Frame, Index}
use Rattle.rules.specs.Load.{limited}
use Rattle.rules.specs.examples.Starred.{ample, area, hint_at, confirmed_at, checkpoint, three, closed, first, numbers_of, Example, example}
use Rattle.rules.specs.examples.Absorbs.{of_image}
use Rattle.rules.specs.examples.Hints.{hinting}
use Rattle.rules.specs.examples.Merges.{part_at, with_parts}
use Rattle.rules_lacks.specs.declared.Lacks.{Lacks}
use Rattle.rules_lacks.specs.Lacks.{holds_all, lacks}

-- ---- values
-- with_parts, with these frames, parts, malformed LSNs and hints
abbrev pub held_with : List Frame → List Held → List ℕ → Index
held_with fs ps ms =
    record {
      scan =
          record {
            area = area 1000 1250;
            interval = 100;
            budget = 100;
            checkpoints = with_parts.scan.checkpoints;
            frames = fs;
            parts = ps;
            ending = None;
            malformed = ms;
          };
      hinting = record { spacing = 8; most = 2048; hints = hint_at 1010 3 ∷ hint_at 1020 9 ∷ []; confirmed = [] };
      fingerprint = Unknown;
      image = None;
    }

abbrev pub bytes_from : List ℕ → List Frame
bytes_from bs = record { start = 1067; bytes = bs } ∷ []

-- with parts for the checkpoints 1 and 2, and two hints
abbrev pub whole : Index
whole = held_with (bytes_from (1 ∷ 2 ∷ 3 ∷ 4 ∷ [])) (part_at 1 3 ∷ part_at 2 4 ∷ []) []

-- the copy that loading with a limit of 0 leaves: the same checkpoints, and neither parts nor hints
abbrev pub copy : Index
copy = limited 0 whole

-- with one confirmation
abbrev pub confirmed_once : ℕ → ℕ → Index
confirmed_once t d = hinting (fingerprint.Held 77) 2048 [] (confirmed_at 10 t d ∷ [])

-- a list with one malformed LSN
abbrev pub malformed_at : ℕ → Index
malformed_at lsn =
    record {
      scan =
          record {
            area = area 1000 1250;
            interval = 100;
            budget = 100;
            checkpoints = checkpoint 0 0 0 ∷ checkpoint 0 0 1 ∷ [];
            frames = [];
            parts = [];
            ending = None;
            malformed = lsn ∷ [];
          };
      hinting = record { spacing = 8; most = 2048; hints = []; confirmed = [] };
      fingerprint = Unknown;
      image = None;
    }

-- ---- answers as numbers
-- checkpoints, ending, parts, malformed; hints, confirmed, fingerprint; image, budget, most
unfoldable pub lacks_numbers : Lacks → List ℕ
lacks_numbers l =
    l.checkpoints ∷ bit l.ending ∷ l.parts ∷ l.malformed ∷ l.hints ∷ l.confirmed ∷ bit l.fingerprint
    ∷ bit l.image ∷ bit l.budget ∷ bit l.most ∷ []

abbrev pub lacked : Index → Index → List ℕ
lacked own other = numbers_of lacks_numbers (lacks ample own ample other)

unfoldable pub held_numbers : Lacks → List ℕ
held_numbers l = bit (holds_all l) ∷ []

-- 1 where the own list holds all that the other holds
abbrev pub holds : Index → Index → List ℕ
holds own other = numbers_of held_numbers (lacks ample own ample other)

-- ---- the table
unfoldable pub lists : List Example
lists =
    -- the copy lacks two parts, two hints and room; the whole list lacks nothing of the copy, nor of itself
    example (lacked copy whole) (0 ∷ 0 ∷ 0 ∷ 2 ∷ 0 ∷ 2 ∷ 0 ∷ 0 ∷ 0 ∷ 1 ∷ 1 ∷ [])
    ∷ example (lacked whole copy) (0 ∷ 0 ∷ 0 ∷ 0 ∷ 0 ∷ 0 ∷ 0 ∷ 0 ∷ 0 ∷ 0 ∷ 0 ∷ [])
    ∷ example (lacked whole whole) (0 ∷ 0 ∷ 0 ∷ 0 ∷ 0 ∷ 0 ∷ 0 ∷ 0 ∷ 0 ∷ 0 ∷ 0 ∷ [])
    -- checkpoints, and the end state
    ∷ example (lacked first three) (0 ∷ 2 ∷ 0 ∷ 0 ∷ 0 ∷ 0 ∷ 0 ∷ 0 ∷ 0 ∷ 0 ∷ 0 ∷ [])
    ∷ example (lacked three (closed three)) (0 ∷ 0 ∷ 1 ∷ 0 ∷ 0 ∷ 0 ∷ 0 ∷ 0 ∷ 0 ∷ 0 ∷ 0 ∷ [])
    ∷ example (lacked (closed three) first) (0 ∷ 0 ∷ 0 ∷ 0 ∷ 0 ∷ 0 ∷ 0 ∷ 0 ∷ 0 ∷ 0 ∷ 0 ∷ [])
    -- a part for a checkpoint that both have: with another byte, or with fewer; not with a longer frame behind its bytes
    ∷ example
    (lacked (held_with (bytes_from (1 ∷ 2 ∷ 9 ∷ 4 ∷ [])) (part_at 1 3 ∷ []) [])
    (held_with (bytes_from (1 ∷ 2 ∷ 3 ∷ [])) (part_at 1 3 ∷ []) [])) (0 ∷ 0 ∷ 0 ∷ 1 ∷ 0 ∷ 0 ∷ 0 ∷ 0 ∷ 0 ∷ 0 ∷ 0 ∷ [])
    ∷ example
    (lacked (held_with (bytes_from (1 ∷ 2 ∷ 3 ∷ [])) (part_at 1 2 ∷ []) [])
    (held_with (bytes_from (1 ∷ 2 ∷ 3 ∷ [])) (part_at 1 3 ∷ []) [])) (0 ∷ 0 ∷ 0 ∷ 1 ∷ 0 ∷ 0 ∷ 0 ∷ 0 ∷ 0 ∷ 0 ∷ 0 ∷ [])
    ∷ example (lacked whole (held_with (bytes_from (1 ∷ 2 ∷ 3 ∷ [])) (part_at 1 3 ∷ []) []))
    (0 ∷ 0 ∷ 0 ∷ 0 ∷ 0 ∷ 0 ∷ 0 ∷ 0 ∷ 0 ∷ 0 ∷ 0 ∷ [])
    -- a malformed LSN
    ∷ example (lacked (malformed_at 1050) (malformed_at 1060)) (0 ∷ 0 ∷ 0 ∷ 0 ∷ 1 ∷ 0 ∷ 0 ∷ 0 ∷ 0 ∷ 0 ∷ 0 ∷ [])
    -- a hint at the same LSN with another number
    ∷ example (lacked (hinting Unknown 2048 (hint_at 10 5 ∷ []) []) (hinting Unknown 2048 (hint_at 10 6 ∷ []) []))
    (0 ∷ 0 ∷ 0 ∷ 0 ∷ 0 ∷ 1 ∷ 0 ∷ 0 ∷ 0 ∷ 0 ∷ 0 ∷ [])
    -- a confirmation, though the fingerprint is unchecked and no merge would take it
    ∷ example (lacked (hinting (fingerprint.Held 77) 2048 (hint_at 10 5 ∷ hint_at 20 8 ∷ []) [])
    (hinting (fingerprint.Held 77) 2048 (hint_at 10 5 ∷ hint_at 20 8 ∷ []) (confirmed_at 10 4 1 ∷ []))) (0 ∷ 0 ∷ 0 ∷ 0
    ∷ 0 ∷ 0 ∷ 1 ∷ 0 ∷ 0 ∷ 0 ∷ 0 ∷ [])
    -- a lower threshold is lacking, a higher one not; another digest is
    ∷ example (lacked (confirmed_once 5 1) (confirmed_once 4 1)) (0 ∷ 0 ∷ 0 ∷ 0 ∷ 0 ∷ 0 ∷ 1 ∷ 0 ∷ 0 ∷ 0 ∷ 0 ∷ [])
    ∷ example (lacked (confirmed_once 4 1) (confirmed_once 5 1)) (0 ∷ 0 ∷ 0 ∷ 0 ∷ 0 ∷ 0 ∷ 0 ∷ 0 ∷ 0 ∷ 0 ∷ 0 ∷ [])
    ∷ example (lacked (confirmed_once 4 1) (confirmed_once 4 2)) (0 ∷ 0 ∷ 0 ∷ 0 ∷ 0 ∷ 0 ∷ 1 ∷ 0 ∷ 0 ∷ 0 ∷ 0 ∷ [])
    -- a fingerprint that is not stated; the checked mark is no matter
    ∷ example (lacked (hinting Unknown 2048 [] []) (hinting (fingerprint.Held 77) 2048 [] []))
    (0 ∷ 0 ∷ 0 ∷ 0 ∷ 0 ∷ 0 ∷ 0 ∷ 1 ∷ 0 ∷ 0 ∷ 0 ∷ [])
    ∷ example (lacked (hinting (fingerprint.Held 77) 2048 [] []) (hinting (Checked 77) 2048 [] []))
    (0 ∷ 0 ∷ 0 ∷ 0 ∷ 0 ∷ 0 ∷ 0 ∷ 0 ∷ 0 ∷ 0 ∷ 0 ∷ [])
    -- the image id; room
    ∷ example (lacked first (of_image 5 first)) (0 ∷ 0 ∷ 0 ∷ 0 ∷ 0 ∷ 0 ∷ 0 ∷ 0 ∷ 1 ∷ 0 ∷ 0 ∷ [])
    ∷ example (lacked (hinting Unknown 4 [] []) (hinting Unknown 5 [] []))
    (0 ∷ 0 ∷ 0 ∷ 0 ∷ 0 ∷ 0 ∷ 0 ∷ 0 ∷ 0 ∷ 0 ∷ 1 ∷ [])
    -- image ids keep no order through a list without one: 42
    ∷ example
    (number_of (lacks ample (of_image 5 first) ample first) ∷ number_of (lacks ample first ample (of_image 6 first))
    ∷ number_of (lacks ample (of_image 5 first) ample (of_image 6 first)) ∷ [])
    (0 ∷ 0 ∷ 42 ∷ [])
    -- nothing but image id and room is lacking, or more
    ∷ example (holds whole copy) (0 ∷ 1 ∷ [])
    ∷ example (holds first (of_image 5 first)) (0 ∷ 1 ∷ [])
    ∷ example (holds (hinting Unknown 4 [] []) (hinting Unknown 5 [] [])) (0 ∷ 1 ∷ [])
    ∷ example (holds copy whole) (0 ∷ 0 ∷ [])
    ∷ []
