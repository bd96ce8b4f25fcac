-- Examples of change request 7: the rules that plan and hint name.
use Rattle.std.specs.Prelude.{ℕ, List, [], ◌∷◌, ◌++◌, pos, Option, None, Some}
use Rattle.rules.specs.declared.Confirmation.{Confirmation}
use Rattle.rules.specs.declared.Fingerprint.{Fingerprint}
use Rattle.rules.specs.declared.Fingerprint.TheVariants.{Unknown, Checked}
use Rattle.rules.specs.declared.Fingerprint.TheVariants as fingerprint
use Rattle.rules.specs.declared.FrameKind.TheVariants.{Dst}
use Rattle.rules.specs.declared.Hint.{Hint}
use Rattle.rules.specs.declared.Plan.{Plan}
use Rattle.rules.specs.Values.{Index, Lengths}
use Rattle.rules.specs.Plan.{plan}
use Rattle.rules.specs.examples.Starred.{ample, short, area, hint_at, confirmed_at, checkpoint, index_of, three, holding, closed}
use Rattle.rules.specs.examples.Starred.{hinted_numbers, plan_numbers, numbers_of, Example, example}
use Rattle.rules.specs.examples.Hints.{hinting}
use Rattle.rules_jump.specs.Names.{plan_rule, plan_rule_number, start_rule_number, end_rule_number, NamedHint, named_hint}

-- ---- values
-- the list whose checkpoint 1 has a part, of no bytes
abbrev pub empty_part : Index
empty_part =
    record {
      scan =
          record {
            area = area 1000 1250;
            interval = 100;
            budget = 0;
            checkpoints = checkpoint 0 0 0 ∷ checkpoint 0 33 0 ∷ [];
            frames = record { start = 1067; bytes = [] } ∷ [];
            parts = record { at = 1; frame = 0; len = 0; number = 5; kind = Dst; remaining = pos 0 } ∷ [];
            ending = None;
            malformed = [];
          };
      hinting = record { spacing = 8; most = 2048; hints = []; confirmed = [] };
      fingerprint = Unknown;
      image = None;
    }

-- ---- answers as numbers
-- plan's answer, then its rule
unfoldable pub ruled_numbers : Plan → List ℕ
ruled_numbers p = plan_numbers p ++ plan_rule_number (plan_rule p) ∷ []

abbrev pub planning : Lengths → Index → ℕ → List ℕ
planning l x t = numbers_of ruled_numbers (plan l x t)

-- hint's answer, how it was chosen and where its upper end came from
unfoldable pub named_numbers : Option NamedHint → List ℕ
named_numbers None = []
named_numbers (Some h) = hinted_numbers (Some h.hinted) ++ start_rule_number h.start ∷ end_rule_number h.end ∷ []

-- for frames 45 to 75 at a playtime of 500, 2 sectors for a frame on average, with an unknown fingerprint
abbrev pub naming : List Hint → List ℕ
naming hs = numbers_of named_numbers (named_hint ample (hinting Unknown 2048 hs []) 45 75 500)

-- (100, 30) and (160, 40), with a fingerprint and a confirmation
abbrev pub confirming : Fingerprint → Confirmation → List ℕ
confirming f c =
    numbers_of named_numbers (named_hint ample (hinting f 2048 (hint_at 100 30 ∷ hint_at 160 40 ∷ []) (c ∷ [])) 45 75 500)

-- ---- the tables
-- "area start, checkpoint, checkpoint with held part, or end state"
unfoldable pub plans : List Example
plans =
    -- no checkpoint at or before the frame
    example (planning ample (index_of (area 1000 1250) 100 (checkpoint 5 0 0 ∷ []) None Unknown 2048 [] []) 4)
    (0 ∷ 0 ∷ 1 ∷ [])
    -- checkpoint 0 lies at the area's start
    ∷ example (planning ample (index_of (area 1000 1250) 100 (checkpoint 5 0 0 ∷ []) None Unknown 2048 [] []) 5)
    (0 ∷ 1 ∷ 0 ∷ 2 ∷ [])
    ∷ example (planning ample three 75) (0 ∷ 1 ∷ 2 ∷ 2 ∷ [])
    ∷ example (planning ample (holding 33) 75) (0 ∷ 1 ∷ 1 ∷ 3 ∷ [])
    -- a part of 0 bytes is held
    ∷ example (planning ample empty_part 75) (0 ∷ 1 ∷ 1 ∷ 3 ∷ [])
    -- at or past the end threshold, and the last checkpoint's
    ∷ example (planning ample (closed three) 79) (0 ∷ 1 ∷ 2 ∷ 2 ∷ [])
    ∷ example (planning ample (closed three) 80) (0 ∷ 2 ∷ 4 ∷ [])
    -- a refused plan names nothing
    ∷ example (planning short three 75) (3 ∷ []) ∷ []

-- "confirmed or nearest, and whether its upper end came from a later hint, from local spacing or from the area's
-- average"
unfoldable pub named_hints : List Example
named_hints =
    -- "the first listed here of equal ones it compares": equal densities
    example (naming (hint_at 100 10 ∷ hint_at 160 40 ∷ [])) (0 ∷ 160 ∷ 40 ∷ 251 ∷ 0 ∷ 2 ∷ 2 ∷ [])
    ∷ example (naming (hint_at 100 10 ∷ hint_at 159 40 ∷ [])) (0 ∷ 159 ∷ 40 ∷ 250 ∷ 0 ∷ 2 ∷ 3 ∷ [])
    ∷ example (naming (hint_at 100 10 ∷ hint_at 200 40 ∷ [])) (0 ∷ 200 ∷ 40 ∷ 349 ∷ 0 ∷ 2 ∷ 2 ∷ [])
    -- "an upper end at the area's end is named so instead": by a later hint, and by the average
    ∷ example (naming (hint_at 100 10 ∷ hint_at 160 40 ∷ hint_at 999 80 ∷ [])) (0 ∷ 160 ∷ 40 ∷ 1000 ∷ 1 ∷ 2 ∷ 4 ∷ [])
    ∷ example (naming (hint_at 100 10 ∷ hint_at 160 40 ∷ hint_at 998 80 ∷ [])) (0 ∷ 160 ∷ 40 ∷ 999 ∷ 1 ∷ 2 ∷ 1 ∷ [])
    ∷ example (numbers_of named_numbers (named_hint ample (hinting Unknown 2048 (hint_at 160 40 ∷ []) []) 45 709 1000))
    (0 ∷ 160 ∷ 40 ∷ 1000 ∷ 0 ∷ 2 ∷ 4 ∷ [])
    -- not above it: a saturated one is named by its density
    ∷ example
    (numbers_of named_numbers
    (named_hint ample (index_of (area 0 4294967295) 65536 [] None Unknown 2048 (hint_at 200 40 ∷ []) []) 45 4294967295 0))
    (0 ∷ 200 ∷ 40 ∷ 18446744073709551615 ∷ 0 ∷ 2 ∷ 3 ∷ [])
    -- confirmed, where it is not the nearest, and where it is
    ∷ example (confirming (Checked 9) (confirmed_at 100 45 1)) (0 ∷ 100 ∷ 30 ∷ 426 ∷ 0 ∷ 1 ∷ 2 ∷ [])
    ∷ example (confirming (Checked 9) (confirmed_at 160 45 1)) (0 ∷ 160 ∷ 40 ∷ 426 ∷ 0 ∷ 1 ∷ 2 ∷ [])
    ∷ example (confirming (Checked 9) (confirmed_at 160 46 1)) (0 ∷ 160 ∷ 40 ∷ 426 ∷ 0 ∷ 2 ∷ 2 ∷ [])
    ∷ example (confirming (fingerprint.Held 9) (confirmed_at 160 45 1)) (0 ∷ 160 ∷ 40 ∷ 426 ∷ 0 ∷ 2 ∷ 2 ∷ [])
    -- no hint near, and 16
    ∷ example (naming (hint_at 100 45 ∷ [])) (0 ∷ [])
    ∷ example (numbers_of named_numbers (named_hint ample (hinting Unknown 2048 [] []) 45 44 500)) (16 ∷ []) ∷ []
