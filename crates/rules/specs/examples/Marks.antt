-- Examples of change request 11: hints with a kept mark.
use Rattle.std.specs.Prelude.{ℕ, List, [], ◌∷◌, set, Option, None, Some}
use Rattle.rules.specs.declared.Fingerprint.TheVariants.{Unknown, Checked}
use Rattle.rules.specs.declared.Hint.{Hint}
use Rattle.rules.specs.Tests.{Answer, number_of}
use Rattle.rules.specs.Values.{Index}
use Rattle.rules.specs.Create.{bind_fingerprint}
use Rattle.rules.specs.Record.{absorb}
use Rattle.rules.specs.Hints.{thin, add_hints, keep_hint, keep_confirmation, hint}
use Rattle.rules.specs.Merge.{merge}
use Rattle.rules.specs.File.{saved, save}
use Rattle.rules.specs.Load.{load, limited}
use Rattle.rules.specs.examples.Starred.{ample, short, area, hint_at, confirmed_at, checkpoint, index_of, version2, hinted_numbers, numbers_of, Example, example}
use Rattle.rules.specs.examples.Absorbs.{from1}
use Rattle.rules.specs.examples.Hints.{hinting}
use Rattle.rules.specs.examples.Versions.{changed}

-- ---- values
abbrev pub marked_with : ℕ → ℕ → ℕ → Hint
marked_with m l t = record { lsn = l; number = t; mark = m }

-- a kept hint
abbrev pub kept_at : ℕ → ℕ → Hint
kept_at l t = marked_with 1 l t

-- a list of 0..1000 under M with these hints
abbrev pub under : ℕ → List Hint → Index
under most hs = hinting Unknown most hs []

-- three hints; the last has the smallest gap
abbrev pub plain3 : List Hint
plain3 = hint_at 10 0 ∷ hint_at 20 10 ∷ hint_at 30 11 ∷ []

-- and is kept
abbrev pub kept3 : List Hint
kept3 = hint_at 10 0 ∷ hint_at 20 10 ∷ kept_at 30 11 ∷ []

-- ---- answers as numbers
-- LSN, frame number and mark of each
unfoldable pub mark_numbers : List Hint → List ℕ
mark_numbers [] = []
mark_numbers (h ∷ hs) = h.lsn ∷ h.number ∷ h.mark ∷ mark_numbers hs

unfoldable pub maybe_marks : Option Index → List ℕ
maybe_marks None = []
maybe_marks (Some x) = mark_numbers x.hinting.hints

abbrev pub marks_after : Answer Index → List ℕ
marks_after a = numbers_of (λ x. mark_numbers x.hinting.hints) a

-- the hints after keep_hint, and its refusal number
abbrev pub marking : Index → ℕ → List ℕ
marking x lsn = marks_after (keep_hint ample x lsn)

abbrev pub marking_number : Index → ℕ → ℕ
marking_number x lsn = number_of (keep_hint ample x lsn)

-- the answer to saving: 4 where the marks are not admitted
abbrev pub asked4 : ℕ → List Hint → ℕ
asked4 most hs = number_of (save ample (under most hs) 200)

-- ---- the tables
unfoldable pub marks : List Example
marks =
    -- keep_hint sets the mark, and nothing else
    example (marking (under 4 plain3) 30) (0 ∷ 10 ∷ 0 ∷ 0 ∷ 20 ∷ 10 ∷ 0 ∷ 30 ∷ 11 ∷ 1 ∷ [])
    -- "53 when no hint has that LSN": beside the held ones, outside the area, and a held one + 2^32
    ∷ example (marking_number (under 4 plain3) 31 ∷ marking_number (under 4 plain3) 5000 ∷ marking_number (under 4 plain3) 4294967326 ∷ []) (53 ∷ 53 ∷ 53 ∷ [])
    -- "or it is not yet kept and the quarter is used up": M = 4 and 7 keep one, 8 two
    ∷ example (marking_number (under 4 kept3) 10 ∷ marking_number (under 7 kept3) 10 ∷ marking_number (under 8 kept3) 10 ∷ []) (53 ∷ 53 ∷ 0 ∷ [])
    ∷ example (marking_number (under 8 (kept_at 10 0 ∷ hint_at 20 10 ∷ kept_at 30 11 ∷ [])) 20 ∷ []) (53 ∷ [])
    -- M below 4: none can be kept; M = 0 has no hint
    ∷ example (marking_number (under 3 plain3) 30 ∷ marking_number (under 0 []) 30 ∷ []) (53 ∷ 53 ∷ [])
    -- "Marking a kept hint again changes nothing", also when the quarter is used up
    ∷ example (marking (under 4 kept3) 30) (0 ∷ 10 ∷ 0 ∷ 0 ∷ 20 ∷ 10 ∷ 0 ∷ 30 ∷ 11 ∷ 1 ∷ [])
    -- "asked after 4": of a mark of 2 at another hint; and after 3
    ∷ example (marking_number (under 4 (marked_with 2 10 0 ∷ [])) 31 ∷ number_of (keep_hint short (under 4 plain3) 31) ∷ []) (4 ∷ 3 ∷ [])
    -- "question 4 checks this too": at most M/4, and a mark is 0 or 1
    ∷ example (asked4 3 plain3 ∷ asked4 3 kept3 ∷ asked4 4 kept3 ∷ []) (0 ∷ 4 ∷ 0 ∷ [])
    ∷ example (asked4 7 (kept_at 10 0 ∷ kept_at 20 10 ∷ []) ∷ asked4 8 (kept_at 10 0 ∷ kept_at 20 10 ∷ []) ∷ asked4 8 (kept_at 10 0 ∷ kept_at 20 10 ∷ kept_at 30 20 ∷ []) ∷ []) (4 ∷ 0 ∷ 4 ∷ [])
    ∷ example (asked4 8 (marked_with 2 10 0 ∷ []) ∷ asked4 8 (marked_with 255 10 0 ∷ []) ∷ []) (4 ∷ 4 ∷ [])
    -- a number of LIM under a mark
    ∷ example (asked4 8 (kept_at 10 1166880 ∷ []) ∷ asked4 8 (kept_at 10 1166881 ∷ []) ∷ []) (0 ∷ 4 ∷ [])
    -- of merge's other list too
    ∷ example (number_of (merge ample (under 8 plain3) ample (under 8 (marked_with 2 10 0 ∷ []))) ∷ number_of (merge ample (under 8 plain3) ample (under 3 kept3)) ∷ []) (4 ∷ 4 ∷ []) ∷ []

unfoldable pub marked_thinning : List Example
marked_thinning =
    -- "Thinning passes over kept hints": of the others the smallest pairs go
    example (mark_numbers (thin 2 plain3)) (10 ∷ 0 ∷ 0 ∷ 20 ∷ 10 ∷ 0 ∷ [])
    ∷ example (mark_numbers (thin 2 kept3)) (10 ∷ 0 ∷ 0 ∷ 30 ∷ 11 ∷ 1 ∷ [])
    ∷ example (mark_numbers (thin 1 kept3)) (30 ∷ 11 ∷ 1 ∷ [])
    -- a gap is measured from the neighbour, kept or not: 12 goes, 2 above the kept 10, and 21 stays
    ∷ example (mark_numbers (thin 3 (hint_at 10 0 ∷ kept_at 20 10 ∷ hint_at 30 12 ∷ hint_at 40 21 ∷ []))) (10 ∷ 0 ∷ 0 ∷ 20 ∷ 10 ∷ 1 ∷ 40 ∷ 21 ∷ 0 ∷ [])
    -- numbers that do not rise have a gap below that of a kept hint
    ∷ example (mark_numbers (thin 1 (kept_at 10 50 ∷ hint_at 20 8 ∷ hint_at 30 8 ∷ []))) (10 ∷ 50 ∷ 1 ∷ [])
    -- of kept ones alone the first goes first: question 4 keeps that away
    ∷ example (mark_numbers (thin 1 (kept_at 10 0 ∷ kept_at 20 10 ∷ []))) (20 ∷ 10 ∷ 1 ∷ [])
    -- add_hints above M: 5 become 3, and the kept one stays
    ∷ example (marks_after (add_hints ample (under 4 kept3) (hint_at 40 21 ∷ hint_at 50 31 ∷ []))) (0 ∷ 10 ∷ 0 ∷ 0 ∷ 30 ∷ 11 ∷ 1 ∷ 50 ∷ 31 ∷ 0 ∷ [])
    ∷ example (marks_after (add_hints ample (under 4 plain3) (hint_at 40 21 ∷ hint_at 50 31 ∷ []))) (0 ∷ 10 ∷ 0 ∷ 0 ∷ 40 ∷ 21 ∷ 0 ∷ 50 ∷ 31 ∷ 0 ∷ [])
    -- merge above M
    ∷ example (marks_after (merge ample (under 4 kept3) ample (under 8 (hint_at 40 21 ∷ hint_at 50 31 ∷ [])))) (0 ∷ 10 ∷ 0 ∷ 0 ∷ 30 ∷ 11 ∷ 1 ∷ 50 ∷ 31 ∷ 0 ∷ [])
    -- "An arriving hint at the same LSN retains the mark", under the number that arrives; also when all arrive again
    ∷ example (marks_after (add_hints ample (under 4 kept3) (hint_at 30 12 ∷ hint_at 30 13 ∷ []))) (0 ∷ 10 ∷ 0 ∷ 0 ∷ 20 ∷ 10 ∷ 0 ∷ 30 ∷ 13 ∷ 1 ∷ [])
    ∷ example (marks_after (add_hints ample (under 4 kept3) (hint_at 10 1 ∷ hint_at 20 2 ∷ hint_at 30 3 ∷ []))) (0 ∷ 10 ∷ 1 ∷ 0 ∷ 20 ∷ 2 ∷ 0 ∷ 30 ∷ 3 ∷ 1 ∷ [])
    -- a refused list changes no mark
    ∷ example (marks_after (add_hints ample (under 4 kept3) (hint_at 30 16777227 ∷ []))) (13 ∷ [])
    -- "Merging retains the own list's marks and takes none from the other": at one LSN and at another
    ∷ example (marks_after (merge ample (under 8 kept3) ample (under 8 (kept_at 30 12 ∷ kept_at 40 21 ∷ [])))) (0 ∷ 10 ∷ 0 ∷ 0 ∷ 20 ∷ 10 ∷ 0 ∷ 30 ∷ 12 ∷ 1 ∷ 40 ∷ 21 ∷ 0 ∷ [])
    ∷ example (marks_after (merge ample (under 8 plain3) ample (under 8 (kept_at 20 12 ∷ kept_at 30 21 ∷ [])))) (0 ∷ 10 ∷ 0 ∷ 0 ∷ 20 ∷ 12 ∷ 0 ∷ 30 ∷ 21 ∷ 0 ∷ []) ∷ []

unfoldable pub marked_files : List Example
marked_files =
    -- "like the checked mark, not saved": the bytes are those of the list without it, and loading gives none
    example (saved (under 4 kept3)) (saved (under 4 plain3))
    ∷ example (marks_after (load ample (area 0 1000) (saved (under 4 kept3)) 32768)) (0 ∷ 10 ∷ 0 ∷ 0 ∷ 20 ∷ 10 ∷ 0 ∷ 30 ∷ 11 ∷ 0 ∷ [])
    -- a load limit thins a list without marks: under M = 2 the hint that was kept goes
    ∷ example (mark_numbers (limited 16 (under 4 kept3)).hinting.hints) (10 ∷ 0 ∷ 0 ∷ 20 ∷ 10 ∷ 0 ∷ [])
    -- a file has four bytes of a number: with the last one 1 it is 16,777,226
    ∷ example (changed version2 (λ b. set b 111 1) ∷ []) (36 ∷ [])
    -- a fingerprint, a confirmation and an absorbed recorder leave the marks
    ∷ example (marks_after (bind_fingerprint ample (under 4 kept3) 9)) (0 ∷ 10 ∷ 0 ∷ 0 ∷ 20 ∷ 10 ∷ 0 ∷ 30 ∷ 11 ∷ 1 ∷ [])
    ∷ example (numbers_of maybe_marks (keep_confirmation ample (hinting (Checked 9) 4 kept3 []) (confirmed_at 10 5 1))) (0 ∷ 10 ∷ 0 ∷ 0 ∷ 20 ∷ 10 ∷ 0 ∷ 30 ∷ 11 ∷ 1 ∷ [])
    ∷ example (mark_numbers (absorb ample (index_of (area 1000 1250) 100 (checkpoint 0 0 0 ∷ []) None Unknown 4 (kept_at 1010 0 ∷ []) []) ample (from1 (checkpoint 0 0 0 ∷ [])) None []).index.hinting.hints)
    (1010 ∷ 0 ∷ 1 ∷ [])
    -- and hint answers as without them
    ∷ example (numbers_of hinted_numbers (hint ample (under 4 kept3) 20 40 500)) (numbers_of hinted_numbers (hint ample (under 4 plain3) 20 40 500)) ∷ []
