-- Examples of the fingerprint entry, add_hints, keep_confirmation and hint.
use Rattle.std.specs.Prelude.{ℕ, List, [], ◌∷◌, None}
use Rattle.rules.specs.declared.Confirmation.{Confirmation}
use Rattle.rules.specs.declared.Fingerprint.{Fingerprint}
use Rattle.rules.specs.declared.Fingerprint.TheVariants.{Unknown, Checked}
use Rattle.rules.specs.declared.Fingerprint.TheVariants as fingerprint
use Rattle.rules.specs.declared.Hint.{Hint}
use Rattle.rules.specs.Values.{Index}
use Rattle.rules.specs.Create.{bind_fingerprint}
use Rattle.rules.specs.Hints.{thin, add_hints, keep_confirmation, hint}
use Rattle.rules.specs.examples.Starred.{ample, area, hint_at, confirmed_at, index_of, hint_numbers, kept_numbers, hinted_numbers, numbers_of, Example, example}

-- ---- values
-- an index of 0..1000 without checkpoints
abbrev pub hinting : Fingerprint → ℕ → List Hint → List Confirmation → Index
hinting f most hs qs = index_of (area 0 1000) 100 [] None f most hs qs

-- with a checked fingerprint, under M, confirmed at LSN 10 with threshold 5 and digest 1
abbrev pub confirming : ℕ → Index
confirming most = hinting (Checked 9) most [] (confirmed_at 10 5 1 ∷ [])

-- under an M of 4, with three hints
abbrev pub three4 : Index
three4 = hinting Unknown 4 (hint_at 10 0 ∷ hint_at 20 10 ∷ hint_at 30 20 ∷ []) []

-- ---- answers as numbers
-- 0 where it is unknown; 1 where it is held and 2 where it is checked, with its value
unfoldable pub fingerprint_numbers : Fingerprint → List ℕ
fingerprint_numbers Unknown = 0 ∷ []
fingerprint_numbers (fingerprint.Held v) = 1 ∷ v ∷ []
fingerprint_numbers (Checked v) = 2 ∷ v ∷ []

-- what the entry leaves of a fingerprint
abbrev pub stating : Fingerprint → ℕ → List ℕ
stating f v = numbers_of (λ x. fingerprint_numbers x.fingerprint) (bind_fingerprint ample (hinting f 2048 [] []) v)

-- the hints after add_hints
abbrev pub added : Index → List Hint → List ℕ
added x list = numbers_of (λ y. hint_numbers y.hinting.hints) (add_hints ample x list)

-- the confirmations after keep_confirmation
abbrev pub keeping : Index → Confirmation → List ℕ
keeping x c = numbers_of kept_numbers (keep_confirmation ample x c)

-- hint for frames first to end, with an unknown fingerprint and a playtime of 500: 2 sectors for a frame on average
abbrev pub hinted : List Hint → ℕ → ℕ → List ℕ
hinted hs first end = numbers_of hinted_numbers (hint ample (hinting Unknown 2048 hs []) first end 500)

-- for frames 45 to 75, with a fingerprint and confirmations
abbrev pub hinted_in : Fingerprint → List Confirmation → List ℕ
hinted_in f qs = numbers_of hinted_numbers (hint ample (hinting f 2048 (hint_at 100 10 ∷ hint_at 200 40 ∷ []) qs) 45 75 500)

-- ---- the tables
unfoldable pub fingerprints : List Example
fingerprints =
    -- "it stores the fingerprint if none is held and sets the checked mark"
    example (stating Unknown 9) (0 ∷ 2 ∷ 9 ∷ [])
    ∷ example (stating (fingerprint.Held 9) 9) (0 ∷ 2 ∷ 9 ∷ [])
    ∷ example (stating (Checked 9) 9) (0 ∷ 2 ∷ 9 ∷ [])
    -- 15: "the held one, if any?"; 0 is a fingerprint too
    ∷ example (stating (fingerprint.Held 9) 8) (15 ∷ [])
    ∷ example (stating (Checked 9) 8) (15 ∷ [])
    ∷ example (stating (fingerprint.Held 0) 1) (15 ∷ []) ∷ []

unfoldable pub additions : List Example
additions =
    -- "sorts by LSN"; change request 5: "Of two hints at one LSN the one that arrives stays, and within one list the later pair"
    example (added (hinting Unknown 2048 (hint_at 100 10 ∷ []) []) (hint_at 100 11 ∷ hint_at 50 3 ∷ hint_at 50 4 ∷ [])) (0 ∷ 50 ∷ 4 ∷ 100 ∷ 11 ∷ [])
    -- the same list again changes nothing
    ∷ example (added (hinting Unknown 2048 (hint_at 50 4 ∷ hint_at 100 11 ∷ []) []) (hint_at 100 11 ∷ hint_at 50 3 ∷ hint_at 50 4 ∷ [])) (0 ∷ 50 ∷ 4 ∷ 100 ∷ 11 ∷ [])
    -- three at one LSN in one list
    ∷ example (added (hinting Unknown 2048 [] []) (hint_at 70 1 ∷ hint_at 70 9 ∷ hint_at 70 5 ∷ [])) (0 ∷ 70 ∷ 5 ∷ [])
    -- a replaced number is thinned by its own gap: 12 and 23 go, where 21 and 23 went
    ∷ example (added three4 (hint_at 30 12 ∷ hint_at 40 21 ∷ hint_at 50 23 ∷ [])) (0 ∷ 10 ∷ 0 ∷ 20 ∷ 10 ∷ 40 ∷ 21 ∷ [])
    -- and changes its neighbour's: 20 goes, and 19 as the first of the next smallest
    ∷ example (added three4 (hint_at 20 19 ∷ hint_at 40 39 ∷ hint_at 50 58 ∷ [])) (0 ∷ 10 ∷ 0 ∷ 40 ∷ 39 ∷ 50 ∷ 58 ∷ [])
    -- M = 1: replaced, then thinned
    ∷ example (added (hinting Unknown 1 (hint_at 100 10 ∷ []) []) (hint_at 100 11 ∷ hint_at 200 12 ∷ [])) (0 ∷ 100 ∷ 11 ∷ [])
    -- a refused list replaces nothing
    ∷ example (added (hinting Unknown 2048 (hint_at 100 10 ∷ []) []) (hint_at 100 1166881 ∷ [])) (13 ∷ [])
    -- "add_hints drops LSNs outside the area"
    ∷ example
    (added (index_of (area 100 1000) 100 [] None Unknown 2048 [] []) (hint_at 1000 4 ∷ hint_at 999 3 ∷ hint_at 100 2 ∷ hint_at 99 1 ∷ []))
    (0 ∷ 100 ∷ 2 ∷ 999 ∷ 3 ∷ [])
    -- "above the limit M thins to M − M/4": 4 stay 4, 5 become 3
    ∷ example (added three4 (hint_at 40 21 ∷ [])) (0 ∷ 10 ∷ 0 ∷ 20 ∷ 10 ∷ 30 ∷ 20 ∷ 40 ∷ 21 ∷ [])
    ∷ example (added three4 (hint_at 40 21 ∷ hint_at 50 23 ∷ [])) (0 ∷ 10 ∷ 0 ∷ 20 ∷ 10 ∷ 30 ∷ 20 ∷ [])
    -- "rounded down in the division": M = 3 thins to 3
    ∷ example (added (hinting Unknown 3 [] []) (hint_at 10 0 ∷ hint_at 20 10 ∷ hint_at 30 20 ∷ hint_at 40 21 ∷ [])) (0 ∷ 10 ∷ 0 ∷ 20 ∷ 10 ∷ 30 ∷ 20 ∷ [])
    -- "Mistakes that tempt: measuring gaps anew while thinning": 12 and 21 go, though 21 is 11 above 10
    ∷ example (hint_numbers (thin 2 (hint_at 10 0 ∷ hint_at 20 10 ∷ hint_at 30 12 ∷ hint_at 40 21 ∷ []))) (10 ∷ 0 ∷ 20 ∷ 10 ∷ [])
    -- "At M = 0 nothing is kept"; 13 is asked all the same
    ∷ example (added (hinting Unknown 0 [] []) (hint_at 100 11 ∷ [])) (0 ∷ [])
    ∷ example (added (hinting Unknown 0 [] []) (hint_at 100 1166881 ∷ [])) (13 ∷ [])
    -- 13: "at most 65,536, each number < LIM?", of those outside the area too
    ∷ example (added (hinting Unknown 2048 [] []) (hint_at 100 1166880 ∷ [])) (0 ∷ 100 ∷ 1166880 ∷ [])
    ∷ example (added (hinting Unknown 2048 [] []) (hint_at 100 1166881 ∷ [])) (13 ∷ [])
    ∷ example (added (hinting Unknown 2048 [] []) (hint_at 1000 1166881 ∷ [])) (13 ∷ []) ∷ []

unfoldable pub confirmations : List Example
confirmations =
    -- "Same digest: the lower threshold stays"
    example (keeping (confirming 2) (confirmed_at 10 3 1)) (0 ∷ 1 ∷ 10 ∷ 3 ∷ 1 ∷ [])
    ∷ example (keeping (confirming 2) (confirmed_at 10 7 1)) (0 ∷ 1 ∷ 10 ∷ 5 ∷ 1 ∷ [])
    -- "Other digest: replaced"
    ∷ example (keeping (confirming 2) (confirmed_at 10 7 2)) (0 ∷ 1 ∷ 10 ∷ 7 ∷ 2 ∷ [])
    -- "Above M the lowest LSN goes"
    ∷ example (keeping (confirming 2) (confirmed_at 15 7 2)) (0 ∷ 1 ∷ 10 ∷ 5 ∷ 1 ∷ 15 ∷ 7 ∷ 2 ∷ [])
    ∷ example (keeping (confirming 1) (confirmed_at 15 7 2)) (0 ∷ 1 ∷ 15 ∷ 7 ∷ 2 ∷ [])
    -- "Nothing is kept, and that is the answer, while the fingerprint is unchecked or M is 0"
    ∷ example (keeping (hinting (fingerprint.Held 9) 2 [] []) (confirmed_at 10 5 1)) (0 ∷ 0 ∷ [])
    ∷ example (keeping (hinting Unknown 2 [] []) (confirmed_at 10 5 1)) (0 ∷ 0 ∷ [])
    ∷ example (keeping (hinting (Checked 9) 0 [] []) (confirmed_at 10 5 1)) (0 ∷ 0 ∷ [])
    -- 14: "LSN in the area, threshold < LIM?", asked before that answer
    ∷ example (keeping (hinting Unknown 2 [] []) (confirmed_at 1000 5 1)) (14 ∷ [])
    ∷ example (keeping (hinting Unknown 2 [] []) (confirmed_at 10 1166881 1)) (14 ∷ [])
    ∷ example (keeping (confirming 2) (confirmed_at 999 1166880 1)) (0 ∷ 1 ∷ 10 ∷ 5 ∷ 1 ∷ 999 ∷ 1166880 ∷ 1 ∷ []) ∷ []

-- "hint answers as the source does"; the sentences are the source's
unfoldable pub hints : List Example
hints =
    -- "among the samples at most HINT_REACH frames below first"
    example (hinted (hint_at 100 10 ∷ []) 74 74) (0 ∷ 100 ∷ 10 ∷ 264 ∷ 0 ∷ [])
    ∷ example (hinted (hint_at 100 10 ∷ []) 75 75) (0 ∷ [])
    ∷ example (hinted (hint_at 100 10 ∷ []) 10 75) (0 ∷ [])
    -- "the one with the largest frame number (the last of those, if several)"
    ∷ example (hinted (hint_at 100 40 ∷ hint_at 200 30 ∷ []) 45 75) (0 ∷ 100 ∷ 40 ∷ 191 ∷ 0 ∷ [])
    ∷ example (hinted (hint_at 100 40 ∷ hint_at 200 40 ∷ []) 45 75) (0 ∷ 200 ∷ 40 ∷ 291 ∷ 0 ∷ [])
    -- "of a reading confirmed for first if any, else of all"
    ∷ example (hinted_in (Checked 9) (confirmed_at 100 45 1 ∷ [])) (0 ∷ 100 ∷ 10 ∷ 349 ∷ 0 ∷ [])
    ∷ example (hinted_in (Checked 9) (confirmed_at 100 46 1 ∷ [])) (0 ∷ 200 ∷ 40 ∷ 349 ∷ 0 ∷ [])
    ∷ example (hinted_in (fingerprint.Held 9) (confirmed_at 100 45 1 ∷ [])) (0 ∷ 200 ∷ 40 ∷ 349 ∷ 0 ∷ [])
    -- "through the first later sample numbered end or more, if at most HINT_REACH frames past it (true)"
    ∷ example (hinted (hint_at 200 40 ∷ hint_at 300 75 ∷ []) 45 75) (0 ∷ 200 ∷ 40 ∷ 301 ∷ 1 ∷ [])
    ∷ example (hinted (hint_at 200 40 ∷ hint_at 300 139 ∷ []) 45 75) (0 ∷ 200 ∷ 40 ∷ 301 ∷ 1 ∷ [])
    -- only the first such is looked at
    ∷ example (hinted (hint_at 200 40 ∷ hint_at 300 140 ∷ hint_at 400 80 ∷ []) 45 75) (0 ∷ 200 ∷ 40 ∷ 291 ∷ 0 ∷ [])
    -- "From the last sample of this run below end", "at the density between the hint and it": 100 sectors for 10 frames
    ∷ example (hinted (hint_at 100 10 ∷ hint_at 200 40 ∷ hint_at 300 50 ∷ []) 45 75) (0 ∷ 200 ∷ 40 ∷ 616 ∷ 0 ∷ [])
    -- a number that does not exceed the hint's ends the run
    ∷ example (hinted (hint_at 200 40 ∷ hint_at 210 44 ∷ hint_at 220 39 ∷ hint_at 300 50 ∷ []) 42 75) (0 ∷ 200 ∷ 40 ∷ 310 ∷ 0 ∷ [])
    -- "or before the hint", where the run has less than 3 frames: 100 sectors for 30, from the run's last on
    ∷ example (hinted (hint_at 100 10 ∷ hint_at 200 40 ∷ hint_at 210 42 ∷ []) 41 75) (0 ∷ 200 ∷ 40 ∷ 351 ∷ 0 ∷ [])
    -- "at least the area's average over playtime frames", "plus a quarter and a few sectors"
    ∷ example (hinted (hint_at 200 40 ∷ []) 45 75) (0 ∷ 200 ∷ 40 ∷ 291 ∷ 0 ∷ [])
    ∷ example (hinted (hint_at 190 10 ∷ hint_at 200 40 ∷ []) 45 75) (0 ∷ 200 ∷ 40 ∷ 291 ∷ 0 ∷ [])
    ∷ example (hinted (hint_at 100 50 ∷ hint_at 200 40 ∷ []) 45 75) (0 ∷ 200 ∷ 40 ∷ 291 ∷ 0 ∷ [])
    -- a playtime of 0 counts as 1; the upper end may lie past the area
    ∷ example (numbers_of hinted_numbers (hint ample (hinting Unknown 2048 (hint_at 200 40 ∷ []) []) 45 75 0)) (0 ∷ 200 ∷ 40 ∷ 43954 ∷ 0 ∷ [])
    -- "the sums after it saturate"
    ∷ example
    (numbers_of hinted_numbers
    (hint ample (index_of (area 0 4294967295) 65536 [] None Unknown 2048 (hint_at 200 40 ∷ []) []) 45 4294967295 0))
    (0 ∷ 200 ∷ 40 ∷ 18446744073709551615 ∷ 0 ∷ [])
    -- 16: "end not below first?"
    ∷ example (hinted (hint_at 100 10 ∷ []) 45 44) (16 ∷ [])
    ∷ example (hinted [] 45 45) (0 ∷ []) ∷ []
