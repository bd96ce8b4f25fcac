-- Examples of change request 10.
use Rattle.std.specs.Prelude.{ℕ, cond, List, [], ◌∷◌, ◌++◌, length, take, drop, Option, None, Some}
use Rattle.field.specs.Records.{bytes_of}
use Rattle.rules.specs.declared.Fingerprint.{Fingerprint}
use Rattle.rules.specs.declared.Fingerprint.TheVariants.{Unknown, Checked}
use Rattle.rules.specs.declared.Fingerprint.TheVariants as fingerprint
use Rattle.rules.specs.declared.Hint.{Hint}
use Rattle.rules.specs.Tests.{Answer, number_of}
use Rattle.rules.specs.Values.{Index}
use Rattle.rules.specs.File.{saved, encode_lsn}
use Rattle.rules.specs.examples.Starred.{ample, short, area, checkpoint, confirmed_at, index_of, three, empty, holding, closed, numbers_of, known_numbers, hint_numbers, confirmed_numbers, Example, example}
use Rattle.rules_view.specs.View.{Seen, Listener, Backing, HeldLength, Workshop, listener_of, workshop_of, word_bytes, listener_bytes, workshop_bytes, read_listener, read_workshop, view_length, view, view_size}
use Rattle.rules_view.specs.Roles.{load_as, save_as, merge_as, merge_all_as, load_disc_as, save_one_as, save_both_as}

-- ---- values
-- complete, with a fingerprint, a kept hint and a confirmation
abbrev pub marked : Fingerprint → Index
marked f = index_of (area 0 100) 100 (checkpoint 0 0 0 ∷ []) (Some (record { threshold = 80; malformed = 0 })) f 2048 (record { lsn = 10; number = 5; mark = 1 } ∷ []) (confirmed_at 20 6 7 ∷ [])

-- only a fingerprint
abbrev pub stamped : Fingerprint → Index
stamped f = index_of (area 0 100) 100 [] None f 2048 [] []

-- fails 1
abbrev pub backwards : Index
backwards = index_of (area 1250 1000) 100 [] None Unknown 2048 [] []

-- ---- answers as numbers
unfoldable pub seen_numbers : List Seen → List ℕ
seen_numbers [] = []
seen_numbers (s ∷ ss) = s.lsn ∷ s.threshold ∷ seen_numbers ss

unfoldable pub behind_numbers : List Backing → List ℕ
behind_numbers [] = []
behind_numbers (c ∷ cs) = c.back ∷ c.digest ∷ behind_numbers cs

unfoldable pub length_numbers : List HeldLength → List ℕ
length_numbers [] = []
length_numbers (p ∷ ps) = p.at ∷ p.len ∷ length_numbers ps

unfoldable pub mark_numbers : List Hint → List ℕ
mark_numbers [] = []
mark_numbers (h ∷ hs) = h.mark ∷ mark_numbers hs

-- the area's numbers, interval, completeness, then the checkpoints
abbrev pub listener_numbers : Listener → List ℕ
listener_numbers v =
    v.area.key.slot ∷ v.area.key.channels ∷ v.area.key.start ∷ v.area.key.end ∷ v.area.key.sectors ∷ v.area.start ∷ v.area.end
    ∷ v.interval ∷ cond v.complete 1 0 ∷ seen_numbers v.checkpoints

abbrev pub workshop_numbers : Workshop → List ℕ
workshop_numbers w =
    listener_numbers w.seen
    ++ (behind_numbers w.behind
    ++ (w.malformed
    ++ (length_numbers w.parts ++ (hint_numbers w.hints ++ (mark_numbers w.hints ++ (known_numbers w.fingerprint ++ confirmed_numbers w.confirmed))))))

-- 1 and what was read, or 0
unfoldable pub read_numbers : {A : Type 0} → (A → List ℕ) → Option A → List ℕ
read_numbers f None = 0 ∷ []
read_numbers f (Some a) = 1 ∷ f a

abbrev pub told : List ℕ → List ℕ
told b = read_numbers listener_numbers (read_listener b)

abbrev pub told_all : List ℕ → List ℕ
told_all b = read_numbers workshop_numbers (read_workshop b)

abbrev pub seen : Index → List ℕ
seen x = listener_bytes (listener_of x)

abbrev pub whole : Index → List ℕ
whole x = workshop_bytes (workshop_of x)

-- ---- the table
unfoldable pub views : List Example
views =
    -- the layout: eleven words, then LSN and threshold of each checkpoint
    example (seen three)
    (word_bytes (1 ∷ 0 ∷ 2 ∷ 1000 ∷ 1250 ∷ 9000 ∷ 1000 ∷ 1250 ∷ 100 ∷ 0 ∷ 3 ∷ []) ++ bytes_of encode_lsn (1000 ∷ 0 ∷ 1100 ∷ 0 ∷ 1200 ∷ 75 ∷ []))
    -- an empty list: 88 and 136 bytes
    ∷ example (length (seen empty) ∷ view_length 1 empty ∷ length (whole empty) ∷ view_length 2 empty ∷ []) (88 ∷ 88 ∷ 136 ∷ 136 ∷ [])
    ∷ example (length (seen (marked (Checked 9))) ∷ length (whole (marked (Checked 9))) ∷ view_length 2 (marked (Checked 9)) ∷ []) (96 ∷ 181 ∷ 181 ∷ [])
    -- the six words behind the checkpoints, then the sections
    ∷ example (drop 96 (whole (marked (Checked 9))))
    (word_bytes (0 ∷ 0 ∷ 1 ∷ 1 ∷ 9 ∷ 1 ∷ []) ++ (bytes_of encode_lsn (0 ∷ 7 ∷ 0 ∷ []) ++ (bytes_of encode_lsn (10 ∷ 5 ∷ []) ++ (1 ∷ bytes_of encode_lsn (20 ∷ 6 ∷ 7 ∷ 0 ∷ [])))))
    -- a held part's checkpoint and length, not its bytes
    ∷ example (drop 176 (whole (holding 33))) (bytes_of encode_lsn (1 ∷ 3 ∷ []))
    -- reading gives every field back
    ∷ example (told (seen three)) (1 ∷ 0 ∷ 2 ∷ 1000 ∷ 1250 ∷ 9000 ∷ 1000 ∷ 1250 ∷ 100 ∷ 0 ∷ 1000 ∷ 0 ∷ 1100 ∷ 0 ∷ 1200 ∷ 75 ∷ [])
    ∷ example (told (seen (closed three))) (1 ∷ 0 ∷ 2 ∷ 1000 ∷ 1250 ∷ 9000 ∷ 1000 ∷ 1250 ∷ 100 ∷ 1 ∷ 1000 ∷ 0 ∷ 1100 ∷ 0 ∷ 1200 ∷ 75 ∷ [])
    ∷ example (told_all (whole (marked (Checked 9))))
    (1 ∷ 0 ∷ 2 ∷ 0 ∷ 100 ∷ 9000 ∷ 0 ∷ 100 ∷ 100 ∷ 1 ∷ 0 ∷ 0 ∷ 0 ∷ 7 ∷ 10 ∷ 5 ∷ 1 ∷ 1 ∷ 9 ∷ 20 ∷ 6 ∷ 7 ∷ [])
    -- a fingerprint of 0, and none
    ∷ example (drop 9 (told_all (whole (stamped (fingerprint.Held 0)))) ++ drop 9 (told_all (whole (stamped Unknown)))) (0 ∷ 1 ∷ 0 ∷ 0 ∷ 0 ∷ [])
    -- behind word 0 the workshop's view begins with the listener's
    ∷ example (drop 8 (take 112 (whole three))) (drop 8 (seen three))
    -- a view of the other role, and one cut short or longer, is not read
    ∷ example
    (told (whole three) ++ (told_all (seen three) ++ (told (take 111 (seen three)) ++ (told_all (take 171 (whole three)) ++ told (seen three ++ (0 ∷ []))))))
    (0 ∷ 0 ∷ 0 ∷ 0 ∷ 0 ∷ [])
    -- views of roles 0 to 3; 52 before 1, 40 behind 4
    ∷ example (number_of (view 0 ample three 1000) ∷ number_of (view 1 ample three 1000) ∷ number_of (view 2 ample three 1000) ∷ number_of (view 3 ample three 1000) ∷ [])
    (52 ∷ 0 ∷ 0 ∷ 52 ∷ [])
    ∷ example
    (number_of (view 3 ample backwards 0) ∷ number_of (view 1 ample backwards 0) ∷ number_of (view 1 short three 0) ∷ number_of (view 1 ample (closed empty) 0)
    ∷ number_of (view 1 ample three 111) ∷ number_of (view 1 ample three 112) ∷ number_of (view 2 ample three 195) ∷ number_of (view 2 ample three 196) ∷ [])
    (52 ∷ 1 ∷ 3 ∷ 4 ∷ 40 ∷ 0 ∷ 40 ∷ 0 ∷ [])
    -- the length told
    ∷ example (numbers_of (λ n. n ∷ []) (view_size 1 ample three) ++ (numbers_of (λ n. n ∷ []) (view_size 2 ample three) ++ numbers_of (λ n. n ∷ []) (view_size 0 ample backwards)))
    (0 ∷ 112 ∷ 0 ∷ 196 ∷ 52 ∷ [])
    -- what the view omits does not show
    ∷ example (seen (marked (Checked 9))) (seen (index_of (area 0 100) 100 (checkpoint 0 0 0 ∷ []) (Some (record { threshold = 99; malformed = 0 })) Unknown 9 [] []))
    ∷ []

-- ---- roles 0, 1, 2 and 3 at each operation
abbrev pub by_role : {A : Type 0} → (ℕ → Answer A) → List ℕ
by_role f = number_of (f 0) ∷ number_of (f 1) ∷ number_of (f 2) ∷ number_of (f 3) ∷ []

unfoldable pub roles : List Example
roles =
    example (by_role (λ r. load_as r ample (area 1000 1250) (saved three) 32768)) (52 ∷ 52 ∷ 0 ∷ 52 ∷ [])
    ∷ example (by_role (λ r. save_as r ample three 1000)) (52 ∷ 52 ∷ 0 ∷ 52 ∷ [])
    ∷ example (by_role (λ r. merge_as r ample empty ample three)) (52 ∷ 52 ∷ 0 ∷ 52 ∷ [])
    ∷ example (by_role (λ r. merge_all_as r ample empty ample (160 ∷ []) (saved three) 32768)) (52 ∷ 52 ∷ 0 ∷ 52 ∷ [])
    ∷ example (by_role (λ r. save_one_as r ample three 1000)) (52 ∷ 52 ∷ 0 ∷ 52 ∷ [])
    -- 52 before the number that the workshop is given
    ∷ example (by_role (λ r. save_as r ample three 0)) (52 ∷ 52 ∷ 40 ∷ 52 ∷ [])
    ∷ example (by_role (λ r. merge_as r short backwards short backwards)) (52 ∷ 52 ∷ 1 ∷ 52 ∷ [])
    ∷ example (by_role (λ r. load_disc_as r ample ample (area 0 0) (area 0 0) [] 0)) (52 ∷ 52 ∷ 1 ∷ 52 ∷ [])
    ∷ example (by_role (λ r. save_both_as r ample three ample three 1000)) (52 ∷ 52 ∷ 54 ∷ 52 ∷ []) ∷ []
