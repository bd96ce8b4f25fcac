-- Document 01, "Hint" and "Confirmation".
use Rattle.std.specs.Prelude.{ℕ, zero, suc, ◌+◌, ◌-◌, ◌*◌, ◌/◌, min, max, Bool, true, false, ◌&&◌, ◌||◌, not, cond, List, [], ◌∷◌, ◌++◌, eqb, leb, ltb, length, get_or, set, drop, Option, None, Some}
use Rattle.rules.specs.declared.Area.{Area}
use Rattle.rules.specs.declared.Confirmation.{Confirmation}
use Rattle.rules.specs.declared.First.{First}
use Rattle.rules.specs.declared.First.TheVariants.{Number, Nothing}
use Rattle.rules.specs.declared.Hint.{Hint}
use Rattle.rules.specs.FirstRecord.{first_record}
use Rattle.rules.specs.Tests.{each, or_else, Answer, Accepted, after, ask, first_no}
use Rattle.rules.specs.Values.{Hinting, Index, HintRecorder, Lengths, lim, max_list, max32, max64, hint_reach, no_hint, is_checked}
use Rattle.rules.specs.Sections.{hint_lsn, confirmed_lsn, is_kept, kept_count}
use Rattle.rules.specs.Questions.{four, hint_recorder_four}

-- ---- see, flush, take
-- if none was ever listed, even before a taking, or it is at least last + spacing (saturating), or below last
unfoldable pub spaced : Option ℕ → ℕ → ℕ → Bool
spaced None spacing t = true
spaced (Some l) spacing t = leb (min (l + spacing) max32) t || ltb t l

-- Listing and flushing clear the tail
abbrev pub listed : HintRecorder → Hint → HintRecorder
listed r h = record { spacing = r.spacing; last = Some h.number; tail = None; list = r.list ++ (h ∷ []) }

-- it becomes the tail
abbrev pub tailed : HintRecorder → Hint → HintRecorder
tailed r h = record { spacing = r.spacing; last = r.last; tail = Some h; list = r.list }

-- `see` lists a record that is spaced while the list has under 65,536; else it becomes the tail.
-- A record whose LSN exceeds 4,294,967,295 is passed over.
unfoldable pub seen_record : HintRecorder → ℕ → First → HintRecorder
seen_record r lsn (Nothing a) = r
seen_record r lsn (Number t) =
    cond (ltb max32 lsn) r
    (cond (spaced r.last r.spacing t.number && ltb (length r.list) max_list) (listed r (record { lsn = lsn; number = t.number; mark = 0 }))
    (tailed r (record { lsn = lsn; number = t.number; mark = 0 })))

-- what a sector says, and the recorder afterwards
pub record SeenSector : Type 0 where
  pub first : First
  pub recorder : HintRecorder

-- the call: 3 and 4 of a hint recorder
unfoldable pub see : ℕ → HintRecorder → ℕ → List ℕ → Answer SeenSector
see n r lsn sector =
    after (first_no (hint_recorder_four n r []))
    (Accepted (record { first = first_record sector; recorder = seen_record r lsn (first_record sector) }))

-- the tail, which `flush` lists under the same bound
unfoldable pub flushed_list : Option Hint → List Hint → List Hint
flushed_list None list = list
flushed_list (Some h) list = cond (ltb (length list) max_list) (list ++ (h ∷ [])) list

-- the call
unfoldable pub flush : ℕ → HintRecorder → Answer HintRecorder
flush n r =
    after (first_no (hint_recorder_four n r []))
    (Accepted (record { spacing = r.spacing; last = r.last; tail = None; list = flushed_list r.tail r.list }))

-- the list that is taken, and the recorder afterwards
pub record TakenHints : Type 0 where
  pub list : List Hint
  pub recorder : HintRecorder

-- the call: the list is taken; last stays
unfoldable pub take_list : ℕ → HintRecorder → Answer TakenHints
take_list n r =
    after (first_no (hint_recorder_four n r []))
    (Accepted (record { list = r.list; recorder = record { spacing = r.spacing; last = r.last; tail = r.tail; list = [] } }))

-- ---- lists in the order of an LSN
-- x into the list, whose LSNs rise (question 4); where its LSN is there already, meet of the held one and x
unfoldable pub insert : {A : Type 0} → (A → ℕ) → (A → A → A) → A → List A → List A
insert key meet x [] = x ∷ []
insert key meet x (y ∷ ys) =
    cond (ltb (key x) (key y)) (x ∷ y ∷ ys) (cond (ltb (key y) (key x)) (y ∷ insert key meet x ys) (meet y x ∷ ys))

-- ---- thinning
-- how many numbers below n pass p
unfoldable pub count_of : (ℕ → Bool) → ℕ → ℕ
count_of p zero = 0
count_of p (suc n) = count_of p n + cond (p n) 1 0

-- the gap is the rise from the neighbour before thinning, or 4,294,967,295 where there is none: the rise from p to t
unfoldable pub rise : ℕ → ℕ → ℕ
rise p t = cond (ltb p t) (t - p) max32

-- at place i, from the neighbour, kept or not
unfoldable pub rise_at : List Hint → ℕ → ℕ
rise_at hs zero = max32
rise_at hs (suc i) = rise (get_or hs i no_hint).number (get_or hs (suc i) no_hint).number

-- the gap at place i: the rise; of a kept hint 4,294,967,296, above every rise, so that thinning passes over it
unfoldable pub gap : List Hint → ℕ → ℕ
gap hs i = cond (is_kept (get_or hs i no_hint)) (suc max32) (rise_at hs i)

-- is (gap, place) at k smaller than at i?
unfoldable pub smaller : List Hint → ℕ → ℕ → Bool
smaller hs i k = ltb (gap hs k) (gap hs i) || (eqb (gap hs k) (gap hs i) && ltb k i)

-- how many pairs are smaller than that at i
unfoldable pub rank : List Hint → ℕ → ℕ
rank hs i = count_of (smaller hs i) (length hs)

-- of the first n hints those whose places p keeps
unfoldable pub kept : (ℕ → Bool) → List Hint → ℕ → List Hint
kept p hs zero = []
kept p hs (suc n) = kept p hs n ++ cond (p n) (get_or hs n no_hint ∷ []) []

-- Thinning drops the smallest (gap, place) pairs, as many as there are more than most
unfoldable pub thin : ℕ → List Hint → List Hint
thin most hs = kept (λ i. leb (length hs - most) (rank hs i)) hs (length hs)

-- ---- add_hints
unfoldable pub in_area : Area → ℕ → Bool
in_area a n = leb a.start n && ltb n a.end

-- Of two hints at one LSN the one that arrives stays (change request 5), with the mark of the held one (11)
abbrev pub arrived_hint : Hint → Hint → Hint
arrived_hint h new = record { lsn = new.lsn; number = new.number; mark = h.mark }

-- drops LSNs outside the area, sorts by LSN: each of the list in turn
unfoldable pub insert_all : Area → List Hint → List Hint → List Hint
insert_all a hs [] = hs
insert_all a hs (x ∷ xs) = insert_all a (cond (in_area a x.lsn) (insert hint_lsn arrived_hint x hs) hs) xs

-- above the limit M thins to M − M/4, rounded down in the division
unfoldable pub limited_to : ℕ → List Hint → List Hint
limited_to most hs = cond (leb (length hs) most) hs (thin (most - most / 4) hs)

-- At M = 0 nothing is kept: hs is empty then (question 4)
unfoldable pub joined_hints : Area → ℕ → List Hint → List Hint → List Hint
joined_hints a most hs list = cond (eqb most 0) hs (limited_to most (insert_all a hs list))

-- 13: at most 65,536, each number < LIM?
unfoldable pub question13 : List Hint → Bool
question13 list = leb (length list) max_list && each (λ h. ltb h.number lim) list

abbrev pub with_hinting : Index → Hinting → Index
with_hinting x r = record { scan = x.scan; hinting = r; fingerprint = x.fingerprint; image = x.image }

abbrev pub with_hints : Area → Hinting → List Hint → Hinting
with_hints a r list =
    record { spacing = r.spacing; most = r.most; hints = joined_hints a r.most r.hints list; confirmed = r.confirmed }

-- the call: 1 to 4, 13
unfoldable pub add_hints : Lengths → Index → List Hint → Answer Index
add_hints l x list =
    after (first_no (four l x (ask (question13 list) 13 ∷ []))) (Accepted (with_hinting x (with_hints x.scan.area x.hinting list)))

-- ---- kept marks
-- hints without their marks, as files and delivered lists have them
abbrev pub unkept_hint : Hint → Hint
unkept_hint h = record { lsn = h.lsn; number = h.number; mark = 0 }

unfoldable pub unkept : List Hint → List Hint
unkept [] = []
unkept (h ∷ hs) = unkept_hint h ∷ unkept hs

-- the place of the first hint with that LSN; the length where there is none
unfoldable pub place_of : ℕ → List Hint → ℕ
place_of lsn [] = 0
place_of lsn (h ∷ hs) = cond (eqb h.lsn lsn) 0 (suc (place_of lsn hs))

-- 53: is there a hint of that LSN, and is it kept or are fewer than M/4?
unfoldable pub question53 : Hinting → ℕ → Bool
question53 r lsn =
    let i = place_of lsn r.hints in
    ltb i (length r.hints) && (is_kept (get_or r.hints i no_hint) || ltb (kept_count r.hints) (r.most / 4))

abbrev pub kept_hint : Hint → Hint
kept_hint h = record { lsn = h.lsn; number = h.number; mark = 1 }

-- behind 53: the hint of that LSN with the mark set
unfoldable pub with_mark : Hinting → ℕ → Hinting
with_mark r lsn =
    let i = place_of lsn r.hints in
    record { spacing = r.spacing; most = r.most; hints = set r.hints i (kept_hint (get_or r.hints i no_hint)); confirmed = r.confirmed }

-- the call: 1 to 4, 53
unfoldable pub keep_hint : Lengths → Index → ℕ → Answer Index
keep_hint l x lsn =
    after (first_no (four l x (ask (question53 x.hinting lsn) 53 ∷ []))) (Accepted (with_hinting x (with_mark x.hinting lsn)))

-- ---- confirmations
-- Same digest: the lower threshold stays. Other digest: replaced.
unfoldable pub held_confirmation : Confirmation → Confirmation → Confirmation
held_confirmation c new =
    cond (eqb c.digest new.digest) (record { lsn = c.lsn; threshold = min c.threshold new.threshold; digest = c.digest }) new

-- the last n of a list
unfoldable pub last_ones : {A : Type 0} → ℕ → List A → List A
last_ones n xs = drop (length xs - n) xs

-- Nothing is kept, and that is the answer, while the fingerprint is unchecked or M is 0
abbrev pub keeps_nothing : Bool → ℕ → Bool
keeps_nothing checked most = not checked || eqb most 0

-- Above M the lowest LSN goes: one, since cs has at most M (question 4); where nothing is kept, cs stays
unfoldable pub keep : Bool → ℕ → List Confirmation → Confirmation → List Confirmation
keep checked most cs c = cond (keeps_nothing checked most) cs (last_ones most (insert confirmed_lsn held_confirmation c cs))

-- of a merge: each of the other's in turn
unfoldable pub keep_all : Bool → ℕ → List Confirmation → List Confirmation → List Confirmation
keep_all checked most cs [] = cs
keep_all checked most cs (x ∷ xs) = keep_all checked most (keep checked most cs x) xs

-- 14: LSN in the area, threshold < LIM?
unfoldable pub question14 : Area → Confirmation → Bool
question14 a c = in_area a c.lsn && ltb c.threshold lim

abbrev pub with_confirmed : Hinting → List Confirmation → Hinting
with_confirmed r cs = record { spacing = r.spacing; most = r.most; hints = r.hints; confirmed = cs }

-- the call: 1 to 4, 14; the index afterwards, or that nothing is kept
unfoldable pub keep_confirmation : Lengths → Index → Confirmation → Answer (Option Index)
keep_confirmation l x c =
    after (first_no (four l x (ask (question14 x.scan.area c) 14 ∷ [])))
    (Accepted
    (cond (keeps_nothing (is_checked x.fingerprint) x.hinting.most) None
    (Some
    (with_hinting x
    (with_confirmed x.hinting (keep (is_checked x.fingerprint) x.hinting.most x.hinting.confirmed c))))))

-- ---- `hint` answers as the source does
-- of the first n places those that p holds of: the one with the largest (number, LSN)
unfoldable pub larger : List Hint → ℕ → ℕ → Bool
larger hs i k =
    ltb (get_or hs i no_hint).number (get_or hs k no_hint).number
    || (eqb (get_or hs i no_hint).number (get_or hs k no_hint).number && ltb (get_or hs i no_hint).lsn (get_or hs k no_hint).lsn)

unfoldable pub larger_of : List Hint → Option ℕ → ℕ → ℕ
larger_of hs None k = k
larger_of hs (Some i) k = cond (larger hs i k) k i

unfoldable pub largest_of : (ℕ → Bool) → List Hint → ℕ → Option ℕ
largest_of p hs zero = None
largest_of p hs (suc n) = cond (p n) (Some (larger_of hs (largest_of p hs n) n)) (largest_of p hs n)

-- at most 64 frames below first
unfoldable pub near : ℕ → Hint → Bool
near first h = ltb h.number first && leb (first - h.number) hint_reach

-- confirmed for first; of one LSN there is one confirmation (question 4)
unfoldable pub confirmed_at : List Confirmation → ℕ → ℕ → Bool
confirmed_at [] lsn first = false
confirmed_at (c ∷ cs) lsn first = (eqb c.lsn lsn && leb c.threshold first) || confirmed_at cs lsn first

-- the place of the hint to begin at: among the near ones a confirmed one if any
unfoldable pub hint_place : Bool → List Hint → List Confirmation → ℕ → Option ℕ
hint_place checked hs cs first =
    or_else (largest_of (λ i. near first (get_or hs i no_hint) && (checked && confirmed_at cs (get_or hs i no_hint).lsn first)) hs (length hs))
    (largest_of (λ i. near first (get_or hs i no_hint)) hs (length hs))

-- the first of hs numbered end or more
unfoldable pub first_from : ℕ → List Hint → Option Hint
first_from end [] = None
first_from end (h ∷ hs) = cond (leb end h.number) (Some h) (first_from end hs)

-- the last of the run of hs numbered above t and below end
unfoldable pub run_from : ℕ → ℕ → Option Hint → List Hint → Option Hint
run_from t end o [] = o
run_from t end o (h ∷ hs) = cond (ltb t h.number && ltb h.number end) (run_from t end (Some h) hs) o

-- sectors for frames
pub record Density : Type 0 where
  pub sectors : ℕ
  pub frames : ℕ

-- between the hint at a place and the hint before it, whose LSN is lower (question 4)
unfoldable pub density_before : List Hint → ℕ → Option Density
density_before hs zero = None
density_before hs (suc i) =
    cond (ltb (get_or hs i no_hint).number (get_or hs (suc i) no_hint).number)
    (Some (record { sectors = (get_or hs (suc i) no_hint).lsn - (get_or hs i no_hint).lsn; frames = (get_or hs (suc i) no_hint).number - (get_or hs i no_hint).number }))
    None

-- between the hint at i and the run's last r, if 3 frames or more; else before the hint. The run's numbers exceed the hint's, and its LSNs too (question 4).
unfoldable pub local : List Hint → ℕ → Option Hint → Option Density
local hs i None = density_before hs i
local hs i (Some r) =
    cond (leb 3 (r.number - (get_or hs i no_hint).number))
    (Some (record { sectors = r.lsn - (get_or hs i no_hint).lsn; frames = r.number - (get_or hs i no_hint).number })) (density_before hs i)

-- the larger density
unfoldable pub denser : Density → Option Density → Density
denser whole None = whole
denser whole (Some d) = cond (ltb (whole.sectors * d.frames) (d.sectors * whole.frames)) d whole

-- of the whole area
abbrev pub average : Area → ℕ → Density
average a playtime = record { sectors = a.end - a.start; frames = max playtime 1 }

unfoldable pub or_hint : Hint → Option Hint → Hint
or_hint h None = h
or_hint h (Some r) = r

-- the answer of hint: LSN, frame number, upper end of the read, and whether a later hint gave it
pub record Hinted : Type 0 where
  pub lsn : ℕ
  pub number : ℕ
  pub upper : ℕ
  pub later : Bool

-- the range's frames from the hint r on, plus a quarter and 4 sectors; sums saturate. Behind 16, since r is numbered below first or below end; a density has
-- at least one frame.
unfoldable pub upper_end : Hint → ℕ → Density → ℕ
upper_end r end d =
    let span = (end - r.number) * d.sectors / d.frames in
    min (r.lsn + min (span + span / 4 + 4) max64) max64

unfoldable pub hinted_locally : Area → List Hint → ℕ → ℕ → ℕ → Hinted
hinted_locally a hs i end playtime =
    let run = run_from (get_or hs i no_hint).number end None (drop (suc i) hs) in
    record {
      lsn = (get_or hs i no_hint).lsn;
      number = (get_or hs i no_hint).number;
      upper = upper_end (or_hint (get_or hs i no_hint) run) end (denser (average a playtime) (local hs i run));
      later = false;
    }

-- through the first later hint s, numbered end or more, if at most 64 frames past it
unfoldable pub hinted_later : Option Hint → ℕ → Hint → Hinted → Hinted
hinted_later None end h other = other
hinted_later (Some s) end h other =
    cond (leb (s.number - end) hint_reach) (record { lsn = h.lsn; number = h.number; upper = s.lsn + 1; later = true }) other

unfoldable pub hinted_at : Area → List Hint → ℕ → ℕ → Option ℕ → Option Hinted
hinted_at a hs end playtime None = None
hinted_at a hs end playtime (Some i) =
    Some (hinted_later (first_from end (drop (suc i) hs)) end (get_or hs i no_hint) (hinted_locally a hs i end playtime))

-- the call: 1 to 4, 16: end not below first?
unfoldable pub hint : Lengths → Index → ℕ → ℕ → ℕ → Answer (Option Hinted)
hint l x first end playtime =
    after (first_no (four l x (ask (leb first end) 16 ∷ [])))
    (Accepted
    (hinted_at x.scan.area x.hinting.hints end playtime
    (hint_place (is_checked x.fingerprint) x.hinting.hints x.hinting.confirmed first)))
