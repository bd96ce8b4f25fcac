-- Change request 9: a shelf of saved lists, on values. A shelf is its numbers and its table of records.
use Rattle.std.specs.Prelude.{ℕ, zero, suc, ◌+◌, ◌-◌, Bool, true, ◌&&◌, not, cond, List, [], ◌∷◌, ◌++◌, leb, ltb, length, get_or, take, drop, set, Option, None, Some}
use Rattle.rules.specs.declared.Area.{Area}
use Rattle.rules.specs.Questions.{area_ok}
use Rattle.rules.specs.Tests.{all, Ask, ask, first_no, Answer, Accepted, after, bind}
use Rattle.rules.specs.Values.{max64, same_area}
use Rattle.rules_shelf.specs.declared.ShelfRecord.{ShelfRecord}
use Rattle.rules_shelf.specs.declared.Shelf.{Shelf}

-- the most that are present
abbrev pub max_shelf : ℕ
max_shelf = 64

abbrev pub no_record : ShelfRecord
no_record = record { slot = 0; channels = 0; key_start = 0; key_end = 0; sectors = 0; start = 0; end = 0; len = 0; stamp = 0 }

abbrev pub area_of : ShelfRecord → Area
area_of r =
    record {
      key = record { slot = r.slot; start = r.key_start; end = r.key_end; channels = r.channels; sectors = r.sectors };
      start = r.start;
      end = r.end;
    }

-- the record of a list
abbrev pub record_of : Area → ℕ → ℕ → ShelfRecord
record_of a len stamp =
    record {
      slot = a.key.slot;
      channels = a.key.channels;
      key_start = a.key.start;
      key_end = a.key.end;
      sectors = a.key.sectors;
      start = a.start;
      end = a.end;
      len = len;
      stamp = stamp;
    }

-- the first records of a table, as many as are present
abbrev pub present_records : Shelf → List ShelfRecord → List ShelfRecord
present_records x t = take x.present t

-- the sum of lengths
unfoldable pub sum : List ShelfRecord → ℕ
sum [] = 0
sum (r ∷ rs) = r.len + sum rs

-- ---- areas
-- the place of the first record of an area, the number of records where there is none
unfoldable pub area_place : Area → List ShelfRecord → ℕ
area_place a [] = 0
area_place a (r ∷ rs) = cond (same_area (area_of r) a) 0 (suc (area_place a rs))

-- is there a record of this area?
unfoldable pub among : Area → List ShelfRecord → Bool
among a rs = ltb (area_place a rs) (length rs)

-- is no area under two of them?
unfoldable pub no_two : List ShelfRecord → Bool
no_two [] = true
no_two (r ∷ rs) = not (among (area_of r) rs) && no_two rs

-- ---- dropping
-- without the record at a place; the others close up
unfoldable pub drop_at : ℕ → List ShelfRecord → List ShelfRecord
drop_at i rs = take i rs ++ drop (suc i) rs

-- without the record of an area
unfoldable pub without : Area → List ShelfRecord → List ShelfRecord
without a rs = drop_at (area_place a rs) rs

abbrev pub stamp_at : List ShelfRecord → ℕ → ℕ
stamp_at rs i = (get_or rs i no_record).stamp

-- of two places the later one, where its stamp is lower
unfoldable pub older : List ShelfRecord → ℕ → ℕ → ℕ
older rs best i = cond (ltb (stamp_at rs i) (stamp_at rs best)) i best

-- the place of the lowest stamp among the first n, the earlier of equal ones
unfoldable pub oldest_of : List ShelfRecord → ℕ → ℕ
oldest_of rs zero = 0
oldest_of rs (suc n) = older rs (oldest_of rs n) n

abbrev pub oldest : List ShelfRecord → ℕ
oldest rs = oldest_of rs (length rs)

-- is there room for one more, with room bytes for the others?
unfoldable pub roomy : ℕ → List ShelfRecord → Bool
roomy room rs = all (ltb (length rs) max_shelf ∷ leb (sum rs) room ∷ [])

-- n records, of which the oldest are dropped until there is room
unfoldable pub make_room : ℕ → ℕ → List ShelfRecord → List ShelfRecord
make_room zero room rs = rs
make_room (suc n) room rs = cond (roomy room rs) rs (make_room n room (drop_at (oldest rs) rs))

-- ---- the records that are present afterwards
-- those that stay beside a list that is entered
unfoldable pub staying : ℕ → List ShelfRecord → Area → ℕ → List ShelfRecord
staying limit rs a len = make_room (length (without a rs)) (limit - len) (without a rs)

unfoldable pub entered : Shelf → List ShelfRecord → Area → ℕ → List ShelfRecord
entered x rs a len = staying x.limit rs a len ++ record_of a len (x.count + 1) ∷ []

-- the record at a place with another stamp
unfoldable pub restamped : List ShelfRecord → ℕ → ℕ → List ShelfRecord
restamped rs i stamp = set rs i (record_of (area_of (get_or rs i no_record)) (get_or rs i no_record).len stamp)

unfoldable pub jumped : Shelf → List ShelfRecord → Area → List ShelfRecord
jumped x rs a = restamped rs (area_place a rs) (x.count + 1)

-- ---- the questions
-- 4: at most 64 present, no area under two of them, their sum within the limit
unfoldable pub shelf_ok : Shelf → List ShelfRecord → Bool
shelf_ok x rs = all (leb x.present max_shelf ∷ no_two rs ∷ leb (sum rs) x.limit ∷ [])

-- 1 of the area given, 3 space for 64 records, 4, 51 the count below its largest; and then qs
abbrev pub questions : Shelf → ℕ → List ShelfRecord → Area → List Ask → List Ask
questions x room rs a qs = ask (area_ok a) 1 ∷ ask (leb max_shelf room) 3 ∷ ask (shelf_ok x rs) 4 ∷ ask (ltb x.count max64) 51 ∷ qs

-- ---- the calls, in a table of room records of which rs are present: the records present afterwards
unfoldable pub entering : Shelf → ℕ → List ShelfRecord → Area → ℕ → Answer (List ShelfRecord)
entering x room rs a len = after (first_no (questions x room rs a (ask (leb len x.limit) 50 ∷ []))) (Accepted (entered x rs a len))

-- none where the area is not present
unfoldable pub jumped_in : Shelf → List ShelfRecord → Area → Option (List ShelfRecord)
jumped_in x rs a = cond (among a rs) (Some (jumped x rs a)) None

unfoldable pub jumping : Shelf → ℕ → List ShelfRecord → Area → Answer (Option (List ShelfRecord))
jumping x room rs a = after (first_no (questions x room rs a [])) (Accepted (jumped_in x rs a))

-- ---- a shelf after a call: its numbers and its table
pub record After : Type 0 where
  pub shelf : Shelf
  pub table : List ShelfRecord

-- new are present, one more call is counted, and past them the table is as it was
abbrev pub call_counted : Shelf → List ShelfRecord → Shelf
call_counted x new = record { present = length new; count = x.count + 1; limit = x.limit }

abbrev pub records_over : List ShelfRecord → List ShelfRecord → List ShelfRecord
records_over new t = new ++ drop (length new) t

abbrev pub holding : Shelf → List ShelfRecord → List ShelfRecord → After
holding x t new = record { shelf = call_counted x new; table = records_over new t }

unfoldable pub enter : Shelf → List ShelfRecord → Area → ℕ → Answer After
enter x t a len = bind (entering x (length t) (present_records x t) a len) (λ new. Accepted (holding x t new))

unfoldable pub held_by : Shelf → List ShelfRecord → Option (List ShelfRecord) → Option After
held_by x t None = None
held_by x t (Some new) = Some (holding x t new)

-- none where the area is not present
unfoldable pub jump : Shelf → List ShelfRecord → Area → Answer (Option After)
jump x t a = bind (jumping x (length t) (present_records x t) a) (λ o. Accepted (held_by x t o))
