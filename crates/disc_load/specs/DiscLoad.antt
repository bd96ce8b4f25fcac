-- What loading a disc file, its contents table and its sizes answer, and what the tables of both slots hold afterwards.
use Rattle.std.specs.Prelude.{ℕ, List, [], ◌∷◌, Bool, cond, ◌&&◌, Option, None, Some}
use Rattle.rules.specs.declared.Area.{Area}
use Rattle.rules_disc.specs.declared.Listed.{Listed}
use Rattle.rules_disc.specs.declared.Listed.TheVariants as listed
use Rattle.rules_disc.specs.declared.Loaded.{Loaded}
use Rattle.rules_disc.specs.declared.Loaded.TheVariants as loaded
use Rattle.rules_disc.specs.declared.Entry.{Entry}
use Rattle.rules_disc.specs.declared.Contents.{Contents}
use Rattle.rules_disc.specs.declared.Contents.TheVariants.{Broken, Lists}
use Rattle.rules_disc.specs.declared.SlotEntry.{SlotEntry}
use Rattle.rules_disc.specs.declared.SlotEntry.TheVariants.{Absent, At}
use Rattle.rules.specs.declared.TableSizes.{TableSizes}
use Rattle.rules_disc.specs.declared.SlotSizes.{SlotSizes}
use Rattle.rules_disc.specs.declared.SlotSizes.TheVariants as slot
use Rattle.rules_disc.specs.declared.DiscSized.{DiscSized}
use Rattle.rules_disc.specs.declared.DiscSized.TheVariants as disc
use Rattle.rules.specs.Tests.{Answer, Refused, Accepted, ask, first_no, after, bind}
use Rattle.rules.specs.Values.{Index}
use Rattle.rules_disc.specs.Disc.{Disc, load_disc, entry_of, entries_in, contents_ok, body_at, slot_area}
use Rattle.tables.specs.Index.{Tables, room_of, numbers_from, tables_from}
use Rattle.sizes.specs.Sizes.{file_sizes}

pub record DiscOut : Type 0 where
  pub answer : Loaded
  pub slot0 : Tables
  pub slot1 : Tables

abbrev pub disc_out : Loaded → Tables → Tables → DiscOut
disc_out r t u = record { answer = r; slot0 = t; slot1 = u }

-- the answer for a slot: an absent list leaves its tables as they were
unfoldable pub listed_from : Option Index → Listed
listed_from None = listed.Absent
listed_from (Some x) = listed.Index (numbers_from x)

unfoldable pub tables_with : Option Index → Tables → Tables
tables_with None t = t
tables_with (Some x) t = tables_from x t

-- a refusal changes no table
unfoldable pub disc_out_of : Tables → Tables → Answer Disc → DiscOut
disc_out_of t u (Refused n) = disc_out (loaded.Refused n) t u
disc_out_of t u (Accepted d) =
    disc_out (loaded.Lists (listed_from d.slot0) (listed_from d.slot1)) (tables_with d.slot0 t) (tables_with d.slot1 u)

-- from_disc
unfoldable pub load_disc_in : Area → Area → List ℕ → ℕ → Tables → Tables → DiscOut
load_disc_in a0 a1 b limit t u = disc_out_of t u (load_disc (room_of t) (room_of u) a0 a1 b limit)

unfoldable pub place_from : Option Entry → SlotEntry
place_from None = Absent
place_from (Some e) = At e

-- the entries es, which are right where ok holds
unfoldable pub contents_from : Bool → List Entry → Contents
contents_from ok es = cond ok (Lists (place_from (entry_of 0 es)) (place_from (entry_of 1 es))) Broken

-- of the file b
unfoldable pub contents_in : List ℕ → Contents
contents_in b = contents_from (contents_ok b) (entries_in b)

-- the sizes of both slots; none for a list that the file has not
pub record DiscSizes : Type 0 where
  pub slot0 : Option TableSizes
  pub slot1 : Option TableSizes

-- for a body and a load limit: 1, then 20 to 38, as loading asks them
unfoldable pub body_sizes : Area → ℕ → Option (List ℕ) → Answer (Option TableSizes)
body_sizes a limit None = Accepted None
body_sizes a limit (Some b) = bind (file_sizes a b limit) (λ s. Accepted (Some s))

-- the first failing body's own number, or the sizes of both
unfoldable pub both_sizes : Answer (Option TableSizes) → Answer (Option TableSizes) → Answer DiscSizes
both_sizes x y = bind x (λ s. bind y (λ r. Accepted (record { slot0 = s; slot1 = r })))

-- for a disc file: 1 of both areas, 54, then the bodies
unfoldable pub disc_sizes : Area → Area → List ℕ → ℕ → Answer DiscSizes
disc_sizes a0 a1 b limit =
    after (first_no (ask (slot_area 0 a0 && slot_area 1 a1) 1 ∷ ask (contents_ok b) 54 ∷ []))
    (both_sizes (body_sizes a0 limit (body_at b (entry_of 0 (entries_in b)))) (body_sizes a1 limit (body_at b (entry_of 1 (entries_in b)))))

-- ---- the answers
unfoldable pub slot_sizes_of : SlotSizes → Option TableSizes
slot_sizes_of slot.Absent = None
slot_sizes_of (slot.Sizes s) = Some s

unfoldable pub disc_sized_of : DiscSized → Answer DiscSizes
disc_sized_of (disc.Refused n) = Refused n
disc_sized_of (disc.Sizes s r) = Accepted (record { slot0 = slot_sizes_of s; slot1 = slot_sizes_of r })
