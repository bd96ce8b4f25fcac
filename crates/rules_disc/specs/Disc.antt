-- Change request 14: one file for both areas.
use Rattle.std.specs.Prelude.{ℕ, ◌+◌, ◌*◌, Bool, true, ◌&&◌, cond, List, [], ◌∷◌, ◌++◌, eqb, leb, ltb, length, take, drop, Option, None, Some}
use Rattle.field.specs.Number.{encode, number_at}
use Rattle.field.specs.Records.{records, bytes_of}
use Rattle.rules_disc.specs.declared.Entry.{Entry}
use Rattle.rules.specs.declared.Area.{Area}
use Rattle.rules.specs.Tests.{all, Answer, Accepted, after, bind, ask, first_no}
use Rattle.rules.specs.Values.{Index, Lengths, max32}
use Rattle.rules.specs.Questions.{area_ok, Four, both, ask_four, four_of}
use Rattle.rules.specs.File.{saved, saved_length}
use Rattle.rules.specs.Load.{load}

-- ---- "First a contents table: a count of 1 or 2 in four bytes, then for each list its slot (0 or 1), offset from the
-- file's start and length, four bytes each, slots rising"
abbrev pub entry : ℕ → ℕ → ℕ → Entry
entry s o n = record { slot = s; offset = o; len = n }

unfoldable pub encode_entry : Entry → List ℕ
encode_entry e = encode 4 e.slot ++ (encode 4 e.offset ++ encode 4 e.len)

unfoldable pub decode_entry : List ℕ → Entry
decode_entry b = entry (number_at 4 b 0) (number_at 4 b 4) (number_at 4 b 8)

-- its length for n lists
abbrev pub table_size : ℕ → ℕ
table_size n = 4 + 12 * n

abbrev pub count_in : List ℕ → ℕ
count_in b = number_at 4 b 0

abbrev pub entries_in : List ℕ → List Entry
entries_in b = records 12 decode_entry (count_in b) (drop 4 b)

-- slots rising from s on, each 0 or 1; the bodies "follow in its order without a gap, with nothing behind":
-- from at on, and the file has size bytes
unfoldable pub laid : ℕ → ℕ → ℕ → List Entry → Bool
laid size s at [] = eqb at size
laid size s at (e ∷ es) =
    all (leb s e.slot ∷ leb e.slot 1 ∷ eqb e.offset at ∷ laid size (e.slot + 1) (at + e.len) es ∷ [])

-- 54 of a file: is its contents table right? ("54 when the table breaks these rules")
unfoldable pub contents_ok : List ℕ → Bool
contents_ok b =
    all (leb 1 (count_in b) ∷ leb (count_in b) 2 ∷ leb (table_size (count_in b)) (length b)
    ∷ laid (length b) 0 (table_size (count_in b)) (entries_in b) ∷ [])

-- the entry of slot s, where the table lists it
unfoldable pub entry_of : ℕ → List Entry → Option Entry
entry_of s [] = None
entry_of s (e ∷ es) = cond (eqb e.slot s) (Some e) (entry_of s es)

-- "each an ordinary list file": the body that an entry names
unfoldable pub body_at : List ℕ → Option Entry → Option (List ℕ)
body_at b None = None
body_at b (Some e) = Some (take e.len (drop e.offset b))

-- ---- loading
-- the lists of a disc, by slot
pub record Disc : Type 0 where
  pub slot0 : Option Index
  pub slot1 : Option Index

-- 1 of the area of slot s ("another slot gives 1")
unfoldable pub slot_area : ℕ → Area → Bool
slot_area s a = area_ok a && eqb a.key.slot s

-- the list of a body, where there is one
unfoldable pub load_body : Lengths → Area → ℕ → Option (List ℕ) → Answer (Option Index)
load_body l a limit None = Accepted None
load_body l a limit (Some b) = bind (load l a b limit) (λ x. Accepted (Some x))

-- "gives all lists or none"; "after it the first failing body's own number is given", its 3 included
unfoldable pub load_bodies : Lengths → Lengths → Area → Area → List ℕ → ℕ → Answer Disc
load_bodies l m a0 a1 b limit =
    bind (load_body l a0 limit (body_at b (entry_of 0 (entries_in b))))
    (λ x. bind (load_body m a1 limit (body_at b (entry_of 1 (entries_in b)))) (λ y. Accepted (record { slot0 = x; slot1 = y })))

-- "Loading takes the areas of slots 0 and 1, asks question 1 of both": 1, 54, then the bodies,
-- in tables of the lengths l and m
unfoldable pub load_disc : Lengths → Lengths → Area → Area → List ℕ → ℕ → Answer Disc
load_disc l m a0 a1 b limit =
    after (first_no (ask (slot_area 0 a0 && slot_area 1 a1) 1 ∷ ask (contents_ok b) 54 ∷ [])) (load_bodies l m a0 a1 b limit)

-- ---- saving
abbrev pub slot_of : Index → ℕ
slot_of x = x.scan.area.key.slot

-- the entries of lists whose bodies follow each other from at on
unfoldable pub entries_from : ℕ → List Index → List Entry
entries_from at [] = []
entries_from at (x ∷ xs) = entry (slot_of x) at (saved_length x) ∷ entries_from (at + saved_length x) xs

abbrev pub contents_of : List Index → List Entry
contents_of xs = entries_from (table_size (length xs)) xs

-- the contents table, and after it the bodies, of lists in the order of their slots
unfoldable pub disc_bytes : List Index → List ℕ
disc_bytes xs = encode 4 (length xs) ++ (bytes_of encode_entry (contents_of xs) ++ bytes_of saved xs)

-- its length
unfoldable pub bodies_length : List Index → ℕ
bodies_length [] = 0
bodies_length (x ∷ xs) = saved_length x + bodies_length xs

unfoldable pub disc_length : List Index → ℕ
disc_length xs = table_size (length xs) + bodies_length xs

-- 54 of lists to be saved: do slots rise from s on, so that no two share one, and do offset and length fit four bytes?
-- ("two lists to be saved share a slot, or one needs an offset or length above four bytes")
unfoldable pub entries_ok : ℕ → List Entry → Bool
entries_ok s [] = true
entries_ok s (e ∷ es) = all (leb s e.slot ∷ leb e.offset max32 ∷ leb e.len max32 ∷ entries_ok (e.slot + 1) es ∷ [])

-- 54, "asked after 4 and before any body is loaded or written"; 40: is the output long enough?
-- What lies past the length stays.
unfoldable pub save_lists : Four → List Index → ℕ → Answer (List ℕ)
save_lists p xs out =
    after (first_no (ask_four p (ask (entries_ok 0 (contents_of xs)) 54 ∷ ask (leb (disc_length xs) out) 40 ∷ []))) (Accepted (disc_bytes xs))

-- Save one list
unfoldable pub save_one : Lengths → Index → ℕ → Answer (List ℕ)
save_one l x out = save_lists (four_of l x) (x ∷ []) out

-- "Pairs of lists with equal saved content have one disc file": by slot, whichever is given first
unfoldable pub by_slot : Index → Index → List Index
by_slot x y = cond (ltb (slot_of x) (slot_of y)) (x ∷ y ∷ []) (y ∷ x ∷ [])

-- Save two lists
unfoldable pub save_both : Lengths → Index → Lengths → Index → ℕ → Answer (List ℕ)
save_both l x m y out = save_lists (both (four_of l x) (four_of m y)) (by_slot x y) out
